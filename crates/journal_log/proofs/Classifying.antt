-- The class of a crash image, found from its first seventeen bytes.
use Rattle.std.proofs.Common.{◌≡◌, ◌≢◌, ◌⊎◌, inl, inr, ℕ, ◌<◌, ◌≤◌, ◌^◌, List, [], ◌∷◌, ◌++◌, length, take, drop, get_or, false, refl, sym, ◌∙◌, ap, subst, arith, length-append, take-append-drop}
use Rattle.std.proofs.lemmas.List.{take_at, drop_at, drop_more, drop-take, take-take, length-take, length-take-le, append-nil}
use Rattle.std.proofs.lemmas.Bool.{cases_eq, cases_lt}
use Rattle.std.proofs.lemmas.Nat.{from_be_bytes-to_be_bytes_8}
use Rattle.std.specs.Int.{to_be_bytes, from_be_bytes, w64}
use Rattle.journal_log.specs.Frames.{framed_of}
use Rattle.journal_log.specs.Heads.{mark_of, encoded_head, IsKnownHead, NoHead}
use Rattle.journal_log.specs.Gates.{IsFirstGateClosed}
use Rattle.journal_log.specs.Classes.{HasClass}
use Rattle.journal_log.specs.JournalState.{JournalState}
use Rattle.journal_log.specs.Laws.{OneClass, HasSomeClass, NewIsClosedOrOpen}
use Rattle.journal_log.specs.declared.disk_class.DiskClass.{DiskClass}
use Rattle.journal_log.specs.declared.disk_class.DiskClass.TheVariants.{Empty, Short, Torn, Closed, Wrong, Open}
use Rattle.journal_log.proofs.Splits.{first_is, heads_are, length_head}
use Rattle.journal_log.proofs.HeadBytes.{head_parts, head_whole, head_prefix, no_head_mark, no_head_epoch, no_head_prefix}
use Rattle.journal_log.proofs.Records.{length_closed, stands_gated}
use Rattle.journal_log.proofs.RenewRuns.{head_is_prefix, known_2}

-- the gate of an image that begins with seventeen known bytes
module _ (bytes image : List ℕ) (size : length bytes ≡ 17) (is : bytes ≡ take 17 image) where
  pub long : 17 ≤ length image
  long = omega (arith, size, ap length is, length-take 17 image)

  pub gate_is : drop 16 image ≡ get_or bytes 16 0 ∷ drop 17 image
  gate_is =
      let here : drop 16 image ≡ get_or image 16 0 ∷ drop 17 image = drop_more image 16 0 (omega (arith, long)) in
      let there : drop 16 bytes ≡ get_or bytes 16 0 ∷ drop 17 bytes = drop_more bytes 16 0 (omega (arith, size)) in
      let same : get_or bytes 16 0 ≡ get_or image 16 0 =
      ap (λ (l : List ℕ). get_or l 0 0) (sym there ∙ ap (λ (l : List ℕ). drop 16 l) is ∙ drop-take 16 1 image ∙ ap (λ (l : List ℕ). take 1 l) here) in
      here ∙ ap (λ (n : ℕ). n ∷ drop 17 image) (sym same)

  pub spells_gate : image ≡ take 16 image ++ (get_or bytes 16 0 ∷ drop 17 image)
  spells_gate = sym (take-append-drop 16 image) ∙ ap (λ (l : List ℕ). take 16 image ++ l) gate_is

  pub begins_alike : take 16 bytes ≡ take 16 image
  begins_alike = ap (λ (l : List ℕ). take 16 l) is ∙ take-take 16 17 image (omega arith)

  pub gate_closed : get_or bytes 16 0 ≡ 0 → IsFirstGateClosed image
  gate_closed none = (
    take 16 image,
    length-take-le 16 image (omega (arith, long)),
    (drop 17 image, spells_gate ∙ ap (λ (n : ℕ). take 16 image ++ (n ∷ drop 17 image)) none),
  )

  pub gate_not_closed : get_or bytes 16 0 ≢ 0 → IsFirstGateClosed image → ⊥
  gate_not_closed other (head, whole, closed) =
      other (first_is _ 0 _ _ (sym gate_is ∙ ap (λ (l : List ℕ). drop 16 l) closed.1 ∙ drop_at head (0 ∷ closed.0) 16 whole))

  module _ (format epoch : ℕ) (first rest : List ℕ) (known : IsKnownHead format epoch) (taken : first ≡ take 16 bytes) (found : first ≡ encoded_head format epoch ++ rest) where
    with_head : image ≡ encoded_head format epoch ++ (get_or bytes 16 0 ∷ drop 17 image)
    with_head = head_prefix first image rest format epoch (taken ∙ begins_alike) found ∙ ap (λ (l : List ℕ). encoded_head format epoch ++ l) gate_is

    pub is_closed : get_or bytes 16 0 ≡ 0 → HasClass Closed image
    is_closed none = record {
      format = format;
      epoch = epoch;
      known = known;
      closed = (drop 17 image, with_head ∙ ap (λ (n : ℕ). encoded_head format epoch ++ (n ∷ drop 17 image)) none);
    }

    pub is_open : get_or bytes 16 0 ≢ 0 → HasClass (Open epoch) image
    is_open other = record {
      format = format;
      known = known;
      gate = get_or bytes 16 0;
      rest = drop 17 image;
      is_open = other;
      spells = with_head;
    }

  module _ (first : List ℕ) (taken : first ≡ take 16 bytes) (none : NoHead first) where
    no_head : NoHead image
    no_head = no_head_prefix image (subst NoHead (taken ∙ begins_alike) none)

    pub is_torn : get_or bytes 16 0 ≡ 0 → HasClass Torn image
    is_torn zero_gate = (no_head, gate_closed zero_gate)

    pub is_wrong : get_or bytes 16 0 ≢ 0 → HasClass Wrong image
    is_wrong other = record { wrong = no_head; long = long; is_open = gate_not_closed other }

length_first : (image : List ℕ) → IsFirstGateClosed image → 17 ≤ length image
length_first image (head, whole, closed) = omega (arith, whole, length_closed head image closed)

-- a head is the first sixteen bytes of an image
closes : (image : List ℕ) (format epoch gate : ℕ) (rest : List ℕ) → image ≡ encoded_head format epoch ++ (gate ∷ rest) → IsFirstGateClosed image → gate ≡ 0
closes image format epoch gate rest is (head, whole, closed) =
    first_is gate 0 rest closed.0
    (sym (drop_at (encoded_head format epoch) (gate ∷ rest) 16 (length_head format epoch)) ∙ ap (λ (l : List ℕ). drop 16 l) (sym is ∙ closed.1) ∙ drop_at head (0 ∷ closed.0) 16 whole)

is_long : (image : List ℕ) (format epoch gate : ℕ) (rest : List ℕ) → image ≡ encoded_head format epoch ++ (gate ∷ rest) → 17 ≤ length image
is_long image format epoch gate rest is = omega (arith, ap length is, length-append (encoded_head format epoch) (gate ∷ rest), length_head format epoch)

pub one_class_lem : OneClass
one_class_lem Empty Empty image a b = refl
one_class_lem Empty Short image a b = absurd (b.0 a)
one_class_lem Empty Torn image a b = absurd (omega (arith, ap length a, length_first image b.1))
one_class_lem Empty Closed image a b = absurd (omega (arith, ap length a, is_long image b.format b.epoch 0 b.closed.0 b.closed.1))
one_class_lem Empty Wrong image a b = absurd (omega (arith, ap length a, b.long))
one_class_lem Empty (Open e) image a b = absurd (omega (arith, ap length a, is_long image b.format e b.gate b.rest b.spells))
one_class_lem Short Empty image a b = absurd (a.0 b)
one_class_lem Short Short image a b = refl
one_class_lem Short Torn image a b = absurd (omega (arith, a.1, length_first image b.1))
one_class_lem Short Closed image a b = absurd (omega (arith, a.1, is_long image b.format b.epoch 0 b.closed.0 b.closed.1))
one_class_lem Short Wrong image a b = absurd (omega (arith, a.1, b.long))
one_class_lem Short (Open e) image a b = absurd (omega (arith, a.1, is_long image b.format e b.gate b.rest b.spells))
one_class_lem Torn Empty image a b = absurd (omega (arith, ap length b, length_first image a.1))
one_class_lem Torn Short image a b = absurd (omega (arith, b.1, length_first image a.1))
one_class_lem Torn Torn image a b = refl
one_class_lem Torn Closed image a b = absurd (a.0 b.format b.epoch (0 ∷ b.closed.0) b.known b.closed.1)
one_class_lem Torn Wrong image a b = absurd (b.is_open a.1)
one_class_lem Torn (Open e) image a b = absurd (a.0 b.format e (b.gate ∷ b.rest) b.known b.spells)
one_class_lem Closed Empty image a b = absurd (omega (arith, ap length b, is_long image a.format a.epoch 0 a.closed.0 a.closed.1))
one_class_lem Closed Short image a b = absurd (omega (arith, b.1, is_long image a.format a.epoch 0 a.closed.0 a.closed.1))
one_class_lem Closed Torn image a b = absurd (b.0 a.format a.epoch (0 ∷ a.closed.0) a.known a.closed.1)
one_class_lem Closed Closed image a b = refl
one_class_lem Closed Wrong image a b = absurd (b.wrong a.format a.epoch (0 ∷ a.closed.0) a.known a.closed.1)
one_class_lem Closed (Open e) image a b =
    absurd (b.is_open (closes image b.format e b.gate b.rest b.spells (encoded_head a.format a.epoch, length_head a.format a.epoch, a.closed)))
one_class_lem Wrong Empty image a b = absurd (omega (arith, ap length b, a.long))
one_class_lem Wrong Short image a b = absurd (omega (arith, b.1, a.long))
one_class_lem Wrong Torn image a b = absurd (a.is_open b.1)
one_class_lem Wrong Closed image a b = absurd (a.wrong b.format b.epoch (0 ∷ b.closed.0) b.known b.closed.1)
one_class_lem Wrong Wrong image a b = refl
one_class_lem Wrong (Open e) image a b = absurd (a.wrong b.format e (b.gate ∷ b.rest) b.known b.spells)
one_class_lem (Open d) Empty image a b = absurd (omega (arith, ap length b, is_long image a.format d a.gate a.rest a.spells))
one_class_lem (Open d) Short image a b = absurd (omega (arith, b.1, is_long image a.format d a.gate a.rest a.spells))
one_class_lem (Open d) Torn image a b = absurd (b.0 a.format d (a.gate ∷ a.rest) a.known a.spells)
one_class_lem (Open d) Closed image a b =
    absurd (a.is_open (closes image a.format d a.gate a.rest a.spells (encoded_head b.format b.epoch, length_head b.format b.epoch, b.closed)))
one_class_lem (Open d) Wrong image a b = absurd (b.wrong a.format d (a.gate ∷ a.rest) a.known a.spells)
one_class_lem (Open d) (Open e) image a b =
    ap Open (heads_are a.format b.format d e (a.gate ∷ a.rest) (b.gate ∷ b.rest) a.known b.known (sym a.spells ∙ b.spells)).1

-- lists of numbers are equal or aren't
cases_list : (a b : List ℕ) → (a ≡ b) ⊎ (a ≢ b)
cases_list [] [] = inl refl
cases_list [] (y ∷ b) = inr (λ is. omega (arith, ap length is))
cases_list (x ∷ a) [] = inr (λ is. omega (arith, ap length is))
cases_list (x ∷ a) (y ∷ b) = both (cases_eq x y) (cases_list a b)
  where
    both : (x ≡ y) ⊎ (x ≢ y) → (a ≡ b) ⊎ (a ≢ b) → (x ∷ a ≡ y ∷ b) ⊎ (x ∷ a ≢ y ∷ b)
    both (inl first) (inl rest) = inl (ap (λ (n : ℕ). n ∷ a) first ∙ ap (λ (l : List ℕ). y ∷ l) rest)
    both (inr other) rest = inr (λ is. other (first_is x y a b is))
    both (inl first) (inr other) = inr (λ is. other (ap (λ (l : List ℕ). drop 1 l) is))

-- a right head at the beginning of an image
record HasHead (image : List ℕ) : Type 0 where
  format : ℕ
  epoch : ℕ
  known : IsKnownHead format epoch
  spells : image ≡ encoded_head format epoch ++ drop 16 image

module _ (image : List ℕ) where
  abbrev number : ℕ
  number = from_be_bytes w64 (take 8 (drop 8 image))

  number_of : (format epoch : ℕ) (rest : List ℕ) → IsKnownHead format epoch → image ≡ encoded_head format epoch ++ rest → (number ≡ epoch) × (take 8 (drop 8 image) ≡ to_be_bytes w64 epoch)
  number_of format epoch rest known is =
      let spelled = (head_parts image rest format epoch is).1 in
      (ap (from_be_bytes w64) spelled ∙ from_be_bytes-to_be_bytes_8 epoch (omega (arith, known.most)), spelled)

  with_mark : (format : ℕ) → take 8 image ≡ mark_of format → ((IsKnownHead format number) ⊎ (IsKnownHead format number → ⊥)) → number < 2 ^ 64 → to_be_bytes w64 number ≡ take 8 (drop 8 image)
      → HasHead image ⊎ NoHead image
  with_mark format mark (inl known) small spelled = inl (record { format = format; epoch = number; known = known; spells = head_whole image format number mark spelled })
  with_mark format mark (inr unknown) small spelled = inr (no_head_epoch image format number mark small spelled unknown)

  spelled_or_not : (format : ℕ) → take 8 image ≡ mark_of format → ((IsKnownHead format number) ⊎ (IsKnownHead format number → ⊥)) → HasHead image ⊎ NoHead image
  spelled_or_not format mark either = elim (cases_lt number (2 ^ 64)) [
    | inl small ↦ elim (cases_list (to_be_bytes w64 number) (take 8 (drop 8 image))) [
      | inl spelled ↦ with_mark format mark either small spelled
      | inr other ↦ inr (λ f e rest known is. let parts = number_of f e rest known is in other (ap (to_be_bytes w64) parts.0 ∙ sym parts.1))
    ]
    | inr great ↦ inr (λ f e rest known is. let parts = number_of f e rest known is in omega (arith, great, parts.0, known.most))
  ]

  known_or_not : (format : ℕ) → (format ≡ 1) ⊎ (format ≡ 2) → (IsKnownHead format number) ⊎ (IsKnownHead format number → ⊥)
  known_or_not format (inl first) = elim (cases_lt number (2 ^ 63)) [
    | inl less ↦ inl (record { either = inl first; most = omega (arith, less); old = λ _. less })
    | inr more ↦ inr (λ known. omega (arith, more, known.old first))
  ]
  known_or_not format (inr second) = elim (cases_lt (2 ^ 63) number) [
    | inl more ↦ inr (λ known. omega (arith, more, known.most))
    | inr most ↦ inl (record { either = inr second; most = omega (arith, most); old = λ first. absurd (omega (arith, first, second)) })
  ]

  head_or_not : HasHead image ⊎ NoHead image
  head_or_not = elim (cases_list (take 8 image) (mark_of 1)) [
    | inl first ↦ spelled_or_not 1 first (known_or_not 1 (inl refl))
    | inr not_1 ↦ elim (cases_list (take 8 image) (mark_of 2)) [
      | inl second ↦ spelled_or_not 2 second (known_or_not 2 (inr refl))
      | inr not_2 ↦ inr (no_head_mark image not_1 not_2)
    ]
  ]

  whole : (head : HasHead image) → take 16 (take 17 image) ≡ encoded_head head.format head.epoch ++ []
  whole head =
      take-take 16 17 image (omega arith) ∙ ap (λ (l : List ℕ). take 16 l) head.spells
      ∙ take_at (encoded_head head.format head.epoch) (drop 16 image) 16 (length_head head.format head.epoch) ∙ sym (append-nil (encoded_head head.format head.epoch))

  with_gate : length (take 17 image) ≡ 17 → (get_or (take 17 image) 16 0 ≡ 0) ⊎ (get_or (take 17 image) 16 0 ≢ 0) → HasHead image ⊎ NoHead image → (class : DiskClass) × HasClass class image
  with_gate size (inl none) (inl head) = (Closed, is_closed (take 17 image) image size refl head.format head.epoch (take 16 (take 17 image)) [] head.known refl (whole head) none)
  with_gate size (inr other) (inl head) = (Open head.epoch, is_open (take 17 image) image size refl head.format head.epoch (take 16 (take 17 image)) [] head.known refl (whole head) other)
  with_gate size (inl shut) (inr none) = (Torn, (none, gate_closed (take 17 image) image size refl shut))
  with_gate size (inr other) (inr none) = (Wrong, record { wrong = none; long = long (take 17 image) image size refl; is_open = gate_not_closed (take 17 image) image size refl other })

pub some_class_lem : HasSomeClass
some_class_lem [] = (Empty, refl)
some_class_lem (x ∷ more) = elim (cases_lt (length (x ∷ more)) 17) [
  | inl few ↦ (Short, (λ none. omega (arith, ap length none), few))
  | inr enough ↦ with_gate (x ∷ more) (length-take-le 17 (x ∷ more) (omega (arith, enough))) (cases_eq (get_or (take 17 (x ∷ more)) 16 0) 0) (head_or_not (x ∷ more))
]

-- the first gate of a new journal is 0 or isn't
pub new_lem : NewIsClosedOrOpen
new_lem epoch body image most short (gate, gated) = elim (cases_eq gate 0) [
  | inl none ↦ inl (record {
    format = 2;
    epoch = epoch;
    known = known_2 epoch most;
    closed = (framed_of body ++ gated.0, gated.1 ∙ ap (λ (n : ℕ). encoded_head 2 epoch ++ (n ∷ framed_of body ++ gated.0)) none);
  })
  | inr other ↦
      let state : JournalState = record { end = 16; doubt = false; format = 2; epoch = epoch } in
      inr (
        record { format = 2; known = known_2 epoch most; gate = gate; rest = framed_of body ++ gated.0; is_open = other; spells = gated.1 },
        stands_gated state [] (encoded_head 2 epoch) (head_is_prefix state (known_2 epoch most) refl) body image gate short other gated,
      )
]
