-- What a reader takes is the form of a value, and a value is read again from its form, whatever
-- follows it: one law for each way to build readers.
use Rattle.std.proofs.Common.{◌≡◌, ◌⊎◌, ℕ, zero, suc, ◌+◌, ◌^◌, ◌<◌, ◌≤◌, Bool, true, false, cond, eqb, ltb, List, [], ◌∷◌, ◌++◌, length, get_or, take, drop, Option, Some, None, refl, sym, ap, subst, ◌∙◌, append_assoc, arith, inl, inr}
use Rattle.std.specs.Bool.{Decides}
use Rattle.std.specs.List.{flat_map, AllByRecursion}
use Rattle.std.specs.Int.{w64, from_be_bytes}
use Rattle.std.proofs.lemmas.Bool.{cases_lt, eqb-true, ltb-false, le-ltb}
use Rattle.std.proofs.lemmas.List.{take_at, drop_at, take-append-drop, length-append, length-take, get_or-drop, get_or-take, get_or_past, append-nil, nil_from_length}
use Rattle.std.proofs.lemmas.List.Concat.{flat_map-cons}
use Rattle.std.proofs.lemmas.Nat.{be_bytes_8, from_be_bytes-to_be_bytes_8}
use Rattle.std.proofs.lemmas.Option.{same_Some, cond_some}
use Rattle.stored_forms.specs.Readers.{◌>>=◌, both_by, both, mapped, checked, just, tagged, after_tag, no_tag, number_at, piece_at, times_at, list_at, whole}
use Rattle.stored_forms.specs.Storable.{IsNumber, IsCounted, IsListOf}
use Rattle.stored_forms.specs.StoredForms.{number_bytes, text_bytes, list_bytes}

abbrev pub IsBytes : List ℕ → Type 0
IsBytes bytes = (i : ℕ) → get_or bytes i 0 < 256

IsBytes-drop : (n : ℕ) (bytes : List ℕ) → IsBytes bytes → IsBytes (drop n bytes)
IsBytes-drop n bytes h i = rw get_or-drop (h (n + i))

IsBytes-take : (n : ℕ) (bytes : List ℕ) → IsBytes bytes → IsBytes (take n bytes)
IsBytes-take n bytes h i =
    elim (cases_lt i n) [
      | inl lt ↦ rw (get_or-take n bytes i 0 lt) (h i)
      | inr le ↦ rw (get_or_past (take n bytes) i 0 (omega (arith, length-take n bytes))) (omega arith)
    ]

IsBytes-rest : (b : ℕ) (bytes : List ℕ) → IsBytes (b ∷ bytes) → IsBytes bytes
IsBytes-rest b bytes h i = h (suc i)

-- the value of a step that did not fail
pub bind_some : {A B : Type 0} (r : Option A) (f : A → Option B) (y : B) → (r >>= f) ≡ Some y → (x : A) × (r ≡ Some x) × (f x ≡ Some y)
bind_some (Some x) f y e = (x, refl, e)
bind_some None f y e = absurd cc

-- what was taken from the front
pub record Taken {A : Type 0} (Is : A → Type 0) (form : A → List ℕ) (bytes : List ℕ) (x : A) (rest : List ℕ) : Type 0 where
  pub parts : bytes ≡ form x ++ rest
  pub is : Is x
  pub rest_bytes : IsBytes rest

-- a reader of these values by their forms
pub record Reads {A : Type 0} (Is : A → Type 0) (form : A → List ℕ) (read : List ℕ → Option (A × List ℕ)) : Type 0 where
  pub takes : (bytes : List ℕ) (x : A) (rest : List ℕ) → IsBytes bytes → read bytes ≡ Some (x, rest) → Taken Is form bytes x rest
  pub again : (x : A) (rest : List ℕ) → Is x → read (form x ++ rest) ≡ Some (x, rest)

-- ---- one after the other

pub both_by_reads : {A B : Type 0} {IsA : A → Type 0} {form_a : A → List ℕ} {read_a : List ℕ → Option (A × List ℕ)}
    (IsB : A → B → Type 0) (form_b : A → B → List ℕ) (read_b : A → List ℕ → Option (B × List ℕ))
    → Reads IsA form_a read_a → ((a : A) → Reads (IsB a) (form_b a) (read_b a))
    → Reads {A = A × B} (λ p. IsA p.0 × IsB p.0 p.1) (λ p. form_a p.0 ++ form_b p.0 p.1) (both_by read_a read_b)
both_by_reads {A} {B} {IsA} {form_a} {read_a} IsB form_b read_b ra rb = record {
  takes = λ bytes p rest fits e.
      let a = bind_some (read_a bytes) (λ a. read_b a.0 a.1 >>= λ b. Some ((a.0, b.0), b.1)) (p, rest) e in
      let b = bind_some (read_b a.0.0 a.0.1) (λ b. Some ((a.0.0, b.0), b.1)) (p, rest) a.2 in
      let first = ra.takes bytes a.0.0 a.0.1 fits a.1 in
      let second = (rb a.0.0).takes a.0.1 b.0.0 b.0.1 first.rest_bytes b.1 in
      subst (λ (q : (A × B) × List ℕ). Taken (λ p. IsA p.0 × IsB p.0 p.1) (λ p. form_a p.0 ++ form_b p.0 p.1) bytes q.0 q.1)
      (same_Some ((a.0.0, b.0.0), b.0.1) (p, rest) b.2)
      (record {
        parts = first.parts ∙ ap (λ (t : List ℕ). form_a a.0.0 ++ t) second.parts ∙ sym (append_assoc (form_a a.0.0) (form_b a.0.0 b.0.0) b.0.1);
        is = (first.is, second.is);
        rest_bytes = second.rest_bytes;
      });
  again = λ p rest is.
      ap (both_by read_a read_b) (append_assoc (form_a p.0) (form_b p.0 p.1) rest)
      ∙ ap (λ r. r >>= λ a. read_b a.0 a.1 >>= λ b. Some ((a.0, b.0), b.1)) (ra.again p.0 (form_b p.0 p.1 ++ rest) is.0)
      ∙ ap (λ r. r >>= λ b. Some ((p.0, b.0), b.1)) ((rb p.0).again p.1 rest is.1);
}

pub both_reads : {A B : Type 0} {IsA : A → Type 0} {form_a : A → List ℕ} {read_a : List ℕ → Option (A × List ℕ)}
    {IsB : B → Type 0} {form_b : B → List ℕ} {read_b : List ℕ → Option (B × List ℕ)}
    → Reads IsA form_a read_a → Reads IsB form_b read_b
    → Reads {A = A × B} (λ p. IsA p.0 × IsB p.1) (λ p. form_a p.0 ++ form_b p.1) (both read_a read_b)
both_reads {A} {B} {IsA} {form_a} {read_a} {IsB} {form_b} {read_b} ra rb = both_by_reads (λ _. IsB) (λ _. form_b) (λ _. read_b) ra (λ _. rb)

-- ---- what is made of a value

mapped_takes : {A B : Type 0} {Is : A → Type 0} {form : A → List ℕ} {read : List ℕ → Option (A × List ℕ)}
    (f : A → B) (g : B → A) → ((a : A) → g (f a) ≡ a) → Reads Is form read
    → (bytes : List ℕ) (y : B) (rest : List ℕ) → IsBytes bytes → mapped f read bytes ≡ Some (y, rest) → Taken (λ y. Is (g y)) (λ y. form (g y)) bytes y rest
mapped_takes {A} {B} {Is} {form} {read} f g back r bytes y rest fits e =
    let a = bind_some (read bytes) (λ a. Some (f a.0, a.1)) (y, rest) e in
    let taken = r.takes bytes a.0.0 a.0.1 fits a.1 in
    let it = sym (back a.0.0) in
    subst (λ (q : B × List ℕ). Taken (λ y. Is (g y)) (λ y. form (g y)) bytes q.0 q.1) (same_Some (f a.0.0, a.0.1) (y, rest) a.2)
    (record {
      parts = subst (λ (x : A). bytes ≡ form x ++ a.0.1) it taken.parts;
      is = subst Is it taken.is;
      rest_bytes = taken.rest_bytes;
    })

pub mapped_again : {A B : Type 0} {Is : A → Type 0} {form : A → List ℕ} {read : List ℕ → Option (A × List ℕ)}
    (f : A → B) → Reads Is form read → (x : A) (rest : List ℕ) → Is x → mapped f read (form x ++ rest) ≡ Some (f x, rest)
mapped_again f r x rest is = ap (λ o. o >>= λ a. Some (f a.0, a.1)) (r.again x rest is)

pub mapped_reads : {A B : Type 0} {Is : A → Type 0} {form : A → List ℕ} {read : List ℕ → Option (A × List ℕ)}
    (f : A → B) (g : B → A) → ((a : A) → g (f a) ≡ a) → ((b : B) → f (g b) ≡ b) → Reads Is form read
    → Reads (λ y. Is (g y)) (λ y. form (g y)) (mapped f read)
mapped_reads {A} {B} {Is} {form} {read} f g back forth r = record {
  takes = mapped_takes f g back r;
  again = λ y rest is. mapped_again f r (g y) rest is ∙ ap (λ (z : B). Some (z, rest)) (forth y);
}

-- the same reader in other words
pub same_reads : {A : Type 0} {Is : A → Type 0} {form : A → List ℕ} {read : List ℕ → Option (A × List ℕ)}
    (Also : A → Type 0) → ((x : A) → Is x → Also x) → ((x : A) → Also x → Is x) → Reads Is form read → Reads Also form read
same_reads Also to from r = record {
  takes = λ bytes x rest fits e. let t = r.takes bytes x rest fits e in record { parts = t.parts; is = to x t.is; rest_bytes = t.rest_bytes };
  again = λ x rest is. r.again x rest (from x is);
}

-- ---- only values that pass a test

pub checked_reads : {A : Type 0} {Is : A → Type 0} {form : A → List ℕ} {read : List ℕ → Option (A × List ℕ)}
    (test : A → Bool) (P : A → Type 0) → ((x : A) → Decides (test x) (P x)) → Reads Is form read
    → Reads (λ x. Is x × P x) form (checked test read)
checked_reads {A} {Is} {form} {read} test P decides r = record {
  takes = λ bytes x rest fits e.
      let a = bind_some (read bytes) (λ a. cond (test a.0) (Some a) None) (x, rest) e in
      let c = cond_some (test a.0.0) a.0 (x, rest) a.2 in
      let taken = r.takes bytes a.0.0 a.0.1 fits a.1 in
      subst (λ (q : A × List ℕ). Taken (λ x. Is x × P x) form bytes q.0 q.1) c.1
      (record { parts = taken.parts; is = (taken.is, (decides a.0.0).0 c.0); rest_bytes = taken.rest_bytes });
  again = λ x rest is.
      ap (λ o. o >>= λ a. cond (test a.0) (Some a) None) (r.again x rest is.0)
      ∙ ap (λ (b : Bool). cond b (Some (x, rest)) None) ((decides x).1 is.1);
}

-- ---- some of the values of a type

pub placed_takes : {A B : Type 0} {IsA : A → Type 0} {form_a : A → List ℕ} {read : List ℕ → Option (A × List ℕ)}
    {Is : B → Type 0} {form : B → List ℕ}
    (f : A → B) → ((a : A) → form (f a) ≡ form_a a) → ((a : A) → IsA a → Is (f a)) → Reads IsA form_a read
    → (bytes : List ℕ) (x : B) (rest : List ℕ) → IsBytes bytes → mapped f read bytes ≡ Some (x, rest) → Taken Is form bytes x rest
placed_takes {A} {B} {IsA} {form_a} {read} {Is} {form} f spells is r bytes x rest fits e =
    let a = bind_some (read bytes) (λ a. Some (f a.0, a.1)) (x, rest) e in
    let taken = r.takes bytes a.0.0 a.0.1 fits a.1 in
    subst (λ (q : B × List ℕ). Taken Is form bytes q.0 q.1) (same_Some (f a.0.0, a.0.1) (x, rest) a.2)
    (record {
      parts = taken.parts ∙ ap (λ (t : List ℕ). t ++ a.0.1) (sym (spells a.0.0));
      is = is a.0.0 taken.is;
      rest_bytes = taken.rest_bytes;
    })

-- ---- after a first byte

-- what these readers take after their tags
pub record AfterTags {A : Type 0} (Is : A → Type 0) (form : A → List ℕ) (body : ℕ → List ℕ → Option (A × List ℕ)) : Type 0 where
  pub takes : (tag : ℕ) (bytes : List ℕ) (x : A) (rest : List ℕ) → IsBytes bytes → body tag bytes ≡ Some (x, rest) → Taken Is form (tag ∷ bytes) x rest

pub no_tags : {A : Type 0} (Is : A → Type 0) (form : A → List ℕ) → AfterTags Is form no_tag
no_tags Is form = record { takes = λ tag bytes x rest fits e. absurd cc }

chosen : {A : Type 0} (b : Bool) (x y z : Option A) → cond b x y ≡ z → ((b ≡ true) × (x ≡ z)) ⊎ ((b ≡ false) × (y ≡ z))
chosen true x y z e = inl (refl, e)
chosen false x y z e = inr (refl, e)

-- after this tag the values of one kind
pub tag_case : {A B : Type 0} {IsA : A → Type 0} {form_a : A → List ℕ} {read : List ℕ → Option (A × List ℕ)}
    {Is : B → Type 0} {form : B → List ℕ} {others : ℕ → List ℕ → Option (B × List ℕ)}
    (this : ℕ) (f : A → B) → ((a : A) → form (f a) ≡ this ∷ form_a a) → ((a : A) → IsA a → Is (f a))
    → Reads IsA form_a read → AfterTags Is form others → AfterTags Is form (after_tag this (mapped f read) others)
tag_case {A} {B} {IsA} {form_a} {read} {Is} {form} {others} this f spells is r more = record {
  takes = λ tag bytes x rest fits e.
      elim (chosen (eqb tag this) (mapped f read bytes) (others tag bytes) (Some (x, rest)) e) [
        | inl w ↦ (
            let a = bind_some (read bytes) (λ a. Some (f a.0, a.1)) (x, rest) w.1 in
            let taken = r.takes bytes a.0.0 a.0.1 fits a.1 in
            subst (λ (q : B × List ℕ). Taken Is form (tag ∷ bytes) q.0 q.1) (same_Some (f a.0.0, a.0.1) (x, rest) a.2)
            (record {
              parts = ap (λ (t : ℕ). t ∷ bytes) (eqb-true tag this w.0) ∙ ap (λ (t : List ℕ). this ∷ t) taken.parts ∙ ap (λ (t : List ℕ). t ++ a.0.1) (sym (spells a.0.0));
              is = is a.0.0 taken.is;
              rest_bytes = taken.rest_bytes;
            })
            )
        | inr w ↦ more.takes tag bytes x rest fits w.1
      ];
}

tagged_takes : {A : Type 0} {Is : A → Type 0} {form : A → List ℕ} {body : ℕ → List ℕ → Option (A × List ℕ)}
    → AfterTags Is form body → (bytes : List ℕ) (x : A) (rest : List ℕ) → IsBytes bytes → tagged body bytes ≡ Some (x, rest) → Taken Is form bytes x rest
tagged_takes tags [] x rest fits e = absurd cc
tagged_takes tags (b ∷ bytes) x rest fits e = tags.takes b bytes x rest (IsBytes-rest b bytes fits) e

pub tagged_reads : {A : Type 0} {Is : A → Type 0} {form : A → List ℕ} {body : ℕ → List ℕ → Option (A × List ℕ)}
    → AfterTags Is form body → ((x : A) (rest : List ℕ) → Is x → tagged body (form x ++ rest) ≡ Some (x, rest)) → Reads Is form (tagged body)
tagged_reads tags again = record { takes = tagged_takes tags; again = again }

-- a value that takes no bytes
pub just_reads : Reads {A = Unit {0}} (λ _. Unit {0}) (λ _. []) (just tt)
just_reads = record {
  takes = λ bytes x rest fits e. record { parts = ap (λ (q : Unit {0} × List ℕ). q.1) (same_Some (tt, bytes) (x, rest) e); is = tt; rest_bytes = subst (λ (q : Unit {0} × List ℕ). IsBytes q.1) (same_Some (tt, bytes) (x, rest) e) fits };
  again = λ x rest is. refl;
}

-- ---- numbers and pieces

below_64 : (bytes : List ℕ) → IsBytes bytes → from_be_bytes w64 bytes < 2 ^ 64
below_64 bytes fits = omega (arith, fits 0, fits 1, fits 2, fits 3, fits 4, fits 5, fits 6, fits 7)

pub number_length : (n : ℕ) → length (number_bytes n) ≡ 8
unfolding number_bytes
number_length n = refl

number_back : (bytes : List ℕ) → length bytes ≡ 8 → IsBytes bytes → number_bytes (from_be_bytes w64 bytes) ≡ bytes
unfolding number_bytes
number_back bytes len fits = be_bytes_8 bytes _ len fits refl

number_again : (n : ℕ) → n < 2 ^ 64 → from_be_bytes w64 (number_bytes n) ≡ n
unfolding number_bytes
number_again n lt = from_be_bytes-to_be_bytes_8 n lt

guard_some : {A : Type 0} (b : Bool) (x y : A) → cond b None (Some x) ≡ Some y → (b ≡ false) × (x ≡ y)
guard_some true x y e = absurd cc
guard_some false x y e = (refl, same_Some x y e)

number_takes : (bytes : List ℕ) (n : ℕ) (rest : List ℕ) → IsBytes bytes → number_at bytes ≡ Some (n, rest) → Taken IsNumber number_bytes bytes n rest
unfolding number_at
number_takes bytes n rest fits e =
    let g = guard_some (ltb (length bytes) 8) (from_be_bytes w64 (take 8 bytes), drop 8 bytes) (n, rest) e in
    let long : 8 ≤ length bytes = ltb-false _ _ g.0 in
    let front = IsBytes-take 8 bytes fits in
    let spelled : number_bytes (from_be_bytes w64 (take 8 bytes)) ≡ take 8 bytes = number_back (take 8 bytes) (omega (arith, length-take 8 bytes)) front in
    subst (λ (q : ℕ × List ℕ). Taken IsNumber number_bytes bytes q.0 q.1) g.1
    (record { parts = rw spelled (sym (take-append-drop 8 bytes)); is = below_64 (take 8 bytes) front; rest_bytes = IsBytes-drop 8 bytes fits })

number_is_again : (n : ℕ) (rest : List ℕ) → IsNumber n → number_at (number_bytes n ++ rest) ≡ Some (n, rest)
unfolding number_at
number_is_again n rest lt =
    let len = number_length n in
    let long : ltb (length (number_bytes n ++ rest)) 8 ≡ false = le-ltb _ _ (omega (arith, len, length-append (number_bytes n) rest)) in
    rw (long, take_at (number_bytes n) rest 8 len, drop_at (number_bytes n) rest 8 len, number_again n lt) refl

pub number_reads : Reads IsNumber number_bytes number_at
number_reads = record { takes = number_takes; again = number_is_again }

piece_takes : (bytes piece rest : List ℕ) → IsBytes bytes → piece_at bytes ≡ Some (piece, rest) → Taken IsCounted text_bytes bytes piece rest
unfolding piece_at text_bytes
piece_takes bytes piece rest fits e =
    let n = bind_some (number_at bytes) (λ n. cond (ltb (length n.1) n.0) None (Some (take n.0 n.1, drop n.0 n.1))) (piece, rest) e in
    let first = number_takes bytes n.0.0 n.0.1 fits n.1 in
    let g = guard_some (ltb (length n.0.1) n.0.0) (take n.0.0 n.0.1, drop n.0.0 n.0.1) (piece, rest) n.2 in
    let long : n.0.0 ≤ length n.0.1 = ltb-false _ _ g.0 in
    let len : n.0.0 ≡ length (take n.0.0 n.0.1) = omega (arith, length-take n.0.0 n.0.1) in
    let all : bytes ≡ (number_bytes n.0.0 ++ take n.0.0 n.0.1) ++ drop n.0.0 n.0.1 =
    first.parts ∙ ap (λ (t : List ℕ). number_bytes n.0.0 ++ t) (sym (take-append-drop n.0.0 n.0.1)) ∙ sym (append_assoc (number_bytes n.0.0) (take n.0.0 n.0.1) (drop n.0.0 n.0.1)) in
    subst (λ (q : List ℕ × List ℕ). Taken IsCounted text_bytes bytes q.0 q.1) g.1
    (record {
      parts = subst (λ (k : ℕ). bytes ≡ (number_bytes k ++ take n.0.0 n.0.1) ++ drop n.0.0 n.0.1) len all;
      is = subst IsNumber len first.is;
      rest_bytes = IsBytes-drop n.0.0 n.0.1 first.rest_bytes;
    })

piece_again : (piece rest : List ℕ) → IsCounted piece → piece_at (text_bytes piece ++ rest) ≡ Some (piece, rest)
unfolding piece_at text_bytes
piece_again piece rest is =
    let long : ltb (length (piece ++ rest)) (length piece) ≡ false = le-ltb _ _ (omega (arith, length-append piece rest)) in
    ap piece_at (append_assoc (number_bytes (length piece)) piece rest)
    ∙ rw (number_is_again (length piece) (piece ++ rest) is, long, take_at piece rest (length piece) refl, drop_at piece rest (length piece) refl) refl

pub piece_reads : Reads IsCounted text_bytes piece_at
piece_reads = record { takes = piece_takes; again = piece_again }

-- ---- lists

pub record TakenTimes {A : Type 0} (Is : A → Type 0) (form : A → List ℕ) (n : ℕ) (bytes : List ℕ) (xs : List A) (rest : List ℕ) : Type 0 where
  pub parts : bytes ≡ flat_map form xs ++ rest
  pub count : length xs ≡ n
  pub each : AllByRecursion Is xs
  pub rest_bytes : IsBytes rest

module _ {A : Type 0} {Is : A → Type 0} {form : A → List ℕ} {read : List ℕ → Option (A × List ℕ)} (r : Reads Is form read) where
  times_take : (n : ℕ) (bytes : List ℕ) (xs : List A) (rest : List ℕ) → IsBytes bytes → times_at read n bytes ≡ Some (xs, rest) → TakenTimes Is form n bytes xs rest
  unfolding times_at
  times_take zero bytes xs rest fits e =
      subst (λ (q : List A × List ℕ). TakenTimes Is form 0 bytes q.0 q.1) (same_Some ([], bytes) (xs, rest) e)
      (record { parts = refl; count = refl; each = tt; rest_bytes = fits })
  times_take (suc n) bytes xs rest fits e =
      let a = bind_some (read bytes) (λ first. times_at read n first.1 >>= λ others. Some (first.0 ∷ others.0, others.1)) (xs, rest) e in
      let b = bind_some (times_at read n a.0.1) (λ others. Some (a.0.0 ∷ others.0, others.1)) (xs, rest) a.2 in
      let first = r.takes bytes a.0.0 a.0.1 fits a.1 in
      let others = times_take n a.0.1 b.0.0 b.0.1 first.rest_bytes b.1 in
      let all : bytes ≡ flat_map form (a.0.0 ∷ b.0.0) ++ b.0.1 =
      first.parts ∙ ap (λ (t : List ℕ). form a.0.0 ++ t) others.parts ∙ sym (append_assoc (form a.0.0) (flat_map form b.0.0) b.0.1)
      ∙ ap (λ (t : List ℕ). t ++ b.0.1) (sym (flat_map-cons form a.0.0 b.0.0)) in
      subst (λ (q : List A × List ℕ). TakenTimes Is form (suc n) bytes q.0 q.1) (same_Some (a.0.0 ∷ b.0.0, b.0.1) (xs, rest) b.2)
      (record { parts = all; count = ap suc others.count; each = (first.is, others.each); rest_bytes = others.rest_bytes })

  times_again : (xs : List A) (rest : List ℕ) → AllByRecursion Is xs → times_at read (length xs) (flat_map form xs ++ rest) ≡ Some (xs, rest)
  unfolding times_at
  times_again [] rest is = refl
  times_again (x ∷ xs) rest is =
      let regrouped : flat_map form (x ∷ xs) ++ rest ≡ form x ++ (flat_map form xs ++ rest) =
      ap (λ (t : List ℕ). t ++ rest) (flat_map-cons form x xs) ∙ append_assoc (form x) (flat_map form xs) rest in
      ap (times_at read (suc (length xs))) regrouped
      ∙ ap (λ o. o >>= λ first. times_at read (length xs) first.1 >>= λ others. Some (first.0 ∷ others.0, others.1)) (r.again x (flat_map form xs ++ rest) is.0)
      ∙ ap (λ o. o >>= λ others. Some (x ∷ others.0, others.1)) (times_again xs rest is.1)

  list_takes : (bytes : List ℕ) (xs : List A) (rest : List ℕ) → IsBytes bytes → list_at read bytes ≡ Some (xs, rest) → Taken (IsListOf Is) (list_bytes form) bytes xs rest
  unfolding list_at list_bytes
  list_takes bytes xs rest fits e =
      let n = bind_some (number_at bytes) (λ n. times_at read n.0 n.1) (xs, rest) e in
      let first = number_takes bytes n.0.0 n.0.1 fits n.1 in
      let items = times_take n.0.0 n.0.1 xs rest first.rest_bytes n.2 in
      let all : bytes ≡ (number_bytes n.0.0 ++ flat_map form xs) ++ rest =
      first.parts ∙ ap (λ (t : List ℕ). number_bytes n.0.0 ++ t) items.parts ∙ sym (append_assoc (number_bytes n.0.0) (flat_map form xs) rest) in
      record {
        parts = subst (λ (k : ℕ). bytes ≡ (number_bytes k ++ flat_map form xs) ++ rest) (sym items.count) all;
        is = (subst IsNumber (sym items.count) first.is, items.each);
        rest_bytes = items.rest_bytes;
      }

  list_again : (xs : List A) (rest : List ℕ) → IsListOf Is xs → list_at read (list_bytes form xs ++ rest) ≡ Some (xs, rest)
  unfolding list_at list_bytes
  list_again xs rest is =
      ap (list_at read) (append_assoc (number_bytes (length xs)) (flat_map form xs) rest)
      ∙ ap (λ o. o >>= λ n. times_at read n.0 n.1) (number_is_again (length xs) (flat_map form xs ++ rest) is.0)
      ∙ times_again xs rest is.1

  pub list_reads : Reads (IsListOf Is) (list_bytes form) (list_at read)
  list_reads = record { takes = list_takes; again = list_again }

  -- ---- all of the bytes

  pub whole_takes : (bytes : List ℕ) (x : A) → IsBytes bytes → whole read bytes ≡ Some x → (bytes ≡ form x) × Is x
  whole_takes bytes x fits e =
      let a = bind_some (read bytes) (λ a. cond (eqb (length a.1) 0) (Some a.0) None) x e in
      let c = cond_some (eqb (length a.0.1) 0) a.0.0 x a.2 in
      let taken = r.takes bytes a.0.0 a.0.1 fits a.1 in
      let nothing : a.0.1 ≡ [] = nil_from_length a.0.1 (eqb-true _ _ c.0) in
      subst (λ (y : A). (bytes ≡ form y) × Is y) c.1
      (taken.parts ∙ ap (λ (t : List ℕ). form a.0.0 ++ t) nothing ∙ append-nil (form a.0.0), taken.is)

  pub whole_again : (x : A) → Is x → whole read (form x) ≡ Some x
  whole_again x is =
      ap (whole read) (sym (append-nil (form x)))
      ∙ ap (λ o. o >>= λ a. cond (eqb (length a.1) 0) (Some a.0) None) (r.again x [] is)
