-- What images are, and what they stay while they are opened.
use Rattle.std.proofs.Common.{◌≡◌, inl, inr, ⊎_elim, ℕ, ◌+◌, ◌<◌, ◌^◌, List, [], ◌∷◌, ◌++◌, length, All, true, refl, sym, subst, arith}
use Rattle.std.proofs.lemmas.List.{append-nil}
use Rattle.pod_disk.specs.Disk.{EachImage}
use Rattle.journal_log.specs.Classes.{HasClass}
use Rattle.journal_log.specs.CleanJournal.{IsShort, IsJournalPrefix, IsClean, IsInDoubt, IsWhileAppended}
use Rattle.journal_log.specs.Frames.{framed_of, opened}
use Rattle.journal_log.specs.Gates.{IsClosed, IsOpening}
use Rattle.journal_log.specs.Heads.{encoded_head, IsKnownHead}
use Rattle.journal_log.specs.Images.{Stands, IsEither}
use Rattle.journal_log.specs.JournalState.{JournalState}
use Rattle.journal_log.specs.Opening.{IsWhileOpened}
use Rattle.journal_log.specs.Renewing.{IsNewJournal}
use Rattle.journal_log.specs.declared.disk_class.DiskClass.TheVariants.{Wrong, Open}
use Rattle.journal_log.specs.declared.fault.Side.{Side}
use Rattle.journal_log.specs.declared.fault.Side.TheVariants.{First, Second}
use Rattle.journal_log.proofs.Mending.{MendsTo, stood, not_torn, doubt_mended, opened_again_lem}
use Rattle.journal_log.proofs.Records.{stands_closed, stands_opening}
use Rattle.journal_pair.specs.PairMoments.{IsWhileStoreOpened, ThroughMending, ThroughOpenings}
use Rattle.journal_pair.specs.Sides.{active_of, other_of}
use Rattle.journal_pair.specs.Stores.{IsTakenBefore, IsPassedOver}
use Rattle.journal_pair.proofs.Beside.{closed_passed, closed_class, stands_open, stands_none}
use Rattle.journal_pair.proofs.Classing.{one_epoch, other_class}

pub through_weaker : (P Q : List ℕ → Type 0) → ((c : List ℕ) → P c → Q c) → (c : List ℕ) → ThroughMending P c → ThroughMending Q c
through_weaker P Q leads c has x opened = leads x (has x opened)

-- by what it is while its last gate is written
pub through : (P : List ℕ → Type 0) (c : List ℕ) → P c → ((x : List ℕ) → MendsTo c x → P x) → ThroughMending P c
through P c is mended x (inl same) = subst P (sym same) is
through P c is mended x (inr n) = mended x n

module _ (c x : List ℕ) (n : MendsTo c x) where
  was_open : (bodies : List (List ℕ)) → Stands n.format n.epoch (bodies ++ n.body ∷ []) c → HasClass (Open n.epoch) c
  was_open [] stands = stands_open n.format n.epoch n.body [] c stands
  was_open (b ∷ bodies) stands = stands_open n.format n.epoch b (bodies ++ n.body ∷ []) c stands

  is_open_or_closed : (side : Side) (epoch : ℕ) (bodies : List (List ℕ)) → IsTakenBefore side epoch n.epoch → Stands n.format n.epoch bodies x → IsPassedOver side epoch x
  is_open_or_closed side epoch [] taken stands = closed_passed side epoch x (closed_class x (stands_none n.format n.epoch x stands))
  is_open_or_closed side epoch (b ∷ bodies) taken stands =
      let has = stands_open n.format n.epoch b bodies x stands in record {
        not_wrong = λ wrong. other_class (Open n.epoch) Wrong x (λ is. omega (arith, is)) has wrong;
        older = λ other is_open. subst (IsTakenBefore side epoch) (one_epoch n.epoch other x has is_open) taken;
      }

  passed_mended : (side : Side) (epoch : ℕ) → IsPassedOver side epoch c → IsPassedOver side epoch x
  passed_mended side epoch passed =
      let taken = passed.older n.epoch (was_open n.bodies (stood c x n)) in
      ⊎_elim (λ stands. is_open_or_closed side epoch n.bodies taken stands) (λ stands. is_open_or_closed side epoch (n.bodies ++ n.body ∷ []) taken stands) n.stands

-- an image that is passed over still is
pub passed_through : (side : Side) (epoch : ℕ) (c : List ℕ) → IsPassedOver side epoch c → ThroughMending (IsPassedOver side epoch) c
passed_through side epoch c passed = through (IsPassedOver side epoch) c passed (λ x n. passed_mended c x n side epoch passed)

module _ (journal : JournalState) (bodies : List (List ℕ)) (prefix : List ℕ) (is : IsJournalPrefix journal bodies prefix) where
  -- a clean journal has no torn gate
  pub closed_through : (c : List ℕ) → IsClosed prefix c → ThroughMending (Stands journal.format journal.epoch bodies) c
  closed_through c closed = through (Stands journal.format journal.epoch bodies) c (stands_closed journal bodies prefix is c closed)
      (λ x n. absurd (not_torn c x n journal bodies prefix is closed))

  -- and in one whose last gate is in doubt it is that one
  pub opening_through : (body c : List ℕ) → IsShort body → IsOpening prefix (framed_of body) c → ThroughMending (IsEither journal.format journal.epoch bodies body) c
  opening_through body c short opening = through (IsEither journal.format journal.epoch bodies body) c (stands_opening journal bodies prefix is body c short opening)
      (λ x n. doubt_mended c x n journal bodies prefix is body short opening)

  -- the same while a record is added, and while its gate is closed
  pub appended_through : (body c : List ℕ) → IsShort body → IsWhileAppended journal.format journal.epoch bodies body c → ThroughMending (IsEither journal.format journal.epoch bodies body) c
  appended_through body c short (inl closed) =
      through_weaker (Stands journal.format journal.epoch bodies) _ (λ x stands. inl stands) c
      (closed_through c (subst (λ (p : List ℕ). IsClosed p c) (sym is.spells) closed))
  appended_through body c short (inr opening) = opening_through body c short (subst (λ (p : List ℕ). IsOpening p (framed_of body) c) (sym is.spells) opening)

  pub repaired_through : (body c : List ℕ) → IsShort body → IsOpening (encoded_head journal.format journal.epoch ++ opened bodies) (framed_of body) c → ThroughMending (IsEither journal.format journal.epoch bodies body) c
  repaired_through body c short opening = opening_through body c short (subst (λ (p : List ℕ). IsOpening p (framed_of body) c) (sym is.spells) opening)

pub clean_each_through : (images : List ℕ → Type 0) (journal : JournalState) (bodies : List (List ℕ)) → IsClean images journal bodies → EachImage images (ThroughMending (Stands journal.format journal.epoch bodies))
clean_each_through images journal bodies clean c now = closed_through journal bodies clean.prefix clean.is_prefix c (clean.closed c now)

pub doubt_each_through : (images : List ℕ → Type 0) (journal : JournalState) (bodies : List (List ℕ)) (body : List ℕ) → IsInDoubt images journal bodies body → EachImage images (ThroughMending (IsEither journal.format journal.epoch bodies body))
doubt_each_through images journal bodies body doubt c now = opening_through journal bodies doubt.prefix doubt.is_prefix body c doubt.short (doubt.opening c now)

none_short : All IsShort []
none_short k d lt = absurd (omega (arith, lt))

-- a new journal stands for its record or for none
pub new_through : (epoch : ℕ) (body c : List ℕ) → epoch < 2 ^ 63 → IsShort body → IsNewJournal (epoch + 1) body c → ThroughMending (IsEither 2 (epoch + 1) [] body) c
new_through epoch body c most short new =
    let prefix = encoded_head 2 (epoch + 1) in
    let journal : JournalState = record { end = length prefix; doubt = true; format = 2; epoch = epoch + 1 } in
    let known : IsKnownHead 2 (epoch + 1) = record { either = inr refl; most = omega (arith, most); old = λ e. absurd (omega (arith, e)) } in
    opening_through journal [] prefix (record { known = known; spells = sym (append-nil prefix); ends = refl; short = none_short }) body c short new

-- two images
pub openings_weaker : (P Q : List ℕ → List ℕ → Type 0) → ((c d : List ℕ) → P c d → Q c d) → (c d : List ℕ) → ThroughOpenings P c d → ThroughOpenings Q c d
openings_weaker P Q leads c d has x y first second = leads x y (has x y first second)

pub openings_now : (P : List ℕ → List ℕ → Type 0) (c d : List ℕ) → ThroughOpenings P c d → P c d
openings_now P c d has = has c d (inl refl) (inl refl)

pub openings_of : (side : Side) (P Q : List ℕ → Type 0) (R : List ℕ → List ℕ → Type 0) → ((c d : List ℕ) → P (active_of side c d) → Q (other_of side c d) → R c d)
    → (c d : List ℕ) → ThroughMending P (active_of side c d) → ThroughMending Q (other_of side c d) → ThroughOpenings R c d
openings_of First P Q R leads c d one other x y first second = leads x y (one x first) (other y second)
openings_of Second P Q R leads c d one other x y first second = leads x y (one y second) (other x first)

-- an image that one of these is mended to
one_image : (images : List ℕ → Type 0) (x : List ℕ) → IsWhileOpened images x → (c : List ℕ) × images c × IsWhileOpened (λ image. image ≡ c) x
one_image images x (inl was) = (x, was, inl refl)
one_image images x (inr n) = (
  n.from,
  n.was,
  inr (record {
    from = n.from;
    was = refl;
    format = n.format;
    epoch = n.epoch;
    bodies = n.bodies;
    body = n.body;
    gate = n.gate;
    torn = n.torn;
    gated = n.gated;
    stood = n.stood;
    changed = n.changed;
    stands = n.stands;
  }),
)

-- what was so of each pair of images through openings stays so while they are opened once more
pub openings_again : {D : Type 0} (image : D → List ℕ → Type 0) (first second : D) (P : List ℕ → List ℕ → Type 0) → ((c d : List ℕ) → image first c → image second d → ThroughOpenings P c d)
    → (c d : List ℕ) → IsWhileStoreOpened image first second c d → ThroughOpenings P c d
openings_again image first second P each c d (First, opened, was) x y one other =
    let from = one_image (image first) c opened in
    each from.0 d from.1 was x y (opened_again_lem from.0 c x from.2 one) other
openings_again image first second P each c d (Second, opened, was) x y one other =
    let from = one_image (image second) d opened in
    each c from.0 was from.1 x y one (opened_again_lem from.0 d y from.2 other)
