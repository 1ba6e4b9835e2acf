-- When an image beside the active journal is passed over.
use Rattle.std.proofs.Common.{◌≡◌, inl, inr, ⊎_elim, ℕ, ◌+◌, ◌<◌, ◌≤◌, ◌^◌, List, [], ◌∷◌, ◌++◌, length, refl, sym, ◌∙◌, ap, subst, arith, length-append}
use Rattle.pod_disk.specs.Disk.{EachImage}
use Rattle.journal_log.specs.Frames.{sized, framed_of}
use Rattle.journal_log.specs.Heads.{encoded_head}
use Rattle.journal_log.specs.Gates.{IsFirstGateClosed}
use Rattle.journal_log.specs.Images.{Stands, IsEither}
use Rattle.journal_log.specs.Classes.{HasClass}
use Rattle.journal_log.specs.CleanJournal.{IsShort}
use Rattle.journal_log.specs.Renewing.{IsGateChanged, IsBeforeOpening, IsNewJournal, IsWhileRenewed}
use Rattle.journal_log.specs.declared.disk_class.DiskClass.{DiskClass}
use Rattle.journal_log.specs.declared.disk_class.DiskClass.TheVariants.{Empty, Short, Torn, Closed, Wrong, Open}
use Rattle.journal_log.specs.declared.fault.Side.{Side}
use Rattle.journal_log.specs.declared.fault.Side.TheVariants.{First, Second}
use Rattle.journal_log.proofs.Splits.{first_is, parts_are, length_head, heads_are}
use Rattle.journal_log.proofs.Records.{length_closed, length_opening}
use Rattle.journal_log.proofs.Classifying.{some_class_lem, new_lem}
use Rattle.journal_pair.specs.Sides.{active_of, other_of, opposite_of}
use Rattle.journal_pair.specs.Stores.{IsTakenBefore, IsPassedOver, StoreStands, StoreStandsEither, StoreStandsBoth}
use Rattle.journal_pair.specs.PairJournal.{HasSnapshot}
use Rattle.journal_pair.specs.PairMoments.{IsWhileCheckpointed}
use Rattle.journal_pair.proofs.Classing.{one_epoch, other_class}

-- a closed first gate
closed_not_open : (c : List ℕ) (epoch : ℕ) → IsFirstGateClosed c → HasClass (Open epoch) c → ⊥
closed_not_open c epoch (head, whole, closed) is_open =
    let parts = parts_are head (encoded_head is_open.format epoch) (0 ∷ closed.0) (is_open.gate ∷ is_open.rest) (whole ∙ sym (length_head is_open.format epoch)) (sym closed.1 ∙ is_open.spells) in
    is_open.is_open (sym (first_is 0 is_open.gate closed.0 is_open.rest parts.1))

pub closed_passed : (side : Side) (epoch : ℕ) (c : List ℕ) → IsFirstGateClosed c → IsPassedOver side epoch c
closed_passed side epoch c shut = record {
  not_wrong = λ wrong. wrong.is_open shut;
  older = λ beside is_open. absurd (closed_not_open c beside shut is_open);
}

pub closed_long : (c : List ℕ) → IsFirstGateClosed c → 17 ≤ length c
closed_long c (head, whole, closed) = omega (arith, whole, length_closed head c closed)

pub closed_class : (c : List ℕ) → HasClass Closed c → IsFirstGateClosed c
closed_class c has = (encoded_head has.format has.epoch, length_head has.format has.epoch, has.closed)

-- a lesser epoch
taken_before : (side : Side) (epoch beside : ℕ) → beside < epoch → IsTakenBefore side epoch beside
taken_before First epoch beside less = omega (arith, less)
taken_before Second epoch beside less = less

pub open_passed : (side : Side) (epoch beside : ℕ) (c : List ℕ) → beside < epoch → HasClass (Open beside) c → IsPassedOver side epoch c
open_passed side epoch beside c less has = record {
  not_wrong = λ wrong. other_class (Open beside) Wrong c (λ is. omega (arith, is)) has wrong;
  older = λ other is_open. taken_before side epoch other (omega (arith, less, one_epoch beside other c has is_open));
}

pub open_long : (epoch : ℕ) (c : List ℕ) → HasClass (Open epoch) c → 17 ≤ length c
open_long epoch c has = omega (arith, length_head has.format epoch, ap length has.spells, length-append (encoded_head has.format epoch) (has.gate ∷ has.rest))

-- a new journal is as long, whatever its first gate
pub new_long : (epoch : ℕ) (body c : List ℕ) → IsNewJournal epoch body c → 17 ≤ length c
new_long epoch body c new = omega (arith, length_head 2 epoch, length_opening (encoded_head 2 epoch) (framed_of body) c new)

-- another first gate after the same head, where it wasn't 0
long_changed : (from c : List ℕ) → IsGateChanged from c → (17 ≤ length from) × (17 ≤ length c)
long_changed from c changed = (
  omega (arith, changed.whole, ap length changed.was, length-append changed.head (changed.before ∷ changed.rest)),
  omega (arith, changed.whole, ap length changed.is, length-append changed.head (changed.after ∷ changed.rest)),
)

open_was : (side : Side) (epoch : ℕ) (from : List ℕ) (a : DiskClass) → HasClass a from → 17 ≤ length from → (IsFirstGateClosed from → ⊥) → IsPassedOver side epoch from
    → (beside : ℕ) × HasClass (Open beside) from
open_was side epoch from Empty has long open_gate passed = absurd (omega (arith, long, ap length has))
open_was side epoch from Short has long open_gate passed = absurd (omega (arith, long, has.1))
open_was side epoch from Torn has long open_gate passed = absurd (open_gate has.1)
open_was side epoch from Closed has long open_gate passed = absurd (open_gate (closed_class from has))
open_was side epoch from Wrong has long open_gate passed = absurd (passed.not_wrong has)
open_was side epoch from (Open beside) has long open_gate passed = (beside, has)

pub changed_passed : (side : Side) (epoch : ℕ) (from c : List ℕ) → IsPassedOver side epoch from → (IsFirstGateClosed from → ⊥) → IsGateChanged from c → IsPassedOver side epoch c
changed_passed side epoch from c passed open_gate changed =
    let class = some_class_lem from in
    let was = open_was side epoch from class.0 class.1 (long_changed from c changed).0 open_gate passed in
    let is_open = was.1 in
    let parts = parts_are changed.head (encoded_head is_open.format was.0) (changed.before ∷ changed.rest) (is_open.gate ∷ is_open.rest)
    (changed.whole ∙ sym (length_head is_open.format was.0)) (sym changed.was ∙ is_open.spells) in
    let spells : c ≡ encoded_head is_open.format was.0 ++ (changed.after ∷ changed.rest) = changed.is ∙ ap (λ (l : List ℕ). l ++ (changed.after ∷ changed.rest)) parts.0 in record {
      not_wrong = λ wrong. wrong.wrong is_open.format was.0 (changed.after ∷ changed.rest) is_open.known spells;
      older = λ beside now.
          let heads = heads_are is_open.format now.format was.0 beside (changed.after ∷ changed.rest) (now.gate ∷ now.rest) is_open.known now.known (sym spells ∙ now.spells) in
          subst (IsTakenBefore side epoch) heads.1 (passed.older was.0 is_open);
    }

module _ (images : List ℕ → Type 0) (side : Side) (epoch : ℕ) (passed : EachImage images (IsPassedOver side epoch)) (long : EachImage images (λ c. 17 ≤ length c)) where
  -- before the first gate of a checkpoint is opened
  pub before_passed : (c : List ℕ) → IsBeforeOpening images c → IsPassedOver side epoch c × (17 ≤ length c)
  before_passed c (inl was) = (passed c was, long c was)
  before_passed c (inr (inl (from, was, open_gate, changed))) = (changed_passed side epoch from c (passed from was) open_gate changed, (long_changed from c changed).1)
  before_passed c (inr (inr shut)) = (closed_passed side epoch c shut, closed_long c shut)

  -- and at any moment
  pub while_passed : (body c : List ℕ) → IsWhileRenewed images (epoch + 1) body c → IsWhileCheckpointed side epoch body c
  while_passed body c (inl before) = inl (before_passed c before)
  while_passed body c (inr new) = inr new

-- a journal with records is open, and one without is closed
pub stands_open : (format epoch : ℕ) (body : List ℕ) (others : List (List ℕ)) (c : List ℕ) → Stands format epoch (body ∷ others) c → HasClass (Open epoch) c
stands_open format epoch body others c stands = record {
  format = format;
  known = stands.known;
  gate = stands.frames.gate;
  rest = sized body ++ (stands.frames.next ∷ stands.frames.rest);
  is_open = stands.frames.is_open;
  spells = stands.spells ∙ ap (λ (l : List ℕ). encoded_head format epoch ++ l) stands.frames.spells;
}

pub stands_none : (format epoch : ℕ) (c : List ℕ) → Stands format epoch [] c → HasClass Closed c
stands_none format epoch c stands = record {
  format = format;
  epoch = epoch;
  known = stands.known;
  closed = (stands.frames.0, stands.spells ∙ ap (λ (l : List ℕ). encoded_head format epoch ++ l) stands.frames.1);
}

pub snapshot_open : (len format epoch : ℕ) (bodies : List (List ℕ)) (c : List ℕ) → HasSnapshot len bodies → Stands format epoch bodies c → HasClass (Open epoch) c
snapshot_open len format epoch bodies c has stands =
    stands_open format epoch has.snapshot has.entries c (subst (λ (l : List (List ℕ)). Stands format epoch l c) has.are stands)

pub snapshot_stays : (len : ℕ) (bodies : List (List ℕ)) (body : List ℕ) → HasSnapshot len bodies → HasSnapshot len (bodies ++ body ∷ [])
snapshot_stays len bodies body has = record {
  snapshot = has.snapshot;
  entries = has.entries ++ body ∷ [];
  are = ap (λ (l : List (List ℕ)). l ++ body ∷ []) has.are;
  size = has.size;
}

-- the side that isn't this one
pub opposite_active : {X : Type 0} (side : Side) (c d : X) → other_of side c d ≡ active_of (opposite_of side) c d
opposite_active First c d = refl
opposite_active Second c d = refl

pub opposite_other : {X : Type 0} (side : Side) (c d : X) → active_of side c d ≡ other_of (opposite_of side) c d
opposite_other First c d = refl
opposite_other Second c d = refl

module _ (side : Side) (format epoch : ℕ) (len : ℕ) (bodies : List (List ℕ)) (has : HasSnapshot len bodies) (c d : List ℕ) where
  -- the active journal is taken beside an image that is passed over
  pub store_stands : Stands format epoch bodies (active_of side c d) → IsPassedOver side epoch (other_of side c d) → StoreStands side format epoch bodies c d
  store_stands stands passed = record {
    taken = record { is_open = snapshot_open len format epoch bodies (active_of side c d) has stands; beside = passed };
    stands = stands;
  }

  -- and a new journal beside it, once its first gate is open
  pub store_stands_both : (body : List ℕ) → epoch < 2 ^ 63 → IsShort body → Stands format epoch bodies (active_of side c d) → IsWhileCheckpointed side epoch body (other_of side c d)
      → StoreStandsBoth side format epoch bodies body c d
  store_stands_both body most short stands (inl passed) = inl (store_stands stands passed.0)
  store_stands_both body most short stands (inr new) = ⊎_elim
      (λ closed. inl (store_stands stands (closed_passed side epoch (other_of side c d) (closed_class (other_of side c d) closed))))
      (λ (is_open, alone). inr (record {
        taken = record {
          is_open = subst (HasClass (Open (epoch + 1))) (opposite_active side c d) is_open;
          beside = subst (IsPassedOver (opposite_of side) (epoch + 1)) (opposite_other side c d)
              (open_passed (opposite_of side) (epoch + 1) epoch (active_of side c d) (omega arith) (snapshot_open len format epoch bodies (active_of side c d) has stands));
        };
        stands = subst (Stands 2 (epoch + 1) (body ∷ [])) (opposite_active side c d) alone;
      }))
      (new_lem (epoch + 1) body (other_of side c d) (omega (arith, most)) short new)

pub store_stands_either : (side : Side) (format epoch len : ℕ) (bodies : List (List ℕ)) (body : List ℕ) (c d : List ℕ) → HasSnapshot len bodies
    → IsEither format epoch bodies body (active_of side c d) → IsPassedOver side epoch (other_of side c d) → StoreStandsEither side format epoch bodies body c d
store_stands_either side format epoch len bodies body c d has (inl stands) passed = inl (store_stands side format epoch len bodies has c d stands passed)
store_stands_either side format epoch len bodies body c d has (inr stands) passed =
    inr (store_stands side format epoch len (bodies ++ body ∷ []) (snapshot_stays len bodies body has) c d stands passed)
