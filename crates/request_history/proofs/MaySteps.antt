-- How far the holder of the lock has come, by a test and by the keeper's view.
use Rattle.std.proofs.Common.{◌≡◌, ◌⊎◌, inl, inr, Bool, true, false, ◌||◌, is_some, Option, Some, None, refl, sym, ap, ◌∙◌}
use Rattle.pod_command.specs.declared.entry.Entry.{Entry}
use Rattle.pod_core.specs.KeeperSteps as keeper
use Rattle.pod_core.specs.KeeperSteps.{Holder, KeeperView}
use Rattle.pod_core.specs.World.{holder_in}
use Rattle.request_history.specs.Phases.{IsOpened, MayStep, is_opened, may_now, phase_of}
use Rattle.request_history.specs.declared.lock_holder_steps.Stage.{Stage}
use Rattle.request_history.specs.declared.lock_holder_steps.Stage.TheVariants as stages
use Rattle.request_history.specs.declared.lock_holder_steps.Step.{Step}
use Rattle.request_history.specs.declared.lock_holder_steps.Step.TheVariants as steps

-- ---- the holder of a phase

pub holder_is : (o : Option Holder) (stage : Stage) → o ≡ holder_in (phase_of o stage)
holder_is None stage = refl
holder_is (Some holder) stages.Taken = refl
holder_is (Some holder) stages.Written = refl
holder_is (Some holder) stages.Opened = refl

pub free_yes : (o : Option Holder) (stage : Stage) → is_some o ≡ false → phase_of o stage ≡ keeper.free
free_yes None stage e = refl
free_yes (Some holder) stage e = absurd (cc e)

pub free_no : (o : Option Holder) (stage : Stage) → is_some o ≡ true → phase_of o stage ≡ keeper.free → ⊥
free_no None stage e f = absurd (cc e)
free_no (Some holder) stages.Taken e f = absurd (cc f)
free_no (Some holder) stages.Written e f = absurd (cc f)
free_no (Some holder) stages.Opened e f = absurd (cc f)

pub taken_holder : (o : Option Holder) (stage : Stage) (holder : Holder) → phase_of o stage ≡ keeper.taken holder → o ≡ Some holder
taken_holder None stage holder e = absurd (cc e)
taken_holder (Some one) stages.Taken holder e =
    let same : one ≡ holder = cc e in
    ap Some same
taken_holder (Some one) stages.Written holder e = absurd (cc e)
taken_holder (Some one) stages.Opened holder e = absurd (cc e)

pub written_holder : (o : Option Holder) (stage : Stage) (holder : Holder) → phase_of o stage ≡ keeper.written holder → o ≡ Some holder
written_holder None stage holder e = absurd (cc e)
written_holder (Some one) stages.Taken holder e = absurd (cc e)
written_holder (Some one) stages.Written holder e =
    let same : one ≡ holder = cc e in
    ap Some same
written_holder (Some one) stages.Opened holder e = absurd (cc e)

-- ---- whether its gate is open

pub opened_yes : (o : Option Holder) (stage : Stage) → is_opened (is_some o) stage ≡ true → IsOpened (phase_of o stage)
opened_yes None stage e = absurd (cc e)
opened_yes (Some holder) stages.Taken e = absurd (cc e)
opened_yes (Some holder) stages.Written e = absurd (cc e)
opened_yes (Some holder) stages.Opened e = (holder, refl)

pub opened_no : (o : Option Holder) (stage : Stage) → is_opened (is_some o) stage ≡ false → IsOpened (phase_of o stage) → ⊥
opened_no None stage e p = absurd (cc p.1)
opened_no (Some holder) stages.Taken e p = absurd (cc p.1)
opened_no (Some holder) stages.Written e p = absurd (cc p.1)
opened_no (Some holder) stages.Opened e p = absurd (cc e)

-- ---- which steps it may make

module _ (view : KeeperView) where
  pub may_yes : (o : Option Holder) (stage : Stage) (doubt : Option Entry) (step : Step) → view.phase ≡ phase_of o stage → view.doubt ≡ doubt
      → may_now (is_some o) stage (is_some doubt) step ≡ true → MayStep view step
  may_yes None stage doubt step p d e = absurd (cc e)
  may_yes (Some holder) stages.Taken None steps.Repair p d e = absurd (cc e)
  may_yes (Some holder) stages.Taken (Some entry) steps.Repair p d e = (holder, p, (entry, d))
  may_yes (Some holder) stages.Taken None steps.Body p d e = (holder, p, d)
  may_yes (Some holder) stages.Taken (Some entry) steps.Body p d e = absurd (cc e)
  may_yes (Some holder) stages.Taken doubt steps.Gate p d e = absurd (cc e)
  may_yes (Some holder) stages.Written doubt steps.Repair p d e = absurd (cc e)
  may_yes (Some holder) stages.Written doubt steps.Body p d e = absurd (cc e)
  may_yes (Some holder) stages.Written doubt steps.Gate p d e = (holder, p)
  may_yes (Some holder) stages.Opened doubt step p d e = absurd (cc e)

  pub may_no : (o : Option Holder) (stage : Stage) (doubt : Option Entry) (step : Step) → view.phase ≡ phase_of o stage → view.doubt ≡ doubt
      → may_now (is_some o) stage (is_some doubt) step ≡ false → MayStep view step → ⊥
  may_no None stage doubt steps.Repair p d e m = absurd (cc (sym p ∙ m.1))
  may_no None stage doubt steps.Body p d e m = absurd (cc (sym p ∙ m.1))
  may_no None stage doubt steps.Gate p d e m = absurd (cc (sym p ∙ m.1))
  may_no (Some holder) stages.Taken None steps.Repair p d e m = absurd (cc (sym d ∙ m.2.1))
  may_no (Some holder) stages.Taken (Some entry) steps.Repair p d e m = absurd (cc e)
  may_no (Some holder) stages.Taken None steps.Body p d e m = absurd (cc e)
  may_no (Some holder) stages.Taken (Some entry) steps.Body p d e m = absurd (cc (sym d ∙ m.2))
  may_no (Some holder) stages.Taken doubt steps.Gate p d e m = absurd (cc (sym p ∙ m.1))
  may_no (Some holder) stages.Written doubt steps.Repair p d e m = absurd (cc (sym p ∙ m.1))
  may_no (Some holder) stages.Written doubt steps.Body p d e m = absurd (cc (sym p ∙ m.1))
  may_no (Some holder) stages.Written doubt steps.Gate p d e m = absurd (cc e)
  may_no (Some holder) stages.Opened doubt steps.Repair p d e m = absurd (cc (sym p ∙ m.1))
  may_no (Some holder) stages.Opened doubt steps.Body p d e m = absurd (cc (sym p ∙ m.1))
  may_no (Some holder) stages.Opened doubt steps.Gate p d e m = absurd (cc (sym p ∙ m.1))

-- ---- three tests

pub any_yes : (a b c : Bool) → a || (b || c) ≡ true → (a ≡ true) ⊎ ((b ≡ true) ⊎ (c ≡ true))
any_yes true b c e = inl refl
any_yes false true c e = inr (inl refl)
any_yes false false true e = inr (inr refl)
any_yes false false false e = absurd (cc e)

pub none_of : (a b c : Bool) → a || (b || c) ≡ false → (a ≡ false) × (b ≡ false) × (c ≡ false)
none_of true b c e = absurd (cc e)
none_of false true c e = absurd (cc e)
none_of false false true e = absurd (cc e)
none_of false false false e = (refl, refl, refl)

-- ---- the one whose record is written

pub written_now : (phase : keeper.Phase) (one other : Holder) → phase ≡ keeper.written one → Some other ≡ holder_in phase → phase ≡ keeper.written other
written_now phase one other e h =
    let both : Some other ≡ Some one = h ∙ ap holder_in e in
    let same : one ≡ other = cc both in
    e ∙ ap keeper.written same

pub written_by : (o : Option Holder) (stage : Stage) (holder : Holder) → stage ≡ stages.Written → o ≡ Some holder → phase_of o stage ≡ keeper.written holder
written_by o stage holder s e = λ i. phase_of (e i) (s i)

taken_never : (o : Option Holder) (holder : Holder) → phase_of o stages.Taken ≡ keeper.written holder → ⊥
taken_never None holder e = absurd (cc e)
taken_never (Some one) holder e = absurd (cc e)

opened_never : (o : Option Holder) (holder : Holder) → phase_of o stages.Opened ≡ keeper.written holder → ⊥
opened_never None holder e = absurd (cc e)
opened_never (Some one) holder e = absurd (cc e)

pub never_taken : (o : Option Holder) (stage : Stage) (holder : Holder) → stage ≡ stages.Taken → phase_of o stage ≡ keeper.written holder → ⊥
never_taken o stage holder s e = taken_never o holder (sym (ap (phase_of o) s) ∙ e)

pub never_opened : (o : Option Holder) (stage : Stage) (holder : Holder) → stage ≡ stages.Opened → phase_of o stage ≡ keeper.written holder → ⊥
never_opened o stage holder s e = opened_never o holder (sym (ap (phase_of o) s) ∙ e)
