-- What becomes of a keeper.
use Rattle.std.proofs.Common.{◌≡◌, ℕ, ◌+◌, ◌≤◌, true, false, List, [], ◌∷◌, ◌++◌, Option, Some, None, refl, sym, ap, subst, ◌∙◌, arith}
use Rattle.journal_log.specs.Frames.{sized}
use Rattle.stored_forms.specs.StoredForms.{entry_bytes}
use Rattle.pod_command.specs.declared.entry.Entry.{Entry}
use Rattle.pod_core.specs.History.{History, IsPlace, end_of, longer}
use Rattle.pod_core.specs.KeeperSteps as keeper
use Rattle.pod_core.specs.KeeperSteps.{Holder, KeeperStep, KeeperView}
use Rattle.pod_core.specs.WorldImages.{journal_of}
use Rattle.pod_pages.specs.State.{VersionState, state_after}
use Rattle.pod_rows.specs.Apply.{Applies}
use Rattle.pod_rows.specs.Pod.{Pod}
use Rattle.request_history.proofs.Keepers.{journal_longer, next_version, opened_keeper, taken_pending}
use Rattle.request_history.proofs.MaySteps.{taken_holder, written_holder}
use Rattle.request_history.specs.Keepers.{AppliesAtEnd, AreLater, IsKeeper, IsPending, IsVersionAt, Opens, history_of}
use Rattle.request_history.specs.Phases.{MayStep, phase_of, step_event}
use Rattle.request_history.specs.declared.world_keeper.Opening.{Opening}
use Rattle.request_history.specs.declared.lock_holder_steps.Stage.{Stage}
use Rattle.request_history.specs.declared.lock_holder_steps.Stage.TheVariants as stages
use Rattle.request_history.specs.declared.lock_holder_steps.Step.{Step}
use Rattle.request_history.specs.declared.lock_holder_steps.Step.TheVariants as steps

-- the view of these parts
abbrev pub view_of : History → Option Entry → keeper.Phase → KeeperView
view_of history doubt phase = record { history = history; doubt = doubt; phase = phase }

-- ---- one part changes

pub with_phase : (history : History) (doubt : Option Entry) (before after phase : keeper.Phase) (old : KeeperView) → view_of history doubt before ≡ old → after ≡ phase → view_of history doubt after ≡ record old { phase = phase }
with_phase history doubt before after phase old is e = (λ i. view_of history doubt (e i)) ∙ ap (λ (v : KeeperView). record v { phase = phase }) is

pub with_pending : (history : History) (later : List VersionState) (journal : List ℕ) (before after : keeper.Phase) → IsKeeper history later journal before → IsPending history after → IsKeeper history later journal after
with_pending history later journal before after k p = record { versions = k.versions; journal_is = k.journal_is; pending = p }

-- ---- the record is written

module _ (o : Option Holder) (stage : Stage) (old : KeeperView) (history : History) (doubt : Option Entry) (is : view_of history doubt (phase_of o stage) ≡ old) where
  abbrev phase_is : phase_of o stage ≡ old.phase
  phase_is = ap (λ (v : KeeperView). v.phase) is

  pub written_pending : MayStep old steps.Body → IsPending history (phase_of o stage) → IsPending history (phase_of o stages.Written)
  written_pending m p =
      let e = phase_is ∙ m.1 in
      subst (λ (h : Option Holder). IsPending history (phase_of h stages.Written)) (sym (taken_holder o stage m.0 e)) (taken_pending history (phase_of o stage) m.0 e p)

  pub written_step : MayStep old steps.Body → KeeperStep old (keeper.body true) (view_of history doubt (phase_of o stages.Written))
  written_step m = record {
    holder = m.0;
    is_taken = m.1;
    is_sure = m.2;
    new_is = with_phase history doubt (phase_of o stage) (phase_of o stages.Written) (keeper.written m.0) old is
        (ap (λ (h : Option Holder). phase_of h stages.Written) (taken_holder o stage m.0 (phase_is ∙ m.1)));
  }

  -- ---- its gate isn't opened

  pub doubted_step : (m : MayStep old steps.Gate) (after : Option Entry) → ((holder : Holder) → o ≡ Some holder → after ≡ Some holder.entry) → KeeperStep old (keeper.gate false) (view_of history after keeper.free)
  doubted_step m after of =
      let same = of m.0 (written_holder o stage m.0 (phase_is ∙ m.1)) in
      record {
        holder = m.0;
        is_written = m.1;
        new_is = (λ i. view_of history (same i) keeper.free) ∙ ap (λ (v : KeeperView). record v { doubt = Some m.0.entry; phase = keeper.free }) is;
      }

-- ---- its gate is opened

pub end_place : (history : History) (place : ℕ) → place ≡ end_of history → IsPlace history place
end_place history place e = record { from = omega (arith, e); to = omega (arith, e) }

pub last_version : (history : History) (place : ℕ) (version : VersionState) → place ≡ end_of history → IsVersionAt history place version → IsVersionAt history (end_of history) version
last_version history place version e v = subst (λ n. IsVersionAt history n version) e v

pub applies_to : (history : History) (holder : Holder) (version : VersionState) (entry : Entry) → IsVersionAt history (end_of history) version → entry ≡ holder.entry → AppliesAtEnd history holder → Applies version.pod version.next entry
applies_to history holder version entry v e a = subst (λ (x : Pod × ℕ × Entry). Applies x.0 x.1 x.2) (λ i. (sym v.pod i, sym v.next i, sym e i)) a

pub opens : (view : KeeperView) (holder : Holder) (entry : Entry) (last version : VersionState) (journal : List ℕ) → view.phase ≡ keeper.written holder → entry ≡ holder.entry → IsVersionAt view.history (end_of view.history) last
    → version ≡ state_after last entry → journal ≡ journal_of view.history ++ (1 ∷ sized (entry_bytes holder.entry)) → Opens view (record { entry = entry; version = version; journal = journal })
opens view holder entry last version journal w e at v j =
    let more = longer view.history (holder.entry ∷ []) in
    record {
      holder = holder;
      is_written = w;
      entry_is = e;
      version_is = subst (IsVersionAt more (end_of view.history + 1)) (sym (v ∙ ap (state_after last) e)) (next_version view.history holder.entry last at);
      journal_is = journal_longer view.history holder.entry journal j;
    }

opened_pending : (history : History) (o : Option Holder) → IsPending history (phase_of o stages.Opened)
opened_pending history None = tt
opened_pending history (Some holder) = tt

module _ (first : VersionState) (entries : List Entry) (doubt : Option Entry) (o : Option Holder) (stage : Stage) (old : KeeperView) (is : view_of (history_of first entries) doubt (phase_of o stage) ≡ old) where
  abbrev here : History
  here = history_of first entries

  module _ (opening : Opening) (r : Opens old opening) (after : List Entry) (e : after ≡ entries ++ opening.entry ∷ []) where
    added : after ≡ entries ++ r.holder.entry ∷ []
    added = e ∙ ap (λ (x : Entry). entries ++ x ∷ []) r.entry_is

    pub opened_step : KeeperStep old (keeper.gate true) (view_of (history_of first after) doubt (phase_of o stages.Opened))
    opened_step =
        let held = written_holder o stage r.holder (ap (λ (v : KeeperView). v.phase) is ∙ r.is_written) in
        record {
          holder = r.holder;
          is_written = r.is_written;
          new_is = (λ i. view_of (history_of first (added i)) doubt (phase_of (held i) stages.Opened))
              ∙ ap (λ (v : KeeperView). record v { history = longer v.history (r.holder.entry ∷ []); phase = keeper.opened r.holder }) is;
        }

    pub opened_kept : (later later_after : List VersionState) (journal : List ℕ) → IsKeeper here later journal (phase_of o stage) → later_after ≡ later ++ opening.version ∷ [] → IsKeeper (history_of first after) later_after opening.journal (phase_of o stages.Opened)
    opened_kept later later_after journal k l =
        let more = longer here (r.holder.entry ∷ []) in
        let back = λ (v : KeeperView). longer v.history (r.holder.entry ∷ []) in
        let version : IsVersionAt more (end_of here + 1) opening.version = subst (λ (v : KeeperView). IsVersionAt (longer v.history (r.holder.entry ∷ [])) (end_of v.history + 1) opening.version) (sym is) r.version_is in
        let journal_is : opening.journal ≡ journal_of more = r.journal_is ∙ ap (λ (v : KeeperView). journal_of (back v)) (sym is) in
        subst (λ (x : List Entry × List VersionState). IsKeeper (history_of first x.0) x.1 opening.journal (phase_of o stages.Opened)) (λ i. (sym added i, sym l i))
        (opened_keeper here r.holder.entry later opening.version opening.journal (phase_of o stages.Opened) k.versions version journal_is (opened_pending more o))

  -- or it stays as it was
  module _ (after : List Entry) (e : after ≡ entries) where
    pub stayed_view : view_of (history_of first after) doubt (phase_of o stage) ≡ old
    stayed_view = (λ i. view_of (history_of first (e i)) doubt (phase_of o stage)) ∙ is

    pub stayed_kept : (later later_after : List VersionState) (journal : List ℕ) → IsKeeper here later journal (phase_of o stage) → later_after ≡ later → IsKeeper (history_of first after) later_after journal (phase_of o stage)
    stayed_kept later later_after journal k l = subst (λ (x : List Entry × List VersionState). IsKeeper (history_of first x.0) x.1 journal (phase_of o stage)) (λ i. (sym e i, sym l i)) k
