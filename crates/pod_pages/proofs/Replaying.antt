-- A version without effects beside a list of effects, of which some are too old.
use Rattle.std.proofs.Common.{◌≡◌, ◌+◌, ◌≤◌, ℕ, List, [], ◌++◌, Some, sym, ap, ◌∙◌}
use Rattle.std.specs.Prelude.{nat_le}
use Rattle.pod_command.specs.declared.entry.Entry.{Entry}
use Rattle.pod_rows.specs.Apply.{Applies}
use Rattle.pod_pages.specs.Effects.{entry_effects, kept_effects, oldest_after}
use Rattle.pod_pages.specs.State.{VersionState, state_after, with_effects}
use Rattle.pod_pages.specs.declared.entry_effects.Effect.{Effect}
use Rattle.pod_pages.proofs.EditSteps.{all_new, filter_append}
use Rattle.pod_pages.proofs.History.{kept_later, oldest_grows}
use Rattle.pod_pages.proofs.VersionLaws.{recent}

-- ---- effects of which some old ones were dropped, and those of one more entry

kept_more : (oldest later : ℕ) → oldest ≤ later → (old room new : List Effect) → kept_effects oldest room ≡ kept_effects oldest old
    → kept_effects later (room ++ new) ≡ kept_effects later (kept_effects oldest old ++ new)
kept_more oldest later h old room new e =
    filter_append (λ (x : Effect). nat_le later x.seq) room new
    ∙ ap (λ (xs : List Effect). xs ++ kept_effects later new) (sym (kept_later oldest later h room) ∙ ap (kept_effects later) e)
    ∙ sym (filter_append (λ (x : Effect). nat_le later x.seq) (kept_effects oldest old) new)

pub replayed_more : (version next : VersionState) (entry : Entry) (old room new : List Effect) → kept_effects version.oldest room ≡ kept_effects version.oldest old
    → next ≡ with_effects [] (state_after version entry) → new ≡ room ++ entry_effects version.pod entry
    → with_effects (kept_effects next.oldest new) next ≡ state_after (with_effects (kept_effects version.oldest old) version) entry
replayed_more version next entry old room new er en ee =
    ap (λ (v : VersionState). with_effects (kept_effects v.oldest new) v) en
    ∙ ap (λ (xs : List Effect). with_effects (kept_effects (oldest_after version.oldest (version.next + 1)) xs) (state_after version entry)) ee
    ∙ ap (λ (xs : List Effect). with_effects xs (state_after version entry))
    (kept_more version.oldest (oldest_after version.oldest (version.next + 1)) (oldest_grows version.oldest (version.next + 1)) old room (entry_effects version.pod entry) er)

-- ---- an entry applied to a version without effects

pub edited_bare : (state after bare : VersionState) (entry : Entry) → after ≡ state_after (with_effects [] state) entry → bare ≡ with_effects [] after → bare ≡ with_effects [] (state_after state entry)
edited_bare state after bare entry is is_bare = is_bare ∙ ap (with_effects []) is

pub edited_effects : (state after : VersionState) (entry : Entry) → Applies state.pod state.next entry → state.oldest ≤ state.next → after ≡ state_after (with_effects [] state) entry → after.effects ≡ entry_effects state.pod entry
edited_effects state after entry a most is =
    ap (λ (v : VersionState). v.effects) is ∙ all_new (oldest_after state.oldest (state.next + 1)) entry.seq (recent state entry a most) (Some state.pod.rows) entry.edits.items
