use Rattle.std.proofs.Common.{◌+◌, ◌∙◌, refl, sym, ap, subst}
use Rattle.std.specs.Prelude.{is_some}
use Rattle.pod_rows.specs.Apply.{Applies}
use Rattle.pod_pages.specs.Edited.{AreMarkedIf, rows_if}
use Rattle.pod_pages.specs.Effects.{oldest_after}
use Rattle.pod_pages.specs.State.{VersionState, state_after, with_effects}
use Rattle.pod_pages.specs.Versions.{state_of}
use Rattle.pod_pages.proofs.VersionLaws.{after_all, never_stopped, kept_with}
use Rattle.pod_pages.proofs.version.Version.after_with.Goals as goal

pub invariant_of-result : goal.invariant_of-result
invariant_of-result c = (let all = (let i = c.self.inside in
    let before = c.requires.kept.0 in
    after_all i.next i.base i.owner i.rows before i.oldest i.table c.args.entry.now c.as_slice-edits.result.now c.in-Some.rows c.in_ok-resolved-in-Some.resolved.rows c.as_slice.result.now c.in_ok-resolved-in-Some.resolved.table
    (i.next + 1) c.args.oldest c.in_ok-base-in-Some.base c.in_ok-owner-in-Some.owner c.args.kept.items c.after_edits.new.effects.items
    (kept_with i.next i.base i.owner i.rows i.effects.items before i.oldest i.table c.self.invariant)
    (subst (λ (s : VersionState). Applies s.pod s.next c.args.entry.now) (sym c.self.view_is) c.requires.applies)
    c.as_slice-edits.ensures
    (sym (ap rows_if c.in-Some.is) ∙ c.in_ok-after.ensures.rows)
    (subst (AreMarkedIf i.rows) c.in-Some.is c.in_ok-after.ensures.marks)
    (c.as_slice.ensures.value ∙ c.in_ok-paths-in-Some.ensures)
    c.in_ok-resolved-in-Some.ensures.rows c.in_ok-resolved-in-Some.ensures.resolved
    refl c.in_ok-base-in-Some.ensures c.in_ok-owner-in-Some.ensures
    (c.requires.oldest ∙ ap (λ (s : VersionState). oldest_after s.oldest (s.next + 1)) (sym c.self.view_is))
    c.requires.kept.1
    (c.in_ok-after.ensures.effects (ap is_some c.in-Some.is))) in all.kept)

pub returns : goal.returns
returns c = λ before e. (let all = (let i = c.self.inside in
    after_all i.next i.base i.owner i.rows before i.oldest i.table c.args.entry.now c.as_slice-edits.result.now c.in-Some.rows c.in_ok-resolved-in-Some.resolved.rows c.as_slice.result.now c.in_ok-resolved-in-Some.resolved.table
    (i.next + 1) c.args.oldest c.in_ok-base-in-Some.base c.in_ok-owner-in-Some.owner c.args.kept.items c.after_edits.new.effects.items
    (kept_with i.next i.base i.owner i.rows i.effects.items before i.oldest i.table c.self.invariant)
    (subst (λ (s : VersionState). Applies s.pod s.next c.args.entry.now) (sym c.self.view_is) c.requires.applies)
    c.as_slice-edits.ensures
    (sym (ap rows_if c.in-Some.is) ∙ c.in_ok-after.ensures.rows)
    (subst (AreMarkedIf i.rows) c.in-Some.is c.in_ok-after.ensures.marks)
    (c.as_slice.ensures.value ∙ c.in_ok-paths-in-Some.ensures)
    c.in_ok-resolved-in-Some.ensures.rows c.in_ok-resolved-in-Some.ensures.resolved
    refl c.in_ok-base-in-Some.ensures c.in_ok-owner-in-Some.ensures
    (c.requires.oldest ∙ ap (λ (s : VersionState). oldest_after s.oldest (s.next + 1)) (sym c.self.view_is))
    e
    (c.in_ok-after.ensures.effects (ap is_some c.in-Some.is))) in all.is ∙ ap (λ (s : VersionState). state_after (with_effects before s) c.args.entry.now) c.self.view_is)

pub unreachable-requires : goal.unreachable-requires
unreachable-requires c =
    let i = c.self.inside in
    never_stopped (state_of i.next i.base i.owner i.rows i.effects.items i.oldest).pod i.next i.rows c.as_slice-edits.result.now c.args.entry.now
    (subst (λ (s : VersionState). Applies s.pod s.next c.args.entry.now) (sym c.self.view_is) c.requires.applies) refl c.as_slice-edits.ensures (sym (ap rows_if c.in-None.is) ∙ c.in_ok-after.ensures.rows)
