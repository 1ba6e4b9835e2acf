use Rattle.std.proofs.Common.{rules, ◌≡◌, ◌∙◌, ap}
use Rattle.row_pages.specs.Items.{rows_of}
use Rattle.pod_pages.specs.Versions.{state_of}
use Rattle.pod_pages.proofs.VersionLaws.{all_kept, kept_shared, same_state}
use Rattle.pod_pages.proofs.version.Version.share.Goals as goal

pub invariant_of-result : goal.invariant_of-result
invariant_of-result c =
    let i = c.self.inside in
    let effects : c.in_ok-effects.effects.items ≡ i.effects.items = c.in_ok-effects.ensures ∙ all_kept c.as_slice.result.now ∙ c.as_slice.ensures.value in
    kept_shared (state_of i.next i.base i.owner i.rows i.effects.items i.oldest) (state_of i.next c.in_ok-base.base c.in_ok-owner.owner c.in_ok-rows.rows c.in_ok-effects.effects.items i.oldest)
    i.rows c.in_ok-rows.rows i.table c.in_ok-table.table c.self.invariant
    (same_state i.next i.next c.in_ok-base.base i.base c.in_ok-owner.owner i.owner (rows_of c.in_ok-rows.rows) (rows_of i.rows) c.in_ok-effects.effects.items i.effects.items i.oldest i.oldest (search rules) c.in_ok-base.ensures c.in_ok-owner.ensures (ap rows_of c.in_ok-rows.ensures) effects (search rules))
    c.in_ok-rows.ensures c.in_ok-table.ensures

pub returns : goal.returns
returns c =
    let i = c.self.inside in
    let effects : c.in_ok-effects.effects.items ≡ i.effects.items = c.in_ok-effects.ensures ∙ all_kept c.as_slice.result.now ∙ c.as_slice.ensures.value in
    same_state i.next i.next c.in_ok-base.base i.base c.in_ok-owner.owner i.owner (rows_of c.in_ok-rows.rows) (rows_of i.rows) c.in_ok-effects.effects.items i.effects.items i.oldest i.oldest (search rules) c.in_ok-base.ensures c.in_ok-owner.ensures (ap rows_of c.in_ok-rows.ensures) effects (search rules)
    ∙ c.self.view_is
