use Rattle.std.proofs.Common.{◌∙◌, ap, map, refl}
use Rattle.pod_command.specs.declared.row.Row.{Row}
use Rattle.pod_pages.proofs.VersionLaws.{first_all}
use Rattle.pod_pages.proofs.version.first_version.Goals as goal

pub invariant_of-result : goal.invariant_of-result
invariant_of-result c = (let all = first_all c.args.snapshot c.in_ok-rows.rows c.in_ok-none.none c.as_slice-2.result.now c.in_ok-resolved.resolved.rows c.in_ok-resolved.resolved.table c.args.snapshot.base c.args.snapshot.owner c.new-3.result.items c.requires
    c.in_ok-rows.ensures (c.in_ok-none.ensures ∙ c.new.ensures.items)
    (c.as_slice-2.ensures.value ∙ c.in_ok-paths.ensures ∙ ap (map (λ (r : Row). r.path)) c.as_slice.ensures)
    c.in_ok-resolved.ensures.rows
    c.in_ok-resolved.ensures.resolved refl refl c.new-3.ensures.items in all.kept)

pub returns : goal.returns
returns c = (let all = first_all c.args.snapshot c.in_ok-rows.rows c.in_ok-none.none c.as_slice-2.result.now c.in_ok-resolved.resolved.rows c.in_ok-resolved.resolved.table c.args.snapshot.base c.args.snapshot.owner c.new-3.result.items c.requires
    c.in_ok-rows.ensures (c.in_ok-none.ensures ∙ c.new.ensures.items)
    (c.as_slice-2.ensures.value ∙ c.in_ok-paths.ensures ∙ ap (map (λ (r : Row). r.path)) c.as_slice.ensures)
    c.in_ok-resolved.ensures.rows
    c.in_ok-resolved.ensures.resolved refl refl c.new-3.ensures.items in all.is)
