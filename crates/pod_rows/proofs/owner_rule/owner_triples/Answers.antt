use Rattle.std.proofs.Common.{◌++◌, ap, ap₂, ◌∙◌}
use Rattle.pod_rows.specs.FirstPods.{mode_triples, subject_triples, owner_triples}
use Rattle.pod_rows.proofs.owner_rule.owner_triples.Goals as goal

pub returns : goal.returns
unfolding owner_triples
returns c =
    c.in_ok-append_modes.ensures
    ∙ ap₂ ◌++◌ (c.in_ok-triples.ensures ∙ ap (subject_triples c.args.base.now c.args.owner.now) c.in_ok-rule.ensures) (ap mode_triples c.in_ok-rule.ensures)
