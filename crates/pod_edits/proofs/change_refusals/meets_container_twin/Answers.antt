use Rattle.std.proofs.Common.{sym, ap, ◌∙◌, ◌∷◌, []}
use Rattle.iri_ref.specs.Characters.{slash}
use Rattle.pod_path.specs.Hierarchy.{without_end}
use Rattle.pod_path.proofs.Names.{ends_is}
use Rattle.pod_rows.specs.Pod.{is_row_of}
use Rattle.pod_edits.proofs.Places.{closed_twin_of}
use Rattle.pod_edits.proofs.change_refusals.meets_container_twin.Goals as goal

pub returns-in-Some : goal.returns-in-Some
returns-in-Some g c =
    c.taken_text.ensures ∙ g.met.S.PodState.rows_are c.args.state.now c.in-Some.text.now
    ∙ ap (is_row_of (g.S.PodState.pod c.args.state.now).rows)
    (sym (closed_twin_of c.args.path.now c.in-Some.text.now (sym c.as_str.ensures.text ∙ c.in-Some.ensures.some) (sym c.is_root.ensures ∙ c.if-is_root.false)))

pub returns-in-None : goal.returns-in-None
returns-in-None g c = absurd (c.in-None.ensures.none (without_end 1 c.args.path.now) (c.as_str.ensures.text ∙ ends_is c.args.path.now (slash ∷ []) c.requires))
