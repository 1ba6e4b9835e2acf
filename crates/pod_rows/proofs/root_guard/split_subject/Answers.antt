use Rattle.std.proofs.Common.{◌-◌, ◌≤◌, List, length, sym, ap, ◌∙◌, subst}
use Rattle.rdf_graph.specs.declared.triple.Triple.{Triple}
use Rattle.pod_rows.proofs.SubjectRuns.{after_short, own_are}
use Rattle.pod_rows.proofs.root_guard.split_subject.Goals as goal

pub overflow_sub-triples : goal.overflow_sub-triples
overflow_sub-triples c =
    subst (λ (xs : List Triple). length xs ≤ length c.args.triples.now) (sym c.after_subject-more.ensures) (after_short c.args.node.now c.args.triples.now)

pub returns-clause-own : goal.returns-clause-own
returns-clause-own c =
    c.split_at.ensures.front
    ∙ own_are c.args.node.now c.args.triples.now _ (ap (λ (xs : List Triple). length c.args.triples.now - length xs) c.after_subject-more.ensures)
