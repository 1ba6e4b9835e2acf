use Rattle.std.proofs.Common.{arith, ◌≤◌, subst, sym}
use Rattle.graph_patch.specs.Patch.{AreInstances, instances_size, IsInstance}
use Rattle.graph_patch.specs.Pattern.{value_of}
use Rattle.rdf_graph.specs.Size.{triples_size}
use Rattle.rdf_graph.specs.Triple.{IsRdf}
use Rattle.rdf_graph.specs.declared.triple.Triple.{Triple}
use Rattle.graph_patch.proofs.patch.Patch.change.Goals as goal

pub graph_of-requires-clause-rdf : goal.graph_of-requires-clause-rdf
graph_of-requires-clause-rdf c =
    subst (λ pairs. (x : Triple) → IsInstance (value_of pairs) c.as_slice.result.now x → IsRdf x) (sym c.as_slice-pairs.ensures)
    (subst (λ ps. (x : Triple) → IsInstance (value_of c.args.mapping.now.pairs.items) ps x → IsRdf x) (sym c.as_slice.ensures) c.requires.removed_rdf)

pub graph_of-requires-2-clause-rdf : goal.graph_of-requires-2-clause-rdf
graph_of-requires-2-clause-rdf c =
    subst (λ pairs. (x : Triple) → IsInstance (value_of pairs) c.as_slice-2.result.now x → IsRdf x) (sym c.as_slice-pairs.ensures)
    (subst (λ ps. (x : Triple) → IsInstance (value_of c.args.mapping.now.pairs.items) ps x → IsRdf x) (sym c.as_slice-2.ensures) c.requires.added_rdf)

pub returns-clause-removed : goal.returns-clause-removed
returns-clause-removed c =
    subst (λ pairs. AreInstances (value_of pairs) c.args.self.now.deletions.items c.in_ok-removed.removed) c.as_slice-pairs.ensures
    (subst (λ ps. AreInstances (value_of c.as_slice-pairs.result.now) ps c.in_ok-removed.removed) c.as_slice.ensures c.in_ok-removed.ensures.members)

pub returns-clause-added : goal.returns-clause-added
returns-clause-added c =
    subst (λ pairs. AreInstances (value_of pairs) c.args.self.now.insertions.items c.in_ok-added.added) c.as_slice-pairs.ensures
    (subst (λ ps. AreInstances (value_of c.as_slice-pairs.result.now) ps c.in_ok-added.added) c.as_slice-2.ensures c.in_ok-added.ensures.members)

pub returns-clause-size : goal.returns-clause-size
returns-clause-size c =
    let removed : triples_size c.in_ok-removed.removed ≤ instances_size (value_of c.args.mapping.now.pairs.items) c.args.self.now.deletions.items =
    subst (λ pairs. triples_size c.in_ok-removed.removed ≤ instances_size (value_of pairs) c.args.self.now.deletions.items) c.as_slice-pairs.ensures
    (subst (λ ps. triples_size c.in_ok-removed.removed ≤ instances_size (value_of c.as_slice-pairs.result.now) ps) c.as_slice.ensures c.in_ok-removed.ensures.size) in
    let added : triples_size c.in_ok-added.added ≤ instances_size (value_of c.args.mapping.now.pairs.items) c.args.self.now.insertions.items =
    subst (λ pairs. triples_size c.in_ok-added.added ≤ instances_size (value_of pairs) c.args.self.now.insertions.items) c.as_slice-pairs.ensures
    (subst (λ ps. triples_size c.in_ok-added.added ≤ instances_size (value_of c.as_slice-pairs.result.now) ps) c.as_slice-2.ensures c.in_ok-added.ensures.size) in
    omega (arith, removed, added)
