use Rattle.std.proofs.Common.{◌↔◌, ◌≡◌, ◌≤◌, ◌∙◌, ap, sym, subst}
use Rattle.std.specs.List.{All, Contains}
use Rattle.graph_patch.specs.Patch.{instances_size}
use Rattle.graph_patch.specs.Pattern.{value_of}
use Rattle.rdf_graph.specs.Size.{triples_size}
use Rattle.rdf_graph.specs.Triple.{IsRdf}
use Rattle.rdf_graph.specs.declared.triple.Triple.{Triple}
use Rattle.graph_patch.proofs.Instancing.{all_made}
use Rattle.graph_patch.proofs.Patching.{instances_are, instances_same}
use Rattle.graph_patch.proofs.InstanceSizes.{size_of_instances}
use Rattle.graph_patch.proofs.pattern_instances.graph_of.Goals as goal

pub of-requires : goal.of-requires
of-requires c =
    subst (All IsRdf) (sym c.from_vec.ensures.items)
    (all_made IsRdf (value_of c.args.pairs.now) c.args.patterns.now c.in_ok-triples.triples.items c.in_ok-triples.ensures c.requires.rdf)

pub returns-clause-members : goal.returns-clause-members
returns-clause-members c =
    instances_same (value_of c.args.pairs.now) c.args.patterns.now c.in_ok-triples.triples.items c.of.result
    (subst (λ ts. (x : Triple) → Contains c.of.result x ↔ Contains ts x) c.from_vec.ensures.items c.of.ensures.members)
    (instances_are (value_of c.args.pairs.now) c.args.patterns.now c.in_ok-triples.triples.items c.in_ok-triples.ensures)

pub returns-clause-size : goal.returns-clause-size
returns-clause-size c =
    let made : triples_size c.from_vec.result.items ≡ instances_size (value_of c.args.pairs.now) c.args.patterns.now =
    ap triples_size c.from_vec.ensures.items ∙ size_of_instances (value_of c.args.pairs.now) c.args.patterns.now c.in_ok-triples.triples.items c.in_ok-triples.ensures in
    subst (λ n. triples_size c.of.result ≤ n) made c.of.ensures.size
