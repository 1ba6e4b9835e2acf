use Rattle.std.proofs.Common.{subst}
use Rattle.std.specs.List.{Contains}
use Rattle.std.proofs.lemmas.List.Elements.{All-contains}
use Rattle.rdf_graph.specs.Graph.{IsGraph}
use Rattle.graph_patch.specs.Patch.{IsInstance}
use Rattle.graph_patch.specs.Pattern.{value_of}
use Rattle.rdf_graph.specs.Triple.{IsRdf}
use Rattle.rdf_graph.specs.declared.triple.Triple.{Triple}
use Rattle.graph_patch.proofs.patch.Patch.check.Goals as goal

pub returns-clause-fits : goal.returns-clause-fits
returns-clause-fits c =
    let graph : IsGraph c.args.graph.now = subst IsGraph c.as_slice-triples.ensures.triples c.as_slice-triples.ensures.graph in
    let inside : (x : Triple) → IsInstance (value_of c.args.mapping.now.pairs.items) c.args.self.now.deletions.items x → Contains c.args.graph.now x =
    subst (λ pairs. (x : Triple) → IsInstance (value_of pairs) c.args.self.now.deletions.items x → Contains c.args.graph.now x) c.as_slice-pairs.ensures
    (subst (λ ps. (x : Triple) → IsInstance (value_of c.as_slice-pairs.result.now) ps x → Contains c.args.graph.now x) c.as_slice.ensures c.if-not-are_in.ensures) in
    record {
      in_graph = inside;
      removed_rdf = λ x h. All-contains IsRdf c.args.graph.now x graph.rdf (inside x h);
      added_rdf =
          subst (λ pairs. (x : Triple) → IsInstance (value_of pairs) c.args.self.now.insertions.items x → IsRdf x) c.as_slice-pairs.ensures
          (subst (λ ps. (x : Triple) → IsInstance (value_of c.as_slice-pairs.result.now) ps x → IsRdf x) c.as_slice-2.ensures c.if-not-are_rdf.ensures);
    }
