use Rattle.std.proofs.Common.{◌≤◌, List, Err, ap}
use Rattle.rdf_graph.specs.Graph.{SameSet}
use Rattle.rdf_graph.specs.declared.triple.Triple.{Triple}
use Rattle.serde_json.specs.View.{view}
use Rattle.rdf_graph.specs.declared.size.TheConstants.{TRIPLES_LIMIT}
use Rattle.jsonld_expanded.specs.Outcomes.{IsDocumentOf}
use Rattle.jsonld_expanded.proofs.Readings.{both, document_of, too_large}
use Rattle.jsonld_expanded.proofs.document_reading.read.Goals as goal

pub returns-in-Ok-clause-graph : goal.returns-in-Ok-clause-graph
returns-in-Ok-clause-graph c =
    both c.graph_of.result (λ (g : List Triple). SameSet g c.in-Ok.walk.triples.items) (IsDocumentOf c.args.base.now c.args.bytes.now) (c.in-Ok.walk.size ≤ TRIPLES_LIMIT) c.graph_of.ensures.graph c.graph_of.ensures.within
    (document_of c.args.base.now c.args.bytes.now (view c.in_ok-value.value) c.in-Ok.walk c.in_ok-value.ensures.value c.in-Ok.ensures.walked)

pub returns-in-Ok-clause-not_json : goal.returns-in-Ok-clause-not_json
returns-in-Ok-clause-not_json c = λ e. absurd (c.graph_of.ensures.json e)

pub returns-in-Ok-clause-out_of_profile : goal.returns-in-Ok-clause-out_of_profile
returns-in-Ok-clause-out_of_profile c = λ e. absurd (c.graph_of.ensures.in_profile e)

pub returns-in-Ok-clause-too_large : goal.returns-in-Ok-clause-too_large
returns-in-Ok-clause-too_large c = λ e. too_large c.args.base.now c.args.bytes.now (view c.in_ok-value.value) c.in-Ok.walk c.in_ok-value.ensures.value c.in-Ok.ensures.walked (c.graph_of.ensures.too_large e)

pub returns-clause-out_of_profile : goal.returns-clause-out_of_profile
returns-clause-out_of_profile c = λ e.
    let out = c.fault_of.ensures.out cc in
    record {
      value = view c.in_ok-value.value;
      json = c.in_ok-value.ensures.value;
      no_graph = λ g x. c.in-Err.ensures.out (ap (λ f. Err f) out) x.triples x.expands;
    }
