use Rattle.jsonld_expanded.proofs.Graphs.{expands_once, walks_once}
use Rattle.jsonld_expanded.proofs.laws.expands_once.Goals as goal

pub returns-clause-triples : goal.returns-clause-triples
returns-clause-triples c = walks_once

pub returns-clause-graph : goal.returns-clause-graph
returns-clause-graph c = expands_once
