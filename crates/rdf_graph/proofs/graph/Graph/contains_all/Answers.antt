use Rattle.std.proofs.Common.{◌∙◌, ◌≤◌, sym, arith, length, refl}
use Rattle.std.specs.List.{Contains}
use Rattle.std.proofs.lemmas.Bool.{false≢true, true≢false}
use Rattle.std.proofs.lemmas.List.Elements.{All-contains}
use Rattle.rdf_graph.proofs.Members.{all_more, all_of}
use Rattle.rdf_graph.proofs.graph.Graph.contains_all.Goals as goal

pub returns-then-not-contains : goal.returns-then-not-contains
returns-then-not-contains c = (
  λ h. absurd (false≢true h),
  λ all. absurd (true≢false (sym (c.contains.ensures.found.1 (All-contains (Contains c.args.self.now) c.args.triples.now c.triple-item.result all (c.loop-triple.triple-index, c.loop-triple-test.true, sym c.triple-item.is))) ∙ c.if-not-contains.true)),
)

pub loop-triple-preserved : goal.loop-triple-preserved
loop-triple-preserved c =
    all_more (Contains c.args.self.now) c.args.triples.now c.loop-triple.triple-index c.triple-item.result c.loop-triple-test.true c.triple-item.is c.loop-triple.invariant (c.contains.ensures.found.0 c.if-not-contains.false)

pub returns : goal.returns
returns c =
    let past : length c.args.triples.now ≤ c.loop-triple.triple-index = omega arith in
    (λ _. all_of (Contains c.args.self.now) c.args.triples.now c.loop-triple.triple-index past c.loop-triple.invariant, λ _. refl)
