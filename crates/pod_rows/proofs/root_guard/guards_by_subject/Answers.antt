use Rattle.std.proofs.Common.{◌≡◌, ◌<◌, ◌∷◌, true, List, length, sym, ◌∙◌, subst}
use Rattle.rdf_graph.specs.declared.triple.Triple.{Triple}
use Rattle.pod_rows.specs.SubjectOrder.{are_by_subject}
use Rattle.pod_rows.proofs.SubjectRuns.{after_ordered, fewer, guards_here, guards_later}
use Rattle.pod_rows.proofs.root_guard.guards_by_subject.Goals as goal

pub returns-then-guards_anyhow : goal.returns-then-guards_anyhow
returns-then-guards_anyhow c =
    guards_here c.args.base.now c.args.owner.now c.in-Some.first.now c.loop-first.rest.now c.in-Some.field-0-1.now c.split_subject.result.0.now c.guards_anyhow.result c.in-Some.ensures.cases.0
    c.loop-first.invariant.order c.split_subject.ensures.own c.guards_anyhow.ensures c.if-guards_anyhow.true
    ∙ c.loop-first.invariant.same

pub loop-first-smaller : goal.loop-first-smaller
loop-first-smaller c =
    subst (λ (xs : List Triple). length xs < length c.loop-first.rest.now) (sym c.split_subject.ensures.more) (fewer c.in-Some.first.now c.loop-first.rest.now c.in-Some.field-0-1.now c.in-Some.ensures.cases.0)

-- the first subject has no guard
pub loop-first-preserved : goal.loop-first-preserved
loop-first-preserved c = record {
  same = guards_later c.args.base.now c.args.owner.now c.in-Some.first.now c.loop-first.rest.now c.in-Some.field-0-1.now c.split_subject.result.0.now c.split_subject.result.1.now c.guards_anyhow.result c.in-Some.ensures.cases.0
      c.loop-first.invariant.order c.split_subject.ensures.own c.split_subject.ensures.more c.guards_anyhow.ensures c.if-guards_anyhow.false
      ∙ c.loop-first.invariant.same;
  order = subst (λ (xs : List Triple). are_by_subject xs ≡ true) (sym c.split_subject.ensures.more) (after_ordered c.in-Some.first.now.s c.loop-first.rest.now c.loop-first.invariant.order);
}
