use Rattle.std.proofs.Common.{ap, sym, subst, List}
use Rattle.row_pages.specs.Items.{Placed, item_at}
use Rattle.pod_pages.specs.Numbering.{AreNumbered}
use Rattle.pod_pages.proofs.Listing.{numbered_more, others_more}
use Rattle.pod_pages.proofs.list_numbers.numbered.Goals as goal

pub loop-subject-init : goal.loop-subject-init
loop-subject-init c = record {
  numbered = λ tree a. subst (λ (is : List Placed). AreNumbered c.args.base.now c.args.rows.now c.args.subjects.now is c.args.places.now.items) (sym c.in_ok-now.ensures) a;
  others = λ q h. ap (λ (is : List Placed). item_at is q) c.in_ok-now.ensures;
}

pub loop-subject-preserved : goal.loop-subject-preserved
loop-subject-preserved c = record {
  numbered = λ tree a.
      numbered_more c.args.base.now c.args.rows.now c.args.subjects.now c.loop-subject.subject-index c.subject-item.result c.loop-subject.now c.in_ok-next.next c.loop-subject.places.items c.numbered_one.new.places.items
      c.loop-subject-test.true c.subject-item.is (λ pending. c.in_ok-next.ensures.numbered c.args.rows.now pending tree) (c.loop-subject.invariant.numbered tree a);
  others =
      others_more c.args.subjects.now c.loop-subject.subject-index c.subject-item.result c.args.rows.now c.loop-subject.now c.in_ok-next.next
      c.loop-subject-test.true c.subject-item.is c.in_ok-next.ensures.others c.loop-subject.invariant.others;
}
