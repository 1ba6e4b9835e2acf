use Rattle.row_pages.specs.Items.{rows_of}
use Rattle.pod_pages.proofs.Freeing.{freed_more}
use Rattle.pod_pages.proofs.list_numbers.free_gone.Goals as goal

pub loop-subject-preserved : goal.loop-subject-preserved
loop-subject-preserved c = λ k.
    freed_more (rows_of c.args.rows.now) c.args.old.now c.args.subjects.now c.loop-subject.subject-index c.subject-item.result c.args.places.now.items c.loop-subject.places.items c.free_one.new.places.items k
    c.loop-subject-test.true c.subject-item.is (c.loop-subject.invariant k) (c.in_ok-free_one.ensures k)
