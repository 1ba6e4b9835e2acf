use Rattle.std.proofs.Common.{rules, ◌||◌, ℕ, List, take, ap, subst, ◌∙◌}
use Rattle.row_pages.specs.Items.{items_below}
use Rattle.pod_pages.specs.Numbering.{AreMarked, is_below}
use Rattle.pod_pages.proofs.Marking.{below_step, marks_shared}
use Rattle.std.proofs.Common.{arith}
use Rattle.std.proofs.lemmas.List.{take_all}
use Rattle.pod_pages.proofs.marks_of_paths.marked_below.Goals as goal

pub loop-subject-init : goal.loop-subject-init
loop-subject-init c = λ done have a. marks_shared c.args.numbers.now done c.args.rows.now c.in_ok-now.now c.in_ok-now.ensures a

pub loop-subject-preserved : goal.loop-subject-preserved
loop-subject-preserved c = λ done have a.
    below_step c.args.numbers.now done c.args.subjects.now c.loop-subject.subject-index c.subject-item.result c.as_slice.result.now c.in_ok-next.next c.loop-subject-test.true c.subject-item.is (c.as_slice.ensures.value ∙ c.in_ok-items.ensures ∙ ap (items_below c.args.numbers.now) (search rules))
    (c.in_ok-next.ensures (λ p. is_below (take c.loop-subject.subject-index c.args.subjects.now) p || done p) have (c.loop-subject.invariant done have a))

pub returns : goal.returns
returns c = λ done have a.
    subst (λ (xs : List (List ℕ)). AreMarked c.args.numbers.now (λ p. is_below xs p || done p) c.loop-subject.now) (take_all c.loop-subject.subject-index c.args.subjects.now (omega arith)) (c.loop-subject.invariant done have a)
