use Rattle.std.proofs.Common.{◌||◌, take}
use Rattle.std.specs.Prelude.{bytes_eq}
use Rattle.access_index.specs.Listing.{is_listed}
use Rattle.pod_pages.proofs.Marking.{marked_more, marks_shared}
use Rattle.std.proofs.Common.{List, ℕ, subst, arith}
use Rattle.std.proofs.lemmas.List.{take_all}
use Rattle.pod_pages.specs.Numbering.{AreMarked}
use Rattle.pod_pages.proofs.marks_of_paths.marked_paths.Goals as goal

pub loop-path-init : goal.loop-path-init
loop-path-init c = λ done have a. marks_shared c.args.numbers.now done c.args.rows.now c.in_ok-now.now c.in_ok-now.ensures a

pub loop-path-preserved : goal.loop-path-preserved
loop-path-preserved c = λ done have a.
    marked_more c.args.numbers.now done (λ p q. bytes_eq q p) c.args.paths.now c.loop-path.path-index c.path-item.result c.in_ok-next.next c.loop-path-test.true c.path-item.is
    (c.in_ok-next.ensures (λ p. is_listed (take c.loop-path.path-index c.args.paths.now) p || done p) have (c.loop-path.invariant done have a))

pub returns : goal.returns
returns c = λ done have a.
    subst (λ (xs : List (List ℕ)). AreMarked c.args.numbers.now (λ p. is_listed xs p || done p) c.loop-path.now) (take_all c.loop-path.path-index c.args.paths.now (omega arith)) (c.loop-path.invariant done have a)
