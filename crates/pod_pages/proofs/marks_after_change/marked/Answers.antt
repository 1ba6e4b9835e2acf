use Rattle.std.proofs.Common.{◌||◌, false}
use Rattle.access_index.specs.Listing.{is_listed}
use Rattle.pod_pages.specs.Numbering.{is_below}
use Rattle.pod_pages.proofs.Marking.{none_done}
use Rattle.pod_pages.proofs.marks_after_change.marked.Goals as goal

pub returns-then-is_most : goal.returns-then-is_most
returns-then-is_most c = λ have.
    c.in_ok-whole.ensures (λ p. is_below c.args.changed.now p || (is_listed c.args.subjects.now p || (is_listed c.args.touched.now p || false))) have

pub returns : goal.returns
returns c = λ have.
    c.in_ok-third.ensures (λ p. is_listed c.args.subjects.now p || (is_listed c.args.touched.now p || false)) have
    (c.in_ok-second.ensures (λ p. is_listed c.args.touched.now p || false) have
    (c.in_ok-first.ensures (λ p. false) have (none_done c.args.numbers.now)))
