use Rattle.std.proofs.Common.{List, ℕ, sym, subst, arith}
use Rattle.std.specs.BTreeSet.{contains}
use Rattle.std.specs.Ordering.{nat_cmp}
use Rattle.turtle_reader.specs.Taken.{AreGiven}
use Rattle.turtle_reader.proofs.DocumentLemmas.{given_more}
use Rattle.turtle_reader.proofs.issued_labels.give_next.Goals as goal

pub returns-in_err-push_label-clause-given : goal.returns-in_err-push_label-clause-given
returns-in_err-push_label-clause-given c = λ given written numbers.
    subst (λ (ls : List (List ℕ)). AreGiven written ls c.args.given.now.next) (sym c.in_err-push_label.ensures.unchanged) (given written numbers)

pub returns-clause-given : goal.returns-clause-given
returns-clause-given c = λ given written numbers.
    subst (λ (ls : List (List ℕ)). AreGiven written ls c.in-Some.next) (sym c.in_ok-push_label.ensures.pushed)
    (given_more (contains nat_cmp c.args.taken.now) written c.args.given.now.labels.items c.args.given.now.next c.in_ok-number.number c.in-Some.next c.in_ok-label.label numbers
    (given written numbers) c.in_ok-number.ensures (let a = c.in-Some.ensures in omega arith) (omega (arith, c.in-Some.ensures)) c.in_ok-label.ensures)
