use Rattle.turtle_reader.proofs.issued_labels.give_up_to.Goals as goal

pub loop-alloc-preserved : goal.loop-alloc-preserved
loop-alloc-preserved c = λ given. c.give_next.ensures.given (c.loop-alloc.invariant given)

pub returns-in_err-give_next-clause-given : goal.returns-in_err-give_next-clause-given
returns-in_err-give_next-clause-given c = λ given. c.give_next.ensures.given (c.loop-alloc.invariant given)
