use Rattle.std.specs.BTreeSet.{contains}
use Rattle.std.specs.Ordering.{nat_cmp}
use Rattle.turtle_reader.proofs.DocumentLemmas.{numbers_more}
use Rattle.turtle_reader.proofs.label_numbers.insert_one.Goals as goal

pub returns : goal.returns
returns c = λ written more is h.
    numbers_more (contains nat_cmp c.args.taken.now) (contains nat_cmp c.insert.new.self) written more c.args.number c.ranges.number.fits is c.in_ok-insert.ensures.updates.0 h
