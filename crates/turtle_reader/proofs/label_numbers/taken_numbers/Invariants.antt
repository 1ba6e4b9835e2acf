use Rattle.std.proofs.Common.{◌≡◌, ◌-◌, length}
use Rattle.std.specs.BTreeSet.{contains}
use Rattle.std.specs.Ordering.{nat_cmp}
use Rattle.turtle_reader.proofs.DocumentLemmas.{HasRead}
use Rattle.turtle_reader.proofs.label_numbers.taken_numbers.Given as goal

abbrev pub invariant-loop-token : goal.invariant-loop-token
invariant-loop-token l = record {
  bytes : l.lexer.bytes ≡ l.bytes;
  read : HasRead l.bytes l.lexer.from (contains nat_cmp l.taken);
}

abbrev pub decreases-loop-token : goal.decreases-loop-token
decreases-loop-token l = length l.bytes - l.lexer.from
