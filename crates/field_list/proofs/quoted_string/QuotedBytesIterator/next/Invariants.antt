use Rattle.std.proofs.Common.{◌≡◌, length}
use Rattle.field_list.specs.QuotedString.{meaning_rest}
use Rattle.field_list.proofs.quoted_string.QuotedBytesIterator.next.Given as goal

abbrev pub invariant-loop-byte : goal.invariant-loop-byte
invariant-loop-byte l = meaning_rest l.self ≡ meaning_rest l.initial.self

abbrev pub decreases-loop-byte : goal.decreases-loop-byte
decreases-loop-byte l = length l.self.rest.now
