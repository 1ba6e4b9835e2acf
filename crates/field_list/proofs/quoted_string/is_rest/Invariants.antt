use Rattle.std.proofs.Common.{◌≡◌, length}
use Rattle.field_list.specs.QuotedString.{is_rest}
use Rattle.field_list.proofs.quoted_string.is_rest.Given as goal

abbrev pub invariant-loop-byte : goal.invariant-loop-byte
invariant-loop-byte l = is_rest l.place l.text ≡ is_rest l.fn.place l.fn.text

abbrev pub decreases-loop-byte : goal.decreases-loop-byte
decreases-loop-byte l = length l.text
