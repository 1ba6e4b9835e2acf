use Rattle.std.proofs.Common.{◌≡◌, length, Some}
use Rattle.std.specs.Option.{option_copied}
use Rattle.field_list.specs.QuotedString.{meaning, meaning_rest}
use Rattle.request_fields.specs.Progress.{completes}
use Rattle.request_fields.proofs.relation_type.quoted_has_word.Given as goal

abbrev pub invariant-loop-byte : goal.invariant-loop-byte
invariant-loop-byte l =
    completes l.word (option_copied l.left) (meaning_rest l.bytes) ≡ completes l.word (Some l.word) (meaning l.text)

abbrev pub decreases-loop-byte : goal.decreases-loop-byte
decreases-loop-byte l = length (meaning_rest l.bytes)
