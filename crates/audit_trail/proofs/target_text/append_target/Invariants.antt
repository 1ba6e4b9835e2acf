use Rattle.std.proofs.Common.{◌≡◌, ◌++◌, take}
use Rattle.audit_trail.specs.Lines.{target_word}
use Rattle.audit_trail.proofs.target_text.append_target.Given as goal

abbrev pub invariant-loop-byte : goal.invariant-loop-byte
invariant-loop-byte l = l.line.items ≡ l.fn.line.items ++ target_word (take l.byte-index l.target)
