use Rattle.std.proofs.Common.{take}
use Rattle.http_head.specs.HeadScan.{HasScanned}
use Rattle.message_cases.proofs.head_ends.byte_by_byte.Given as goal

-- the search has scanned the bytes so far
abbrev pub invariant-loop-i : goal.invariant-loop-i
invariant-loop-i l = HasScanned l.search (take l.i l.text)
