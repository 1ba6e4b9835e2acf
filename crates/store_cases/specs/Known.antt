-- What is known of a pair between two calls.
use Rattle.std.specs.Prelude.{◌⊎◌, ℕ, List}
use Rattle.pod_disk.specs.NotedCalls.{DiskState, MayLeave}
use Rattle.journal_pair.specs.PairState.{PairState}
use Rattle.journal_pair.specs.PairJournal.{IsPairClean, IsPairInDoubt}

-- it is clean with some records, or one of its gates is in doubt
abbrev pub IsKnown : DiskState → DiskState → PairState → Type 0
IsKnown first second pair =
    ((bodies : List (List ℕ)) × IsPairClean MayLeave first second pair bodies)
    ⊎ ((bodies : List (List ℕ)) × (body : List ℕ)
    × IsPairInDoubt MayLeave first second pair bodies body)
