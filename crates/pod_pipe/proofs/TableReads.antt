-- The reading of a token table.
use Rattle.std.proofs.Common.{List, ℕ, [], Option, Some, None, refl}
use Rattle.pod_pipe.specs.Streams.{Reads}

-- before any read
pub nothing_read : (rest : Option (List ℕ)) → Reads [] rest rest
nothing_read None = refl
nothing_read (Some bytes) = refl
