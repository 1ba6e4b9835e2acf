-- What a link has gone through by calls of a wire over it.
use Rattle.std.specs.Prelude.{◌≡◌, ◌≤◌, ℕ, List, ◌++◌, Option}
use Rattle.std.specs.Option.{option_map}
use Rattle.pod_io.specs.declared.link.LinkCounts.{LinkCounts}

-- Bytes were read of it and others were sent, where it shows them, and no count of its faults or
-- ends fell.
pub record PassesLink (old_rest new_rest old_sent new_sent : Option (List ℕ))
    (old new : LinkCounts) : Type 0 where
  pub read : List ℕ
  pub wrote : List ℕ
  pub reads : old_rest ≡ option_map (λ rest. read ++ rest) new_rest
  pub writes : new_sent ≡ option_map (λ sent. sent ++ wrote) old_sent
  pub read_faults : old.read_faults ≤ new.read_faults
  pub write_faults : old.write_faults ≤ new.write_faults
  pub ends : old.ends ≤ new.ends
