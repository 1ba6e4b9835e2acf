-- Objects in memory, as contracts see them.
use Rattle.std.specs.Prelude.{◌≡◌, ℕ, List, Contains, Result, OnOk, OnErr}
use Rattle.pod_io.specs.Counts.{next_count}

-- The calls of an object in memory: how many were made, the numbers of those that are to fail, from
-- 1, and how many failed.
pub record Script : Type 0 where
  pub made : ℕ
  pub failing : List ℕ
  pub faults : ℕ

-- the number of the next call; it stops at the last number that a count can hold
abbrev pub next_call : Script → ℕ
next_call script = next_count script.made

-- the next call is to fail
abbrev pub NextFails : Script → Type 0
NextFails script = Contains script.failing (next_call script)

-- A call was the next one: it has the next number, the numbers of those that are to fail stay, and
-- it counts as a fault exactly where it failed.
pub record IsNextCall {T E : Type 0} (result : Result T E) (old new : Script) : Type 0 where
  pub made : new.made ≡ next_call old
  pub failing : new.failing ≡ old.failing
  pub no_fault : OnOk result (new.faults ≡ old.faults)
  pub fault : OnErr result (new.faults ≡ next_count old.faults)

-- a source in memory: the bytes that are left, at most how many a read gives, how many reads
-- succeeded and how many of these found the end, and its calls
pub record SourceState : Type 0 where
  pub rest : List ℕ
  pub piece : ℕ
  pub reads : ℕ
  pub ends : ℕ
  pub calls : Script

-- a sink in memory: the bytes that it has taken, at most how many a write takes, and its calls
pub record SinkState : Type 0 where
  pub taken : List ℕ
  pub piece : ℕ
  pub calls : Script
