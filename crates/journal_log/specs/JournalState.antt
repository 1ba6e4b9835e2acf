use Rattle.std.specs.Prelude.{ℕ, Bool}

-- A journal as contracts see it: the offset of its last gate, whether that gate is in doubt, its
-- format and its epoch.
pub record JournalState : Type 0 where
  pub end : ℕ
  pub doubt : Bool
  pub format : ℕ
  pub epoch : ℕ
