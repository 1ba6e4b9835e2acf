-- The names of the two sides.
use Rattle.std.specs.Prelude.{ℕ, List, codes}
use Rattle.journal_log.specs.declared.fault.Side.{Side}
use Rattle.journal_log.specs.declared.fault.Side.TheVariants.{First, Second}

-- what a side prints as
abbrev pub side_text : Side → List ℕ
side_text First = codes "first"
side_text Second = codes "second"
