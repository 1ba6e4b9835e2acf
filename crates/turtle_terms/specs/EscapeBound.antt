-- A bound on the number of a UCHAR whose digits are being read.
use Rattle.std.specs.Prelude.{◌-◌, ◌^◌, ◌<◌, ◌≤◌}
use Rattle.turtle_terms.specs.declared.escapes.Escape.{Escape}
use Rattle.turtle_terms.specs.declared.escapes.Escape.TheVariants.{Outside, Opened, Number}

-- Each byte adds less than a factor of 64.
abbrev pub IsBounded : Escape → Type 0
IsBounded Outside = Unit {0}
IsBounded Opened = Unit {0}
IsBounded (Number more value) = (more ≤ 7) × (value < 64 ^ (7 - more))
