-- Two disks, by their sides.
use Rattle.journal_log.specs.declared.fault.Side.{Side}
use Rattle.journal_log.specs.declared.fault.Side.TheVariants.{First, Second}

-- of two, the one on this side
abbrev pub active_of : {X : Type 0} → Side → X → X → X
active_of First first second = first
active_of Second first second = second

-- and the one beside it
abbrev pub other_of : {X : Type 0} → Side → X → X → X
other_of First first second = second
other_of Second first second = first

-- the side that this one isn't
abbrev pub opposite_of : Side → Side
opposite_of First = Second
opposite_of Second = First
