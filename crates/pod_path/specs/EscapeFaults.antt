-- Why the escapes of a text can't be read.
use Rattle.std.specs.Prelude.{◌≡◌, ℕ, List, Option, None}
use Rattle.pod_path.specs.declared.fault.PathFault.{PathFault}
use Rattle.pod_path.specs.declared.fault.PathFault.TheVariants.{BadEscape, NotNormal, Reserved}
use Rattle.pod_path.specs.declared.fault.PathFault.TheVariants.{TooLong, TooDeep, NoMemory}

-- An escape is malformed, or memory ran out.
abbrev pub FailsEscape : PathFault → Option (List ℕ) → Type 0
FailsEscape BadEscape read = read ≡ None
FailsEscape NoMemory read = Unit {0}
FailsEscape NotNormal read = ⊥
FailsEscape Reserved read = ⊥
FailsEscape TooLong read = ⊥
FailsEscape TooDeep read = ⊥
