-- Which mode includes which.
use Rattle.std.specs.Prelude.{Bool, true, false}
use Rattle.pod_base.specs.declared.agent.Mode.{Mode}
use Rattle.pod_base.specs.declared.agent.Mode.TheVariants.{Read, Append, Write, Control}

-- Does the first mode include the second? `acl:Write` includes Append, and no other mode another.
abbrev pub includes : Mode → Mode → Bool
includes Read Read = true
includes Append Append = true
includes Write Append = true
includes Write Write = true
includes Control Control = true
includes _ _ = false
