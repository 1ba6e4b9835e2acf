-- The texts that share their memory.
use Rattle.std.specs.Prelude.{ℕ, List}
use Rattle.std.specs.String.{string_bytes}
use Rattle.pod_base.specs.declared.text.Shared.{Shared}
use Rattle.pod_base.specs.declared.text.Shared.TheVariants.{Short, Long}

-- The bytes of a text, by what its copies share.
abbrev pub shared_bytes : Shared → List ℕ
shared_bytes (Short text) = text.bytes
shared_bytes (Long text) = string_bytes text
