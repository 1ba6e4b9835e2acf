-- An entry and the same without the spare room of its lists.
use Rattle.std.proofs.Common.{◌≡◌, ℕ, List, length, Option, Some, None, IfSome, refl}
use Rattle.std.specs.Option.{option_map, option_map_or, option_to_list}
use Rattle.pod_command.specs.Bare.{bare_entry}
use Rattle.pod_command.specs.declared.entry.Entry.{Entry}
use Rattle.pod_core.specs.History.{seconds_of}
use Rattle.pod_rows.specs.Apply.{Applies, applied}
use Rattle.pod_rows.specs.Pod.{Pod}

pub bare_applies : (pod : Pod) (next : ℕ) (o : Option Entry) → IfSome o (Applies pod next) → IfSome (option_map bare_entry o) (Applies pod next)
bare_applies pod next None h = tt
bare_applies pod next (Some entry) h = record { number = h.number; numbered = h.numbered; rows = h.rows; edits = h.edits; well_formed = h.well_formed }

pub bare_applied : (pod : Pod) (o : Option Entry) → option_map_or (applied pod) o pod ≡ option_map_or (applied pod) (option_map bare_entry o) pod
bare_applied pod None = refl
bare_applied pod (Some entry) = refl

pub bare_count : (o : Option Entry) → length (option_to_list o) ≡ length (option_to_list (option_map bare_entry o))
bare_count None = refl
bare_count (Some entry) = refl

pub bare_seconds : (o : Option Entry) (last : ℕ) → option_map_or seconds_of o last ≡ option_map_or seconds_of (option_map bare_entry o) last
bare_seconds None last = refl
bare_seconds (Some entry) last = refl
