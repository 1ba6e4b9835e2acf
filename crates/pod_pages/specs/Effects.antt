-- What entries change, as feeds report it, and which of it a version keeps.
use Rattle.std.specs.Prelude.{ℕ, ◌-◌, Bool, true, false, List, [], ◌∷◌, ◌++◌, Option, Some, None}
use Rattle.std.specs.Prelude.{filter, nat_le, if◌then◌else◌}
use Rattle.pod_command.specs.declared.edit.Edit.{Edit}
use Rattle.pod_command.specs.declared.edit.Edit.TheVariants as edits
use Rattle.pod_command.specs.declared.entry.Entry.{Entry}
use Rattle.pod_command.specs.declared.row.Row.{Row}
use Rattle.pod_rows.specs.Apply.{edited_if, applied}
use Rattle.pod_rows.specs.Pod.{Pod, is_row}
use Rattle.pod_pages.specs.declared.entry_effects.Effect.{Effect}
use Rattle.pod_pages.specs.declared.entry_effects.EffectKind.{EffectKind}
use Rattle.pod_pages.specs.declared.entry_effects.EffectKind.TheVariants.{Create, Update, Delete}
use Rattle.pod_pages.specs.declared.limits.TheConstants.{EFFECTS_ENTRIES_LIMIT}

abbrev pub effect_on : ℕ → List ℕ → EffectKind → Effect
effect_on seq path kind = record { seq = seq; path = path; kind = kind }

-- A Put creates where there is no row yet.
abbrev pub put_kind : Bool → EffectKind
put_kind true = Update
put_kind false = Create

-- What an edit changes, by the rows before it.
abbrev pub effect_of : ℕ → List Row → Edit → Effect
effect_of seq rows (edits.Put row) = effect_on seq row.path (put_kind (is_row rows row.path))
effect_of seq rows (edits.Change path change modified) = effect_on seq path Update
effect_of seq rows (edits.Touch path modified) = effect_on seq path Update
effect_of seq rows (edits.Remove path) = effect_on seq path Delete

abbrev pub effects_if : ℕ → Option (List Row) → Edit → List Effect
effects_if seq None edit = []
effects_if seq (Some rows) edit = effect_of seq rows edit ∷ []

-- What edits change, one effect for each edit, in their order.
abbrev pub effects_of : ℕ → Option (List Row) → List Edit → List Effect
effects_of seq rows [] = []
effects_of seq rows (edit ∷ more) =
    effects_if seq rows edit ++ effects_of seq (edited_if rows edit) more

-- What an entry changes.
abbrev pub entry_effects : Pod → Entry → List Effect
entry_effects pod entry = effects_of entry.seq (Some pod.rows) entry.edits.items

-- What the entries of a history change.
abbrev pub history_effects : Pod → List Entry → List Effect
history_effects pod [] = []
history_effects pod (entry ∷ more) =
    entry_effects pod entry ++ history_effects (applied pod entry) more

-- The greater of the number of the oldest entry whose effects were kept, and that of the 256th
-- entry before the next one.
abbrev pub oldest_after : ℕ → ℕ → ℕ
oldest_after oldest next = if nat_le oldest (next - EFFECTS_ENTRIES_LIMIT)
    then next - EFFECTS_ENTRIES_LIMIT else oldest

-- The effects of the entries from a number on.
abbrev pub kept_effects : ℕ → List Effect → List Effect
kept_effects oldest effects = filter (λ effect. nat_le oldest effect.seq) effects
