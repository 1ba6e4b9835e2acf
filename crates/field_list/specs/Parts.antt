-- The parts of a text between the separators that stand outside of quotes.
use Rattle.std.specs.Prelude.{ℕ, List, []}
use Rattle.std.specs.Option.{option_map_or}
use Rattle.field_list.specs.Places.{parts_from}
use Rattle.field_list.specs.declared.quoting.Quoting.{Quoting}
use Rattle.field_list.specs.declared.quoting.Place.TheVariants.{Outside}
use Rattle.field_list.specs.declared.separated_parts.Parts.{Parts}

-- the parts of a text, which begins outside of quotes
abbrev pub parts : Quoting → ℕ → List ℕ → List (List ℕ)
parts quoting separator text = parts_from quoting separator Outside text

-- the parts that are still to come
abbrev pub parts_rest : Parts → List (List ℕ)
parts_rest p = option_map_or (λ text. parts p.quoting p.separator text.now) p.rest []
