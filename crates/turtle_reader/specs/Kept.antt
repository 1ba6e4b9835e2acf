-- What a reader keeps of what its lexemes mean: of each that is kept its index.
use Rattle.std.specs.Prelude.{◌≡◌, ◌⊎◌, ℕ, Bool, true, false, List, [], ◌∷◌, ◌++◌, Some}
use Rattle.std.specs.Prelude.{slice_get}
use Rattle.std.specs.List.{All}
use Rattle.turtle_grammar.specs.declared.machine.Machine.{Machine}
use Rattle.turtle_grammar.specs.Readings.{Avoids}
use Rattle.turtle_reader.specs.declared.meaning.Meaning.{Meaning}
use Rattle.turtle_reader.specs.declared.meaning.Meaning.TheVariants as meaning_of
use Rattle.turtle_reader.specs.declared.kept_meanings.Kept.{Kept}
use Rattle.turtle_reader.specs.declared.kept_meanings.KeptMeanings.{KeptMeanings}

-- all that is kept
abbrev pub entries : KeptMeanings → List Kept
entries kept = kept.list.items

-- It is what the lexeme of its index means, where all lexemes mean these.
abbrev pub IsKept : List Meaning → Kept → Type 0
IsKept all kept = slice_get all kept.index ≡ Some kept.meaning

abbrev pub AreKept : List Meaning → KeptMeanings → Type 0
AreKept all kept = All (IsKept all) (entries kept)

-- Whatever the lexemes mean, this is what the one of this index means, if these are kept of them.
abbrev pub FindsIn : List Kept → ℕ → Meaning → Type 0
FindsIn list index meaning =
    (all : List Meaning) → All (IsKept all) list → slice_get all index ≡ Some meaning

-- one of them is of the lexeme of this index
abbrev pub Has : ℕ → List Kept → Type 0
Has index [] = ⊥
Has index (kept ∷ more) = (kept.index ≡ index) ⊎ Has index more

-- whether a production can refer to a lexeme of this meaning
abbrev pub is_referred_to : Meaning → Bool
is_referred_to meaning_of.Nothing = false
is_referred_to (meaning_of.Name prefix) = false
is_referred_to meaning = true

-- with this meaning of the lexeme of this index, if it is kept
abbrev pub with_meaning : Bool → ℕ → Meaning → List Kept → List Kept
with_meaning true index meaning list = list ++ record { index = index; meaning = meaning } ∷ []
with_meaning false index meaning list = list

-- What is dropped, the machine doesn't name, so that no later production does.
abbrev pub DropsUnnamed : Machine → KeptMeanings → KeptMeanings → Type 0
DropsUnnamed machine old new = (index : ℕ) → Has index (entries old)
    → Has index (entries new) ⊎ Avoids index machine

-- They begin with the new ones, and the machine names none of the others.
abbrev pub ShortensTo : Machine → List Kept → List Kept → Type 0
ShortensTo machine old new = (dropped : List Kept) × (old ≡ new ++ dropped)
    × All (λ kept. Avoids kept.index machine) dropped
