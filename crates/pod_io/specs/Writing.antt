-- What a sink has after a text was written to it.
use Rattle.std.specs.Prelude.{◌≡◌, ◌⊎◌, ◌<◌, ℕ, List, ◌++◌, length, take, codes, decimal}
use Rattle.std.specs.Prelude.{Option, Result, OnOk, OnErr}
use Rattle.std.specs.Option.{option_map}
use Rattle.pod_base.specs.Counts.{CountIncreased}

-- a sink has these bytes too, after those that it had
abbrev pub ExtendsBy : List ℕ → Option (List ℕ) → Option (List ℕ) → Type 0
ExtendsBy bytes old new = new ≡ option_map (λ taken. taken ++ bytes) old

-- a sink has a prefix of the text too, which isn't all of it
abbrev pub ExtendsByPart : List ℕ → Option (List ℕ) → Option (List ℕ) → Type 0
ExtendsByPart text old new =
    (count : ℕ) × (count < length text) × ExtendsBy (take count text) old new

-- a sink has the text too, or not all of it where a write failed
pub record Writes {T E : Type 0} (result : Result T E) (text : List ℕ) (old new : Option (List ℕ))
    : Type 0 where
  pub whole : OnOk result (ExtendsBy text old new)
  pub part : OnErr result (ExtendsByPart text old new)

-- the sink has a part of the line too, and its count increased
abbrev pub AddsPart : List ℕ → Option (List ℕ) → Option (List ℕ) → ℕ → ℕ → Type 0
AddsPart line old new before after = CountIncreased before after × ExtendsByPart line old new

-- the sink has the line too, or a part of it where its count increased
abbrev pub AddsOrPart : List ℕ → Option (List ℕ) → Option (List ℕ) → ℕ → ℕ → Type 0
AddsOrPart line old new before after =
    ExtendsBy line old new ⊎ AddsPart line old new before after

-- a text, a number and LF
abbrev pub number_line : List ℕ → ℕ → List ℕ
number_line text number = text ++ decimal number ++ codes "\n"
