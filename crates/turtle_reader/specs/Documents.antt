-- The labels of a document by its bytes.
use Rattle.std.specs.Prelude.{ℕ, List, IfSome}
use Rattle.std.specs.FinSet as set
use Rattle.std.specs.Ordering.{nat_cmp}
use Rattle.turtle_lex.specs.declared.token.Token.{Token}
use Rattle.turtle_reader.specs.declared.lazy_labels.LazyLabels.{LazyLabels}
use Rattle.turtle_reader.specs.TokensBefore.{AreTokensBefore}
use Rattle.turtle_reader.specs.Unnamed.{HasNumbersOf, IsUnnamed, written_labels}

-- the label of the unnamed node of this number in a document of these bytes
abbrev pub IsLabelOf : List ℕ → ℕ → List ℕ → Type 0
IsLabelOf bytes number label = (tokens : List Token) × AreTokensBefore bytes tokens
    × IsUnnamed (written_labels bytes tokens) number label

-- these are labels of the bytes
abbrev pub AreLabelsOf : List ℕ → set.FinSet nat_cmp → Type 0
AreLabelsOf bytes labels = (tokens : List Token) × AreTokensBefore bytes tokens
    × HasNumbersOf (set.contains labels) (written_labels bytes tokens)

-- where the labels are made, they are those of the bytes
abbrev pub AreLazyLabelsOf : List ℕ → LazyLabels → Type 0
AreLazyLabelsOf bytes labels = IfSome labels.made (AreLabelsOf bytes)
