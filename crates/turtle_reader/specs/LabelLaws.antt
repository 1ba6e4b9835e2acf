-- What holds of all labels. Each law is the contract of a function of `laws`.
use Rattle.std.specs.Prelude.{◌≡◌, ℕ, false, List}
use Rattle.std.specs.List.{list_any}
use Rattle.std.specs.Str.{bytes_eq}
use Rattle.turtle_lex.specs.declared.token.Token.{Token}
use Rattle.turtle_reader.specs.TokensBefore.{AreTokensBefore}
use Rattle.turtle_reader.specs.Unnamed.{IsUnnamed}

-- Bytes have at most one list of tokens up to their end or the first text without a token.
abbrev pub HasOneListBefore : Type 0
HasOneListBefore = (bytes : List ℕ) (tokens others : List Token) → AreTokensBefore bytes tokens
    → AreTokensBefore bytes others → tokens ≡ others

-- An unnamed node gets at most one label.
abbrev pub HasOneLabel : Type 0
HasOneLabel = (written : List (List ℕ)) (k : ℕ) (a b : List ℕ) → IsUnnamed written k a
    → IsUnnamed written k b → a ≡ b

-- Unnamed nodes with one label are one.
abbrev pub LabelsDiffer : Type 0
LabelsDiffer = (written : List (List ℕ)) (j k : ℕ) (label : List ℕ) → IsUnnamed written j label
    → IsUnnamed written k label → j ≡ k

-- The label of an unnamed node isn't among those that are written.
abbrev pub LabelIsNew : Type 0
LabelIsNew = (written : List (List ℕ)) (k : ℕ) (label : List ℕ) → IsUnnamed written k label
    → list_any (bytes_eq label) written ≡ false
