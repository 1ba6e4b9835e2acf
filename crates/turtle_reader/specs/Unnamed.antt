-- The labels that the unnamed nodes of a document get: the k-th, from 0, in the order of tokens
-- gets the k-th of `g0`, `g1`, .. that is no label of the document.
use Rattle.std.specs.Prelude.{◌≡◌, ◌<◌, ◌^◌, ℕ, zero, suc, codes, decimal, Bool, true, not, List}
use Rattle.std.specs.Prelude.{[], ◌∷◌, ◌++◌, if◌then◌else◌}
use Rattle.std.specs.List.{list_any}
use Rattle.std.specs.Str.{bytes_eq}
use Rattle.turtle_lex.specs.declared.token.Token.{Token}
use Rattle.turtle_lex.specs.declared.token.TokenKind.{TokenKind}
use Rattle.turtle_lex.specs.declared.token.TokenKind.TheVariants.{BlankLabel}
use Rattle.turtle_lex.specs.Laws.{text_of}
use Rattle.turtle_terms.specs.Values.{label_value}
use Rattle.turtle_reader.specs.TokensBefore.{AreTokensBefore}

-- the label that a token of this kind and text writes, if it writes one
abbrev pub label_of : TokenKind → List ℕ → List (List ℕ)
label_of BlankLabel text = label_value text ∷ []
label_of kind text = []

-- the labels that tokens of the bytes write
abbrev pub written_labels : List ℕ → List Token → List (List ℕ)
written_labels bytes [] = []
written_labels bytes (token ∷ tokens) =
    label_of token.kind (text_of bytes token) ++ written_labels bytes tokens

-- `g` and the number n
abbrev pub generated : ℕ → List ℕ
generated n = codes "g" ++ decimal n

-- whether n is the number of none of these labels
abbrev pub is_free : List (List ℕ) → ℕ → Bool
is_free written n = not (list_any (bytes_eq (generated n)) written)

-- how many numbers below n are free
abbrev pub free_below : List (List ℕ) → ℕ → ℕ
free_below written zero = 0
free_below written (suc n) =
    if is_free written n then suc (free_below written n) else free_below written n

-- The label of the unnamed node k: its number is free, and k numbers below it are. Numbers are
-- below 2 ^ 64.
pub record IsUnnamed (written : List (List ℕ)) (k : ℕ) (label : List ℕ) : Type 0 where
  pub number : ℕ
  pub small : number < 2 ^ 64
  pub label_is : label ≡ generated number
  pub free : is_free written number ≡ true
  pub before : free_below written number ≡ k

-- A set of numbers has those below 2 ^ 64 whose labels are among these.
abbrev pub HasNumbersOf : (ℕ → Bool) → List (List ℕ) → Type 0
HasNumbersOf has written = (n : ℕ) → n < 2 ^ 64 → has n ≡ not (is_free written n)

-- A set of numbers has those of the labels that a document writes.
abbrev pub HasNumbersIn : (ℕ → Bool) → List ℕ → Type 0
HasNumbersIn has bytes = (tokens : List Token) → AreTokensBefore bytes tokens
    → HasNumbersOf has (written_labels bytes tokens)

-- The label of the unnamed node k in a document whose labels have these numbers.
abbrev pub IsUnnamedBeside : (ℕ → Bool) → ℕ → List ℕ → Type 0
IsUnnamedBeside has k label = (written : List (List ℕ)) → HasNumbersOf has written
    → IsUnnamed written k label
