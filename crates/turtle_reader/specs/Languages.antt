-- What a language keeps of the triples of a text.
use Rattle.std.specs.Prelude.{ℕ, Bool, true, false, List, [], ◌∷◌, ◌++◌, Option, Some, None}
use Rattle.turtle_grammar.specs.declared.production.Production.{Production}
use Rattle.turtle_grammar.specs.declared.symbol.Start.{Start}
use Rattle.turtle_reader.specs.declared.lexeme.Lexeme.{Lexeme}
use Rattle.turtle_reader.specs.declared.meaning.Meaning.{Meaning}
use Rattle.turtle_reader.specs.declared.referent.ResolvedTriple.{ResolvedTriple}
use Rattle.turtle_reader.specs.Handed.{AreResolved}
use Rattle.turtle_reader.specs.Texts.{AreComplete, IsText}

-- What is kept is that of one triple more.
abbrev pub KeepsOn : {T : Type 0} → (List ℕ → List ResolvedTriple → T → Type 0) → List ℕ
    → ResolvedTriple → T → T → Type 0
KeepsOn IsKept bytes triple old new = (handed : List ResolvedTriple) → IsKept bytes handed old
    → IsKept bytes (handed ++ triple ∷ []) new

-- It is still that of the same triples.
abbrev pub StaysKept : {T : Type 0} → (List ℕ → List ResolvedTriple → T → Type 0) → T → T → Type 0
StaysKept IsKept old new =
    (bytes : List ℕ) (handed : List ResolvedTriple) → IsKept bytes handed old → IsKept bytes handed new

abbrev pub with_waiting : List ResolvedTriple → Option ResolvedTriple → List ResolvedTriple
with_waiting handed None = handed
with_waiting handed (Some triple) = handed ++ triple ∷ []

-- it is so, or not
abbrev pub IsJudged : Bool → Type 0 → Type 0
IsJudged true IsLarge = IsLarge
IsJudged false IsLarge = IsLarge → ⊥

-- Whether the triples that are complete with the lexemes so far are too large, where these are those
-- that were kept and the one that waits.
abbrev pub Judges : {T : Type 0} → Start → (List ℕ → List ResolvedTriple → T → Type 0)
    → (List ℕ → List ℕ → List Lexeme → Type 0) → List ℕ → Option ResolvedTriple → T → Bool → Type 0
Judges start IsKept IsLarge bytes waiting kept large =
    (base : List ℕ) (lexemes : List Lexeme) (handed : List ResolvedTriple) → IsKept bytes handed kept
    → AreComplete start base bytes lexemes (with_waiting handed waiting)
    → IsJudged large (IsLarge base bytes lexemes)

-- The bytes are a text under a base, and this is kept of its triples.
pub record KeepsText {T : Type 0} (IsKept : List ℕ → List ResolvedTriple → T → Type 0)
    (start : Start) (base bytes : List ℕ) (kept : T) : Type 0 where
  pub productions : List Production
  pub meanings : List Meaning
  pub handed : List ResolvedTriple
  pub text : IsText start base bytes productions meanings
  pub resolved : AreResolved meanings productions handed
  pub is_kept : IsKept bytes handed kept
