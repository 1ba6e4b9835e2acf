-- The nodes of a document: those that it names, and those that it leaves unnamed.
use Rattle.std.specs.Prelude.{◌≡◌, ◌≤◌, ◌<◌, ◌++◌, ◌||◌, ℕ, codes, decimal, Bool, List, [], ◌∷◌}
use Rattle.std.specs.Prelude.{true, false, if◌then◌else◌, take, drop}
use Rattle.std.specs.List.{list_any}
use Rattle.std.specs.Str.{bytes_eq}
use Rattle.iri_ref.specs.Characters.{AllAllowed}
use Rattle.iri_ref.specs.Written.{IsIriOfReference}
use Rattle.turtle_lex.specs.Laws.{IsTextOf}
use Rattle.turtle_lex.specs.Terminals.{label}
use Rattle.rdf_graph.specs.declared.term.Term.{Term}
use Rattle.rdf_graph.specs.declared.term.Term.TheVariants.{Iri, Blank, Literal, Tagged}
use Rattle.serde_json.specs.Data.{Data, null, boolean, number, string, array, object}
use Rattle.serde_json.specs.Data.{Items, no_items, item, Members, no_members, member}

-- the text is `_:` and a label of Turtle
abbrev pub IsLabelled : List ℕ → List ℕ → Type 0
IsLabelled text l = (text ≡ codes "_:" ++ l) × IsTextOf label l

-- the text is a reference, and the IRI is what it stands for
pub record IsReference (base text iri : List ℕ) : Type 0 where
  pub no_label : (l : List ℕ) → IsLabelled text l → ⊥
  pub allowed : AllAllowed text
  pub stands_for : IsIriOfReference base text iri

-- the node that an `@id` or a `@type` names
abbrev pub IsNamed : List ℕ → List ℕ → Term → Type 0
IsNamed base text (Iri iri) = IsReference base text iri
IsNamed base text (Blank l) = IsLabelled text l
IsNamed base text (Literal lexical datatype) = ⊥
IsNamed base text (Tagged lexical lang) = ⊥

-- what the text has after `_:`, if it begins so
abbrev pub labels_of_text : List ℕ → List (List ℕ)
labels_of_text text = if bytes_eq (take 2 text) (codes "_:") then drop 2 text ∷ [] else []

-- a key whose texts name nodes
abbrev pub names_nodes : List ℕ → Bool
names_nodes key = bytes_eq key (codes "@id") || bytes_eq key (codes "@type")

-- The labels of a document: what its `@id`s and `@type`s have after `_:`. Some may be no labels of
-- Turtle, and no unnamed node could get such a one.
abbrev mutual
  -- `named` tells whether the strings here name nodes
  pub labels_in : Bool → Data → List (List ℕ)
  labels_in named null = []
  labels_in named (boolean b) = []
  labels_in named (number n) = []
  labels_in named (string text) = if named then labels_of_text text else []
  labels_in named (array ds) = labels_in_items named ds
  labels_in named (object ms) = labels_in_members ms

  pub labels_in_items : Bool → Items → List (List ℕ)
  labels_in_items named no_items = []
  labels_in_items named (item d ds) = labels_in named d ++ labels_in_items named ds

  pub labels_in_members : Members → List (List ℕ)
  labels_in_members no_members = []
  labels_in_members (member key d ms) = labels_in (names_nodes key) d ++ labels_in_members ms

abbrev pub has_label : List (List ℕ) → List ℕ → Bool
has_label labels l = list_any (λ m. bytes_eq m l) labels

-- `g0`, `g1` and so on
abbrev pub unnamed_label : ℕ → List ℕ
unnamed_label n = codes "g" ++ decimal n

-- n is the first number from `from` on whose label isn't taken
pub record IsNextFree (taken : List ℕ → Bool) (from n : ℕ) : Type 0 where
  pub least : from ≤ n
  pub free : taken (unnamed_label n) ≡ false
  pub before : (m : ℕ) → from ≤ m → m < n → taken (unnamed_label m) ≡ true
