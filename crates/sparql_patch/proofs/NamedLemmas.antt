-- The last namings of triples.
use Rattle.std.proofs.Common.{◌≡◌, inl, inr, ◌&&◌, ◌||◌, ℕ, Bool, true, false, not, List, [], ◌∷◌, ◌++◌, map, Option, Some, None, if◌then◌else◌, refl, sym, ap, ◌∙◌, subst, append-nil}
use Rattle.std.specs.Bool.{Decides}
use Rattle.std.specs.List.{AllByRecursion, Contains, IsDistinct, filter}
use Rattle.std.proofs.Math.Bool.{or-true}
use Rattle.std.proofs.lemmas.Bool.{and_parts, and_from, false≢true, not-true, not_from_false}
use Rattle.std.proofs.lemmas.List.Elements.{Contains-append_left, Contains-append_right, Contains-append_cases}
use Rattle.std.proofs.lemmas.Map.Keys.{IsDistinct-head, IsDistinct-tail, IsDistinct-push}
use Rattle.rdf_graph.proofs.Members.{contains_cases, contains_here, contains_there, contains_none, contains_filter}
use Rattle.graph_patch.specs.Patch.{IsBound}
use Rattle.graph_patch.specs.Pattern.{HasVariable}
use Rattle.graph_patch.specs.declared.patch.Patch.{Patch}
use Rattle.graph_patch.specs.declared.pattern.Pattern.{Pattern}
use Rattle.rdf_graph.specs.declared.triple.Triple.{Triple}
use Rattle.sparql_patch.specs.declared.named.Named.{Named}
use Rattle.sparql_patch.specs.Laws.{LastNamingDecides, DeletionsAreInGraph, EachIsListedOnce, WithoutRepeats, naming}
use Rattle.sparql_patch.specs.NamedUpdate.{triple_eq, has_triple, has_word, if_last, is_named, last_named, last_word, pattern_of, IsSpelledAt}
use Rattle.sparql_patch.proofs.TripleLemmas.{triple_eq_decides, triple_eq_laws, has_triple_decides}

has_word_decides : (insert : Bool) (x : Named) → Decides (has_word insert x) (x.insert ≡ insert)
has_word_decides true x = (λ e. e, λ e. e)
has_word_decides false x = (not-true x.insert, not_from_false x.insert)

-- what `if_last` lists
module _ (insert : Bool) (x : Named) (others : List Named) where
  listed_here : has_word insert x ≡ true → is_named others x.triple ≡ false → Contains (last_named insert (x ∷ others)) x.triple
  listed_here word free = Contains-append_right (last_named insert others) (if_last insert x others) x.triple
      (subst (λ (ts : List Triple). Contains ts x.triple) (sym (ap (λ b. if b then x.triple ∷ [] else []) (and_from _ _ word (not_from_false _ free))))
      (contains_here x.triple []))

  -- by the test
  if_last-cases : (P : List Triple → Type 0) → (has_word insert x ≡ true → is_named others x.triple ≡ false → P (x.triple ∷ [])) → P [] → P (if_last insert x others)
  if_last-cases P listed none = by_test (has_word insert x && not (is_named others x.triple)) refl where
    by_test : (b : Bool) → (has_word insert x && not (is_named others x.triple)) ≡ b → P (if b then x.triple ∷ [] else [])
    by_test true e = let parts = and_parts _ _ e in listed parts.0 (not-true _ parts.1)
    by_test false e = none

-- the last word of a triple
module _ (x : Named) (xs : List Named) (t : Triple) where
  word_later : is_named xs t ≡ true → last_word (x ∷ xs) t ≡ last_word xs t
  word_later e = ap (λ b. if b then last_word xs t else if triple_eq t x.triple then Some x.insert else None) e

  word_here : is_named xs t ≡ false → t ≡ x.triple → last_word (x ∷ xs) t ≡ Some x.insert
  word_here free same =
      ap (λ b. if b then last_word xs t else if triple_eq t x.triple then Some x.insert else None) free
      ∙ ap (λ b. if b then Some x.insert else None) ((triple_eq_decides t x.triple).1 same)

  -- by the tests
  word_cases : (P : Option Bool → Type 0) → (is_named xs t ≡ true → P (last_word xs t)) → (is_named xs t ≡ false → t ≡ x.triple → P (Some x.insert)) → P None
      → P (last_word (x ∷ xs) t)
  word_cases P later here none = by_test (is_named xs t) (triple_eq t x.triple) refl refl where
    by_test : (b c : Bool) → is_named xs t ≡ b → triple_eq t x.triple ≡ c → P (if b then last_word xs t else if c then Some x.insert else None)
    by_test true c e f = later e
    by_test false true e f = here e ((triple_eq_decides t x.triple).0 f)
    by_test false false e f = none

-- a triple with a last word is named
named_if_word : (named : List Named) (t : Triple) (insert : Bool) → last_word named t ≡ Some insert → is_named named t ≡ true
named_if_word [] t insert e = cc
named_if_word (x ∷ xs) t insert e = word_cases x xs t (λ o. o ≡ Some insert → (triple_eq t x.triple || is_named xs t) ≡ true)
    (λ named _. ap (λ b. triple_eq t x.triple || b) named ∙ or-true (triple_eq t x.triple))
    (λ _ same _. ap (λ b. b || is_named xs t) ((triple_eq_decides t x.triple).1 same)) (λ none. cc) e

single : (u t : Triple) → Contains (u ∷ []) t → u ≡ t
single u t h = elim (contains_cases u [] t h) [ inl e ↦ e | inr none ↦ absurd (contains_none t none) ]

-- a listed triple has that last word, and back
module _ (insert : Bool) (t : Triple) where
  word_of_listed : (named : List Named) → Contains (last_named insert named) t → last_word named t ≡ Some insert
  word_of_listed [] h = absurd (contains_none t h)
  word_of_listed (x ∷ xs) h = elim (Contains-append_cases (last_named insert xs) (if_last insert x xs) t h) [
    | inl before ↦ let word = word_of_listed xs before in word_later x xs t (named_if_word xs t insert word) ∙ word
    | inr here ↦ if_last-cases insert x xs (λ ts. Contains ts t → last_word (x ∷ xs) t ≡ Some insert) (λ word free h.
        let same = single x.triple t h in
        word_here x xs t (subst (λ (u : Triple). is_named xs u ≡ false) same free) (sym same) ∙ ap Some ((has_word_decides insert x).0 word)) (λ h. absurd (contains_none t h)) here
  ]

  listed_by_word : (named : List Named) → last_word named t ≡ Some insert → Contains (last_named insert named) t
  listed_by_word [] e = cc
  listed_by_word (x ∷ xs) e = word_cases x xs t (λ o. o ≡ Some insert → Contains (last_named insert (x ∷ xs)) t)
      (λ _ before. Contains-append_left (last_named insert xs) (if_last insert x xs) t (listed_by_word xs before))
      (λ free same here. let word : x.insert ≡ insert = cc in subst (λ (u : Triple). Contains (last_named insert (x ∷ xs)) u) (sym same)
      (listed_here insert x xs ((has_word_decides insert x).1 word) (subst (λ (u : Triple). is_named xs u ≡ false) same free))) (λ none. cc) e

pub last_naming_decides : LastNamingDecides
last_naming_decides named insert t = (word_of_listed insert t named, listed_by_word insert t named)

pub deletions_in_graph : DeletionsAreInGraph
deletions_in_graph g named t = (
  λ h. let parts = (contains_filter (has_triple g) (last_named false named) t).0 h in
      ((has_triple_decides g t).0 parts.1, word_of_listed false t named parts.0),
  λ h. (contains_filter (has_triple g) (last_named false named) t).1 (listed_by_word false t named h.1, (has_triple_decides g t).1 h.0),
)

once_nothing : IsDistinct triple_eq []
unfolding IsDistinct
once_nothing = tt

pub listed_once : EachIsListedOnce
listed_once [] insert = once_nothing
listed_once (x ∷ xs) insert = if_last-cases insert x xs (λ ts. IsDistinct triple_eq (last_named insert xs ++ ts)) (λ word free.
    IsDistinct-push triple_eq_laws (last_named insert xs) x.triple (listed_once xs insert) (absent free))
    (subst (IsDistinct triple_eq) (sym (append-nil (last_named insert xs))) (listed_once xs insert)) where
      absent : is_named xs x.triple ≡ false → has_triple (last_named insert xs) x.triple ≡ false
      absent free = by_test (has_triple (last_named insert xs) x.triple) refl where
        by_test : (b : Bool) → has_triple (last_named insert xs) x.triple ≡ b → b ≡ false
        by_test true e = absurd (false≢true (sym free ∙ named_if_word xs x.triple insert (word_of_listed insert x.triple xs ((has_triple_decides (last_named insert xs) x.triple).0 e))))
        by_test false e = refl

-- without repeats
named_so : (insert : Bool) (t : Triple) (named : List Named) → Contains (last_named insert named) t → Contains named (naming t insert)
named_so insert t [] h = absurd (contains_none t h)
named_so insert t (x ∷ xs) h = elim (Contains-append_cases (last_named insert xs) (if_last insert x xs) t h) [
  | inl before ↦ contains_there x xs (naming t insert) (named_so insert t xs before)
  | inr here ↦ if_last-cases insert x xs (λ ts. Contains ts t → Contains (x ∷ xs) (naming t insert)) (λ word free h.
      let same = single x.triple t h in let with_word = (has_word_decides insert x).0 word in let is : naming x.triple x.insert ≡ naming t insert = cc in
      subst (λ (y : Named). Contains (x ∷ xs) y) is (contains_here x xs)) (λ h. absurd (contains_none t h)) here
]

unnamed : (t : Triple) (xs : List Named) → AllByRecursion (λ (y : Named). triple_eq t y.triple ≡ false) xs → is_named xs t ≡ false
unnamed t [] h = refl
unnamed t (y ∷ ys) h = ap (λ b. b || is_named ys t) h.0 ∙ unnamed t ys h.1

listed_so : (insert : Bool) (t : Triple) (named : List Named) → IsDistinct (λ (x y : Named). triple_eq x.triple y.triple) named
    → Contains named (naming t insert) → Contains (last_named insert named) t
listed_so insert t [] distinct h = absurd (contains_none (naming t insert) h)
listed_so insert t (x ∷ xs) distinct h = elim (contains_cases x xs (naming t insert) h) [
  | inl same ↦ subst (λ (u : Triple). Contains (last_named insert (x ∷ xs)) u) (ap (λ (y : Named). y.triple) same)
      (listed_here insert x xs ((has_word_decides insert x).1 (ap (λ (y : Named). y.insert) same))
      (unnamed x.triple xs (IsDistinct-head (λ (a b : Named). triple_eq a.triple b.triple) x xs distinct)))
  | inr there ↦ Contains-append_left (last_named insert xs) (if_last insert x xs) t
      (listed_so insert t xs (IsDistinct-tail (λ (a b : Named). triple_eq a.triple b.triple) x xs distinct) there)
]

pub without_repeats : WithoutRepeats
without_repeats named insert t distinct = (named_so insert t named, listed_so insert t named distinct)

-- the patterns of triples have no variables
no_variable : (ts : List Triple) (name : List ℕ) (pattern : Pattern) → Contains (map pattern_of ts) pattern → HasVariable pattern name → ⊥
no_variable [] name pattern h v = contains_none pattern h
no_variable (t ∷ ts) name pattern h v = elim (contains_cases (pattern_of t) (map pattern_of ts) pattern h) [
  | inl same ↦ fixed t name (subst (λ (p : Pattern). HasVariable p name) (sym same) v)
  | inr there ↦ no_variable ts name pattern there v
] where
  fixed : (t : Triple) (name : List ℕ) → HasVariable (pattern_of t) name → ⊥
  fixed t name v = elim v [ inl s ↦ cc | inr (inl p) ↦ cc | inr (inr o) ↦ cc ]

pub spelled_bound : (g : List Triple) (named : List Named) (patch : Patch) → IsSpelledAt g named patch → IsBound patch
spelled_bound g named patch h name v = elim v [
  | inl (pattern, has, variable) ↦ absurd (no_variable (filter (has_triple g) (last_named false named)) name pattern (subst (λ (ps : List Pattern). Contains ps pattern) h.deletions has) variable)
  | inr (pattern, has, variable) ↦ absurd (no_variable (last_named true named) name pattern (subst (λ (ps : List Pattern). Contains ps pattern) h.insertions has) variable)
]
