-- The shortest ending of each goal, and that a language allows it.
use Rattle.std.proofs.Common.{◌≡◌, ℕ, List, [], ◌∷◌, Bool, true, false, cond, nat_lt, None, inl, refl, ap}
use Rattle.turtle_lex.specs.declared.token.TokenKind.TheVariants as kind
use Rattle.turtle_grammar.specs.declared.symbol.Start.{Start}
use Rattle.turtle_grammar.specs.declared.symbol.Start.TheVariants as start_of
use Rattle.turtle_grammar.specs.declared.symbol.Symbol.{Symbol}
use Rattle.turtle_grammar.specs.declared.symbol.Symbol.TheVariants.{Token, Data}
use Rattle.turtle_grammar.specs.declared.goal.Closer.{Closer}
use Rattle.turtle_grammar.specs.declared.goal.Closer.TheVariants as closer
use Rattle.turtle_grammar.specs.declared.goal.CollectionUse.TheVariants as collection_use
use Rattle.turtle_grammar.specs.declared.goal.Goal.{Goal}
use Rattle.turtle_grammar.specs.declared.goal.Goal.TheVariants as goal
use Rattle.turtle_grammar.specs.declared.goal.Rest.{Rest}
use Rattle.turtle_grammar.specs.declared.goal.Rest.TheVariants as rest_of
use Rattle.turtle_grammar.specs.Trees.{iri_ref}
use Rattle.turtle_grammar.specs.Trees.{a_word}
use Rattle.turtle_grammar.specs.Trees.{anon}
use Rattle.turtle_grammar.specs.Trees.{none}
use Rattle.turtle_grammar.specs.Trees.{PredicateObjectList, predicates, end}
use Rattle.turtle_grammar.specs.Trees.{void, last}
use Rattle.turtle_grammar.specs.Trees.{no_operation}
use Rattle.turtle_grammar.specs.Productions.{Point}
use Rattle.turtle_grammar.specs.Derivations.{AreAllowed}
use Rattle.turtle_grammar.proofs.Completions.{plain, Closing, close_symbols, Completion}
use Rattle.turtle_grammar.proofs.Completions.{dot_symbols, completion_symbols, completion_end}
use Rattle.turtle_grammar.proofs.Completions.{RestTree, Reads}

unfoldable pub shortest_closing : (c : Closer) → Closing c
shortest_closing closer.Statement = tt
shortest_closing closer.Subject = tt
shortest_closing (closer.Object s p o) = tt
shortest_closing (closer.Formula u) = last

abbrev pub shortest_list : PredicateObjectList
shortest_list = predicates a_word anon none end

unfoldable pub shortest : (g : Goal) → Completion g
shortest (goal.One s p) = anon
shortest (goal.Suffix s p x) = plain
shortest (goal.Datatype s p x) = iri_ref
shortest (goal.After s p c) = (none, end, shortest_closing c)
shortest (goal.Again s c) = (inl end, shortest_closing c)
shortest (goal.Predicates s c) = (shortest_list, shortest_closing c)
shortest (goal.Maybe s c) = (None, shortest_closing c)
shortest (goal.Formula u) = void
shortest (goal.Collection (collection_use.Subject c)) = (none, shortest_list, shortest_closing c)
shortest (goal.Collection (collection_use.Object s p)) = none
shortest (goal.Elements c u) = none
shortest (goal.PrefixName b) = tt
shortest (goal.PrefixIri b i) = tt
shortest (goal.BaseIri b) = tt
shortest goal.Dot = tt
shortest (goal.Data w) = void
shortest (goal.Brace w) = void

pub shortest_rest : (w : Rest) → RestTree w
shortest_rest rest_of.Statements = []
shortest_rest rest_of.Update = no_operation
shortest_rest rest_of.AfterOperation = None

unfoldable pub ending_of : List Goal → Rest → List Symbol
ending_of [] w = []
ending_of (g ∷ gs) w = completion_symbols g (shortest g) (ending_of gs w)

unfoldable pub ending_point : List Goal → Rest → Point → Point
ending_point [] w m = m
ending_point (g ∷ gs) w m = ending_point gs w (completion_end g (shortest g) m)

pub reads_ending : (gs : List Goal) (w : Rest) (m : Point) → Reads gs w m (ending_of gs w) (ending_point gs w m)
unfolding ending_of ending_point
reads_ending [] rest_of.Statements m = ([], refl, refl)
reads_ending [] rest_of.Update m = (no_operation, refl, refl)
reads_ending [] rest_of.AfterOperation m = (None, refl, refl)
reads_ending (g ∷ gs) w m = (shortest g, ending_of gs w, refl, reads_ending gs w (completion_end g (shortest g) m))

-- nothing is left to read where no goal is left
pub reads_none : (w : Rest) (m : Point) → Reads [] w m [] m
unfolding ending_of ending_point
reads_none w m = reads_ending [] w m

-- Goals that stand at the top alone: those that need a word of updates, and a String that waits.
abbrev pub is_word : Goal → Bool
is_word (goal.Data w) = true
is_word (goal.Brace w) = true
is_word g = false

abbrev pub is_inner : Goal → Bool
is_inner (goal.Data w) = false
is_inner (goal.Brace w) = false
is_inner (goal.Suffix s p x) = false
is_inner g = true

abbrev pub all_inner : List Goal → Bool
all_inner [] = true
all_inner (g ∷ gs) = cond (is_inner g) (all_inner gs) false

-- The words of an operation are wanted where no brace is open.
abbrev pub WantsWord : Rest → ℕ → List Goal → Type 0
WantsWord rest_of.AfterOperation n gs = (n ≡ 0) × (all_inner gs ≡ true)
WantsWord w n gs = ⊥

abbrev pub GoalsFit : Rest → ℕ → List Goal → Type 0
GoalsFit w n [] = Unit {0}
GoalsFit w n (goal.Data x ∷ gs) = WantsWord w n gs
GoalsFit w n (goal.Brace x ∷ gs) = WantsWord w n gs
GoalsFit w n (g ∷ gs) = all_inner gs ≡ true

abbrev pub RestFits : Start → Rest → Type 0
RestFits start_of.Update rest_of.Update = Unit {0}
RestFits start_of.Update rest_of.AfterOperation = Unit {0}
RestFits start_of.Update rest_of.Statements = ⊥
RestFits start rest_of.Statements = Unit {0}
RestFits start w = ⊥

true_false : {A : Type 0} → true ≡ false → A
true_false e = absurd (let f : true ≡ false = e in cc)

pub false_true : {A : Type 0} → false ≡ true → A
false_true e = absurd (let f : false ≡ true = e in cc)

pub split : (b c : Bool) → cond b c false ≡ true → (b ≡ true) × (c ≡ true)
split true c e = (refl, e)
split false c e = false_true e

inner_wordless : (g : Goal) → is_inner g ≡ true → is_word g ≡ false
inner_wordless (goal.Data w) e = false_true e
inner_wordless (goal.Brace w) e = false_true e
inner_wordless g e = refl

module _ (start : Start) where
  allowed_closing : (c : Closer) (n : ℕ) (r : List Symbol) → ((k : ℕ) → AreAllowed start k r)
      → AreAllowed start n (close_symbols c (shortest_closing c) r)
  unfolding shortest_closing
  allowed_closing closer.Statement n r h = (refl, h _)
  allowed_closing closer.Subject n r h = (refl, h _)
  allowed_closing (closer.Object s p o) n r h = (refl, h _)
  allowed_closing (closer.Formula u) n r h = (refl, h _)

  allowed_dot : (b : Bool) (n : ℕ) (r : List Symbol) → ((k : ℕ) → AreAllowed start k r) → AreAllowed start n (dot_symbols b r)
  allowed_dot true n r h = (refl, h _)
  allowed_dot false n r h = h n

  allowed_goal : (g : Goal) (n : ℕ) (r : List Symbol) → is_word g ≡ false → ((k : ℕ) → AreAllowed start k r)
      → AreAllowed start n (completion_symbols g (shortest g) r)
  unfolding shortest
  allowed_goal (goal.One s p) n r e h = (refl, h _)
  allowed_goal (goal.Suffix s p x) n r e h = h n
  allowed_goal (goal.Datatype s p x) n r e h = (refl, h _)
  allowed_goal (goal.After s p c) n r e h = allowed_closing c n r h
  allowed_goal (goal.Again s c) n r e h = allowed_closing c n r h
  allowed_goal (goal.Predicates s c) n r e h = (refl, (refl, allowed_closing c n r h))
  allowed_goal (goal.Maybe s c) n r e h = allowed_closing c n r h
  allowed_goal (goal.Formula u) n r e h = (refl, h _)
  allowed_goal (goal.Collection (collection_use.Subject c)) n r e h = (refl, (refl, (refl, allowed_closing c n r h)))
  allowed_goal (goal.Collection (collection_use.Object s p)) n r e h = (refl, h _)
  allowed_goal (goal.Elements c u) n r e h = (refl, h _)
  allowed_goal (goal.PrefixName b) n r e h = (refl, (refl, allowed_dot b n r h))
  allowed_goal (goal.PrefixIri b i) n r e h = (refl, allowed_dot b n r h)
  allowed_goal (goal.BaseIri b) n r e h = (refl, allowed_dot b n r h)
  allowed_goal goal.Dot n r e h = (refl, h _)
  allowed_goal (goal.Data w) n r e h = true_false e
  allowed_goal (goal.Brace w) n r e h = true_false e

  allowed_goals : (gs : List Goal) (w : Rest) (n : ℕ) → all_inner gs ≡ true → AreAllowed start n (ending_of gs w)
  unfolding ending_of
  allowed_goals [] w n h = tt
  allowed_goals (g ∷ gs) w n h =
      let k = split (is_inner g) (all_inner gs) h in
      allowed_goal g n (ending_of gs w) (inner_wordless g k.0) (λ i. allowed_goals gs w i k.1)

pub allowed_data : (n : ℕ) (r : List Symbol) → n ≡ 0 → ((k : ℕ) → AreAllowed start_of.Update k r)
    → AreAllowed start_of.Update n (Data ∷ Token kind.OpenBrace ∷ Token kind.CloseBrace ∷ r)
allowed_data n r e h = (ap (λ k. nat_lt k 1) e, (ap (λ k. nat_lt k 1) e, (refl, h _)))

pub allowed_brace : (n : ℕ) (r : List Symbol) → n ≡ 0 → ((k : ℕ) → AreAllowed start_of.Update k r)
    → AreAllowed start_of.Update n (Token kind.OpenBrace ∷ Token kind.CloseBrace ∷ r)
allowed_brace n r e h = (ap (λ k. nat_lt k 1) e, (refl, h _))

-- the language allows the shortest ending
pub allowed_ending : (start : Start) (gs : List Goal) (w : Rest) (n : ℕ) → RestFits start w → GoalsFit w n gs
    → AreAllowed start n (ending_of gs w)
unfolding ending_of shortest
allowed_ending start_of.Update (goal.Data x ∷ gs) rest_of.AfterOperation n f h =
    allowed_data n (ending_of gs rest_of.AfterOperation) h.0 (λ k. allowed_goals start_of.Update gs rest_of.AfterOperation k h.1)
allowed_ending start_of.Update (goal.Brace x ∷ gs) rest_of.AfterOperation n f h =
    allowed_brace n (ending_of gs rest_of.AfterOperation) h.0 (λ k. allowed_goals start_of.Update gs rest_of.AfterOperation k h.1)
allowed_ending start_of.Document (goal.Data x ∷ gs) rest_of.AfterOperation n f h = absurd f
allowed_ending start_of.Document (goal.Brace x ∷ gs) rest_of.AfterOperation n f h = absurd f
allowed_ending start_of.Patch (goal.Data x ∷ gs) rest_of.AfterOperation n f h = absurd f
allowed_ending start_of.Patch (goal.Brace x ∷ gs) rest_of.AfterOperation n f h = absurd f
allowed_ending start (goal.Data x ∷ gs) rest_of.Statements n f h = absurd h
allowed_ending start (goal.Brace x ∷ gs) rest_of.Statements n f h = absurd h
allowed_ending start (goal.Data x ∷ gs) rest_of.Update n f h = absurd h
allowed_ending start (goal.Brace x ∷ gs) rest_of.Update n f h = absurd h
allowed_ending start [] w n f h = tt
allowed_ending start (g ∷ gs) w n f h = allowed_goal start g n (ending_of gs w) refl (λ k. allowed_goals start gs w k h)
