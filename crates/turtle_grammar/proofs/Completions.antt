-- What the stack means: a completion of each of its goals, one after the other.
use Rattle.std.proofs.Common.{◌≡◌, ℕ, ◌+◌, List, [], ◌∷◌, Bool, true, false, Option, Some, None, ◌⊎◌, inl, inr, refl}
use Rattle.turtle_grammar.specs.declared.production.Production.TheVariants.{Prefix}
use Rattle.turtle_lex.specs.declared.token.TokenKind.TheVariants as kind
use Rattle.turtle_grammar.specs.declared.symbol.Start.{Start}
use Rattle.turtle_grammar.specs.declared.symbol.Start.TheVariants as start_of
use Rattle.turtle_grammar.specs.declared.symbol.Symbol.{Symbol}
use Rattle.turtle_grammar.specs.declared.symbol.Symbol.TheVariants.{Token, Data}
use Rattle.turtle_grammar.specs.declared.production.Node.{Node}
use Rattle.turtle_grammar.specs.declared.production.Node.TheVariants as node
use Rattle.turtle_grammar.specs.declared.production.Within.TheVariants as within
use Rattle.turtle_grammar.specs.declared.goal.Closer.{Closer}
use Rattle.turtle_grammar.specs.declared.goal.Closer.TheVariants as closer
use Rattle.turtle_grammar.specs.declared.goal.CollectionUse.TheVariants as collection_use
use Rattle.turtle_grammar.specs.declared.goal.Goal.{Goal}
use Rattle.turtle_grammar.specs.declared.goal.Goal.TheVariants as goal
use Rattle.turtle_grammar.specs.declared.goal.Rest.{Rest}
use Rattle.turtle_grammar.specs.declared.goal.Rest.TheVariants as rest_of
use Rattle.turtle_grammar.specs.Trees.{Iri}
use Rattle.turtle_grammar.specs.Trees.{Literal, string, tagged_string, typed_string}
use Rattle.turtle_grammar.specs.Trees.{Object}
use Rattle.turtle_grammar.specs.Trees.{Objects}
use Rattle.turtle_grammar.specs.Trees.{PredicateObjectList, Properties}
use Rattle.turtle_grammar.specs.Trees.{Formula, Tail}
use Rattle.turtle_grammar.specs.Trees.{Statement}
use Rattle.turtle_grammar.specs.Trees.{Update}
use Rattle.turtle_grammar.specs.TreeSymbols.{iri_symbol}
use Rattle.turtle_grammar.specs.TreeSymbols.{object_symbols, element_symbols}
use Rattle.turtle_grammar.specs.TreeSymbols.{other_symbols, list_symbols, property_symbols}
use Rattle.turtle_grammar.specs.TreeSymbols.{formula_symbols, tail_symbols}
use Rattle.turtle_grammar.specs.TreeSymbols.{document_symbols}
use Rattle.turtle_grammar.specs.TreeSymbols.{update_symbols}
use Rattle.turtle_grammar.specs.Productions.{Point, start_point, passed, moved}
use Rattle.turtle_grammar.specs.Productions.{produces, prefix_end, base_end}
use Rattle.turtle_grammar.specs.Productions.{triple_at, says}
use Rattle.turtle_grammar.specs.Productions.{collection_node}
use Rattle.turtle_grammar.specs.Productions.{collection_end, object_end, element_end, other_end}
use Rattle.turtle_grammar.specs.Productions.{list_end, property_end, formula_end}
use Rattle.turtle_grammar.specs.Productions.{tail_end, document_end}
use Rattle.turtle_grammar.specs.Productions.{update_end}
use Rattle.turtle_grammar.specs.Derivations.{Tree, tree_symbols, tree_end}
use Rattle.turtle_grammar.specs.Stacks.{formula_closed, collected, first_rest}

-- What follows a String.
pub data Ending : Type 0 where
  plain : Ending
  tag : Ending
  datatype : Iri → Ending

abbrev pub ending_symbols : Ending → List Symbol → List Symbol
ending_symbols plain r = r
ending_symbols tag r = Token kind.LangTag ∷ r
ending_symbols (datatype i) r = Token kind.Carets ∷ iri_symbol i ∷ r

abbrev pub ending_end : Ending → Node → Node → ℕ → Point → Point
ending_end plain s p x m = triple_at x s p (node.Token x) m
ending_end tag s p x m = passed (says s p (node.Tagged x m.at) m)
ending_end (datatype i) s p x m = passed (says s p (node.Typed x (m.at + 1)) (passed m))

abbrev pub ended : Ending → Literal
ended plain = string
ended tag = tagged_string
ended (datatype i) = typed_string i

-- What ends a predicateObjectList: the closing symbol, or a formula's tail.
abbrev pub Closing : Closer → Type 0
Closing closer.Statement = Unit {0}
Closing closer.Subject = Unit {0}
Closing (closer.Object s p o) = Unit {0}
Closing (closer.Formula u) = Tail

abbrev pub close_symbols : (c : Closer) → Closing c → List Symbol → List Symbol
close_symbols closer.Statement k r = Token kind.Dot ∷ r
close_symbols closer.Subject k r = Token kind.CloseSquare ∷ r
close_symbols (closer.Object s p o) k r = Token kind.CloseSquare ∷ r
close_symbols (closer.Formula u) k r = tail_symbols k (Token kind.CloseBrace ∷ r)

abbrev pub close_end : (c : Closer) → Closing c → Point → Point
close_end closer.Statement k m = passed m
close_end closer.Subject k m = passed m
close_end (closer.Object s p o) k m = passed (says s p o m)
close_end (closer.Formula u) k m = formula_closed u (tail_end k m)

-- The completions of a goal.
abbrev pub Completion : Goal → Type 0
Completion (goal.One s p) = Object
Completion (goal.Suffix s p x) = Ending
Completion (goal.Datatype s p x) = Iri
Completion (goal.After s p c) = Objects × Properties × Closing c
Completion (goal.Again s c) = (Properties ⊎ PredicateObjectList) × Closing c
Completion (goal.Predicates s c) = PredicateObjectList × Closing c
Completion (goal.Maybe s c) = Option PredicateObjectList × Closing c
Completion (goal.Formula u) = Formula
Completion (goal.Collection (collection_use.Subject c)) =
    Objects × PredicateObjectList × Closing c
Completion (goal.Collection (collection_use.Object s p)) = Objects
Completion (goal.Elements c u) = Objects
Completion (goal.PrefixName b) = Unit {0}
Completion (goal.PrefixIri b i) = Unit {0}
Completion (goal.BaseIri b) = Unit {0}
Completion goal.Dot = Unit {0}
Completion (goal.Data w) = Formula
Completion (goal.Brace w) = Formula

abbrev pub again_symbols : Properties ⊎ PredicateObjectList → List Symbol → List Symbol
again_symbols (inl ps) r = property_symbols ps r
again_symbols (inr q) r = list_symbols q r

abbrev pub again_end : Properties ⊎ PredicateObjectList → Node → Point → Point
again_end (inl ps) s m = property_end ps s m
again_end (inr q) s m = list_end q s m

abbrev pub maybe_symbols : Option PredicateObjectList → List Symbol → List Symbol
maybe_symbols None r = r
maybe_symbols (Some q) r = list_symbols q r

abbrev pub maybe_end : Option PredicateObjectList → Node → Point → Point
maybe_end None s m = m
maybe_end (Some q) s m = list_end q s m

abbrev pub dot_symbols : Bool → List Symbol → List Symbol
dot_symbols true r = Token kind.Dot ∷ r
dot_symbols false r = r

abbrev pub dot_end : Bool → Point → Point
dot_end true m = passed m
dot_end false m = m

abbrev pub completion_symbols : (g : Goal) → Completion g → List Symbol → List Symbol
completion_symbols (goal.One s p) o r = object_symbols o r
completion_symbols (goal.Suffix s p x) e r = ending_symbols e r
completion_symbols (goal.Datatype s p x) i r = iri_symbol i ∷ r
completion_symbols (goal.After s p c) x r =
    other_symbols x.0 (property_symbols x.1 (close_symbols c x.2 r))
completion_symbols (goal.Again s c) x r = again_symbols x.0 (close_symbols c x.1 r)
completion_symbols (goal.Predicates s c) x r = list_symbols x.0 (close_symbols c x.1 r)
completion_symbols (goal.Maybe s c) x r = maybe_symbols x.0 (close_symbols c x.1 r)
completion_symbols (goal.Formula u) f r = formula_symbols f (Token kind.CloseBrace ∷ r)
completion_symbols (goal.Collection (collection_use.Subject c)) x r =
    element_symbols x.0 (Token kind.CloseRound ∷ list_symbols x.1 (close_symbols c x.2 r))
completion_symbols (goal.Collection (collection_use.Object s p)) os r =
    element_symbols os (Token kind.CloseRound ∷ r)
completion_symbols (goal.Elements c u) os r = element_symbols os (Token kind.CloseRound ∷ r)
completion_symbols (goal.PrefixName b) k r =
    Token kind.PnameNs ∷ Token kind.IriRef ∷ dot_symbols b r
completion_symbols (goal.PrefixIri b i) k r = Token kind.IriRef ∷ dot_symbols b r
completion_symbols (goal.BaseIri b) k r = Token kind.IriRef ∷ dot_symbols b r
completion_symbols goal.Dot k r = Token kind.Dot ∷ r
completion_symbols (goal.Data w) f r =
    Data ∷ Token kind.OpenBrace ∷ formula_symbols f (Token kind.CloseBrace ∷ r)
completion_symbols (goal.Brace w) f r =
    Token kind.OpenBrace ∷ formula_symbols f (Token kind.CloseBrace ∷ r)

abbrev pub completion_end : (g : Goal) → Completion g → Point → Point
completion_end (goal.One s p) o m = object_end o s p m
completion_end (goal.Suffix s p x) e m = ending_end e s p x m
completion_end (goal.Datatype s p x) i m = passed (says s p (node.Typed x m.at) m)
completion_end (goal.After s p c) x m =
    close_end c x.2 (property_end x.1 s (other_end x.0 s p m))
completion_end (goal.Again s c) x m = close_end c x.1 (again_end x.0 s m)
completion_end (goal.Predicates s c) x m = close_end c x.1 (list_end x.0 s m)
completion_end (goal.Maybe s c) x m = close_end c x.1 (maybe_end x.0 s m)
completion_end (goal.Formula u) f m = formula_closed u (formula_end f m)
completion_end (goal.Collection (collection_use.Subject c)) x m =
    close_end c x.2 (list_end x.1 (collection_node x.0 m) (passed (collection_end x.0 m)))
completion_end (goal.Collection (collection_use.Object s p)) os m =
    passed (says s p (collection_node os m) (collection_end os m))
completion_end (goal.Elements c u) os m = collected u (element_end os c m)
completion_end (goal.PrefixName b) k m = dot_end b (prefix_end m)
completion_end (goal.PrefixIri b i) k m = dot_end b (passed (produces (Prefix i m.at) m))
completion_end (goal.BaseIri b) k m = dot_end b (base_end m)
completion_end goal.Dot k m = passed m
completion_end (goal.Data w) f m =
    passed (moved within.Document (formula_end f (moved w (passed (passed m)))))
completion_end (goal.Brace w) f m =
    passed (moved within.Document (formula_end f (moved w (passed m))))

-- What comes after the last goal.
abbrev pub RestTree : Rest → Type 0
RestTree rest_of.Statements = List Statement
RestTree rest_of.Update = Update
RestTree rest_of.AfterOperation = Option Update

abbrev pub rest_symbols : (w : Rest) → RestTree w → List Symbol
rest_symbols rest_of.Statements d = document_symbols d []
rest_symbols rest_of.Update d = update_symbols d []
rest_symbols rest_of.AfterOperation None = []
rest_symbols rest_of.AfterOperation (Some u) = Token kind.Semicolon ∷ update_symbols u []

abbrev pub rest_end : (w : Rest) → RestTree w → Point → Point
rest_end rest_of.Statements d m = document_end d m
rest_end rest_of.Update d m = update_end d m
rest_end rest_of.AfterOperation None m = m
rest_end rest_of.AfterOperation (Some u) m = update_end u (passed m)

-- The symbols are a completion of each goal and then what comes after; m' is the point then.
abbrev pub Reads : List Goal → Rest → Point → List Symbol → Point → Type 0
Reads [] w m ts m' = (d : RestTree w) × (rest_symbols w d ≡ ts) × (rest_end w d m ≡ m')
Reads (g ∷ gs) w m ts m' =
    (x : Completion g) × (r : List Symbol) × (completion_symbols g x r ≡ ts)
    × Reads gs w (completion_end g x m) r m'

-- the trees of a start symbol are what comes after no goal
pub tree_of_rest : (start : Start) (d : RestTree (first_rest start)) (m : Point)
    → (tree : Tree start) × (tree_symbols start tree ≡ rest_symbols (first_rest start) d)
    × (tree_end start tree ≡ rest_end (first_rest start) d start_point)
tree_of_rest start_of.Document d m = (d, refl, refl)
tree_of_rest start_of.Patch d m = (d, refl, refl)
tree_of_rest start_of.Update d m = (d, refl, refl)
