-- The machine goes through the symbols of each tree, and produces what the tree produces.
use Rattle.std.proofs.Common.{◌≡◌, ℕ, List, [], ◌∷◌, Option, None, refl, ◌∙◌}
use Rattle.turtle_lex.specs.declared.token.TokenKind.TheVariants as kind
use Rattle.turtle_grammar.specs.declared.symbol.Start.{Start}
use Rattle.turtle_grammar.specs.declared.symbol.Start.TheVariants as start_of
use Rattle.turtle_grammar.specs.declared.symbol.Symbol.{Symbol}
use Rattle.turtle_grammar.specs.declared.symbol.Symbol.TheVariants.{Token}
use Rattle.turtle_grammar.specs.declared.production.Node.{Node}
use Rattle.turtle_grammar.specs.declared.production.Node.TheVariants as node
use Rattle.turtle_grammar.specs.declared.production.Within.TheVariants as within
use Rattle.turtle_grammar.specs.declared.goal.FormulaUse.{FormulaUse}
use Rattle.turtle_grammar.specs.declared.goal.FormulaUse.TheVariants as formula_use
use Rattle.turtle_grammar.specs.declared.goal.Closer.{Closer}
use Rattle.turtle_grammar.specs.declared.goal.Closer.TheVariants as closer
use Rattle.turtle_grammar.specs.declared.goal.CellUse.{CellUse}
use Rattle.turtle_grammar.specs.declared.goal.CellUse.TheVariants as cell_use
use Rattle.turtle_grammar.specs.declared.goal.CollectionUse.TheVariants as collection_use
use Rattle.turtle_grammar.specs.declared.goal.Goal.{Goal}
use Rattle.turtle_grammar.specs.declared.goal.Goal.TheVariants as goal
use Rattle.turtle_grammar.specs.declared.goal.Rest.{Rest}
use Rattle.turtle_grammar.specs.declared.goal.Rest.TheVariants as rest_of
use Rattle.turtle_grammar.specs.Trees.{Iri, iri_ref, pname_ln, pname_ns}
use Rattle.turtle_grammar.specs.Trees.{Literal, string, tagged_string, typed_string, integer}
use Rattle.turtle_grammar.specs.Trees.{decimal, double, true_word, false_word}
use Rattle.turtle_grammar.specs.Trees.{Verb, predicate, a_word, verb_variable}
use Rattle.turtle_grammar.specs.Trees.{Subject, subject_iri, subject_label, subject_anon}
use Rattle.turtle_grammar.specs.Trees.{subject_collection, subject_variable}
use Rattle.turtle_grammar.specs.Trees.{Object, iri, label, anon, collection, property_list}
use Rattle.turtle_grammar.specs.Trees.{literal, variable, formula, Objects, none, more}
use Rattle.turtle_grammar.specs.Trees.{PredicateObjectList, predicates, Properties, end, empty}
use Rattle.turtle_grammar.specs.Trees.{also, Triples, about, lone_list, about_list}
use Rattle.turtle_grammar.specs.Trees.{Formula, void, triples, Tail, last, dot}
use Rattle.turtle_grammar.specs.Trees.{Statement, at_prefix, at_base, sparql_prefix, sparql_base}
use Rattle.turtle_grammar.specs.Trees.{statement, Operation, insert_data, delete_data}
use Rattle.turtle_grammar.specs.Trees.{Update, no_operation, update_base, update_prefix}
use Rattle.turtle_grammar.specs.Trees.{last_operation, operation_and}
use Rattle.turtle_grammar.specs.TreeSymbols.{iri_symbol, literal_symbols, verb_symbol}
use Rattle.turtle_grammar.specs.TreeSymbols.{subject_symbols, object_symbols, element_symbols}
use Rattle.turtle_grammar.specs.TreeSymbols.{other_symbols, list_symbols, property_symbols}
use Rattle.turtle_grammar.specs.TreeSymbols.{triples_symbols, formula_symbols, tail_symbols}
use Rattle.turtle_grammar.specs.TreeSymbols.{statement_symbols, document_symbols}
use Rattle.turtle_grammar.specs.TreeSymbols.{operation_symbols, update_symbols}
use Rattle.turtle_grammar.specs.Productions.{Point, start_point, passed, fresh, counted, moved}
use Rattle.turtle_grammar.specs.Productions.{triple_at, says, says_token, literal_end}
use Rattle.turtle_grammar.specs.Productions.{subject_node, subject_end}
use Rattle.turtle_grammar.specs.Productions.{object_end, element_end, other_end}
use Rattle.turtle_grammar.specs.Productions.{list_end, property_end, triples_end, formula_end}
use Rattle.turtle_grammar.specs.Productions.{tail_end, statement_end, document_end}
use Rattle.turtle_grammar.specs.Productions.{operation_end, update_end}
use Rattle.turtle_grammar.specs.Derivations.{Tree, tree_symbols, tree_end}
use Rattle.turtle_grammar.specs.Stacks.{Stage, stage_to, staged, before, then, reach, run}
use Rattle.turtle_grammar.specs.Stacks.{subject_of, formula_closed, collected}

-- What doesn't go on with a String.
abbrev pub Free : List Symbol → Type 0
Free [] = ⊥
Free (Token kind.LangTag ∷ r) = ⊥
Free (Token kind.Carets ∷ r) = ⊥
Free (_ ∷ r) = Unit {0}

-- What begins an object: no end of a collection, and nothing that goes on with a String.
abbrev pub Starts : List Symbol → Type 0
Starts [] = ⊥
Starts (Token kind.LangTag ∷ r) = ⊥
Starts (Token kind.Carets ∷ r) = ⊥
Starts (Token kind.CloseRound ∷ r) = ⊥
Starts (_ ∷ r) = Unit {0}

pub starts_free : (r : List Symbol) → Starts r → Free r
starts_free [] h = absurd h
starts_free (Token kind.LangTag ∷ r) h = absurd h
starts_free (Token kind.Carets ∷ r) h = absurd h
starts_free (_ ∷ r) h = tt

pub starts_iri : (i : Iri) (r : List Symbol) → Starts (iri_symbol i ∷ r)
starts_iri iri_ref r = tt
starts_iri pname_ln r = tt
starts_iri pname_ns r = tt

pub starts_literal : (l : Literal) (r : List Symbol) → Starts (literal_symbols l r)
starts_literal string r = tt
starts_literal tagged_string r = tt
starts_literal (typed_string i) r = tt
starts_literal integer r = tt
starts_literal decimal r = tt
starts_literal double r = tt
starts_literal true_word r = tt
starts_literal false_word r = tt

pub starts_object : (o : Object) (r : List Symbol) → Starts (object_symbols o r)
starts_object (iri i) r = starts_iri i r
starts_object label r = tt
starts_object anon r = tt
starts_object (collection os) r = tt
starts_object (property_list q) r = tt
starts_object (literal l) r = starts_literal l r
starts_object variable r = tt
starts_object (formula f) r = tt

pub free_object : (o : Object) (r : List Symbol) → Free (object_symbols o r)
free_object o r = starts_free (object_symbols o r) (starts_object o r)

pub free_rest : (ps : Properties) (r : List Symbol) → Free r → Free (property_symbols ps r)
free_rest end r h = h
free_rest (empty ps) r h = tt
free_rest (also q) r h = tt

pub free_others : (os : Objects) (r : List Symbol) → Free r → Free (other_symbols os r)
free_others none r h = h
free_others (more o os) r h = tt

pub free_elements : (os : Objects) (r : List Symbol)
    → Free (element_symbols os (Token kind.CloseRound ∷ r))
free_elements none r = tt
free_elements (more o os) r = free_object o (element_symbols os (Token kind.CloseRound ∷ r))

pub free_tail : (t : Tail) (r : List Symbol) → Free (tail_symbols t (Token kind.CloseBrace ∷ r))
free_tail last r = tt
free_tail (dot f) r = tt

module _ (w : Rest) where
  -- A verb, from a goal that may begin with one.
  abbrev pub Verbs : Goal → Node → Closer → Type 0
  Verbs g s c = (v : Verb) (gs : List Goal) (m : Point) (r : List Symbol)
      → reach (g ∷ gs) w m (verb_symbol v ∷ r)
      ≡ reach (goal.One s (node.Token m.at) ∷ goal.After s (node.Token m.at) c ∷ gs) w (passed m) r

  pub predicates_verb : (s : Node) (c : Closer) → Verbs (goal.Predicates s c) s c
  predicates_verb s c (predicate iri_ref) gs m r = refl
  predicates_verb s c (predicate pname_ln) gs m r = refl
  predicates_verb s c (predicate pname_ns) gs m r = refl
  predicates_verb s c a_word gs m r = refl
  predicates_verb s c verb_variable gs m r = refl

  pub again_verb : (s : Node) (c : Closer) → Verbs (goal.Again s c) s c
  again_verb s c (predicate iri_ref) gs m r = refl
  again_verb s c (predicate pname_ln) gs m r = refl
  again_verb s c (predicate pname_ns) gs m r = refl
  again_verb s c a_word gs m r = refl
  again_verb s c verb_variable gs m r = refl

  pub maybe_verb : (s : Node) (c : Closer) → Verbs (goal.Maybe s c) s c
  maybe_verb s c (predicate iri_ref) gs m r = refl
  maybe_verb s c (predicate pname_ln) gs m r = refl
  maybe_verb s c (predicate pname_ns) gs m r = refl
  maybe_verb s c a_word gs m r = refl
  maybe_verb s c verb_variable gs m r = refl

  -- The symbols r end what the closer c ends, and the machine goes on with y.
  abbrev pub Ends : Node → Closer → List Goal → List Symbol → (Point → Option Stage) → Type 0
  Ends s c gs r y =
      ((p : Node) (m : Point) → reach (goal.After s p c ∷ gs) w m r ≡ y m)
      × ((m : Point) → reach (goal.Again s c ∷ gs) w m r ≡ y m)
      × ((m : Point) → reach (goal.Maybe s c ∷ gs) w m r ≡ y m)

  pub ends_statement : (s : Node) (gs : List Goal) (r : List Symbol)
      → Ends s closer.Statement gs (Token kind.Dot ∷ r) (λ m. reach gs w (passed m) r)
  ends_statement s gs r = ((λ p m. refl), (λ m. refl), (λ m. refl))

  pub ends_subject : (s : Node) (gs : List Goal) (r : List Symbol)
      → Ends s closer.Subject gs (Token kind.CloseSquare ∷ r) (λ m. reach gs w (passed m) r)
  ends_subject s gs r = ((λ p m. refl), (λ m. refl), (λ m. refl))

  pub ends_object : (a s p o : Node) (gs : List Goal) (r : List Symbol)
      → Ends a (closer.Object s p o) gs (Token kind.CloseSquare ∷ r)
      (λ m. reach gs w (passed (says s p o m)) r)
  ends_object a s p o gs r = ((λ q m. refl), (λ m. refl), (λ m. refl))

  -- The first symbol of an element.
  pub first_object : (ts : List Symbol) (s p : Node) (gs : List Goal) (m : Point) → Starts ts
      → reach (goal.Collection (collection_use.Object s p) ∷ gs) w m ts
      ≡ reach (goal.One (fresh m) node.First ∷ goal.Elements (fresh m) (cell_use.Object s p (fresh m)) ∷ gs) w (counted m) ts
  first_object [] s p gs m h = absurd h
  first_object (Token kind.CloseRound ∷ r) s p gs m h = absurd h
  first_object (_ ∷ r) s p gs m h = refl

  pub first_of_subject : (ts : List Symbol) (c : Closer) (gs : List Goal) (m : Point) → Starts ts
      → reach (goal.Collection (collection_use.Subject c) ∷ gs) w m ts
      ≡ reach (goal.One (fresh m) node.First ∷ goal.Elements (fresh m) cell_use.Subject ∷ goal.Predicates (fresh m) c ∷ gs) w (counted m) ts
  first_of_subject [] c gs m h = absurd h
  first_of_subject (Token kind.CloseRound ∷ r) c gs m h = absurd h
  first_of_subject (_ ∷ r) c gs m h = refl

  pub next_element : (ts : List Symbol) (c : Node) (u : CellUse) (gs : List Goal) (m : Point) → Starts ts
      → reach (goal.Elements c u ∷ gs) w m ts
      ≡ reach (goal.One (fresh m) node.First ∷ goal.Elements (fresh m) u ∷ gs) w (counted (says c node.Rest (fresh m) m)) ts
  next_element [] c u gs m h = absurd h
  next_element (Token kind.CloseRound ∷ r) c u gs m h = absurd h
  next_element (_ ∷ r) c u gs m h = refl

  -- no String waits for what follows it
  abbrev pub IsCalm : List Goal → Type 0
  IsCalm (goal.Suffix s p x ∷ gs) = ⊥
  IsCalm gs = Unit {0}

  pub suffix_free : (r : List Symbol) (s p : Node) (x : ℕ) (gs : List Goal) (m : Point) → Free r
      → IsCalm gs
      → reach (goal.Suffix s p x ∷ gs) w m r ≡ reach gs w (triple_at x s p (node.Token x) m) r
  suffix_free [] s p x gs m h calm = absurd h
  suffix_free (Token kind.LangTag ∷ r) s p x gs m h calm = absurd h
  suffix_free (Token kind.Carets ∷ r) s p x gs m h calm = absurd h
  suffix_free (_ ∷ r) s p x (goal.Suffix _ _ _ ∷ gs) m h calm = absurd calm
  suffix_free (_ ∷ r) s p x gs m h calm = refl

  -- Triples begin here, with the goals gs after them.
  abbrev pub enter : Closer → List Goal → Point → List Symbol → Option Stage
  enter c gs m [] = None
  enter c gs m (t ∷ ts) =
      then (staged w (before gs (subject_of c m t))) (λ x. reach x.goals x.rest x.point ts)

  pub formula_triples : (x : Triples) (u : FormulaUse) (gs : List Goal) (m : Point) (r : List Symbol)
      → reach (goal.Formula u ∷ gs) w m (triples_symbols x r) ≡ enter (closer.Formula u) gs m (triples_symbols x r)
  formula_triples (about (subject_iri iri_ref) q) u gs m r = refl
  formula_triples (about (subject_iri pname_ln) q) u gs m r = refl
  formula_triples (about (subject_iri pname_ns) q) u gs m r = refl
  formula_triples (about subject_label q) u gs m r = refl
  formula_triples (about subject_anon q) u gs m r = refl
  formula_triples (about (subject_collection os) q) u gs m r = refl
  formula_triples (about subject_variable q) u gs m r = refl
  formula_triples (lone_list q) u gs m r = refl
  formula_triples (about_list q p) u gs m r = refl

  pub run_iri : (i : Iri) (s p : Node) (gs : List Goal) (m : Point) (r : List Symbol)
      → reach (goal.One s p ∷ gs) w m (iri_symbol i ∷ r) ≡ reach gs w (says_token s p m) r
  run_iri iri_ref s p gs m r = refl
  run_iri pname_ln s p gs m r = refl
  run_iri pname_ns s p gs m r = refl

  pub run_literal : (l : Literal) (s p : Node) (gs : List Goal) (m : Point) (r : List Symbol)
      → Free r → IsCalm gs
      → reach (goal.One s p ∷ gs) w m (literal_symbols l r) ≡ reach gs w (literal_end l s p m) r
  run_literal string s p gs m r h calm = suffix_free r s p m.at gs (passed m) h calm
  run_literal tagged_string s p gs m r h calm = refl
  run_literal (typed_string iri_ref) s p gs m r h calm = refl
  run_literal (typed_string pname_ln) s p gs m r h calm = refl
  run_literal (typed_string pname_ns) s p gs m r h calm = refl
  run_literal integer s p gs m r h calm = refl
  run_literal decimal s p gs m r h calm = refl
  run_literal double s p gs m r h calm = refl
  run_literal true_word s p gs m r h calm = refl
  run_literal false_word s p gs m r h calm = refl

  mutual
    pub run_object : (o : Object) (s p : Node) (gs : List Goal) (m : Point) (r : List Symbol)
        → Free r → IsCalm gs
        → reach (goal.One s p ∷ gs) w m (object_symbols o r) ≡ reach gs w (object_end o s p m) r
    run_object (iri i) s p gs m r h calm = run_iri i s p gs m r
    run_object label s p gs m r h calm = refl
    run_object anon s p gs m r h calm = refl
    run_object (collection none) s p gs m r h calm = refl
    run_object (collection (more o os)) s p gs m r h calm =
        first_object (object_symbols o (element_symbols os (Token kind.CloseRound ∷ r))) s p gs (passed m) (starts_object o _)
        ∙ run_object o (fresh (passed m)) node.First _ (counted (passed m)) _ (free_elements os r) tt
        ∙ run_elements os (fresh (passed m)) (cell_use.Object s p (fresh (passed m))) gs _ r
    run_object (property_list q) s p gs m r h calm =
        run_list q (goal.Predicates (fresh m) (closer.Object s p (fresh m))) (fresh m) (closer.Object s p (fresh m)) gs (passed (counted m)) (Token kind.CloseSquare ∷ r)
        (λ n. reach gs w (passed (says s p (fresh m) n)) r) (ends_object (fresh m) s p (fresh m) gs r) tt
        (predicates_verb (fresh m) (closer.Object s p (fresh m)))
    run_object (literal l) s p gs m r h calm = run_literal l s p gs m r h calm
    run_object variable s p gs m r h calm = refl
    run_object (formula f) s p gs m r h calm =
        run_formula f (formula_use.Object s p m.at m.within) gs (moved (within.Formula m.at) (passed m)) r

    pub run_elements : (os : Objects) (c : Node) (u : CellUse) (gs : List Goal) (m : Point) (r : List Symbol)
        → reach (goal.Elements c u ∷ gs) w m (element_symbols os (Token kind.CloseRound ∷ r))
        ≡ reach gs w (collected u (element_end os c m)) r
    run_elements none c u gs m r = refl
    run_elements (more o os) c u gs m r =
        next_element (object_symbols o (element_symbols os (Token kind.CloseRound ∷ r))) c u gs m (starts_object o _)
        ∙ run_object o (fresh m) node.First _ (counted (says c node.Rest (fresh m) m)) _ (free_elements os r) tt
        ∙ run_elements os (fresh m) u gs _ r

    pub run_others : (os : Objects) (s p : Node) (c : Closer) (gs : List Goal) (m : Point) (r : List Symbol) → Free r
        → reach (goal.After s p c ∷ gs) w m (other_symbols os r) ≡ reach (goal.After s p c ∷ gs) w (other_end os s p m) r
    run_others none s p c gs m r h = refl
    run_others (more o os) s p c gs m r h =
        run_object o s p (goal.After s p c ∷ gs) (passed m) _ (free_others os r h) tt ∙ run_others os s p c gs _ r h

    pub run_list : (q : PredicateObjectList) (g : Goal) (s : Node) (c : Closer) (gs : List Goal) (m : Point) (r : List Symbol)
        (y : Point → Option Stage) → Ends s c gs r y → Free r → Verbs g s c
        → reach (g ∷ gs) w m (list_symbols q r) ≡ y (list_end q s m)
    run_list (predicates v o os ps) g s c gs m r y e f verbs =
        verbs v gs m _
        ∙ run_object o s (node.Token m.at) (goal.After s (node.Token m.at) c ∷ gs) (passed m) _ (free_others os _ (free_rest ps r f)) tt
        ∙ run_others os s (node.Token m.at) c gs _ _ (free_rest ps r f)
        ∙ run_rest ps s (node.Token m.at) c gs _ r y e f

    pub run_rest : (ps : Properties) (s p : Node) (c : Closer) (gs : List Goal) (m : Point) (r : List Symbol)
        (y : Point → Option Stage) → Ends s c gs r y → Free r
        → reach (goal.After s p c ∷ gs) w m (property_symbols ps r) ≡ y (property_end ps s m)
    run_rest end s p c gs m r y e f = e.0 p m
    run_rest (empty ps) s p c gs m r y e f = run_again ps s c gs (passed m) r y e f
    run_rest (also q) s p c gs m r y e f = run_list q (goal.Again s c) s c gs (passed m) r y e f (again_verb s c)

    -- after a semicolon
    pub run_again : (ps : Properties) (s : Node) (c : Closer) (gs : List Goal) (m : Point) (r : List Symbol)
        (y : Point → Option Stage) → Ends s c gs r y → Free r
        → reach (goal.Again s c ∷ gs) w m (property_symbols ps r) ≡ y (property_end ps s m)
    run_again end s c gs m r y e f = e.1 m
    run_again (empty ps) s c gs m r y e f = run_again ps s c gs (passed m) r y e f
    run_again (also q) s c gs m r y e f = run_list q (goal.Again s c) s c gs (passed m) r y e f (again_verb s c)

    pub run_subject : (x : Subject) (c : Closer) (gs : List Goal) (m : Point) (r : List Symbol)
        → enter c gs m (subject_symbols x r) ≡ reach (goal.Predicates (subject_node x m) c ∷ gs) w (subject_end x m) r
    run_subject (subject_iri iri_ref) c gs m r = refl
    run_subject (subject_iri pname_ln) c gs m r = refl
    run_subject (subject_iri pname_ns) c gs m r = refl
    run_subject subject_label c gs m r = refl
    run_subject subject_anon c gs m r = refl
    run_subject (subject_collection none) c gs m r = refl
    run_subject (subject_collection (more o os)) c gs m r =
        first_of_subject (object_symbols o (element_symbols os (Token kind.CloseRound ∷ r))) c gs (passed m) (starts_object o _)
        ∙ run_object o (fresh (passed m)) node.First _ (counted (passed m)) _ (free_elements os r) tt
        ∙ run_elements os (fresh (passed m)) cell_use.Subject _ _ r
    run_subject subject_variable c gs m r = refl

    pub run_triples : (x : Triples) (c : Closer) (gs : List Goal) (m : Point) (r : List Symbol)
        (y : Point → Option Stage) → ((s : Node) → Ends s c gs r y) → Free r
        → enter c gs m (triples_symbols x r) ≡ y (triples_end x m)
    run_triples (about s q) c gs m r y e f =
        run_subject s c gs m (list_symbols q r)
        ∙ run_list q (goal.Predicates (subject_node s m) c) (subject_node s m) c gs _ r y (e (subject_node s m)) f (predicates_verb (subject_node s m) c)
    run_triples (lone_list q) c gs m r y e f =
        run_list q (goal.Predicates (fresh m) closer.Subject) (fresh m) closer.Subject (goal.Maybe (fresh m) c ∷ gs) (passed (counted m)) (Token kind.CloseSquare ∷ r)
        (λ n. reach (goal.Maybe (fresh m) c ∷ gs) w (passed n) r) (ends_subject (fresh m) _ r) tt (predicates_verb (fresh m) closer.Subject)
        ∙ (e (fresh m)).2 _
    run_triples (about_list q p) c gs m r y e f =
        run_list q (goal.Predicates (fresh m) closer.Subject) (fresh m) closer.Subject (goal.Maybe (fresh m) c ∷ gs) (passed (counted m)) (Token kind.CloseSquare ∷ list_symbols p r)
        (λ n. reach (goal.Maybe (fresh m) c ∷ gs) w (passed n) (list_symbols p r)) (ends_subject (fresh m) _ (list_symbols p r)) tt (predicates_verb (fresh m) closer.Subject)
        ∙ run_list p (goal.Maybe (fresh m) c) (fresh m) c gs _ r y (e (fresh m)) f (maybe_verb (fresh m) c)

    pub run_formula : (f : Formula) (u : FormulaUse) (gs : List Goal) (m : Point) (r : List Symbol)
        → reach (goal.Formula u ∷ gs) w m (formula_symbols f (Token kind.CloseBrace ∷ r))
        ≡ reach gs w (formula_closed u (formula_end f m)) r
    run_formula void u gs m r = refl
    run_formula (triples x t) u gs m r =
        formula_triples x u gs m (tail_symbols t (Token kind.CloseBrace ∷ r))
        ∙ run_triples x (closer.Formula u) gs m (tail_symbols t (Token kind.CloseBrace ∷ r))
        (λ n. reach gs w (formula_closed u (tail_end t n)) r) (run_tail t u gs r) (free_tail t r)

    pub run_tail : (t : Tail) (u : FormulaUse) (gs : List Goal) (r : List Symbol) (s : Node)
        → Ends s (closer.Formula u) gs (tail_symbols t (Token kind.CloseBrace ∷ r)) (λ n. reach gs w (formula_closed u (tail_end t n)) r)
    run_tail last u gs r s = ((λ p m. refl), (λ m. refl), (λ m. refl))
    run_tail (dot f) u gs r s =
        ((λ p m. run_formula f u gs (passed m) r), (λ m. run_formula f u gs (passed m) r), (λ m. run_formula f u gs (passed m) r))

pub statement_triples : (x : Triples) (m : Point) (r : List Symbol)
    → reach [] rest_of.Statements m (triples_symbols x r) ≡ enter rest_of.Statements closer.Statement [] m (triples_symbols x r)
statement_triples (about (subject_iri iri_ref) q) m r = refl
statement_triples (about (subject_iri pname_ln) q) m r = refl
statement_triples (about (subject_iri pname_ns) q) m r = refl
statement_triples (about subject_label q) m r = refl
statement_triples (about subject_anon q) m r = refl
statement_triples (about (subject_collection os) q) m r = refl
statement_triples (about subject_variable q) m r = refl
statement_triples (lone_list q) m r = refl
statement_triples (about_list q p) m r = refl

pub run_statement : (x : Statement) (m : Point) (r : List Symbol)
    → reach [] rest_of.Statements m (statement_symbols x r) ≡ reach [] rest_of.Statements (statement_end x m) r
run_statement at_prefix m r = refl
run_statement at_base m r = refl
run_statement sparql_prefix m r = refl
run_statement sparql_base m r = refl
run_statement (statement x) m r =
    statement_triples x m (Token kind.Dot ∷ r)
    ∙ run_triples rest_of.Statements x closer.Statement [] m (Token kind.Dot ∷ r)
    (λ n. reach [] rest_of.Statements (passed n) r) (λ s. ends_statement rest_of.Statements s [] r) tt

pub run_document : (d : List Statement) (m : Point)
    → reach [] rest_of.Statements m (document_symbols d []) ≡ stage_to [] rest_of.Statements (document_end d m)
run_document [] m = refl
run_document (x ∷ xs) m = run_statement x m (document_symbols xs []) ∙ run_document xs (statement_end x m)

pub run_operation : (o : Operation) (m : Point) (r : List Symbol)
    → reach [] rest_of.Update m (operation_symbols o r) ≡ reach [] rest_of.AfterOperation (operation_end o m) r
run_operation (insert_data f) m r =
    run_formula rest_of.AfterOperation f formula_use.Operation [] (moved within.Insert (passed (passed (passed m)))) r
run_operation (delete_data f) m r =
    run_formula rest_of.AfterOperation f formula_use.Operation [] (moved within.Delete (passed (passed (passed m)))) r

-- what comes after the last operation of an update
pub rest_after : Update → Rest
rest_after no_operation = rest_of.Update
rest_after (update_base u) = rest_after u
rest_after (update_prefix u) = rest_after u
rest_after (last_operation o) = rest_of.AfterOperation
rest_after (operation_and o u) = rest_after u

pub run_update : (u : Update) (m : Point)
    → reach [] rest_of.Update m (update_symbols u []) ≡ stage_to [] (rest_after u) (update_end u m)
unfolding rest_after
run_update no_operation m = refl
run_update (update_base u) m = run_update u _
run_update (update_prefix u) m = run_update u _
run_update (last_operation o) m = run_operation o m []
run_update (operation_and o u) m = run_operation o m (Token kind.Semicolon ∷ update_symbols u []) ∙ run_update u _

pub last_rest : (start : Start) → Tree start → Rest
last_rest start_of.Update tree = rest_after tree
last_rest start tree = rest_of.Statements

-- the machine goes through a tree of the start symbol, and no goal is left
pub run_tree : (start : Start) (tree : Tree start)
    → run start (tree_symbols start tree) ≡ stage_to [] (last_rest start tree) (tree_end start tree)
unfolding last_rest
run_tree start_of.Document tree = run_document tree start_point
run_tree start_of.Patch tree = run_document tree start_point
run_tree start_of.Update tree = run_update tree start_point
