-- Each step keeps the meaning of the stack: what is read after it was read with the symbol before.
use Rattle.std.proofs.Common.{◌≡◌, ℕ, List, [], ◌∷◌, ◌++◌, Bool, true, false, Option, Some, None, inl, inr, refl, ap, ◌∙◌}
use Rattle.turtle_lex.specs.declared.token.TokenKind.TheVariants as kind
use Rattle.turtle_grammar.specs.declared.symbol.Symbol.{Symbol}
use Rattle.turtle_grammar.specs.declared.symbol.Symbol.TheVariants.{Token, Insert, Delete, Data}
use Rattle.turtle_grammar.specs.declared.production.Node.{Node}
use Rattle.turtle_grammar.specs.declared.production.Node.TheVariants as node
use Rattle.turtle_grammar.specs.declared.production.Within.{Within}
use Rattle.turtle_grammar.specs.declared.goal.FormulaUse.{FormulaUse}
use Rattle.turtle_grammar.specs.declared.goal.Closer.{Closer}
use Rattle.turtle_grammar.specs.declared.goal.Closer.TheVariants as closer
use Rattle.turtle_grammar.specs.declared.goal.CellUse.{CellUse}
use Rattle.turtle_grammar.specs.declared.goal.CellUse.TheVariants as cell_use
use Rattle.turtle_grammar.specs.declared.goal.CollectionUse.TheVariants as collection_use
use Rattle.turtle_grammar.specs.declared.goal.Goal.{Goal}
use Rattle.turtle_grammar.specs.declared.goal.Goal.TheVariants as goal
use Rattle.turtle_grammar.specs.declared.goal.Rest.{Rest}
use Rattle.turtle_grammar.specs.declared.goal.Rest.TheVariants as rest_of
use Rattle.turtle_grammar.specs.Trees.{iri_ref, pname_ln, pname_ns}
use Rattle.turtle_grammar.specs.Trees.{string, tagged_string, typed_string, integer}
use Rattle.turtle_grammar.specs.Trees.{decimal, double, true_word, false_word}
use Rattle.turtle_grammar.specs.Trees.{Verb, predicate, a_word, verb_variable}
use Rattle.turtle_grammar.specs.Trees.{subject_iri, subject_label, subject_anon}
use Rattle.turtle_grammar.specs.Trees.{subject_collection, subject_variable}
use Rattle.turtle_grammar.specs.Trees.{Object, iri, label, anon, collection, property_list}
use Rattle.turtle_grammar.specs.Trees.{literal, variable, formula, none, more}
use Rattle.turtle_grammar.specs.Trees.{predicates, end, empty}
use Rattle.turtle_grammar.specs.Trees.{also, Triples, about, lone_list, about_list}
use Rattle.turtle_grammar.specs.Trees.{void, triples, last, dot}
use Rattle.turtle_grammar.specs.Trees.{at_prefix, at_base, sparql_prefix, sparql_base}
use Rattle.turtle_grammar.specs.Trees.{statement, Operation, insert_data, delete_data}
use Rattle.turtle_grammar.specs.Trees.{Update, update_base, update_prefix}
use Rattle.turtle_grammar.specs.Trees.{last_operation, operation_and}
use Rattle.turtle_grammar.specs.TreeSymbols.{verb_symbol}
use Rattle.turtle_grammar.specs.TreeSymbols.{object_symbols, element_symbols}
use Rattle.turtle_grammar.specs.TreeSymbols.{list_symbols}
use Rattle.turtle_grammar.specs.TreeSymbols.{triples_symbols}
use Rattle.turtle_grammar.specs.TreeSymbols.{operation_symbols}
use Rattle.turtle_grammar.specs.Productions.{Point, passed, fresh, counted}
use Rattle.turtle_grammar.specs.Productions.{triple_at, says}
use Rattle.turtle_grammar.specs.Productions.{object_end}
use Rattle.turtle_grammar.specs.Productions.{list_end, triples_end}
use Rattle.turtle_grammar.specs.Productions.{operation_end}
use Rattle.turtle_grammar.specs.Stacks.{Stage, staged, before, then, reach}
use Rattle.turtle_grammar.specs.Stacks.{step, take_symbol, one, closes, subject_of}
use Rattle.turtle_grammar.specs.Stacks.{dot_goals}
use Rattle.turtle_grammar.proofs.Completions.{Ending, plain, tag, datatype, ending_symbols, ending_end}
use Rattle.turtle_grammar.proofs.Completions.{Closing, close_symbols, close_end}
use Rattle.turtle_grammar.proofs.Completions.{again_symbols, again_end, maybe_symbols, maybe_end}
use Rattle.turtle_grammar.proofs.Completions.{dot_symbols, dot_end}
use Rattle.turtle_grammar.proofs.Completions.{rest_symbols, rest_end, Reads}

abbrev pub On : Option Stage → (Stage → Type 0) → Type 0
On None P = Unit {0}
On (Some x) P = P x

-- What is read after a step was read with the symbol before it.
abbrev pub KeepsStep : List Goal → Rest → Point → Symbol → Stage → Type 0
KeepsStep gs w m t x =
    (ts : List Symbol) (m' : Point) → Reads x.goals x.rest x.point ts m' → Reads gs w m (t ∷ ts) m'

abbrev pub Keeps : List Goal → Rest → Point → Symbol → Option Stage → Type 0
Keeps gs w m t o = On o (KeepsStep gs w m t)

pub weaken : (o : Option Stage) (P Q : Stage → Type 0) → On o P → ((x : Stage) → P x → Q x) → On o Q
weaken None P Q h f = tt
weaken (Some x) P Q h f = f x h

module _ (w : Rest) where
  abbrev Takes : List Goal → Point → Symbol → Type 0
  Takes gs m t = Keeps gs w m t (take_symbol gs w m t)

  -- A String and what follows it are an object.
  pub string_object : (e : Ending) (s p : Node) (r ts : List Symbol) (gs : List Goal) (m m' : Point)
      → ending_symbols e r ≡ ts → Reads gs w (ending_end e s p m.at (passed m)) r m'
      → (a : Object) × (r' : List Symbol) × (object_symbols a r' ≡ Token kind.Quoted ∷ ts)
      × Reads gs w (object_end a s p m) r' m'
  string_object plain s p r ts gs m m' e h = (literal string, r, ap (λ z. Token kind.Quoted ∷ z) e, h)
  string_object tag s p r ts gs m m' e h = (literal tagged_string, r, ap (λ z. Token kind.Quoted ∷ z) e, h)
  string_object (datatype i) s p r ts gs m m' e h = (literal (typed_string i), r, ap (λ z. Token kind.Quoted ∷ z) e, h)

  -- An object begins: with the goals es and then gs after it.
  abbrev pub KeepsObject : Node → Node → List Goal → List Goal → Point → Symbol → Stage → Type 0
  KeepsObject s p es gs m t x =
      (ts : List Symbol) (m' : Point) → Reads x.goals x.rest x.point ts m'
      → (a : Object) × (r : List Symbol) × (object_symbols a r ≡ t ∷ ts)
      × Reads (es ++ gs) w (object_end a s p m) r m'

  pub keeps_element : (t : Symbol) (s p : Node) (es gs : List Goal) (m : Point)
      → On (staged w (before gs (before es (one s p m t)))) (KeepsObject s p es gs m t)
  keeps_element (Token kind.IriRef) s p es gs m = λ ts m' h. (iri iri_ref, ts, refl, h)
  keeps_element (Token kind.PnameLn) s p es gs m = λ ts m' h. (iri pname_ln, ts, refl, h)
  keeps_element (Token kind.PnameNs) s p es gs m = λ ts m' h. (iri pname_ns, ts, refl, h)
  keeps_element (Token kind.BlankLabel) s p es gs m = λ ts m' h. (label, ts, refl, h)
  keeps_element (Token kind.Integer) s p es gs m = λ ts m' h. (literal integer, ts, refl, h)
  keeps_element (Token kind.Decimal) s p es gs m = λ ts m' h. (literal decimal, ts, refl, h)
  keeps_element (Token kind.Double) s p es gs m = λ ts m' h. (literal double, ts, refl, h)
  keeps_element (Token kind.True) s p es gs m = λ ts m' h. (literal true_word, ts, refl, h)
  keeps_element (Token kind.False) s p es gs m = λ ts m' h. (literal false_word, ts, refl, h)
  keeps_element (Token kind.Variable) s p es gs m = λ ts m' h. (variable, ts, refl, h)
  keeps_element (Token kind.Quoted) s p es gs m = λ ts m' h. string_object h.0 s p h.1 ts (es ++ gs) m m' h.2 h.3
  keeps_element (Token kind.Anon) s p es gs m = λ ts m' h. (anon, ts, refl, h)
  keeps_element (Token kind.OpenSquare) s p es gs m = λ ts m' h. (property_list h.0.0, h.1, ap (λ z. Token kind.OpenSquare ∷ z) h.2, h.3)
  keeps_element (Token kind.OpenRound) s p es gs m = λ ts m' h. (collection h.0, h.1, ap (λ z. Token kind.OpenRound ∷ z) h.2, h.3)
  keeps_element (Token kind.OpenBrace) s p es gs m = λ ts m' h. (formula h.0, h.1, ap (λ z. Token kind.OpenBrace ∷ z) h.2, h.3)
  keeps_element _ s p es gs m = tt

  pub keeps_one : (t : Symbol) (s p : Node) (gs : List Goal) (m : Point) → Takes (goal.One s p ∷ gs) m t
  keeps_one (Token kind.IriRef) s p gs m = λ ts m' h. (iri iri_ref, ts, refl, h)
  keeps_one (Token kind.PnameLn) s p gs m = λ ts m' h. (iri pname_ln, ts, refl, h)
  keeps_one (Token kind.PnameNs) s p gs m = λ ts m' h. (iri pname_ns, ts, refl, h)
  keeps_one (Token kind.BlankLabel) s p gs m = λ ts m' h. (label, ts, refl, h)
  keeps_one (Token kind.Integer) s p gs m = λ ts m' h. (literal integer, ts, refl, h)
  keeps_one (Token kind.Decimal) s p gs m = λ ts m' h. (literal decimal, ts, refl, h)
  keeps_one (Token kind.Double) s p gs m = λ ts m' h. (literal double, ts, refl, h)
  keeps_one (Token kind.True) s p gs m = λ ts m' h. (literal true_word, ts, refl, h)
  keeps_one (Token kind.False) s p gs m = λ ts m' h. (literal false_word, ts, refl, h)
  keeps_one (Token kind.Variable) s p gs m = λ ts m' h. (variable, ts, refl, h)
  keeps_one (Token kind.Quoted) s p gs m = λ ts m' h. string_object h.0 s p h.1 ts gs m m' h.2 h.3
  keeps_one (Token kind.Anon) s p gs m = λ ts m' h. (anon, ts, refl, h)
  keeps_one (Token kind.OpenSquare) s p gs m = λ ts m' h. (property_list h.0.0, h.1, ap (λ z. Token kind.OpenSquare ∷ z) h.2, h.3)
  keeps_one (Token kind.OpenRound) s p gs m = λ ts m' h. (collection h.0, h.1, ap (λ z. Token kind.OpenRound ∷ z) h.2, h.3)
  keeps_one (Token kind.OpenBrace) s p gs m = λ ts m' h. (formula h.0, h.1, ap (λ z. Token kind.OpenBrace ∷ z) h.2, h.3)
  keeps_one _ s p gs m = tt

  abbrev pub KeepsClose : Closer → List Goal → Point → Symbol → Stage → Type 0
  KeepsClose c gs m t x =
      (ts : List Symbol) (m' : Point) → Reads x.goals x.rest x.point ts m'
      → (k : Closing c) × (r : List Symbol) × (close_symbols c k r ≡ t ∷ ts)
      × Reads gs w (close_end c k m) r m'

  pub keeps_close : (c : Closer) (t : Symbol) (gs : List Goal) (m : Point)
      → On (staged w (before gs (closes c m t))) (KeepsClose c gs m t)
  keeps_close closer.Statement (Token kind.Dot) gs m = λ ts m' h. (tt, ts, refl, h)
  keeps_close closer.Subject (Token kind.CloseSquare) gs m = λ ts m' h. (tt, ts, refl, h)
  keeps_close (closer.Object s p o) (Token kind.CloseSquare) gs m = λ ts m' h. (tt, ts, refl, h)
  keeps_close (closer.Formula u) (Token kind.CloseBrace) gs m = λ ts m' h. (last, ts, refl, h)
  keeps_close (closer.Formula u) (Token kind.Dot) gs m = λ ts m' h. (dot h.0, h.1, ap (λ z. Token kind.Dot ∷ z) h.2, h.3)
  keeps_close _ _ gs m = tt

  pub keeps_after : (t : Symbol) (s p : Node) (c : Closer) (gs : List Goal) (m : Point) → Takes (goal.After s p c ∷ gs) m t
  keeps_after (Token kind.Comma) s p c gs m = λ ts m' h. (
    (more h.0 h.3.0.0, h.3.0.1, h.3.0.2),
    h.3.1,
    ap (λ z. Token kind.Comma ∷ object_symbols h.0 z) h.3.2 ∙ ap (λ z. Token kind.Comma ∷ z) h.2,
    h.3.3,
  )
  keeps_after (Token kind.Semicolon) s p c gs m = λ ts m' h.
      elim h.0.0 as (λ v. again_symbols v (close_symbols c h.0.1 h.1) ≡ ts
      → Reads gs w (close_end c h.0.1 (again_end v s (passed m))) h.1 m'
      → Reads (goal.After s p c ∷ gs) w m (Token kind.Semicolon ∷ ts) m') [
        | inl ps ↦ λ e k. ((none, empty ps, h.0.1), h.1, ap (λ z. Token kind.Semicolon ∷ z) e, k)
        | inr q ↦ λ e k. ((none, also q, h.0.1), h.1, ap (λ z. Token kind.Semicolon ∷ z) e, k)
      ] h.2 h.3
  keeps_after t s p c gs m =
      weaken (take_symbol (goal.After s p c ∷ gs) w m t) (KeepsClose c gs m t) (KeepsStep (goal.After s p c ∷ gs) w m t)
      (keeps_close c t gs m) (λ x f ts m' h. let k = f ts m' h in ((none, end, k.0), k.1, k.2, k.3))

  -- after a verb: an object and what follows it are the predicates of s
  pub objects : (v : Verb) (s : Node) (c : Closer) (gs : List Goal) (m : Point) (ts : List Symbol) (m' : Point)
      → Reads (goal.One s (node.Token m.at) ∷ goal.After s (node.Token m.at) c ∷ gs) w (passed m) ts m'
      → Reads (goal.Predicates s c ∷ gs) w m (verb_symbol v ∷ ts) m'
  objects v s c gs m ts m' h = (
    (predicates v h.0 h.3.0.0 h.3.0.1, h.3.0.2),
    h.3.1,
    ap (λ z. verb_symbol v ∷ object_symbols h.0 z) h.3.2 ∙ ap (λ z. verb_symbol v ∷ z) h.2,
    h.3.3,
  )

  pub keeps_predicates : (t : Symbol) (s : Node) (c : Closer) (gs : List Goal) (m : Point) → Takes (goal.Predicates s c ∷ gs) m t
  keeps_predicates (Token kind.IriRef) s c gs m = λ ts m' h. objects (predicate iri_ref) s c gs m ts m' h
  keeps_predicates (Token kind.PnameLn) s c gs m = λ ts m' h. objects (predicate pname_ln) s c gs m ts m' h
  keeps_predicates (Token kind.PnameNs) s c gs m = λ ts m' h. objects (predicate pname_ns) s c gs m ts m' h
  keeps_predicates (Token kind.A) s c gs m = λ ts m' h. objects a_word s c gs m ts m' h
  keeps_predicates (Token kind.Variable) s c gs m = λ ts m' h. objects verb_variable s c gs m ts m' h
  keeps_predicates _ s c gs m = tt

  more_again : (v : Verb) (s : Node) (c : Closer) (gs : List Goal) (m : Point) (ts : List Symbol) (m' : Point)
      → Reads (goal.One s (node.Token m.at) ∷ goal.After s (node.Token m.at) c ∷ gs) w (passed m) ts m'
      → Reads (goal.Again s c ∷ gs) w m (verb_symbol v ∷ ts) m'
  more_again v s c gs m ts m' h = let k = objects v s c gs m ts m' h in ((inr k.0.0, k.0.1), k.1, k.2, k.3)

  pub keeps_again : (t : Symbol) (s : Node) (c : Closer) (gs : List Goal) (m : Point) → Takes (goal.Again s c ∷ gs) m t
  keeps_again (Token kind.IriRef) s c gs m = λ ts m' h. more_again (predicate iri_ref) s c gs m ts m' h
  keeps_again (Token kind.PnameLn) s c gs m = λ ts m' h. more_again (predicate pname_ln) s c gs m ts m' h
  keeps_again (Token kind.PnameNs) s c gs m = λ ts m' h. more_again (predicate pname_ns) s c gs m ts m' h
  keeps_again (Token kind.A) s c gs m = λ ts m' h. more_again a_word s c gs m ts m' h
  keeps_again (Token kind.Variable) s c gs m = λ ts m' h. more_again verb_variable s c gs m ts m' h
  keeps_again (Token kind.Semicolon) s c gs m = λ ts m' h.
      elim h.0.0 as (λ v. again_symbols v (close_symbols c h.0.1 h.1) ≡ ts
      → Reads gs w (close_end c h.0.1 (again_end v s (passed m))) h.1 m'
      → Reads (goal.Again s c ∷ gs) w m (Token kind.Semicolon ∷ ts) m') [
        | inl ps ↦ λ e k. ((inl (empty ps), h.0.1), h.1, ap (λ z. Token kind.Semicolon ∷ z) e, k)
        | inr q ↦ λ e k. ((inl (also q), h.0.1), h.1, ap (λ z. Token kind.Semicolon ∷ z) e, k)
      ] h.2 h.3
  keeps_again t s c gs m =
      weaken (take_symbol (goal.Again s c ∷ gs) w m t) (KeepsClose c gs m t) (KeepsStep (goal.Again s c ∷ gs) w m t)
      (keeps_close c t gs m) (λ x f ts m' h. let k = f ts m' h in ((inl end, k.0), k.1, k.2, k.3))

  more_maybe : (v : Verb) (s : Node) (c : Closer) (gs : List Goal) (m : Point) (ts : List Symbol) (m' : Point)
      → Reads (goal.One s (node.Token m.at) ∷ goal.After s (node.Token m.at) c ∷ gs) w (passed m) ts m'
      → Reads (goal.Maybe s c ∷ gs) w m (verb_symbol v ∷ ts) m'
  more_maybe v s c gs m ts m' h = let k = objects v s c gs m ts m' h in ((Some k.0.0, k.0.1), k.1, k.2, k.3)

  pub keeps_maybe : (t : Symbol) (s : Node) (c : Closer) (gs : List Goal) (m : Point) → Takes (goal.Maybe s c ∷ gs) m t
  keeps_maybe (Token kind.IriRef) s c gs m = λ ts m' h. more_maybe (predicate iri_ref) s c gs m ts m' h
  keeps_maybe (Token kind.PnameLn) s c gs m = λ ts m' h. more_maybe (predicate pname_ln) s c gs m ts m' h
  keeps_maybe (Token kind.PnameNs) s c gs m = λ ts m' h. more_maybe (predicate pname_ns) s c gs m ts m' h
  keeps_maybe (Token kind.A) s c gs m = λ ts m' h. more_maybe a_word s c gs m ts m' h
  keeps_maybe (Token kind.Variable) s c gs m = λ ts m' h. more_maybe verb_variable s c gs m ts m' h
  keeps_maybe t s c gs m =
      weaken (take_symbol (goal.Maybe s c ∷ gs) w m t) (KeepsClose c gs m t) (KeepsStep (goal.Maybe s c ∷ gs) w m t)
      (keeps_close c t gs m) (λ x f ts m' h. let k = f ts m' h in ((None, k.0), k.1, k.2, k.3))

  pub keeps_elements : (t : Symbol) (c : Node) (u : CellUse) (gs : List Goal) (m : Point) → Takes (goal.Elements c u ∷ gs) m t
  keeps_elements (Token kind.CloseRound) c u gs m = λ ts m' h. (none, ts, refl, h)
  keeps_elements t c u gs m =
      weaken (take_symbol (goal.Elements c u ∷ gs) w m t)
      (KeepsObject (fresh m) node.First (goal.Elements (fresh m) u ∷ []) gs (counted (says c node.Rest (fresh m) m)) t)
      (KeepsStep (goal.Elements c u ∷ gs) w m t)
      (keeps_element t (fresh m) node.First (goal.Elements (fresh m) u ∷ []) gs (counted (says c node.Rest (fresh m) m)))
      (λ x f ts m' h. let k = f ts m' h in (more k.0 k.3.0, k.3.1, ap (object_symbols k.0) k.3.2 ∙ k.2, k.3.3))

  pub keeps_object_collection : (t : Symbol) (s p : Node) (gs : List Goal) (m : Point)
      → Takes (goal.Collection (collection_use.Object s p) ∷ gs) m t
  keeps_object_collection (Token kind.CloseRound) s p gs m = λ ts m' h. (none, ts, refl, h)
  keeps_object_collection t s p gs m =
      weaken (take_symbol (goal.Collection (collection_use.Object s p) ∷ gs) w m t)
      (KeepsObject (fresh m) node.First (goal.Elements (fresh m) (cell_use.Object s p (fresh m)) ∷ []) gs (counted m) t)
      (KeepsStep (goal.Collection (collection_use.Object s p) ∷ gs) w m t)
      (keeps_element t (fresh m) node.First (goal.Elements (fresh m) (cell_use.Object s p (fresh m)) ∷ []) gs (counted m))
      (λ x f ts m' h. let k = f ts m' h in (more k.0 k.3.0, k.3.1, ap (object_symbols k.0) k.3.2 ∙ k.2, k.3.3))

  pub keeps_subject_collection : (t : Symbol) (c : Closer) (gs : List Goal) (m : Point)
      → Takes (goal.Collection (collection_use.Subject c) ∷ gs) m t
  keeps_subject_collection (Token kind.CloseRound) c gs m = λ ts m' h.
      ((none, h.0.0, h.0.1), h.1, ap (λ z. Token kind.CloseRound ∷ z) h.2, h.3)
  keeps_subject_collection t c gs m =
      weaken (take_symbol (goal.Collection (collection_use.Subject c) ∷ gs) w m t)
      (KeepsObject (fresh m) node.First (goal.Elements (fresh m) cell_use.Subject ∷ goal.Predicates (fresh m) c ∷ []) gs (counted m) t)
      (KeepsStep (goal.Collection (collection_use.Subject c) ∷ gs) w m t)
      (keeps_element t (fresh m) node.First (goal.Elements (fresh m) cell_use.Subject ∷ goal.Predicates (fresh m) c ∷ []) gs (counted m))
      (λ x f ts m' h. let k = f ts m' h in (
        (more k.0 k.3.0, k.3.3.0.0, k.3.3.0.1),
        k.3.3.1,
        ap (λ z. object_symbols k.0 (element_symbols k.3.0 (Token kind.CloseRound ∷ z))) k.3.3.2 ∙ ap (object_symbols k.0) k.3.2 ∙ k.2,
        k.3.3.3,
      ))

  -- Triples begin.
  abbrev pub KeepsTriples : Closer → List Goal → Point → Symbol → Stage → Type 0
  KeepsTriples c gs m t x =
      (ts : List Symbol) (m' : Point) → Reads x.goals x.rest x.point ts m'
      → (a : Triples) × (k : Closing c) × (r : List Symbol) × (triples_symbols a (close_symbols c k r) ≡ t ∷ ts)
      × Reads gs w (close_end c k (triples_end a m)) r m'

  pub keeps_triples : (t : Symbol) (c : Closer) (gs : List Goal) (m : Point)
      → On (staged w (before gs (subject_of c m t))) (KeepsTriples c gs m t)
  keeps_triples (Token kind.IriRef) c gs m = λ ts m' h.
      (about (subject_iri iri_ref) h.0.0, h.0.1, h.1, ap (λ z. Token kind.IriRef ∷ z) h.2, h.3)
  keeps_triples (Token kind.PnameLn) c gs m = λ ts m' h.
      (about (subject_iri pname_ln) h.0.0, h.0.1, h.1, ap (λ z. Token kind.PnameLn ∷ z) h.2, h.3)
  keeps_triples (Token kind.PnameNs) c gs m = λ ts m' h.
      (about (subject_iri pname_ns) h.0.0, h.0.1, h.1, ap (λ z. Token kind.PnameNs ∷ z) h.2, h.3)
  keeps_triples (Token kind.BlankLabel) c gs m = λ ts m' h.
      (about subject_label h.0.0, h.0.1, h.1, ap (λ z. Token kind.BlankLabel ∷ z) h.2, h.3)
  keeps_triples (Token kind.Variable) c gs m = λ ts m' h.
      (about subject_variable h.0.0, h.0.1, h.1, ap (λ z. Token kind.Variable ∷ z) h.2, h.3)
  keeps_triples (Token kind.Anon) c gs m = λ ts m' h.
      (about subject_anon h.0.0, h.0.1, h.1, ap (λ z. Token kind.Anon ∷ z) h.2, h.3)
  keeps_triples (Token kind.OpenSquare) c gs m = λ ts m' h.
      elim h.3.0.0 as (λ v. maybe_symbols v (close_symbols c h.3.0.1 h.3.1) ≡ h.1
      → Reads gs w (close_end c h.3.0.1 (maybe_end v (fresh m) (passed (list_end h.0.0 (fresh m) (passed (counted m)))))) h.3.1 m'
      → (a : Triples) × (k : Closing c) × (r : List Symbol) × (triples_symbols a (close_symbols c k r) ≡ Token kind.OpenSquare ∷ ts)
      × Reads gs w (close_end c k (triples_end a m)) r m') [
        | None ↦ λ e k. (
          lone_list h.0.0,
          h.3.0.1,
          h.3.1,
          ap (λ z. Token kind.OpenSquare ∷ list_symbols h.0.0 (Token kind.CloseSquare ∷ z)) e ∙ ap (λ z. Token kind.OpenSquare ∷ z) h.2,
          k,
        )
        | Some q ↦ λ e k. (
          about_list h.0.0 q,
          h.3.0.1,
          h.3.1,
          ap (λ z. Token kind.OpenSquare ∷ list_symbols h.0.0 (Token kind.CloseSquare ∷ z)) e ∙ ap (λ z. Token kind.OpenSquare ∷ z) h.2,
          k,
        )
      ] h.3.2 h.3.3
  keeps_triples (Token kind.OpenRound) c gs m = λ ts m' h.
      (about (subject_collection h.0.0) h.0.1, h.0.2, h.1, ap (λ z. Token kind.OpenRound ∷ z) h.2, h.3)
  keeps_triples _ c gs m = tt

  pub keeps_formula : (t : Symbol) (u : FormulaUse) (gs : List Goal) (m : Point) → Takes (goal.Formula u ∷ gs) m t
  keeps_formula (Token kind.CloseBrace) u gs m = λ ts m' h. (void, ts, refl, h)
  keeps_formula t u gs m =
      weaken (take_symbol (goal.Formula u ∷ gs) w m t) (KeepsTriples (closer.Formula u) gs m t) (KeepsStep (goal.Formula u ∷ gs) w m t)
      (keeps_triples t (closer.Formula u) gs m)
      (λ x f ts m' h. let k = f ts m' h in (triples k.0 k.1, k.2, k.3, k.4))

  pub keeps_suffix : (t : Symbol) (s p : Node) (x : ℕ) (gs : List Goal) (m : Point) → Takes (goal.Suffix s p x ∷ gs) m t
  keeps_suffix (Token kind.LangTag) s p x gs m = λ ts m' h. (tag, ts, refl, h)
  keeps_suffix (Token kind.Carets) s p x gs m = λ ts m' h. (datatype h.0, h.1, ap (λ z. Token kind.Carets ∷ z) h.2, h.3)
  keeps_suffix _ s p x gs m = tt

  pub keeps_datatype : (t : Symbol) (s p : Node) (x : ℕ) (gs : List Goal) (m : Point) → Takes (goal.Datatype s p x ∷ gs) m t
  keeps_datatype (Token kind.IriRef) s p x gs m = λ ts m' h. (iri_ref, ts, refl, h)
  keeps_datatype (Token kind.PnameLn) s p x gs m = λ ts m' h. (pname_ln, ts, refl, h)
  keeps_datatype (Token kind.PnameNs) s p x gs m = λ ts m' h. (pname_ns, ts, refl, h)
  keeps_datatype _ s p x gs m = tt

  pub keeps_prefix_name : (t : Symbol) (b : Bool) (gs : List Goal) (m : Point) → Takes (goal.PrefixName b ∷ gs) m t
  keeps_prefix_name (Token kind.PnameNs) b gs m = λ ts m' h. (tt, h.1, ap (λ z. Token kind.PnameNs ∷ z) h.2, h.3)
  keeps_prefix_name _ b gs m = tt

  -- the dot of a directive, where it has one
  dotted : (b : Bool) (gs : List Goal) (m : Point) (ts : List Symbol) (m' : Point) → Reads (dot_goals b ++ gs) w m ts m'
      → (r : List Symbol) × (dot_symbols b r ≡ ts) × Reads gs w (dot_end b m) r m'
  dotted true gs m ts m' h = (h.1, h.2, h.3)
  dotted false gs m ts m' h = (ts, refl, h)

  pub keeps_prefix_iri : (t : Symbol) (b : Bool) (i : ℕ) (gs : List Goal) (m : Point) → Takes (goal.PrefixIri b i ∷ gs) m t
  keeps_prefix_iri (Token kind.IriRef) b i gs m = λ ts m' h.
      let k = dotted b gs _ ts m' h in (tt, k.0, ap (λ z. Token kind.IriRef ∷ z) k.1, k.2)
  keeps_prefix_iri _ b i gs m = tt

  pub keeps_base_iri : (t : Symbol) (b : Bool) (gs : List Goal) (m : Point) → Takes (goal.BaseIri b ∷ gs) m t
  keeps_base_iri (Token kind.IriRef) b gs m = λ ts m' h.
      let k = dotted b gs _ ts m' h in (tt, k.0, ap (λ z. Token kind.IriRef ∷ z) k.1, k.2)
  keeps_base_iri _ b gs m = tt

  pub keeps_dot : (t : Symbol) (gs : List Goal) (m : Point) → Takes (goal.Dot ∷ gs) m t
  keeps_dot (Token kind.Dot) gs m = λ ts m' h. (tt, ts, refl, h)
  keeps_dot _ gs m = tt

  pub keeps_data : (t : Symbol) (x : Within) (gs : List Goal) (m : Point) → Takes (goal.Data x ∷ gs) m t
  keeps_data Data x gs m = λ ts m' h. (h.0, h.1, ap (λ z. Data ∷ z) h.2, h.3)
  keeps_data _ x gs m = tt

  pub keeps_brace : (t : Symbol) (x : Within) (gs : List Goal) (m : Point) → Takes (goal.Brace x ∷ gs) m t
  keeps_brace (Token kind.OpenBrace) x gs m = λ ts m' h. (h.0, h.1, ap (λ z. Token kind.OpenBrace ∷ z) h.2, h.3)
  keeps_brace _ x gs m = tt

  pub keeps_goal : (g : Goal) (t : Symbol) (gs : List Goal) (m : Point) → Takes (g ∷ gs) m t
  keeps_goal (goal.One s p) t gs m = keeps_one t s p gs m
  keeps_goal (goal.Suffix s p x) t gs m = keeps_suffix t s p x gs m
  keeps_goal (goal.Datatype s p x) t gs m = keeps_datatype t s p x gs m
  keeps_goal (goal.After s p c) t gs m = keeps_after t s p c gs m
  keeps_goal (goal.Again s c) t gs m = keeps_again t s c gs m
  keeps_goal (goal.Predicates s c) t gs m = keeps_predicates t s c gs m
  keeps_goal (goal.Maybe s c) t gs m = keeps_maybe t s c gs m
  keeps_goal (goal.Formula u) t gs m = keeps_formula t u gs m
  keeps_goal (goal.Collection (collection_use.Subject c)) t gs m = keeps_subject_collection t c gs m
  keeps_goal (goal.Collection (collection_use.Object s p)) t gs m = keeps_object_collection t s p gs m
  keeps_goal (goal.Elements c u) t gs m = keeps_elements t c u gs m
  keeps_goal (goal.PrefixName b) t gs m = keeps_prefix_name t b gs m
  keeps_goal (goal.PrefixIri b i) t gs m = keeps_prefix_iri t b i gs m
  keeps_goal (goal.BaseIri b) t gs m = keeps_base_iri t b gs m
  keeps_goal goal.Dot t gs m = keeps_dot t gs m
  keeps_goal (goal.Data x) t gs m = keeps_data t x gs m
  keeps_goal (goal.Brace x) t gs m = keeps_brace t x gs m

-- an operation and what comes after it
operation_and_more : (o : Operation) (d : Option Update) (ts r : List Symbol) (m m' : Point)
    → operation_symbols o r ≡ ts → rest_symbols rest_of.AfterOperation d ≡ r
    → rest_end rest_of.AfterOperation d (operation_end o m) ≡ m'
    → Reads [] rest_of.Update m ts m'
operation_and_more o None ts r m m' e f h = (last_operation o, ap (operation_symbols o) f ∙ e, h)
operation_and_more o (Some u) ts r m m' e f h = (operation_and o u, ap (operation_symbols o) f ∙ e, h)

pub keeps_update : (t : Symbol) (m : Point) → Keeps [] rest_of.Update m t (take_symbol [] rest_of.Update m t)
keeps_update (Token kind.Prefix) m = λ ts m' h. (
  update_prefix h.3.0,
  ap (λ z. Token kind.Prefix ∷ Token kind.PnameNs ∷ Token kind.IriRef ∷ z) h.3.1 ∙ ap (λ z. Token kind.Prefix ∷ z) h.2,
  h.3.2,
)
keeps_update (Token kind.Base) m = λ ts m' h. (
  update_base h.3.0,
  ap (λ z. Token kind.Base ∷ Token kind.IriRef ∷ z) h.3.1 ∙ ap (λ z. Token kind.Base ∷ z) h.2,
  h.3.2,
)
keeps_update Insert m = λ ts m' h.
    operation_and_more (insert_data h.0) h.3.0 (Insert ∷ ts) h.1 m m' (ap (λ z. Insert ∷ z) h.2) h.3.1 h.3.2
keeps_update Delete m = λ ts m' h.
    operation_and_more (delete_data h.0) h.3.0 (Delete ∷ ts) h.1 m m' (ap (λ z. Delete ∷ z) h.2) h.3.1 h.3.2
keeps_update _ m = tt

pub keeps_after_operation : (t : Symbol) (m : Point)
    → Keeps [] rest_of.AfterOperation m t (take_symbol [] rest_of.AfterOperation m t)
keeps_after_operation (Token kind.Semicolon) m = λ ts m' h. (Some h.0, ap (λ z. Token kind.Semicolon ∷ z) h.1, h.2)
keeps_after_operation _ m = tt

pub keeps_statement : (t : Symbol) (m : Point) → Keeps [] rest_of.Statements m t (take_symbol [] rest_of.Statements m t)
keeps_statement (Token kind.AtPrefix) m = λ ts m' h. (
  at_prefix ∷ h.3.0,
  ap (λ z. Token kind.AtPrefix ∷ Token kind.PnameNs ∷ Token kind.IriRef ∷ Token kind.Dot ∷ z) h.3.1 ∙ ap (λ z. Token kind.AtPrefix ∷ z) h.2,
  h.3.2,
)
keeps_statement (Token kind.AtBase) m = λ ts m' h. (
  at_base ∷ h.3.0,
  ap (λ z. Token kind.AtBase ∷ Token kind.IriRef ∷ Token kind.Dot ∷ z) h.3.1 ∙ ap (λ z. Token kind.AtBase ∷ z) h.2,
  h.3.2,
)
keeps_statement (Token kind.Prefix) m = λ ts m' h. (
  sparql_prefix ∷ h.3.0,
  ap (λ z. Token kind.Prefix ∷ Token kind.PnameNs ∷ Token kind.IriRef ∷ z) h.3.1 ∙ ap (λ z. Token kind.Prefix ∷ z) h.2,
  h.3.2,
)
keeps_statement (Token kind.Base) m = λ ts m' h. (
  sparql_base ∷ h.3.0,
  ap (λ z. Token kind.Base ∷ Token kind.IriRef ∷ z) h.3.1 ∙ ap (λ z. Token kind.Base ∷ z) h.2,
  h.3.2,
)
keeps_statement t m =
    weaken (take_symbol [] rest_of.Statements m t) (KeepsTriples rest_of.Statements closer.Statement [] m t) (KeepsStep [] rest_of.Statements m t)
    (keeps_triples rest_of.Statements t closer.Statement [] m) (λ x f ts m' h. let k = f ts m' h in
    (statement k.0 ∷ k.4.0, ap (λ z. triples_symbols k.0 (Token kind.Dot ∷ z)) k.4.1 ∙ k.3, k.4.2))

pub keeps_take : (gs : List Goal) (w : Rest) (m : Point) (t : Symbol) → Keeps gs w m t (take_symbol gs w m t)
keeps_take [] rest_of.Statements m t = keeps_statement t m
keeps_take [] rest_of.Update m t = keeps_update t m
keeps_take [] rest_of.AfterOperation m t = keeps_after_operation t m
keeps_take (g ∷ gs) w m t = keeps_goal w g t gs m

-- a String to which the symbol adds nothing
string_ends : (t : Symbol) (s p : Node) (x : ℕ) (gs : List Goal) (w : Rest) (m : Point) (o : Option Stage)
    → Keeps gs w (triple_at x s p (node.Token x) m) t o → Keeps (goal.Suffix s p x ∷ gs) w m t o
string_ends t s p x gs w m o k =
    weaken o (KeepsStep gs w (triple_at x s p (node.Token x) m) t) (KeepsStep (goal.Suffix s p x ∷ gs) w m t) k
    (λ y f ts m' h. (plain, t ∷ ts, refl, f ts m' h))

keeps_string : (t : Symbol) (s p : Node) (x : ℕ) (gs : List Goal) (w : Rest) (m : Point)
    → Keeps (goal.Suffix s p x ∷ gs) w m t (step (goal.Suffix s p x ∷ gs) w m t)
keeps_string (Token kind.LangTag) s p x gs w m = keeps_goal w (goal.Suffix s p x) (Token kind.LangTag) gs m
keeps_string (Token kind.Carets) s p x gs w m = keeps_goal w (goal.Suffix s p x) (Token kind.Carets) gs m
keeps_string t s p x gs w m =
    string_ends t s p x gs w m (take_symbol gs w (triple_at x s p (node.Token x) m) t) (keeps_take gs w (triple_at x s p (node.Token x) m) t)

pub keeps : (gs : List Goal) (w : Rest) (m : Point) (t : Symbol) → Keeps gs w m t (step gs w m t)
keeps (goal.Suffix s p x ∷ gs) w m t = keeps_string t s p x gs w m
keeps gs w m t = keeps_take gs w m t

-- The same over many symbols.
abbrev pub KeepsAll : List Goal → Rest → Point → List Symbol → Option Stage → Type 0
KeepsAll gs w m front o = On o (λ y.
    (ts : List Symbol) (m' : Point) → Reads y.goals y.rest y.point ts m' → Reads gs w m (front ++ ts) m')

pub keeps_more : (gs : List Goal) (w : Rest) (m : Point) (t : Symbol) (front : List Symbol) (o : Option Stage)
    → Keeps gs w m t o
    → ((x : Stage) → KeepsAll x.goals x.rest x.point front (reach x.goals x.rest x.point front))
    → KeepsAll gs w m (t ∷ front) (then o (λ x. reach x.goals x.rest x.point front))
keeps_more gs w m t front None k f = tt
keeps_more gs w m t front (Some x) k f =
    weaken (reach x.goals x.rest x.point front) _ _ (f x) (λ y g ts m' h. k (front ++ ts) m' (g ts m' h))

pub keeps_all : (front : List Symbol) (gs : List Goal) (w : Rest) (m : Point) → KeepsAll gs w m front (reach gs w m front)
keeps_all [] gs w m = λ ts m' h. h
keeps_all (t ∷ front) gs w m =
    keeps_more gs w m t front (step gs w m t) (keeps gs w m t) (λ x. keeps_all front x.goals x.rest x.point)
