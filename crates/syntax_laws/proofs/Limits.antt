-- The text of a graph has no bracket, and its triples are no larger than those of the graph.
use Rattle.std.proofs.Common.{◌≡◌, ℕ, ◌+◌, ◌<◌, ◌≤◌, Bool, true, false, inl, inr, List, [], ◌∷◌, ◌++◌, length, map, Some, None, Ok, Err, refl, sym, ap, ◌∙◌, subst, arith, append_assoc, length-append}
use Rattle.std.proofs.lemmas.Bool.{cases_lt, false≢true}
use Rattle.std.proofs.lemmas.List.{append-nil, map-append}
use Rattle.std.proofs.lemmas.List.Sums.{sum_by-cons}
use Rattle.rdf_graph.specs.Graph.{IsGraph, graph_text}
use Rattle.rdf_graph.specs.Size.{triple_size, triples_size}
use Rattle.rdf_graph.specs.declared.size.TheConstants.{TRIPLES_LIMIT}
use Rattle.rdf_graph.specs.declared.triple.Triple.{Triple as RdfTriple}
use Rattle.turtle_lex.specs.declared.token.TokenKind.TheVariants as Kind
use Rattle.turtle_grammar.specs.declared.fault.TheConstants.{DEPTH_LIMIT}
use Rattle.turtle_grammar.specs.declared.production.Production.{Production}
use Rattle.turtle_grammar.specs.declared.symbol.Symbol.{Symbol}
use Rattle.turtle_grammar.specs.declared.symbol.Symbol.TheVariants.{Token}
use Rattle.turtle_grammar.specs.declared.symbol.Start.TheVariants.{Document}
use Rattle.turtle_grammar.specs.Derivations.{depth_from}
use Rattle.turtle_grammar.specs.Productions.{document_end, start_point}
use Rattle.turtle_grammar.specs.TreeSymbols.{document_symbols}
use Rattle.turtle_grammar.proofs.OneProduced.{one_produced}
use Rattle.turtle_terms.specs.declared.fault.TurtleKind.TheVariants as Why
use Rattle.turtle_terms.specs.declared.fault.TurtleFault.{TurtleFault}
use Rattle.turtle_terms.specs.declared.fault.TurtleFault.TheVariants.{Bad, TooLarge}
use Rattle.turtle_reader.specs.declared.context.Context.{Context}
use Rattle.turtle_reader.specs.declared.lexeme.Lexeme.{Lexeme}
use Rattle.turtle_reader.specs.declared.meaning.Meaning.{Meaning}
use Rattle.turtle_reader.specs.Contexts.{at_start, context_after}
use Rattle.turtle_reader.specs.declared.referent.ResolvedTriple.{ResolvedTriple}
use Rattle.turtle_reader.specs.Faults.{Next}
use Rattle.turtle_reader.specs.FirstFaults.{IsFaultAt}
use Rattle.turtle_reader.specs.Handed.{AreResolved}
use Rattle.turtle_reader.specs.Lexemes.{symbols_of}
use Rattle.turtle_reader.specs.Meanings.{AreMeanings}
use Rattle.turtle_reader.specs.Texts.{AreLexemesTo, AreFirst, AreComplete, AreCompleteWhere, adds, adds_to_string, is_string_symbol}
use Rattle.turtle_reader.proofs.Firsts.{first_shorter, firsts_agree, ended}
use Rattle.turtle_reader.proofs.Handing.{handed_still, made_first}
use Rattle.turtle_reader.proofs.Sequences.{meanings_agree}
use Rattle.turtle_text.specs.Faults.{HasSize, IsLarge, IsWithinLimits}
use Rattle.turtle_text.specs.Triples.{IsTripleOf, AreTriplesOf}
use Rattle.turtle_text.proofs.Spelling.{one_triples, triples_are}
use Rattle.syntax_laws.specs.Laws.{WrittenGraphsAreRead}
use Rattle.syntax_laws.specs.ReadBack.{GraphHasTexts, GraphIsReadBack}
use Rattle.syntax_laws.proofs.Cuts.{Adds, IsFirst, cut_graph}
use Rattle.syntax_laws.proofs.Graphs.{graph_pieces}
use Rattle.syntax_laws.proofs.Meanings.{meanings_of, graph_meant}
use Rattle.syntax_laws.proofs.Spelled.{graph_lexemes, are_lexemes, are_meanings, are_triples, written_graphs_spell}
use Rattle.syntax_laws.proofs.Trees.{document_of, symbols_are, document_same, ArePlain, are_plain, plain_first, no_depth}

-- ---- sizes

size_both : (xs ys : List RdfTriple) → triples_size (xs ++ ys) ≡ triples_size xs + triples_size ys
size_both [] ys = omega arith
size_both (x ∷ xs) ys = omega (
  arith,
  size_both xs ys,
  sum_by-cons (λ n. n) (triple_size x) (map triple_size xs),
  sum_by-cons (λ n. n) (triple_size x) (map triple_size (xs ++ ys)),
)

-- ---- meanings of the first lexemes

-- the meanings are the first of all
record AreFirstMeanings (all ms : List Meaning) : Type 0 where
  more : List Meaning
  is : all ≡ ms ++ more

first_meanings : (bytes : List ℕ) (c : Context) (xs ys : List Lexeme) (all ms : List Meaning) → AreMeanings bytes c (xs ++ ys) all → AreMeanings bytes c xs ms
    → AreFirstMeanings all ms
first_meanings bytes c [] ys all [] h k = record { more = all; is = refl }
first_meanings bytes c [] ys all (m ∷ ms) h k = absurd k
first_meanings bytes c (x ∷ xs) ys [] ms h k = absurd h
first_meanings bytes c (x ∷ xs) ys (n ∷ all) [] h k = absurd k
first_meanings bytes c (x ∷ xs) ys (n ∷ all) (m ∷ ms) (one, more) (other, rest) =
    let same : m ≡ n = meanings_agree bytes c x m n other one in
    let moved : AreMeanings bytes (context_after c x n) xs ms = subst (λ (z : Meaning). AreMeanings bytes (context_after c x z) xs ms) same rest in
    let f = first_meanings bytes (context_after c x n) xs ys all ms more moved in
    record { more = f.more; is = ap (λ (z : List Meaning). n ∷ z) f.is ∙ ap (λ (z : Meaning). z ∷ (ms ++ f.more)) (sym same) }

-- with more meanings nodes refer to the same
resolved_stay : (ms more : List Meaning) (ps : List Production) (rs : List ResolvedTriple) → AreResolved ms ps rs → AreResolved (ms ++ more) ps rs
resolved_stay ms [] ps rs h = subst (λ (z : List Meaning). AreResolved z ps rs) (sym (append-nil ms)) h
resolved_stay ms (m ∷ more) ps rs h =
    subst (λ (z : List Meaning). AreResolved z ps rs) (append_assoc ms (m ∷ []) more) (resolved_stay (ms ++ m ∷ []) more ps rs (handed_still ms m ps rs h))

-- ---- a last String

head_symbol : (x y : Symbol) (xs ys : List Symbol) → x ∷ xs ≡ y ∷ ys → x ≡ y
head_symbol x y xs ys e = cc

tail_symbols : (x y : Symbol) (xs ys : List Symbol) → x ∷ xs ≡ y ∷ ys → xs ≡ ys
tail_symbols x y xs ys e = cc

last_string : (bytes : List ℕ) (xs : List Lexeme) (from : ℕ) (s : Bool) (end : ℕ) (string : Bool) → AreLexemesTo Document bytes from s xs end string
    → (front : List Symbol) → symbols_of xs ≡ front ++ Token Kind.Quoted ∷ [] → string ≡ true
last_string bytes [] from s end string h [] e = absurd (omega (arith, ap length e))
last_string bytes [] from s end string h (f ∷ front) e = absurd (omega (arith, ap length e))
last_string bytes (x ∷ []) from s end string (lexed, (at, is)) [] e = sym is ∙ ap is_string_symbol (head_symbol x.symbol (Token Kind.Quoted) [] [] e)
last_string bytes (x ∷ []) from s end string h (f ∷ front) e = absurd (omega (arith, ap length e, length-append front (Token Kind.Quoted ∷ [])))
last_string bytes (x ∷ y ∷ ys) from s end string h [] e = absurd (omega (arith, ap length e))
last_string bytes (x ∷ y ∷ ys) from s end string (lexed, rest) (f ∷ front) e =
    last_string bytes (y ∷ ys) x.to (is_string_symbol x.symbol) end string rest front
    (tail_symbols x.symbol f (symbols_of (y ∷ ys)) (front ++ Token Kind.Quoted ∷ []) e)

adds_symbol : (x : Symbol) (xs : List Symbol) → Adds (x ∷ xs) → adds x ≡ true
adds_symbol (Token Kind.LangTag) xs h = refl
adds_symbol (Token Kind.Carets) xs h = refl
adds_symbol _ xs h = absurd h

-- what follows some lexemes of a whole list
abbrev next_of : List Lexeme → Next
next_of [] = Ok None
next_of (l ∷ ls) = Ok (Some l)

next_adds : (rest : List Lexeme) → Adds (symbols_of rest) → adds_to_string (next_of rest) ≡ true
next_adds [] h = absurd h
next_adds (l ∷ ls) h = adds_symbol l.symbol (symbols_of ls) h

-- ---- complete productions are the first of all

fronts_same : (xs ys : List Production) (x y : Production) → xs ++ x ∷ [] ≡ ys ++ y ∷ [] → xs ≡ ys
fronts_same [] [] x y e = refl
fronts_same [] (z ∷ ys) x y e = absurd (omega (arith, ap length e, length-append ys (y ∷ [])))
fronts_same (z ∷ xs) [] x y e = absurd (omega (arith, ap length e, length-append xs (x ∷ [])))
fronts_same (z ∷ xs) (w ∷ ys) x y e =
    let same = heads z w (xs ++ x ∷ []) (ys ++ y ∷ []) e in
    ap (λ (u : Production). u ∷ xs) same.0 ∙ ap (λ (us : List Production). w ∷ us) (fronts_same xs ys x y same.1)
  where
    heads : (x y : Production) (xs ys : List Production) → x ∷ xs ≡ y ∷ ys → (x ≡ y) × (xs ≡ ys)
    heads x y xs ys e = (cc, cc)

complete_of_first : (string adds : Bool) (all ps complete : List Production) → AreCompleteWhere string adds ps complete → IsFirst all ps → IsFirst all complete
complete_of_first true true all ps complete (own, e) f =
    record { more = own ∷ f.more; is = sym (append_assoc complete (own ∷ []) f.more) ∙ ap (λ (z : List Production). z ++ f.more) (sym e) ∙ f.is }
complete_of_first true false all ps complete e f = subst (IsFirst all) e f
complete_of_first false adds all ps complete e f = subst (IsFirst all) e f

complete_of_own : (string adds : Bool) (all ps before complete : List Production) (own : Production) → string ≡ true → adds ≡ true
    → AreCompleteWhere string adds ps complete → ps ≡ before ++ own ∷ [] → IsFirst all before → IsFirst all complete
complete_of_own true true all ps before complete own s a (other, e) is f = subst (IsFirst all) (fronts_same before complete own other (sym is ∙ e)) f
complete_of_own true false all ps before complete own s a h is f = absurd (false≢true a)
complete_of_own false adds all ps before complete own s a h is f = absurd (false≢true s)

no_less : (limit n : ℕ) → n ≡ 0 → limit < n → ⊥
no_less limit n e h = omega (arith, e, h)

low_high : (limit size whole : ℕ) → size ≤ whole → whole ≤ limit → limit < size → ⊥
low_high limit size whole le low high = omega (arith, le, low, high)

-- ---- the limits

module _ (base : List ℕ) (graph : List RdfTriple) (is_graph : IsGraph graph) (texts : GraphHasTexts graph) (read_back : GraphIsReadBack graph) where
  abbrev all : List Production
  all = (document_end (document_of graph) start_point).produced

  last : AreFirst Document (graph_text graph) (graph_lexemes graph) (Ok None)
  last = are_lexemes base graph texts read_back

  same_symbols : symbols_of (graph_lexemes graph) ≡ document_symbols (document_of graph) []
  same_symbols = symbols_are 0 (graph_pieces [] graph) ∙ sym (document_same [] graph is_graph.rdf)

  plain : ArePlain (document_symbols (document_of graph) [])
  plain = subst ArePlain (sym (document_same [] graph is_graph.rdf)) (are_plain base (graph_pieces [] graph) (graph_meant base [] graph texts read_back))

  abbrev IsFault : List Lexeme → Next → TurtleFault → Type 0
  IsFault before next fault = IsFaultAt (IsLarge base (graph_text graph)) Document base (graph_text graph) before next fault

  -- The lexemes are the first of all, and this follows them.
  record IsFollowed (xs : List Lexeme) (next : Next) : Type 0 where
    rest : List Lexeme
    is : graph_lexemes graph ≡ xs ++ rest
    next_is : next ≡ next_of rest

  followed : (xs : List Lexeme) (next : Next) → AreFirst Document (graph_text graph) xs next → IsFollowed xs next
  followed xs next first = elim (cases_lt (length xs) (length (graph_lexemes graph))) [
    | inl lt ↦
        let (l, rest, answer, split) = first_shorter Document (graph_text graph) xs (graph_lexemes graph) next (Ok None) first last lt in
        record { rest = l ∷ rest; is = split; next_is = answer }
    | inr le ↦ elim (cases_lt (length (graph_lexemes graph)) (length xs)) [
      | inl more ↦
          let (l, rest, answer, split) = first_shorter Document (graph_text graph) (graph_lexemes graph) xs (Ok None) next last first more in
          absurd (ended l (Ok None) refl answer)
      | inr ge ↦
          let same : length xs ≡ length (graph_lexemes graph) = omega (arith, le, ge) in
          let agree = firsts_agree Document (graph_text graph) xs (graph_lexemes graph) next (Ok None) first last same in
          record { rest = []; is = sym agree.0 ∙ sym (append-nil xs); next_is = agree.1 }
    ]
  ]

  symbols_split : (xs rest : List Lexeme) → graph_lexemes graph ≡ xs ++ rest
      → symbols_of xs ++ symbols_of rest ≡ document_symbols (document_of graph) []
  symbols_split xs rest is = sym (map-append (λ (l : Lexeme). l.symbol) xs rest) ∙ ap symbols_of (sym is) ∙ same_symbols

  -- the first lexemes open no bracket
  shallow : (xs : List Lexeme) (l : Lexeme) (rest : List Lexeme) → graph_lexemes graph ≡ xs ++ l ∷ rest
      → depth_from 0 (symbols_of (xs ++ l ∷ [])) ≡ 0
  shallow xs l rest is =
      let one : List Symbol = symbols_of (xs ++ l ∷ []) in
      let split = symbols_split (xs ++ l ∷ []) rest (is ∙ sym (append_assoc xs (l ∷ []) rest)) in
      no_depth one (plain_first one (symbols_of rest) (subst ArePlain (sym split) plain))

  not_deep_by : (xs rest : List Lexeme) (at : ℕ) → graph_lexemes graph ≡ xs ++ rest → IsFault xs (next_of rest) (Bad at Why.Depth) → ⊥
  not_deep_by xs [] at is h = h
  not_deep_by xs (l ∷ rest) at is h = no_less DEPTH_LIMIT (depth_from 0 (symbols_of (xs ++ l ∷ []))) (shallow xs l rest is) h.1

  module _ (xs : List Lexeme) (resolved : List ResolvedTriple) (h : AreComplete Document base (graph_text graph) xs resolved) where
    follows : IsFollowed xs h.next
    follows = followed xs h.next h.follows

    -- the productions that are complete with the first lexemes are the first of all
    complete_first : IsFirst all h.complete
    complete_first =
        let symbols : List Symbol = symbols_of xs in
        let cut = cut_graph graph plain symbols (symbols_of follows.rest) (symbols_split xs follows.rest follows.is) in
        let same : h.productions ≡ cut.productions = one_produced Document symbols h.productions cut.productions h.produces cut.produces in
        let completes : AreCompleteWhere h.follows.string (adds_to_string h.next) cut.productions h.complete =
        subst (λ (z : List Production). AreCompleteWhere h.follows.string (adds_to_string h.next) z h.complete) same h.completes in
        elim cut.fits [
          | inl whole ↦ complete_of_first h.follows.string (adds_to_string h.next) all cut.productions h.complete completes whole
          | inr own ↦
              let string = last_string (graph_text graph) xs 0 false h.follows.to h.follows.string h.follows.lexemes_are own.front own.ends in
              let more : adds_to_string h.next ≡ true = ap adds_to_string follows.next_is ∙ next_adds follows.rest own.adds in
              complete_of_own h.follows.string (adds_to_string h.next) all cut.productions own.before h.complete own.own string more completes own.is own.first
        ]

    -- so their triples are the first of the graph
    first_resolved : AreResolved (meanings_of (graph_pieces [] graph)) h.complete resolved
    first_resolved =
        let ms : List Meaning = meanings_of (graph_pieces [] graph) in
        let means : AreMeanings (graph_text graph) (at_start base) (xs ++ follows.rest) ms =
        subst (λ (z : List Lexeme). AreMeanings (graph_text graph) (at_start base) z ms) follows.is (are_meanings base graph texts read_back) in
        let meanings = first_meanings (graph_text graph) (at_start base) xs follows.rest ms h.meanings means h.means in
        subst (λ (z : List Meaning). AreResolved z h.complete resolved) (sym meanings.is) (resolved_stay h.meanings meanings.more h.complete resolved h.resolved)

  size_of_first : (ps : List Production) (found : List RdfTriple) → IsFirst all ps → AreTriplesOf (graph_text graph) (meanings_of (graph_pieces [] graph)) ps found
      → triples_size found ≤ triples_size graph
  size_of_first ps found first h =
      let ms : List Meaning = meanings_of (graph_pieces [] graph) in
      let whole : AreTriplesOf (graph_text graph) ms (ps ++ first.more) graph =
      subst (λ (z : List Production). AreTriplesOf (graph_text graph) ms z graph) (sym first.is) (are_triples graph is_graph) in
      let (a, b, split, has) = made_first (IsTripleOf (graph_text graph) ms) ps first.more graph whole in
      let sizes : triples_size graph ≡ triples_size a + triples_size b = ap triples_size split ∙ size_both a b in
      let same : triples_size found ≡ triples_size a = ap triples_size (one_triples (graph_text graph) ms ps found a h has) in
      omega (arith, sizes, same)

  size_within : (xs : List Lexeme) (size : ℕ) → HasSize base (graph_text graph) xs size → size ≤ triples_size graph
  size_within xs size h =
      let ps : List Production = h.complete.complete in
      let are = triples_are (graph_text graph) (meanings_of (graph_pieces [] graph)) ps h.resolved h.triples (first_resolved xs h.resolved h.complete) h.are_triples in
      let within = size_of_first ps h.triples (complete_first xs h.resolved h.complete) are in
      omega (arith, h.size_is, within)

  module _ (small : triples_size graph ≤ TRIPLES_LIMIT) where
    not_large : (xs : List Lexeme) (next : Next) (at : ℕ) → IsFault xs next (TooLarge at) → ⊥
    not_large xs (Ok (Some l)) at (here, (size, has, large)) =
        low_high TRIPLES_LIMIT size (triples_size graph) (size_within (xs ++ l ∷ []) size has) small large
    not_large xs (Ok None) at h = h
    not_large xs (Err f) at h = h

    pub within_limits : IsWithinLimits base (graph_text graph)
    within_limits index at = (
      λ (xs, next, first, size, is).
          let f = followed xs next first in
          not_deep_by xs f.rest at f.is (subst (λ (z : Next). IsFault xs z (Bad at Why.Depth)) f.next_is is),
      λ (xs, next, first, size, is). not_large xs next at is,
    )

pub written_graphs_are_read : WrittenGraphsAreRead
written_graphs_are_read base graph is_graph texts read_back small result only =
    only graph (written_graphs_spell base graph is_graph texts read_back) (within_limits base graph is_graph texts read_back small)
