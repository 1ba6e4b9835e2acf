-- The bytes are one text, and one within the limits has no fault.
use Rattle.std.proofs.Common.{◌≡◌, ℕ, Bool, true, false, List, [], ◌∷◌, ◌++◌, length, Some, None, Ok, Err}
use Rattle.std.proofs.Common.{inl, inr, refl, sym, ap, ◌∙◌, subst, arith}
use Rattle.std.proofs.lemmas.Bool.{cases_lt}
use Rattle.std.proofs.lemmas.List.{same_from_push}
use Rattle.turtle_grammar.specs.declared.symbol.Symbol.{Symbol}
use Rattle.turtle_grammar.specs.declared.symbol.Start.{Start}
use Rattle.turtle_grammar.specs.declared.production.Production.{Production}
use Rattle.turtle_grammar.specs.Derivations.{Derives, GoesOn}
use Rattle.turtle_grammar.proofs.OneProduced.{one_produced}
use Rattle.turtle_grammar.proofs.Theorem.{same_productions}
use Rattle.turtle_terms.specs.declared.fault.TurtleFault.{TurtleFault}
use Rattle.turtle_terms.specs.declared.fault.TurtleFault.TheVariants.{Bad, TooLarge, NoMemory}
use Rattle.turtle_reader.specs.declared.lexeme.Lexeme.{Lexeme}
use Rattle.turtle_reader.specs.declared.meaning.Meaning.{Meaning}
use Rattle.turtle_reader.specs.declared.referent.ResolvedTriple.{ResolvedTriple}
use Rattle.turtle_reader.specs.Contexts.{at_start}
use Rattle.turtle_reader.specs.Faults.{Next, HasNoIri}
use Rattle.turtle_reader.specs.FirstFaults.{IsFaultAt, IsLargeAt, NeverLarge, HasNoFault, IsShallow, IsNowhereLarge}
use Rattle.turtle_reader.specs.Handed.{AreResolved}
use Rattle.turtle_reader.specs.Lexemes.{symbols_of}
use Rattle.turtle_reader.specs.Meanings.{AreMeanings}
use Rattle.turtle_reader.specs.Texts.{AreFirst, IsText, AreComplete, AreCompleteWhere, adds_to_string}
use Rattle.turtle_reader.proofs.Firsts.{firsts_agree, strings_agree, first_shorter, one_list, ended}
use Rattle.turtle_reader.proofs.Handing.{one_handed}
use Rattle.turtle_reader.proofs.Sequences.{one_means, no_iri_fault}
use Rattle.turtle_reader.proofs.Stepping.{none_after, split_symbols}
use Rattle.turtle_reader.proofs.Walking.{fault_along, at_index, least_end}

pub one_text : (start : Start) (base bytes : List ℕ) (ps qs : List Production) (ms ns : List Meaning) → IsText start base bytes ps ms → IsText start base bytes qs ns
    → (qs ≡ ps) × (ns ≡ ms)
one_text start base bytes ps qs ms ns h k =
    let lexemes : k.lexemes ≡ h.lexemes = one_list start bytes k.lexemes h.lexemes k.are_lexemes h.are_lexemes in
    let derives : Derives start (symbols_of h.lexemes) qs = subst (λ (z : List Lexeme). Derives start (symbols_of z) qs) lexemes k.derives in
    let means : AreMeanings bytes (at_start base) h.lexemes ns = subst (λ (z : List Lexeme). AreMeanings bytes (at_start base) z ns) lexemes k.means in
    (same_productions start (symbols_of h.lexemes) qs ps derives h.derives, one_means bytes (at_start base) h.lexemes ns ms means h.means)

-- A text within the limits has no fault.
module _ (IsLarge : List Lexeme → Type 0) (start : Start) (base bytes : List ℕ) (ps : List Production) (ms : List Meaning) (h : IsText start base bytes ps ms)
    (shallow : IsShallow IsLarge start base bytes) (small : IsNowhereLarge IsLarge start base bytes) where
  module _ (before : List Lexeme) (l : Lexeme) (rest : List Lexeme) (split : h.lexemes ≡ before ++ l ∷ rest)
      (first : AreFirst start bytes before (Ok (Some l))) where
    goes : GoesOn start (symbols_of (before ++ l ∷ []))
    goes = record {
      rest = symbols_of rest;
      productions = ps;
      derives = subst (λ (z : List Symbol). Derives start z ps) (ap symbols_of split ∙ split_symbols before l rest) h.derives;
    }

    no_iri : (f : TurtleFault) → HasNoIri base bytes before (Ok (Some l)) f → ⊥
    no_iri f (ns, means, bad) =
        no_iri_fault bytes (at_start base) before l rest ms ns f
        (subst (λ (z : List Lexeme). AreMeanings bytes (at_start base) z ms) split h.means) means bad

    not_inside : (f : TurtleFault) → IsFaultAt IsLarge start base bytes before (Ok (Some l)) f → ⊥
    not_inside (Bad at kind) is =
        none_after start base bytes before l goes no_iri (λ at' deep. shallow (length before) at' (before, Ok (Some l), first, refl, deep)) (Bad at kind) is
    not_inside (TooLarge at) is = small (length before) at (before, Ok (Some l), first, refl, is)
    not_inside NoMemory is = is

  pub no_fault : HasNoFault IsLarge start base bytes
  no_fault n f (before, next, first, size, is) = elim (cases_lt (length before) (length h.lexemes)) [
    | inl lt ↦
        let (l, rest, answer, split) = first_shorter start bytes before h.lexemes next (Ok None) first h.are_lexemes lt in
        not_inside before l rest split (subst (AreFirst start bytes before) answer first) f (fault_along IsLarge start base bytes before next (Ok (Some l)) f answer is)
    | inr le ↦ elim (cases_lt (length h.lexemes) (length before)) [
      | inl more ↦
          let (l, rest, answer, split) = first_shorter start bytes h.lexemes before (Ok None) next h.are_lexemes first more in
          ended l (Ok None) refl answer
      | inr ge ↦
          let same : length h.lexemes ≡ length before = omega arith in
          let moved = at_index IsLarge start base bytes h.lexemes (Ok None) h.are_lexemes (length before) f same (before, next, first, refl, is) in
          (least_end IsLarge start base bytes h.lexemes f moved).1 ps h.derives
    ]
  ]

-- Complete triples

one_where : (string adds : Bool) (ps cs ds : List Production) → AreCompleteWhere string adds ps cs → AreCompleteWhere string adds ps ds → cs ≡ ds
one_where true true ps cs ds (own, e) (other, f) = (same_from_push cs ds own other (sym e ∙ f)).0
one_where true false ps cs ds h k = sym h ∙ k
one_where false adds ps cs ds h k = sym h ∙ k

-- The triples that are complete with some lexemes are one list.
pub one_complete : (start : Start) (base bytes : List ℕ) (xs : List Lexeme) (ts us : List ResolvedTriple) → AreComplete start base bytes xs ts
    → AreComplete start base bytes xs us → ts ≡ us
one_complete start base bytes xs ts us h k =
    let next = (firsts_agree start bytes xs xs h.next k.next h.follows k.follows refl).1 in
    let string : k.follows.string ≡ h.follows.string = sym (strings_agree start bytes xs xs h.next k.next h.follows k.follows refl) in
    let productions : k.productions ≡ h.productions = one_produced start (symbols_of xs) k.productions h.productions k.produces h.produces in
    let adds : adds_to_string k.next ≡ adds_to_string h.next = ap adds_to_string (sym next) in
    let completes : AreCompleteWhere h.follows.string (adds_to_string h.next) h.productions k.complete =
    subst (λ (z : Bool). AreCompleteWhere z (adds_to_string h.next) h.productions k.complete) string
    (subst (λ (z : Bool). AreCompleteWhere k.follows.string z h.productions k.complete) adds
    (subst (λ (z : List Production). AreCompleteWhere k.follows.string (adds_to_string k.next) z k.complete) productions k.completes)) in
    let complete : k.complete ≡ h.complete = one_where h.follows.string (adds_to_string h.next) h.productions k.complete h.complete completes h.completes in
    let meanings : k.meanings ≡ h.meanings = one_means bytes (at_start base) xs k.meanings h.meanings k.means h.means in
    one_handed h.meanings h.complete ts us h.resolved
    (subst (λ (z : List Meaning). AreResolved z h.complete us) meanings (subst (λ (z : List Production). AreResolved k.meanings z us) complete k.resolved))

-- a language without a limit is nowhere too large
never_at : (before : List Lexeme) (next : Next) (at : ℕ) → IsLargeAt NeverLarge before next at → ⊥
never_at before (Ok (Some l)) at h = h.1
never_at before (Ok None) at h = h
never_at before (Err f) at h = h

pub nowhere_large : (start : Start) (base bytes : List ℕ) → IsNowhereLarge NeverLarge start base bytes
nowhere_large start base bytes index at (before, next, first, size, is) = never_at before next at is
