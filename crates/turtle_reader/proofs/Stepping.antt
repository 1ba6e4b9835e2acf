-- What a reader has read has no fault, and the fault of the lexeme after it is the least one there.
use Rattle.std.proofs.Common.{◌≡◌, ◌≢◌, ℕ, ◌+◌, ◌<◌, ◌≤◌, lit≤, List, [], ◌∷◌, ◌++◌, length, take, Some, Result, Ok, Err}
use Rattle.std.proofs.Common.{refl, sym, ap, ◌∙◌, subst, arith, append_assoc, length-append}
use Rattle.std.proofs.lemmas.List.{map-append, length-map, length_push, take_all, take_at}
use Rattle.std.specs.List.{All}
use Rattle.turtle_grammar.specs.declared.symbol.Start.{Start}
use Rattle.turtle_grammar.specs.declared.symbol.Symbol.{Symbol}
use Rattle.turtle_grammar.specs.declared.production.Production.{Production}
use Rattle.turtle_grammar.specs.declared.fault.TheConstants.{DEPTH_LIMIT}
use Rattle.turtle_grammar.specs.Derivations.{GoesOn, depth_from}
use Rattle.turtle_grammar.specs.Names.{Names}
use Rattle.turtle_grammar.specs.Readings.{HasRead, NamesOn, StopsAt, IsTooDeepAt}
use Rattle.turtle_grammar.specs.Readings.{ReadsOn as MachineReadsOn}
use Rattle.turtle_grammar.proofs.Steps.{goes_on_now}
use Rattle.turtle_grammar.proofs.Theorem.{goes_on_front}
use Rattle.turtle_terms.specs.declared.fault.TurtleKind.TheVariants as Why
use Rattle.turtle_terms.specs.declared.fault.TurtleFault.{TurtleFault}
use Rattle.turtle_terms.specs.declared.fault.TurtleFault.TheVariants.{Bad, TooLarge, NoMemory}
use Rattle.turtle_reader.specs.declared.lexeme.Lexeme.{Lexeme}
use Rattle.turtle_reader.specs.declared.meaning.Meaning.{Meaning}
use Rattle.turtle_reader.specs.declared.context.Context.{Context}
use Rattle.turtle_reader.specs.declared.kept_meanings.KeptMeanings.{KeptMeanings}
use Rattle.turtle_reader.specs.declared.reader.Reader.{Reader}
use Rattle.turtle_reader.specs.Kept.{IsKept, AreKept, DropsUnnamed, entries, is_referred_to, with_meaning}
use Rattle.turtle_reader.specs.Lexemes.{symbols_of}
use Rattle.turtle_reader.specs.Contexts.{at_start, context_after, context_from}
use Rattle.turtle_reader.specs.Meanings.{IsMeaning}
use Rattle.turtle_reader.specs.Faults.{HasNoIri, IsDeep, IsFaultAfter, IsLeastAfter, HasNoFaultAfter, rank}
use Rattle.turtle_reader.specs.Readings.{IsReading, IsHeld, AreHeld, produced_last, IsRefused}
use Rattle.turtle_reader.proofs.Holding.{held_on, keeps_with}
use Rattle.turtle_reader.proofs.Sequences.{symbols_more, means_more, means_size, context_more, no_iri_fault, one_means, meaning_or_fault, faults_agree, IsIriFault, iri_fault}

module _ (start : Start) (base bytes : List ℕ) (ls : List Lexeme) (ps : List Production) (ms : List Meaning) (old : Reader)
    (h : IsReading start base bytes ls ps ms old) where
  here_meaning : (l : Lexeme) (r : Result Meaning TurtleFault) → IsMeaning bytes old.context l r → IsMeaning bytes (context_from (at_start base) ls ms) l r
  here_meaning l r k = subst (λ (c : Context). IsMeaning bytes c l r) (sym h.context) k

  -- one lexeme more
  module _ (l : Lexeme) (m : Meaning) (new : Reader) (mid : KeptMeanings) (reads : MachineReadsOn l.symbol old.machine new.machine)
      (names : NamesOn l.symbol old.machine new.machine) (means : IsMeaning bytes old.context l (Ok m)) (context : new.context ≡ context_after old.context l m)
      (drops : DropsUnnamed old.machine old.kept mid) (stay : (all : List Meaning) → AreKept all old.kept → AreKept all mid)
      (kept : entries new.kept ≡ with_meaning (is_referred_to m) old.read m (entries mid)) (read : new.read ≡ old.read + 1) where
    kept_now : entries new.kept ≡ with_meaning (is_referred_to m) (length ms) m (entries mid)
    kept_now = subst (λ (n : ℕ). entries new.kept ≡ with_meaning (is_referred_to m) n m (entries mid)) h.read kept

    size_now : length ms ≡ length (symbols_of ls)
    size_now = means_size bytes (at_start base) ls ms h.means ∙ sym (length-map ls (λ (x : Lexeme). x.symbol))

    held_now : AreHeld (ms ++ m ∷ []) new × All (Names (IsHeld (ms ++ m ∷ []) new.kept)) (produced_last new)
    held_now = held_on ms m (length (symbols_of ls)) size_now old new mid drops kept_now h.held
        (λ i other avoids. names i start (symbols_of ls) ps h.machine other avoids)

    pub reads_more : (x : Meaning) × IsReading start base bytes (ls ++ l ∷ []) (ps ++ produced_last new) (ms ++ x ∷ []) new
        × All (Names (IsHeld (ms ++ x ∷ []) new.kept)) (produced_last new)
    reads_more =
        let size : length (ms ++ m ∷ []) ≡ length ms + 1 = length-append ms (m ∷ []) in
        let before : old.read ≡ length ms = h.read in (
          m,
          record {
            machine = subst (λ (z : List Symbol). HasRead start z (ps ++ produced_last new) new.machine) (sym (symbols_more ls l)) (reads start (symbols_of ls) ps h.machine);
            means = means_more bytes (at_start base) ls ms l m h.means (here_meaning l (Ok m) means);
            context = context_more bytes (at_start base) ls ms l m h.means ∙ ap (λ (c : Context). context_after c l m) h.context ∙ sym context;
            kept = subst (All (IsKept (ms ++ m ∷ []))) (sym kept_now) (keeps_with (is_referred_to m) ms m (entries mid) (stay ms h.kept));
            held = held_now.0;
            read = omega (arith, read, size, before);
          },
          held_now.1,
        )

  module _ (l : Lexeme) where
    more_back : GoesOn start (symbols_of ls ++ l.symbol ∷ []) → GoesOn start (symbols_of (ls ++ l ∷ []))
    more_back g = subst (GoesOn start) (sym (symbols_more ls l)) g

    abbrev Here : TurtleFault → Type 0
    Here f = IsFaultAfter start base bytes ls (Ok (Some l)) f

    grammar_least : (f : TurtleFault) → Here f → 2 ≤ rank f
    grammar_least (Bad at Why.NotText) e = cc
    grammar_least (Bad at Why.BadToken) e = cc
    grammar_least _ e = lit≤ tt

    -- nothing goes on with the lexeme
    pub grammar_here : StopsAt l.symbol old.machine → IsLeastAfter start base bytes ls (Ok (Some l)) (Bad l.from Why.Grammar)
    grammar_here stops = record {
      has = (refl, λ g. stops start (symbols_of ls) ps h.machine (subst (GoesOn start) (symbols_more ls l) g));
      least = grammar_least;
    }

    -- the fault of an IRI here is that of the lexeme under the context
    known : (g : TurtleFault) → HasNoIri base bytes ls (Ok (Some l)) g → IsMeaning bytes old.context l (Err g)
    known g (ns, means, bad) =
        let same : ns ≡ ms = one_means bytes (at_start base) ls ns ms means h.means in
        subst (λ (c : Context). IsMeaning bytes c l (Err g)) h.context
        (subst (λ (z : List Meaning). IsMeaning bytes (context_from (at_start base) ls z) l (Err g)) same bad)

    same_rank : (f g : TurtleFault) → IsMeaning bytes old.context l (Err f) → HasNoIri base bytes ls (Ok (Some l)) g → rank f ≤ rank g
    same_rank f g k no_iri =
        let same : rank f ≡ rank g = ap rank (faults_agree bytes old.context l f g k (known g no_iri)) in
        omega (arith, same)

    module _ (goes : GoesOn start (symbols_of ls ++ l.symbol ∷ [])) where
      iri_least : (f : TurtleFault) → IsMeaning bytes old.context l (Err f) → rank f ≤ 4 → (g : TurtleFault) → Here g → rank f ≤ rank g
      iri_least f k low (Bad at Why.NotText) e = cc
      iri_least f k low (Bad at Why.BadToken) e = cc
      iri_least f k low (Bad at Why.Grammar) e = absurd (e.1 (more_back goes))
      iri_least f k low (Bad at Why.Prefix) e = same_rank f (Bad at Why.Prefix) k e
      iri_least f k low (Bad at Why.BadIri) e = same_rank f (Bad at Why.BadIri) k e
      iri_least f k low _ e = omega (arith, low)

      iri_parts : (f : TurtleFault) → IsIriFault f → HasNoIri base bytes ls (Ok (Some l)) f → Here f × (rank f ≤ 4)
      iri_parts (Bad at Why.Prefix) i no_iri = (no_iri, lit≤ tt)
      iri_parts (Bad at Why.BadIri) i no_iri = (no_iri, lit≤ tt)
      iri_parts _ i no_iri = absurd i

      -- its IRI is none
      pub iri_here : (f : TurtleFault) → IsMeaning bytes old.context l (Err f) → IsLeastAfter start base bytes ls (Ok (Some l)) f
      iri_here f k =
          let both = iri_parts f (iri_fault bytes old.context l f k).0 (ms, h.means, here_meaning l (Err f) k) in
          record { has = both.0; least = iri_least f k both.1 }

      no_iri_here : (m : Meaning) → IsMeaning bytes old.context l (Ok m) → (g : TurtleFault) → HasNoIri base bytes ls (Ok (Some l)) g → ⊥
      no_iri_here m k g e = meaning_or_fault bytes old.context l m g k (known g e)

      deep_least : (m : Meaning) → IsMeaning bytes old.context l (Ok m) → (g : TurtleFault) → Here g → 5 ≤ rank g
      deep_least m k (Bad at Why.NotText) e = cc
      deep_least m k (Bad at Why.BadToken) e = cc
      deep_least m k (Bad at Why.Grammar) e = absurd (e.1 (more_back goes))
      deep_least m k (Bad at Why.Prefix) e = absurd (no_iri_here m k (Bad at Why.Prefix) e)
      deep_least m k (Bad at Why.BadIri) e = absurd (no_iri_here m k (Bad at Why.BadIri) e)
      deep_least m k _ e = lit≤ tt

    -- it opens a bracket too many
    pub deep_here : (m : Meaning) → IsTooDeepAt l.symbol old.machine → IsMeaning bytes old.context l (Ok m)
        → IsLeastAfter start base bytes ls (Ok (Some l)) (Bad l.from Why.Depth)
    deep_here m deep k =
        let both = deep start (symbols_of ls) ps h.machine in
        let high : DEPTH_LIMIT < depth_from 0 (take (length (symbols_of ls) + 1) (symbols_of ls ++ l.symbol ∷ [])) = both.1.1 in
        let within = length_push (symbols_of ls) l.symbol in
        let all = take_all (length (symbols_of ls) + 1) (symbols_of ls ++ l.symbol ∷ []) (omega (arith, within)) ∙ sym (symbols_more ls l) in
        record {
          has = (refl, subst (λ (z : List Symbol). DEPTH_LIMIT < depth_from 0 z) all high);
          least = deep_least both.0 m k;
        }

-- the lexemes up to one of them, and those after it
pub split_symbols : (bs : List Lexeme) (x : Lexeme) (us : List Lexeme)
    → symbols_of (bs ++ x ∷ us) ≡ symbols_of (bs ++ x ∷ []) ++ symbols_of us
split_symbols bs x us =
    ap symbols_of (sym (append_assoc bs (x ∷ []) us)) ∙ map-append (λ (l : Lexeme). l.symbol) (bs ++ x ∷ []) us

-- a lexeme that goes on, has no fault of an IRI and isn't too deep has no fault
pub none_after : (start : Start) (base bytes : List ℕ) (bs : List Lexeme) (x : Lexeme) → GoesOn start (symbols_of (bs ++ x ∷ []))
    → ((f : TurtleFault) → HasNoIri base bytes bs (Ok (Some x)) f → ⊥) → ((at : ℕ) → IsDeep bs (Ok (Some x)) at → ⊥) → HasNoFaultAfter start base bytes bs (Ok (Some x))
none_after start base bytes bs x goes no_iri not_deep (Bad at Why.NotText) e = cc
none_after start base bytes bs x goes no_iri not_deep (Bad at Why.BadToken) e = cc
none_after start base bytes bs x goes no_iri not_deep (Bad at Why.Grammar) e = e.1 goes
none_after start base bytes bs x goes no_iri not_deep (Bad at Why.Prefix) e = no_iri (Bad at Why.Prefix) e
none_after start base bytes bs x goes no_iri not_deep (Bad at Why.BadIri) e = no_iri (Bad at Why.BadIri) e
none_after start base bytes bs x goes no_iri not_deep (Bad at Why.Depth) e = not_deep at e
none_after start base bytes bs x goes no_iri not_deep _ e = e

-- The lexemes that were read have no fault.
module _ (start : Start) (base bytes : List ℕ) (bs : List Lexeme) (x : Lexeme) (us : List Lexeme) (ps : List Production) (ms : List Meaning)
    (reader : Reader) (h : IsReading start base bytes (bs ++ x ∷ us) ps ms reader) where
  goes : GoesOn start (symbols_of (bs ++ x ∷ []))
  goes = goes_on_front start (symbols_of (bs ++ x ∷ [])) (symbols_of us)
      (subst (GoesOn start) (split_symbols bs x us) (goes_on_now start (symbols_of (bs ++ x ∷ us)) ps reader.machine h.machine))

  size_is : length (symbols_of (bs ++ x ∷ [])) ≡ length bs + 1
  size_is = length-map (bs ++ x ∷ []) (λ (l : Lexeme). l.symbol) ∙ length-append bs (x ∷ [])

  whole_size : length (symbols_of (bs ++ x ∷ us)) ≡ length bs + length (x ∷ us)
  whole_size = length-map (bs ++ x ∷ us) (λ (l : Lexeme). l.symbol) ∙ length-append bs (x ∷ us)

  first_symbols : take (length bs + 1) (symbols_of (bs ++ x ∷ us)) ≡ symbols_of (bs ++ x ∷ [])
  first_symbols =
      ap (take (length bs + 1)) (split_symbols bs x us) ∙ take_at (symbols_of (bs ++ x ∷ [])) (symbols_of us) (length bs + 1) size_is

  not_deep : DEPTH_LIMIT < depth_from 0 (symbols_of (bs ++ x ∷ [])) → ⊥
  not_deep high =
      let lt : length bs < length (symbols_of (bs ++ x ∷ us)) = omega (arith, whole_size) in
      h.machine.shallow (length bs) lt (lt, subst (λ (z : List Symbol). DEPTH_LIMIT < depth_from 0 z) (sym first_symbols) high)

  no_iri : (f : TurtleFault) → HasNoIri base bytes bs (Ok (Some x)) f → ⊥
  no_iri f (ns, means, bad) = no_iri_fault bytes (at_start base) bs x us ms ns f h.means means bad

  pub no_fault_before : HasNoFaultAfter start base bytes bs (Ok (Some x))
  no_fault_before f e = none_after start base bytes bs x goes no_iri (λ at deep. not_deep deep.1) f e

-- the IRI of a lexeme with which the text goes on is none
pub iri_refused : (bytes : List ℕ) (l : Lexeme) (old : Reader)
    → ((start : Start) (ts : List Symbol) (ps : List Production) → HasRead start ts ps old.machine → GoesOn start (ts ++ l.symbol ∷ []))
    → (f : TurtleFault) → (f ≢ NoMemory → IsMeaning bytes old.context l (Err f)) → IsRefused bytes l old f
iri_refused bytes l old goes (Bad at kind) means = λ start base ls ps ms h.
    iri_here start base bytes ls ps ms old h l (goes start (symbols_of ls) ps h.machine) (Bad at kind) (means (λ e. cc))
iri_refused bytes l old goes (TooLarge at) means = (iri_fault bytes old.context l (TooLarge at) (means (λ e. cc))).0
iri_refused bytes l old goes NoMemory means = tt
