-- The walk over a text: which fault is returned, one lexeme more, and its end.
use Rattle.std.proofs.Common.{◌≡◌, ◌≢◌, ◌⊎◌, ℕ, ◌+◌, ◌-◌, ◌<◌, ◌≤◌, lit≤, ◌&&◌, if◌then◌else◌, Bool, true, false, List, [], ◌∷◌, ◌++◌, length, Option, Some, None, IfSome, Ok, Err, IfOk}
use Rattle.std.proofs.Common.{inl, inr, refl, sym, ap, ◌∙◌, subst, arith, append_assoc, append-nil}
use Rattle.std.proofs.lemmas.Bool.{both_ways, cases_lt}
use Rattle.std.proofs.lemmas.List.{length_push}
use Rattle.turtle_lex.specs.declared.token.LexFault.{LexFault}
use Rattle.turtle_lex.specs.declared.token.LexFault.TheVariants as lex
use Rattle.turtle_lex.specs.declared.token.TokenKind.TheVariants as Kind
use Rattle.turtle_grammar.specs.declared.symbol.Start.{Start}
use Rattle.turtle_grammar.specs.declared.symbol.Symbol.{Symbol}
use Rattle.turtle_grammar.specs.declared.symbol.Symbol.TheVariants.{Token}
use Rattle.turtle_grammar.specs.declared.production.Production.{Production}
use Rattle.turtle_grammar.specs.declared.production.Production.TheVariants.{Triple}
use Rattle.turtle_grammar.specs.declared.production.SymbolicTriple.{SymbolicTriple}
use Rattle.turtle_grammar.specs.Derivations.{Derives}
use Rattle.turtle_grammar.specs.Readings.{HasString, IsDerived, IsUnfinished, IsTriple, waiting_productions}
use Rattle.turtle_terms.specs.declared.fault.TurtleKind.{TurtleKind}
use Rattle.turtle_terms.specs.declared.fault.TurtleKind.TheVariants as Why
use Rattle.turtle_terms.specs.declared.fault.TurtleFault.{TurtleFault}
use Rattle.turtle_terms.specs.declared.fault.TurtleFault.TheVariants.{Bad, TooLarge, NoMemory}
use Rattle.turtle_reader.specs.declared.lexeme.Lexeme.{Lexeme}
use Rattle.turtle_reader.specs.declared.meaning.Meaning.{Meaning}
use Rattle.turtle_reader.specs.declared.progress.Progress.{Progress}
use Rattle.turtle_reader.specs.declared.reader.Reader.{Reader}
use Rattle.turtle_reader.specs.declared.referent.ResolvedTriple.{ResolvedTriple}
use Rattle.turtle_reader.specs.Faults.{Next, IsLeastAfter, rank, document_fault}
use Rattle.turtle_reader.specs.FirstFaults.{IsFaultAt, HasFaultAt, HasNoFault, IsFirstFault}
use Rattle.turtle_reader.specs.Handed.{AreResolved}
use Rattle.turtle_reader.specs.Languages.{KeepsOn, StaysKept, Judges, IsJudged, KeepsText, with_waiting}
use Rattle.turtle_reader.specs.Lexemes.{symbols_of}
use Rattle.turtle_reader.specs.Readings.{IsReading, ReadsOn, IsRefused, Resolves, produced_last}
use Rattle.turtle_reader.specs.Referents.{IsResolved}
use Rattle.turtle_reader.specs.Texts.{AreComplete, AreCompleteWhere, AreFirst, AreLexemesTo, IsLexed, adds_to_string, is_string_symbol}
use Rattle.turtle_reader.specs.Walks.{HasKept, IsLastAt, IsSized, FitsBelow, Completes, if_complete, ResolvesIf, KeepsAll}
use Rattle.turtle_reader.proofs.Firsts.{firsts_agree, first_shorter, first_front, ended}
use Rattle.turtle_reader.proofs.Handing.{made_more, handed_still}
use Rattle.turtle_reader.proofs.OneLexeme.{lexemes_on, placed}
use Rattle.turtle_reader.proofs.Stepping.{no_fault_before}

-- What is kept of productions

module _ {T : Type 0} (IsKept : List ℕ → List ResolvedTriple → T → Type 0) (bytes : List ℕ) (reader : Reader) where
  pub keeps_triple : (s : SymbolicTriple) (r : ResolvedTriple) (old new : T) → Resolves s reader r → KeepsOn IsKept bytes r old new
      → KeepsAll IsKept bytes reader (Triple s ∷ []) old new
  keeps_triple s r old new resolves keeps = λ start base bytes' ls ps ms reads handed kept.
      (r ∷ [], (r, [], refl, resolves start base bytes' ls ps ms reads, refl), keeps handed kept)

  pub keeps_nothing : (ps : List Production) (kept : T) → ((ms : List Meaning) → AreResolved ms ps []) → KeepsAll IsKept bytes reader ps kept kept
  keeps_nothing ps kept none = λ start base bytes' ls qs ms reads handed h.
      ([], none ms, subst (λ (z : List ResolvedTriple). IsKept bytes z kept) (sym (append-nil handed)) h)

  pub keeps_more : (ps : List Production) (p : Production) (old mid new : T) → KeepsAll IsKept bytes reader ps old mid → KeepsAll IsKept bytes reader (p ∷ []) mid new
      → KeepsAll IsKept bytes reader (ps ++ p ∷ []) old new
  keeps_more ps p old mid new h k = λ start base bytes' ls qs ms reads handed kept.
      let (xs, are, one) = h start base bytes' ls qs ms reads handed kept in
      let (ys, are', two) = k start base bytes' ls qs ms reads (handed ++ xs) one in
      (xs ++ ys, made_more (IsResolved ms) ps (p ∷ []) xs ys are are', subst (λ (z : List ResolvedTriple). IsKept bytes z new) (append_assoc handed xs ys) two)

string_kind : (s : Symbol) → is_string_symbol s ≡ true → s ≡ Token Kind.Quoted
string_kind (Token Kind.Quoted) e = refl
string_kind _ e = absurd (let no : false ≡ true = e in cc)

-- What was read

rank_bad : (at : ℕ) (kind : TurtleKind) → rank (Bad at kind) ≤ 6
rank_bad at Why.NotText = lit≤ tt
rank_bad at _ = lit≤ tt

module _ (IsLarge : List Lexeme → Type 0) (start : Start) (base bytes : List ℕ) where
  abbrev At : List Lexeme → Next → TurtleFault → Type 0
  At before next f = IsFaultAt IsLarge start base bytes before next f

  abbrev Has : ℕ → TurtleFault → Type 0
  Has i f = HasFaultAt IsLarge start base bytes i f

  pub fault_along : (before : List Lexeme) (next other : Next) (f : TurtleFault) → next ≡ other → At before next f → At before other f
  fault_along before next other f e h = subst (λ (z : Next). At before z f) e h

  -- what is a fault after some lexemes, whichever list of them is given
  pub at_index : (ls : List Lexeme) (next : Next) → AreFirst start bytes ls next → (i : ℕ) (g : TurtleFault) → length ls ≡ i → Has i g → At ls next g
  at_index ls next first i g same (before, next', first', size, is') =
      let agree = firsts_agree start bytes ls before next next' first first' (same ∙ sym size) in
      let moved : At ls next' g = subst (λ (z : List Lexeme). At z next' g) (sym agree.0) is' in
      fault_along ls next' next g (sym agree.1) moved

  -- at the end of the text only the grammar can have a fault
  pub least_end : (ls : List Lexeme) (g : TurtleFault) → At ls (Ok None) g
      → (2 ≤ rank g) × ((productions : List Production) → Derives start (symbols_of ls) productions → ⊥)
  least_end ls (Bad at Why.NotText) is = cc
  least_end ls (Bad at Why.BadToken) is = cc
  least_end ls (Bad at Why.Grammar) is = (lit≤ tt, is.1)
  least_end ls _ is = absurd is

  least_bad_token : (ls : List Lexeme) (at : ℕ) (g : TurtleFault) → At ls (Err (lex.BadToken at)) g → 1 ≤ rank g
  least_bad_token ls at (Bad at' Why.NotText) is = cc
  least_bad_token ls at (Bad at' Why.BadToken) is = lit≤ tt
  least_bad_token ls at _ is = absurd is

  -- a reader's fault is the least, since the size has the last rank
  least_of : (ls : List Lexeme) (l : Lexeme) (at : ℕ) (kind : TurtleKind) → IsLeastAfter start base bytes ls (Ok (Some l)) (Bad at kind)
      → (g : TurtleFault) → At ls (Ok (Some l)) g → rank (Bad at kind) ≤ rank g
  least_of ls l at kind h (Bad at' kind') is = h.least (Bad at' kind') is
  least_of ls l at kind h (TooLarge at') is = rank_bad at kind
  least_of ls l at kind h NoMemory is = absurd is

  -- Some lexemes were read, and this comes next.
  module _ {T : Type 0} {IsKept : List ℕ → List ResolvedTriple → T → Type 0} {at : ℕ} {p : Progress} {kept : T}
      (h : HasKept IsKept IsLarge start base bytes at p kept) (next : Next) (lexed : IsLexed start bytes at p.after_string next) where
    abbrev count : ℕ
    count = length h.lexemes

    abbrev first : AreFirst start bytes h.lexemes next
    first = record { to = at; string = p.after_string; lexemes_are = h.lexemes_are; lexed = lexed }

    -- the lexemes that were read have no fault but their size
    no_earlier : (i at' : ℕ) (kind : TurtleKind) → i < count → Has i (Bad at' kind) → ⊥
    no_earlier i at' kind lt (before, next', first', size, is) =
        let less : length before < count = omega (arith, size) in
        let (l, rest, answer, split) = first_shorter start bytes before h.lexemes next' next first' first less in
        let reading : IsReading start base bytes (before ++ l ∷ rest) h.productions h.meanings p.reader =
        subst (λ (z : List Lexeme). IsReading start base bytes z h.productions h.meanings p.reader) split h.reading in
        no_fault_before start base bytes before l rest h.productions h.meanings p.reader reading (Bad at' kind)
        (fault_along before next' (Ok (Some l)) (Bad at' kind) answer is)

    -- nor that, where it fits
    earlier : (n : ℕ) → n ≤ count → FitsBelow IsLarge start base bytes n → (i : ℕ) (g : TurtleFault) → i < n → Has i g → ⊥
    earlier n le fits i (Bad at' kind) lt has = no_earlier i at' kind (omega (arith, le, lt)) has
    earlier n le fits i (TooLarge at') lt has = fits i at' lt has
    earlier n le fits i NoMemory lt (before, next', first', size, is) = is

    -- a fault of an index before which there is none, of the least rank there
    least_at : (n : ℕ) (f : TurtleFault) → ((i : ℕ) (g : TurtleFault) → i < n → Has i g → ⊥) → ((g : TurtleFault) → Has n g → rank f ≤ rank g) → Has n f
        → IsFirstFault IsLarge start base bytes f
    least_at n f none least has = record { index = n; has = has; first = others } where
      others : (i : ℕ) (g : TurtleFault) → Has i g → (n < i) ⊎ ((n ≡ i) × (rank f ≤ rank g))
      others i g found = elim (cases_lt n i) [
        | inl lt ↦ inl lt
        | inr le ↦ elim (cases_lt i n) [
          | inl less ↦ absurd (none i g less found)
          | inr ge ↦ let same : n ≡ i = omega arith in inr (same, least g (subst (λ (z : ℕ). Has z g) (sym same) found))
        ]
      ]

    -- The size of what was read

    -- before the first lexeme
    pub sized_first : p.last ≡ None → FitsBelow IsLarge start base bytes count
    sized_first none i at' lt has =
        let empty : h.lexemes ≡ [] = subst (IsLastAt h.lexemes) none h.last in let size : count ≡ 0 = ap length empty in absurd (omega (arith, size, lt))

    -- the last lexeme, which is read, so that its only fault can be the size
    module _ (before : List Lexeme) (last : Lexeme) (split : h.lexemes ≡ before ++ last ∷ []) where
      size : length before + 1 ≡ count
      size = sym (ap length split ∙ length_push before last)

      last_first : AreFirst start bytes before (Ok (Some last))
      last_first = first_front start bytes before last [] at p.after_string
          (subst (λ (z : List Lexeme). AreLexemesTo start bytes 0 false z at p.after_string) split h.lexemes_are)

      last_rank : (g : TurtleFault) → Has (length before) g → 6 ≤ rank g
      last_rank (Bad at' kind) has = absurd (no_earlier (length before) at' kind (omega (arith, size)) has)
      last_rank (TooLarge at') has = lit≤ tt
      last_rank NoMemory has = lit≤ tt

      large_here : IsLarge h.lexemes → IsFirstFault IsLarge start base bytes (TooLarge last.from)
      large_here large =
          least_at (length before) (TooLarge last.from) (earlier (length before) (omega (arith, size)) (h.fits (length before) size)) last_rank
          (before, Ok (Some last), last_first, refl, (refl, subst IsLarge split large))

      small_here : (IsLarge h.lexemes → ⊥) → FitsBelow IsLarge start base bytes count
      small_here small i at' lt has = elim (cases_lt i (length before)) [
        | inl less ↦ h.fits (length before) size i at' less has
        | inr le ↦
            let same : length before ≡ i = omega (arith, size, lt) in
            small (subst IsLarge (sym split) (at_index before (Ok (Some last)) last_first i (TooLarge at') same has).1)
      ]

    pub sized : (place : ℕ) → p.last ≡ Some place → (large : Bool) → IsJudged large (IsLarge h.lexemes)
        → IsSized IsLarge start base bytes count (if large then Some place else None)
    sized place some true large =
        let (before, last, split, is) = subst (IsLastAt h.lexemes) some h.last in
        subst (λ (n : ℕ). IsFirstFault IsLarge start base bytes (TooLarge n)) (sym is) (large_here before last split large)
    sized place some false small =
        let (before, last, split, is) = subst (IsLastAt h.lexemes) some h.last in small_here before last split small

    -- The complete triples

    abbrev Found : Bool → Bool → Option SymbolicTriple → Option ResolvedTriple → Type 0
    Found s a waiting found = (complete : List Production) × AreCompleteWhere s a (h.productions ++ waiting_productions waiting) complete
        × AreResolved h.meanings complete (with_waiting h.handed found)

    whole : (waiting : Option SymbolicTriple) (found : Option ResolvedTriple) → ResolvesIf waiting p.reader found
        → AreResolved h.meanings (h.productions ++ waiting_productions waiting) (with_waiting h.handed found)
    whole None found is =
        subst (λ (o : Option ResolvedTriple). AreResolved h.meanings (h.productions ++ []) (with_waiting h.handed o)) (sym is)
        (subst (λ (z : List Production). AreResolved h.meanings z h.handed) (sym (append-nil h.productions)) h.resolved)
    whole (Some s) found (r, is, resolves) =
        subst (λ (o : Option ResolvedTriple). AreResolved h.meanings (h.productions ++ Triple s ∷ []) (with_waiting h.handed o)) (sym is)
        (made_more (IsResolved h.meanings) h.productions (Triple s ∷ []) h.handed (r ∷ []) h.resolved
        (r, [], refl, resolves start base bytes h.lexemes h.productions h.meanings h.reading, refl))

    found_by : (s a : Bool) (waiting : Option SymbolicTriple) (found : Option ResolvedTriple) → (s ≡ true → IsTriple waiting)
        → ResolvesIf (if_complete (s && a) waiting) p.reader found → Found s a waiting found
    found_by true true waiting found string is =
        let (own, e) = string refl in (
          h.productions,
          (Triple own, ap (λ (o : Option SymbolicTriple). h.productions ++ waiting_productions o) e),
          subst (λ (o : Option ResolvedTriple). AreResolved h.meanings h.productions (with_waiting h.handed o)) (sym is) h.resolved,
        )
    found_by true false waiting found string is = (h.productions ++ waiting_productions waiting, refl, whole waiting found is)
    found_by false a waiting found string is = (h.productions ++ waiting_productions waiting, refl, whole waiting found is)

    pub are_complete : (found : Option ResolvedTriple) → Completes next p found → AreComplete start base bytes h.lexemes (with_waiting h.handed found)
    are_complete found c =
        let (complete, completes, resolved) = found_by p.after_string (adds_to_string next) c.waiting found (λ e. c.has_string (h.string e)) c.resolves in
        record {
          next = next;
          productions = h.productions ++ waiting_productions c.waiting;
          complete = complete;
          meanings = h.meanings;
          follows = first;
          produces = c.waits start (symbols_of h.lexemes) h.productions h.reading.machine;
          completes = completes;
          means = h.reading.means;
          resolved = resolved;
        }

    -- What comes next

    module _ (fits : FitsBelow IsLarge start base bytes count) where
      -- its fault, where it is the least there
      told_here : (f : TurtleFault) → ((g : TurtleFault) → At h.lexemes next g → rank f ≤ rank g) → At h.lexemes next f → IsFirstFault IsLarge start base bytes f
      told_here f least is =
          least_at count f (earlier count (omega arith) fits) (λ g has. least g (at_index h.lexemes next first count g refl has)) (h.lexemes, next, first, refl, is)

      pub lexer_fault : (f : LexFault) → next ≡ Err f → document_fault f ≢ NoMemory → IsFirstFault IsLarge start base bytes (document_fault f)
      lexer_fault (lex.NotText place) is other = told_here (Bad place Why.NotText) (λ g has. omega arith) is
      lexer_fault (lex.BadToken place) is other =
          told_here (Bad place Why.BadToken) (λ g has. least_bad_token h.lexemes place g (fault_along h.lexemes next (Err (lex.BadToken place)) g is has)) is
      lexer_fault lex.NoMemory is other = absurd (other refl)

      pub reader_fault : (l : Lexeme) → next ≡ Ok (Some l) → (f : TurtleFault) → IsRefused bytes l p.reader f → f ≢ NoMemory → IsFirstFault IsLarge start base bytes f
      reader_fault l is (Bad at' kind) r other =
          let least = r start base h.lexemes h.productions h.meanings h.reading in
          told_here (Bad at' kind) (λ g has. least_of h.lexemes l at' kind least g (fault_along h.lexemes next (Ok (Some l)) g is has))
          (fault_along h.lexemes (Ok (Some l)) next (Bad at' kind) (sym is) least.has)
      reader_fault l is (TooLarge at') r other = absurd r
      reader_fault l is NoMemory r other = absurd (other refl)

      -- the end of a text that is unfinished
      pub unfinished : next ≡ Ok None → IsUnfinished p.reader.machine → IsFirstFault IsLarge start base bytes (Bad (length bytes) Why.Grammar)
      unfinished is left =
          let short : (productions : List Production) → Derives start (symbols_of h.lexemes) productions → ⊥ =
          λ others derives. left start (symbols_of h.lexemes) h.productions others h.reading.machine derives in
          let has : At h.lexemes (Ok None) (Bad (length bytes) Why.Grammar) = (refl, short) in
          told_here (Bad (length bytes) Why.Grammar) (λ g other. (least_end h.lexemes g (fault_along h.lexemes next (Ok None) g is other)).0)
          (fault_along h.lexemes (Ok None) next (Bad (length bytes) Why.Grammar) (sym is) has)

      -- a text that is complete has no fault
      pub complete : next ≡ Ok None → IsDerived p.reader.machine → HasNoFault IsLarge start base bytes
      complete is derived i f has = elim (cases_lt i count) [
        | inl lt ↦ earlier count (omega arith) fits i f lt has
        | inr le ↦ elim (cases_lt count i) [
          | inl more ↦
              let (before, next', first', size, is') = has in
              let (l, rest, answer, split) = first_shorter start bytes h.lexemes before next next' first first' (omega (arith, size, more)) in
              ended l next is answer
          | inr ge ↦
              let same : count ≡ i = omega arith in
              (least_end h.lexemes f (fault_along h.lexemes next (Ok None) f is (at_index h.lexemes next first i f same has))).1 h.productions
              (derived start (symbols_of h.lexemes) h.productions h.reading.machine)
        ]
      ]

      -- and is kept
      pub text_kept : (mid : T) → StaysKept IsKept kept mid → next ≡ Ok None → IsDerived p.reader.machine → KeepsText IsKept start base bytes mid
      text_kept mid stays is derived = record {
        productions = h.productions;
        meanings = h.meanings;
        handed = h.handed;
        text = record {
          lexemes = h.lexemes;
          are_lexemes = subst (AreFirst start bytes h.lexemes) is first;
          derives = derived start (symbols_of h.lexemes) h.productions h.reading.machine;
          means = h.reading.means;
        };
        resolved = h.resolved;
        is_kept = stays bytes h.handed h.is_kept;
      }

      -- One lexeme more

      module _ (l : Lexeme) (is : next ≡ Ok (Some l)) (to : ℕ) (from_is : IfOk next (λ o. IfSome o (λ x. to ≡ x.to))) where
        end : to ≡ l.to
        end = subst (λ (r : Next). IfOk r (λ o. IfSome o (λ x. to ≡ x.to))) is from_is

        here : IsLexed start bytes at p.after_string (Ok (Some l))
        here = subst (IsLexed start bytes at p.after_string) is lexed

        pub nearer : length bytes - to < length bytes - at
        nearer =
            let placed = placed start bytes at p.after_string l here in let a = placed.after in let b = placed.in_order in let c = placed.within in
            omega (arith, end, a, b, c)

        pub one_more : (mid new : T) (reader : Reader) (string : Bool) → StaysKept IsKept kept mid → ReadsOn bytes l p.reader reader
            → KeepsAll IsKept bytes reader (produced_last reader) mid new → string ≡ is_string_symbol l.symbol
            → (l.symbol ≡ Token Kind.Quoted → HasString reader.machine)
            → HasKept IsKept IsLarge start base bytes to (record { reader = reader; after_string = string; last = Some l.from }) new
        one_more mid new reader string stays reads keeps quoted has_string =
            let (meaning, reading, held) = reads start base h.lexemes h.productions h.meanings h.reading in
            let (more, are, is_kept) = keeps start base bytes (h.lexemes ++ l ∷ []) (h.productions ++ produced_last reader) (h.meanings ++ meaning ∷ []) reading
            h.handed (stays bytes h.handed h.is_kept) in
            record {
              lexemes = h.lexemes ++ l ∷ [];
              productions = h.productions ++ produced_last reader;
              meanings = h.meanings ++ meaning ∷ [];
              handed = h.handed ++ more;
              lexemes_are = subst (λ (n : ℕ). AreLexemesTo start bytes 0 false (h.lexemes ++ l ∷ []) n string) (sym end)
                  (subst (AreLexemesTo start bytes 0 false (h.lexemes ++ l ∷ []) l.to) (sym quoted) (lexemes_on start bytes h.lexemes 0 false at p.after_string l h.lexemes_are here));
              reading = reading;
              resolved = made_more (IsResolved (h.meanings ++ meaning ∷ [])) h.productions (produced_last reader) h.handed more
                  (handed_still h.meanings meaning h.productions h.handed h.resolved) are;
              string = λ e. has_string (string_kind l.symbol (sym quoted ∙ e));
              last = (h.lexemes, l, refl, refl);
              fits = λ n e. subst (FitsBelow IsLarge start base bytes) (let size = length_push h.lexemes l in omega (arith, e, size)) fits;
              is_kept = is_kept;
            }

-- before the first lexeme
pub starts : {T : Type 0} (start : Start) (IsKept : List ℕ → List ResolvedTriple → T → Type 0) (IsLarge : List Lexeme → Type 0) (base bytes : List ℕ) (at : ℕ) (p : Progress) (kept : T)
    → at ≡ 0 → IsReading start base bytes [] [] [] p.reader → p.after_string ≡ false → p.last ≡ None → IsKept bytes [] kept → HasKept IsKept IsLarge start base bytes at p kept
starts start IsKept IsLarge base bytes at p kept from reading string last is = record {
  lexemes = [];
  productions = [];
  meanings = [];
  handed = [];
  lexemes_are = (sym from, sym string);
  reading = reading;
  resolved = refl;
  string = λ e. absurd (both_ways p.after_string string e);
  last = subst (IsLastAt []) (sym last) refl;
  fits = λ count e. let none : count + 1 ≡ 0 = e in absurd (omega (arith, none));
  is_kept = is;
}

-- how large the triples are, as the language judges them
pub judged : {T : Type 0} {IsKept : List ℕ → List ResolvedTriple → T → Type 0} (IsLarge : List ℕ → List ℕ → List Lexeme → Type 0) {start : Start} {base bytes : List ℕ}
    {at : ℕ} {p : Progress} {kept : T} (h : HasKept IsKept (IsLarge base bytes) start base bytes at p kept) (next : Next) → IsLexed start bytes at p.after_string next
    → (place : ℕ) → p.last ≡ Some place → (found : Option ResolvedTriple) → Completes next p found → (large : Bool) → Judges start IsKept IsLarge bytes found kept large
    → (b : Bool) → large ≡ b → IsSized (IsLarge base bytes) start base bytes (length h.lexemes) (if b then Some place else None)
judged IsLarge {start} {base} {bytes} h next lexed place some found completes large judges b e =
    sized (IsLarge base bytes) start base bytes h next lexed place some b (subst (λ (z : Bool). IsJudged z (IsLarge base bytes h.lexemes)) e
    (judges base h.lexemes h.handed h.is_kept (are_complete (IsLarge base bytes) start base bytes h next lexed found completes)))
