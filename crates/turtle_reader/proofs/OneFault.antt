-- A text has one first fault, and faults of a lesser index have a lesser position.
use Rattle.std.proofs.Common.{◌≡◌, ◌⊎◌, ℕ, ◌<◌, ◌≤◌, ◌==◌, if◌then◌else◌, Bool, false, List, [], ◌∷◌, ◌++◌, length, Some, None, Ok, Err}
use Rattle.std.proofs.Common.{inl, inr, refl, sym, ap, ◌∙◌, subst, arith}
use Rattle.turtle_grammar.specs.declared.symbol.Start.{Start}
use Rattle.turtle_terms.specs.declared.fault.TurtleKind.TheVariants as Why
use Rattle.turtle_terms.specs.declared.fault.TurtleFault.{TurtleFault}
use Rattle.turtle_terms.specs.declared.fault.TurtleFault.TheVariants.{Bad, TooLarge, NoMemory}
use Rattle.turtle_reader.specs.declared.lexeme.Lexeme.{Lexeme}
use Rattle.turtle_reader.specs.Contexts.{at_start, context_from}
use Rattle.turtle_reader.specs.Faults.{Next, rank}
use Rattle.turtle_reader.specs.FirstFaults.{IsFaultAt, HasFaultAt, IsFirstFault, place_of}
use Rattle.turtle_reader.specs.Texts.{IsLexed, is_string_symbol, AreLexemesTo}
use Rattle.turtle_reader.proofs.Firsts.{first_shorter}
use Rattle.turtle_reader.proofs.OneLexeme.{lex_at, placed, fault_after}
use Rattle.turtle_reader.proofs.Sequences.{iri_fault}
use Rattle.turtle_reader.proofs.Walking.{at_index}

-- the fault of a rank at a position
abbrev fault_of : ℕ → ℕ → TurtleFault
fault_of n at =
    if n == 0 then Bad at Why.NotText else
    if n == 1 then Bad at Why.BadToken else
    if n == 2 then Bad at Why.Grammar else
    if n == 3 then Bad at Why.Prefix else
    if n == 4 then Bad at Why.BadIri else
    if n == 5 then Bad at Why.Depth else
    if n == 6 then TooLarge at else NoMemory

fault_is : (f : TurtleFault) → f ≡ fault_of (rank f) (place_of f)
fault_is (Bad at Why.NotText) = refl
fault_is _ = refl

-- where a fault after some lexemes is
abbrev pub places : ℕ → Next → ℕ
places end (Ok (Some l)) = l.from
places end (Ok None) = end
places end (Err f) = lex_at f

-- The positions of lexemes

module _ (start : Start) (bytes : List ℕ) where
  walk_on : (ls : List Lexeme) (from : ℕ) (s : Bool) (e : ℕ) (u : Bool) → AreLexemesTo start bytes from s ls e u → from ≤ e
  walk_on [] from s e u (at, string) = omega (arith, at)
  walk_on (l ∷ ls) from s e u (is_next, rest) =
      let p = placed start bytes from s l is_next in let a = p.after in let b = p.in_order in
      let c = walk_on ls l.to (is_string_symbol l.symbol) e u rest in
      omega (arith, a, b, c)

  walk_within : (ls : List Lexeme) (from : ℕ) (s : Bool) (e : ℕ) (u : Bool) → from ≤ length bytes → AreLexemesTo start bytes from s ls e u → e ≤ length bytes
  walk_within [] from s e u low (at, string) = omega (arith, at, low)
  walk_within (l ∷ ls) from s e u low (is_next, rest) =
      let p = placed start bytes from s l is_next in walk_within ls l.to (is_string_symbol l.symbol) e u p.within rest

  -- the position of one of the lexemes
  walk_past : (bs : List Lexeme) (l : Lexeme) (rest : List Lexeme) (from : ℕ) (s : Bool) (e : ℕ) (u : Bool) → AreLexemesTo start bytes from s (bs ++ l ∷ rest) e u
      → l.from < e
  walk_past [] l rest from s e u (is_next, more) =
      let p = placed start bytes from s l is_next in let b = p.in_order in let c = walk_on rest l.to (is_string_symbol l.symbol) e u more in
      omega (arith, b, c)
  walk_past (b ∷ bs) l rest from s e u (is_next, more) = walk_past bs l rest b.to (is_string_symbol b.symbol) e u more

  later : (to : ℕ) (s : Bool) (next : Next) → to ≤ length bytes → IsLexed start bytes to s next → to ≤ places (length bytes) next
  later to s (Ok (Some l)) low h = let p = placed start bytes to s l h in p.after
  later to s (Ok None) low h = low
  later to s (Err f) low h = fault_after start bytes to s f h

module _ (IsLarge : List Lexeme → Type 0) (start : Start) (base bytes : List ℕ) where
  abbrev Here : List Lexeme → Next → TurtleFault → Type 0
  Here before next f = IsFaultAt IsLarge start base bytes before next f

  abbrev Has : ℕ → TurtleFault → Type 0
  Has i f = HasFaultAt IsLarge start base bytes i f

  place_is : (before : List Lexeme) (next : Next) (f : TurtleFault) → Here before next f → place_of f ≡ places (length bytes) next
  place_is before next (Bad at Why.NotText) h = sym (ap (places (length bytes)) h)
  place_is before next (Bad at Why.BadToken) h = sym (ap (places (length bytes)) h)
  place_is before (Ok (Some l)) (Bad at Why.Grammar) h = h.0
  place_is before (Ok None) (Bad at Why.Grammar) h = h.0
  place_is before (Ok (Some l)) (Bad at Why.Prefix) (ms, means, bad) = (iri_fault bytes (context_from (at_start base) before ms) l (Bad at Why.Prefix) bad).1
  place_is before (Ok (Some l)) (Bad at Why.BadIri) (ms, means, bad) = (iri_fault bytes (context_from (at_start base) before ms) l (Bad at Why.BadIri) bad).1
  place_is before (Ok (Some l)) (Bad at Why.Depth) h = h.0
  place_is before (Ok (Some l)) (TooLarge at) h = h.0
  place_is before _ _ h = absurd h

  same_fault : (before : List Lexeme) (next : Next) (f g : TurtleFault) → rank f ≡ rank g → Here before next f → Here before next g → f ≡ g
  same_fault before next f g same h k =
      fault_is f ∙ ap (λ (n : ℕ). fault_of n (place_of f)) same
      ∙ ap (fault_of (rank g)) (place_is before next f h ∙ sym (place_is before next g k)) ∙ sym (fault_is g)

  abbrev Order : ℕ → ℕ → ℕ → ℕ → Type 0
  Order i j m n = (i < j) ⊎ ((i ≡ j) × (m ≤ n))

  both : (i j m n : ℕ) → Order i j m n → Order j i n m → (i ≡ j) × (m ≡ n)
  both i j m n (inl a) (inl b) = absurd (omega (arith, a, b))
  both i j m n (inl a) (inr b) = let e = b.0 in absurd (omega (arith, a, e))
  both i j m n (inr a) (inl b) = let e = a.0 in absurd (omega (arith, b, e))
  both i j m n (inr a) (inr b) = (a.0, let p = a.1 in let q = b.1 in omega (arith, p, q))

  pub one_first_fault : (f g : TurtleFault) → IsFirstFault IsLarge start base bytes f → IsFirstFault IsLarge start base bytes g → f ≡ g
  one_first_fault f g h k =
      let same = both h.index k.index (rank f) (rank g) (h.first k.index g k.has) (k.first h.index f h.has) in
      let (before, next, first, size, is) = h.has in
      same_fault before next f g same.1 is (at_index IsLarge start base bytes before next first k.index g (size ∙ same.0) k.has)

  pub places_ascend : (i j : ℕ) (f g : TurtleFault) → Has i f → Has j g → i < j → place_of f < place_of g
  places_ascend i j f g (before, next, first, size, is) (other, next', first', size', is') lt =
      let less : length before < length other = omega (arith, size, size', lt) in
      let (l, rest, answer, split) = first_shorter start bytes before other next next' first first' less in
      let here : place_of f ≡ l.from = place_is before next f is ∙ ap (places (length bytes)) answer in
      let there : place_of g ≡ places (length bytes) next' = place_is other next' g is' in
      let walk : AreLexemesTo start bytes 0 false (before ++ l ∷ rest) first'.to first'.string =
      subst (λ (z : List Lexeme). AreLexemesTo start bytes 0 false z first'.to first'.string) split first'.lexemes_are in
      let past : l.from < first'.to = walk_past start bytes before l rest 0 false first'.to first'.string walk in
      let within : first'.to ≤ length bytes = walk_within start bytes other 0 false first'.to first'.string (omega arith) first'.lexemes_are in
      let on : first'.to ≤ places (length bytes) next' = later start bytes first'.to first'.string next' within first'.lexed in
      omega (arith, here, there, past, on)
