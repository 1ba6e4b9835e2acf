-- The first lexemes of some bytes: of two lists of them one is a prefix of the other.
use Rattle.std.proofs.Common.{◌≡◌, ℕ, ◌<◌, Bool, false, List, [], ◌∷◌, ◌++◌, length, Some, None, Ok}
use Rattle.std.proofs.Common.{inl, inr, refl, sym, ap, ◌∙◌, subst, arith}
use Rattle.std.proofs.lemmas.Bool.{cases_lt}
use Rattle.turtle_grammar.specs.declared.symbol.Start.{Start}
use Rattle.turtle_reader.specs.declared.lexeme.Lexeme.{Lexeme}
use Rattle.turtle_reader.specs.Faults.{Next}
use Rattle.turtle_reader.specs.Texts.{IsLexed, is_string_symbol, AreLexemesTo, AreFirst}
use Rattle.turtle_reader.proofs.OneLexeme.{one_lexed}

pub ended : (l : Lexeme) (next : Next) → next ≡ Ok None → next ≡ Ok (Some l) → ⊥
ended l next e f = cc

module _ (start : Start) (bytes : List ℕ) where
  next_agrees : (from : ℕ) (s : Bool) (a b : Lexeme) → IsLexed start bytes from s (Ok (Some a)) → IsLexed start bytes from s (Ok (Some b)) → a ≡ b
  next_agrees from s a b h k = let both = one_lexed start bytes from s (Ok (Some a)) (Ok (Some b)) h k in cc

  here : (from : ℕ) (s : Bool) (to : ℕ) (u : Bool) (a : Next) → from ≡ to → s ≡ u → IsLexed start bytes to u a → IsLexed start bytes from s a
  here from s to u a at string h =
      subst (λ (n : ℕ). IsLexed start bytes n s a) (sym at) (subst (λ (b : Bool). IsLexed start bytes to b a) (sym string) h)

  -- the lexemes of two walks from one position on
  abbrev Walk : ℕ → Bool → List Lexeme → ℕ → Bool → Next → Type 0
  Walk from s ls to u next = AreLexemesTo start bytes from s ls to u × IsLexed start bytes to u next

  walks_agree : (xs ys : List Lexeme) (from : ℕ) (s : Bool) (e f : ℕ) (u v : Bool) (a b : Next)
      → Walk from s xs e u a → Walk from s ys f v b → length xs ≡ length ys → (xs ≡ ys) × (a ≡ b) × (u ≡ v)
  walks_agree [] [] from s e f u v a b ((at, string), h) ((at', string'), k) same =
      (refl, one_lexed start bytes from s a b (here from s e u a at string h) (here from s f v b at' string' k), sym string ∙ string')
  walks_agree [] (y ∷ ys) from s e f u v a b h k same = absurd (omega (arith, same))
  walks_agree (x ∷ xs) [] from s e f u v a b h k same = absurd (omega (arith, same))
  walks_agree (x ∷ xs) (y ∷ ys) from s e f u v a b ((is_next, rest), h) ((is_next', rest'), k) same =
      let one : y ≡ x = next_agrees from s y x is_next' is_next in
      let moved : AreLexemesTo start bytes x.to (is_string_symbol x.symbol) ys f v =
      subst (λ (l : Lexeme). AreLexemesTo start bytes l.to (is_string_symbol l.symbol) ys f v) one rest' in
      let more = walks_agree xs ys x.to (is_string_symbol x.symbol) e f u v a b (rest, h) (moved, k) (omega (arith, same)) in
      (ap (λ (l : Lexeme). l ∷ xs) (sym one) ∙ ap (λ (ls : List Lexeme). y ∷ ls) more.0, more.1, more.2)

  walk_shorter : (xs ys : List Lexeme) (from : ℕ) (s : Bool) (e f : ℕ) (u v : Bool) (a : Next)
      → Walk from s xs e u a → AreLexemesTo start bytes from s ys f v
      → length xs < length ys → (l : Lexeme) × (rest : List Lexeme) × (a ≡ Ok (Some l)) × (ys ≡ xs ++ l ∷ rest)
  walk_shorter [] [] from s e f u v a h k lt = absurd (omega (arith, lt))
  walk_shorter [] (y ∷ ys) from s e f u v a ((at, string), h) (is_next, rest) lt =
      (y, ys, one_lexed start bytes from s a (Ok (Some y)) (here from s e u a at string h) is_next, refl)
  walk_shorter (x ∷ xs) [] from s e f u v a h k lt = absurd (omega (arith, lt))
  walk_shorter (x ∷ xs) (y ∷ ys) from s e f u v a ((is_next, rest), h) (is_next', rest') lt =
      let one : y ≡ x = next_agrees from s y x is_next' is_next in
      let moved : AreLexemesTo start bytes x.to (is_string_symbol x.symbol) ys f v =
      subst (λ (l : Lexeme). AreLexemesTo start bytes l.to (is_string_symbol l.symbol) ys f v) one rest' in
      let (l, more, is, split) = walk_shorter xs ys x.to (is_string_symbol x.symbol) e f u v a (rest, h) moved (omega (arith, lt)) in
      (l, more, is, ap (λ (z : Lexeme). z ∷ ys) one ∙ ap (λ (ls : List Lexeme). x ∷ ls) split)

  pub firsts_agree : (xs ys : List Lexeme) (a b : Next) → AreFirst start bytes xs a → AreFirst start bytes ys b → length xs ≡ length ys
      → (xs ≡ ys) × (a ≡ b)
  firsts_agree xs ys a b h k same =
      let all = walks_agree xs ys 0 false h.to k.to h.string k.string a b (h.lexemes_are, h.lexed) (k.lexemes_are, k.lexed) same in (all.0, all.1)

  pub strings_agree : (xs ys : List Lexeme) (a b : Next) (h : AreFirst start bytes xs a) (k : AreFirst start bytes ys b) → length xs ≡ length ys
      → h.string ≡ k.string
  strings_agree xs ys a b h k same =
      (walks_agree xs ys 0 false h.to k.to h.string k.string a b (h.lexemes_are, h.lexed) (k.lexemes_are, k.lexed) same).2

  pub first_shorter : (xs ys : List Lexeme) (a b : Next) → AreFirst start bytes xs a → AreFirst start bytes ys b → length xs < length ys
      → (l : Lexeme) × (rest : List Lexeme) × (a ≡ Ok (Some l)) × (ys ≡ xs ++ l ∷ rest)
  first_shorter xs ys a b h k lt = walk_shorter xs ys 0 false h.to k.to h.string k.string a (h.lexemes_are, h.lexed) k.lexemes_are lt

  -- a prefix of the first lexemes, with the lexeme after it
  front : (bs : List Lexeme) (l : Lexeme) (rest : List Lexeme) (from : ℕ) (s : Bool) (to : ℕ) (u : Bool) → AreLexemesTo start bytes from s (bs ++ l ∷ rest) to u
      → (e : ℕ) × (v : Bool) × Walk from s bs e v (Ok (Some l))
  front [] l rest from s to u (is_next, more) = (from, s, ((refl, refl), is_next))
  front (b ∷ bs) l rest from s to u (is_next, more) =
      let (e, v, walk) = front bs l rest b.to (is_string_symbol b.symbol) to u more in (e, v, ((is_next, walk.0), walk.1))

  pub first_front : (bs : List Lexeme) (l : Lexeme) (rest : List Lexeme) (to : ℕ) (u : Bool) → AreLexemesTo start bytes 0 false (bs ++ l ∷ rest) to u
      → AreFirst start bytes bs (Ok (Some l))
  first_front bs l rest to u h =
      let (e, v, walk) = front bs l rest 0 false to u h in record { to = e; string = v; lexemes_are = walk.0; lexed = walk.1 }

  -- the lexemes of a whole text are one list
  pub one_list : (xs ys : List Lexeme) → AreFirst start bytes xs (Ok None) → AreFirst start bytes ys (Ok None) → xs ≡ ys
  one_list xs ys h k = elim (cases_lt (length xs) (length ys)) [
    | inl lt ↦ (let (l, rest, answer, split) = first_shorter xs ys (Ok None) (Ok None) h k lt in absurd (ended l (Ok None) refl answer))
    | inr le ↦ elim (cases_lt (length ys) (length xs)) [
      | inl more ↦ (let (l, rest, answer, split) = first_shorter ys xs (Ok None) (Ok None) k h more in absurd (ended l (Ok None) refl answer))
      | inr ge ↦ (let same : length xs ≡ length ys = omega arith in (firsts_agree xs ys (Ok None) (Ok None) h k same).0)
    ]
  ]
