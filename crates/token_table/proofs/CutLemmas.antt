-- Texts cut at their first line feed, space or colon.
use Rattle.std.proofs.Common.{◌≡◌, ℕ, suc, ◌+◌, ◌<◌, Bool, true, false, not, cond, ◌||◌, List, [], ◌∷◌, ◌++◌, length, take, drop, refl, sym, ap, ◌∙◌, arith, length-drop}
use Rattle.std.specs.Prelude.{IsTrue}
use Rattle.std.specs.List.{list_all, list_any, position_or_len, before_first, after_first}
use Rattle.std.specs.Str.{IsUtf8, is_utf8}
use Rattle.std.proofs.lemmas.Bool.{eqb-true}
use Rattle.std.proofs.lemmas.Str.{IsUtf8-from_is_utf8, is_utf8-from_IsUtf8}
use Rattle.iri_ref.specs.Characters.{Lacks, colon, is_colon, is_scheme}
use Rattle.iri_ref.specs.Components.{IsAbsolute}
use Rattle.iri_ref.proofs.Schemes.{scheme_lacks_colon}
use Rattle.iri_ref.proofs.Texts.{and_left, and_right, and_both}
use Rattle.token_table.specs.TableLines.{is_line_feed, before_lines, lines_of, is_agent}

-- ---- the first mark

first_here : (test : ℕ → Bool) (b : ℕ) (xs : List ℕ) → test b ≡ true → (before_first test (b ∷ xs) ≡ []) × (after_first test (b ∷ xs) ≡ xs)
first_here test b xs e =
    let none : position_or_len test (b ∷ xs) ≡ 0 = ap (λ (t : Bool). cond (not t) (1 + position_or_len test xs) 0) e in
    (ap (λ (n : ℕ). take n (b ∷ xs)) none, ap (λ (n : ℕ). drop (n + 1) (b ∷ xs)) none)

first_later : (test : ℕ → Bool) (b : ℕ) (xs : List ℕ) → test b ≡ false → (before_first test (b ∷ xs) ≡ b ∷ before_first test xs) × (after_first test (b ∷ xs) ≡ after_first test xs)
first_later test b xs e =
    let more : position_or_len test (b ∷ xs) ≡ 1 + position_or_len test xs = ap (λ (t : Bool). cond (not t) (1 + position_or_len test xs) 0) e in
    let one : position_or_len test (b ∷ xs) ≡ suc (position_or_len test xs) = omega (arith, more) in
    let two : position_or_len test (b ∷ xs) + 1 ≡ suc (position_or_len test xs + 1) = omega (arith, more) in
    (ap (λ (n : ℕ). take n (b ∷ xs)) one, ap (λ (n : ℕ). drop n (b ∷ xs)) two)

pub after_shorter : (test : ℕ → Bool) (xs : List ℕ) → 0 < length xs → length (after_first test xs) < length xs
after_shorter test xs some = omega (arith, length-drop (position_or_len test xs + 1) xs, some)

-- ---- lines

pub lines_first : (b : ℕ) (xs : List ℕ) → lines_of (b ∷ xs) ≡ before_first is_line_feed (b ∷ xs) ∷ lines_of (after_first is_line_feed (b ∷ xs))
lines_first b [] = by_test (is_line_feed b) refl
  where
    by_test : (t : Bool) → is_line_feed b ≡ t → cond t ([] ∷ []) ((b ∷ []) ∷ []) ≡ before_first is_line_feed (b ∷ []) ∷ lines_of (after_first is_line_feed (b ∷ []))
    by_test true e = (let cut = first_here is_line_feed b [] e in sym (ap (λ (x : List ℕ). x ∷ lines_of (after_first is_line_feed (b ∷ []))) cut.0 ∙ ap (λ (x : List ℕ). [] ∷ lines_of x) cut.1))
    by_test false e = (let cut = first_later is_line_feed b [] e in sym (ap (λ (x : List ℕ). x ∷ lines_of (after_first is_line_feed (b ∷ []))) cut.0 ∙ ap (λ (x : List ℕ). (b ∷ []) ∷ lines_of x) cut.1))
lines_first b (c ∷ xs) = by_test (is_line_feed b) refl (lines_first c xs)
  where
    by_test : (t : Bool) → is_line_feed b ≡ t → lines_of (c ∷ xs) ≡ before_first is_line_feed (c ∷ xs) ∷ lines_of (after_first is_line_feed (c ∷ xs))
        → cond t ([] ∷ lines_of (c ∷ xs)) (before_lines b (lines_of (c ∷ xs))) ≡ before_first is_line_feed (b ∷ c ∷ xs) ∷ lines_of (after_first is_line_feed (b ∷ c ∷ xs))
    by_test true e below = (let cut = first_here is_line_feed b (c ∷ xs) e in sym (ap (λ (x : List ℕ). x ∷ lines_of (after_first is_line_feed (b ∷ c ∷ xs))) cut.0 ∙ ap (λ (x : List ℕ). [] ∷ lines_of x) cut.1))
    by_test false e below =
        let cut = first_later is_line_feed b (c ∷ xs) e in
        ap (before_lines b) below ∙ sym (ap (λ (x : List ℕ). x ∷ lines_of (after_first is_line_feed (b ∷ c ∷ xs))) cut.0 ∙ ap (λ (x : List ℕ). (b ∷ before_first is_line_feed (c ∷ xs)) ∷ lines_of x) cut.1)

pub lines_some : (text : List ℕ) → 0 < length text → lines_of text ≡ before_first is_line_feed text ∷ lines_of (after_first is_line_feed text)
lines_some [] some = absurd (omega arith)
lines_some (b ∷ xs) some = lines_first b xs

-- ---- agents

record ColonCut (text : List ℕ) : Type 0 where
  prefix : List ℕ
  rest : List ℕ
  whole : text ≡ prefix ++ colon ∷ rest
  lacks : Lacks is_colon prefix

colon_cut : (text : List ℕ) → list_any is_colon text ≡ true → ColonCut text
colon_cut [] h = absurd cc
colon_cut (c ∷ cs) h = by_test (is_colon c) refl h (colon_cut cs)
  where
    by_test : (t : Bool) → is_colon c ≡ t → (t || list_any is_colon cs) ≡ true → (list_any is_colon cs ≡ true → ColonCut cs) → ColonCut (c ∷ cs)
    by_test true e k below = record { prefix = []; rest = cs; whole = ap (λ (x : ℕ). x ∷ cs) (eqb-true c colon e); lacks = refl }
    by_test false e k below =
        let cut = below k in
        record { prefix = c ∷ cut.prefix; rest = cut.rest; whole = ap (λ (x : List ℕ). c ∷ x) cut.whole; lacks = and_both _ _ (ap not e) cut.lacks }

not_true : (b : Bool) → IsTrue (not b) → b ≡ false
not_true true h = absurd cc
not_true false h = refl

before_colon : (prefix rest : List ℕ) → Lacks is_colon prefix → before_first is_colon (prefix ++ colon ∷ rest) ≡ prefix
before_colon [] rest h = (first_here is_colon colon rest refl).0
before_colon (c ∷ cs) rest h =
    (first_later is_colon c (cs ++ colon ∷ rest) (not_true (is_colon c) (and_left _ (list_all (λ d. not (is_colon d)) cs) h))).0
    ∙ ap (λ (x : List ℕ). c ∷ x) (before_colon cs rest (and_right (not (is_colon c)) _ h))

or_right : (a b : Bool) → b ≡ true → (a || b) ≡ true
or_right true b h = refl
or_right false b h = h

any_colon : (prefix rest : List ℕ) → list_any is_colon (prefix ++ colon ∷ rest) ≡ true
any_colon [] rest = refl
any_colon (c ∷ cs) rest = or_right (is_colon c) _ (any_colon cs rest)

pub agent_from : (text : List ℕ) → IsUtf8 text → IsAbsolute text → is_agent text ≡ true
agent_from text u a =
    let scheme = a.scheme.0 in
    let rest = a.scheme.1 in
    let begins = a.scheme.2 in
    and_both _ _ (is_utf8-from_IsUtf8 text u) (and_both _ _ (ap (list_any is_colon) begins.whole ∙ any_colon scheme rest)
    (and_both _ _ (ap (λ (t : List ℕ). is_scheme (before_first is_colon t)) begins.whole ∙ ap is_scheme (before_colon scheme rest (scheme_lacks_colon scheme begins.is_one)) ∙ begins.is_one) a.allowed))

pub agent_is : (text : List ℕ) → is_agent text ≡ true → IsAbsolute text
agent_is text h =
    let behind = and_right (is_utf8 text) _ h in
    let cut = colon_cut text (and_left (list_any is_colon text) _ behind) in
    let tests = and_right (list_any is_colon text) _ behind in
    let scheme = and_left (is_scheme (before_first is_colon text)) _ tests in
    record {
      scheme = (
        cut.prefix,
        cut.rest,
        record { is_one = sym (ap (λ (t : List ℕ). is_scheme (before_first is_colon t)) cut.whole ∙ ap is_scheme (before_colon cut.prefix cut.rest cut.lacks)) ∙ scheme; whole = cut.whole },
      );
      allowed = and_right (is_scheme (before_first is_colon text)) _ tests;
    }

pub agent_utf8 : (text : List ℕ) → is_agent text ≡ true → IsUtf8 text
agent_utf8 text h = IsUtf8-from_is_utf8 text (and_left (is_utf8 text) _ h)

pub no_agent : (text : List ℕ) → (is_agent text ≡ true → ⊥) → is_agent text ≡ false
no_agent text never = by_test (is_agent text) refl
  where
    by_test : (b : Bool) → is_agent text ≡ b → b ≡ false
    by_test true e = absurd (never e)
    by_test false e = refl
