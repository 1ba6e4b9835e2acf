-- A local name has no forbidden character but the backslashes of its escapes.
use Rattle.std.proofs.Common.{◌≡◌, ◌≢◌, ℕ, zero, suc, ◌+◌, ◌<◌, ◌≤◌, Bool, true, false, cond, not, ◌&&◌, ◌||◌, ◌==◌, List, [], ◌∷◌, ◌++◌, length, drop, get_or, refl, sym, ap, ◌∙◌, subst, arith, IsTrue}
use Rattle.std.specs.List.{list_all, after_first, filter, prefix_len}
use Rattle.std.specs.Char.{to_ascii_lowercase}
use Rattle.std.proofs.lemmas.Bool.{false≢true}
use Rattle.std.proofs.lemmas.Bool.Decides.{nat_tests}
use Rattle.std.proofs.lemmas.List.{append-nil}
use Rattle.iri_ref.specs.Characters.{AllAllowed, is_allowed}
use Rattle.turtle_lex.specs.Classes.{is_pn_chars, is_pn_chars_u, is_pn_chars_base, is_local_escaped}
use Rattle.turtle_lex.specs.Laws.{HasNoColon}
use Rattle.turtle_lex.specs.Pattern.{Matches}
use Rattle.turtle_lex.specs.Terminals.{pname_ns, pname_ln, pn_local, dotted, plx}
use Rattle.turtle_lex.specs.Tokens.{MatchesKind}
use Rattle.turtle_lex.specs.declared.token.TokenKind.TheVariants.{PnameNs, PnameLn}
use Rattle.turtle_lex.proofs.ByteLemmas.{keeps, ByteTest, kept}
use Rattle.turtle_lex.proofs.TextLemmas.{name_has_colon}
use Rattle.turtle_terms.specs.Values.{is_backslash, is_colon, local_value}
use Rattle.turtle_terms.proofs.Decoding.{and_first, and_second}

abbrev may_stand : ℕ → Bool
may_stand b = is_allowed b || is_backslash b

high_stands : (b : ℕ) → 128 ≤ b → may_stand b ≡ true
high_stands b h = grind (arith, nat_tests)

case_stands : (b : ℕ) → may_stand (to_ascii_lowercase b) ≡ true → may_stand b ≡ true
case_stands b h = grind (arith, nat_tests)

stands : ByteTest may_stand
stands = record { high = high_stands; case = case_stands }

local_keeps : keeps may_stand pn_local ≡ true
unfolding pn_local dotted plx is_pn_chars is_pn_chars_u is_pn_chars_base is_local_escaped
local_keeps = refl

-- what may stand in a local name is allowed without backslashes
allowed_without : (text : List ℕ) → list_all may_stand text ≡ true → AllAllowed (filter (λ b. not (is_backslash b)) text)
allowed_without [] h = refl
allowed_without (b ∷ text) h = by (is_allowed b) (is_backslash b) (and_first (may_stand b) (list_all may_stand text) h)
    (allowed_without text (and_second (may_stand b) (list_all may_stand text) h)) refl
  where
    by : (x y : Bool) → IsTrue (x || y) → AllAllowed (filter (λ c. not (is_backslash c)) text) → is_allowed b ≡ x
        → AllAllowed (cond (not y) (b ∷ filter (λ c. not (is_backslash c)) text) (filter (λ c. not (is_backslash c)) text))
    by x true h rest is = rest
    by true false h rest is = ap (λ (z : Bool). z && list_all is_allowed (filter (λ c. not (is_backslash c)) text)) is ∙ rest
    by false false h rest is = absurd (false≢true h)

-- what follows the first colon
after_colon : (prefix rest : List ℕ) → HasNoColon prefix → after_first is_colon (prefix ++ 58 ∷ rest) ≡ rest
after_colon [] rest h = refl
after_colon (b ∷ prefix) rest h = by (is_colon b) refl (after_colon prefix rest (λ i less. h (suc i) (omega arith)))
  where
    count : ℕ
    count = prefix_len (λ c. not (is_colon c)) (prefix ++ 58 ∷ rest)

    by : (x : Bool) → is_colon b ≡ x → drop (count + 1) (prefix ++ 58 ∷ rest) ≡ rest
        → drop (cond (not x) (1 + count) 0 + 1) (b ∷ prefix ++ 58 ∷ rest) ≡ rest
    by true is e = absurd (h 0 (omega arith) (same b is))
      where
        same : (c : ℕ) → (c == 58) ≡ true → c ≡ 58
        same c e = grind (arith, nat_tests)
    by false is e =
        let more : 1 + count + 1 ≡ suc (count + 1) = omega arith in
        ap (λ (m : ℕ). drop m (b ∷ prefix ++ 58 ∷ rest)) more ∙ e

local_of : (text rest : List ℕ) → Matches pname_ns text rest → local_value text ≡ filter (λ b. not (is_backslash b)) rest
local_of text rest h =
    let n = name_has_colon text rest h in
    ap (filter (λ b. not (is_backslash b))) (ap (after_first is_colon) n.3 ∙ after_colon n.0 rest n.1)

pub namespace_allowed : (text : List ℕ) → MatchesKind PnameNs text [] → AllAllowed (local_value text)
namespace_allowed text h = subst AllAllowed (sym (local_of text [] h)) refl

pub name_allowed : (text : List ℕ) → MatchesKind PnameLn text [] → AllAllowed (local_value text)
unfolding pname_ln
name_allowed text (m, ns, local) =
    let k = kept may_stand stands pn_local m [] local_keeps local in
    let rest : m ≡ k.0 = k.2 ∙ append-nil k.0 in
    subst AllAllowed (sym (local_of text m ns)) (allowed_without m (ap (list_all may_stand) rest ∙ k.1))
