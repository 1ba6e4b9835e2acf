-- Tokens are ASCII, and found by their places.
use Rattle.std.proofs.Common.{◌≡◌, ℕ, zero, suc, ◌<◌, ◌≤◌, Bool, true, false, cond, ◌||◌, eqb, List, [], ◌∷◌, ◌++◌, length, get_or, Option, Some, None, Result, Ok, Err, refl, sym, ap, subst, ◌∙◌, arith, string_bytes}
use Rattle.std.specs.Prelude.{IsTrue, nat_le, nat_lt, bytes_eq, codes, is_some, find, String}
use Rattle.std.specs.List.{list_all, list_any, All}
use Rattle.std.specs.Option.{option_map, option_or}
use Rattle.std.specs.Str.{IsUtf8}
use Rattle.std.specs.Map.{update, lookup}
use Rattle.std.specs.Cmp.Lexicographic.{slice_cmp}
use Rattle.std.specs.Ordering.{nat_cmp}
use Rattle.std.specs.Result.{MatchResult, IsOk}
use Rattle.std.specs.BTreeMap.{BTreeMap, get_by_text, is_at}
use Rattle.std.proofs.lemmas.Bool.{leb-true, eqb-true}
use Rattle.std.proofs.lemmas.Bool.Decides.{nat_tests}
use Rattle.std.proofs.lemmas.List.Elements.{All-head, All-tail, All-push}
use Rattle.std.proofs.lemmas.Slice.Eq.{bytes_eq-Decides}
use Rattle.std.proofs.lemmas.Str.{IsUtf8-from_ascii}
use Rattle.iri_ref.specs.Characters.{is_between}
use Rattle.iri_ref.proofs.Texts.{and_left, and_right}
use Rattle.token_table.specs.declared.table_line.TokenEntry.{TokenEntry}
use Rattle.token_table.specs.declared.table_line.TheConstants.{TOKEN_LIMIT}
use Rattle.token_table.specs.TableLines.{is_token, is_token_character, has_token, agent_in}
use Rattle.token_table.specs.Places.{place_of, AreFiled}

-- ---- tokens are ASCII

in_either : (P : Type 0) (a b : Bool) → IsTrue (a || b) → (IsTrue a → P) → (IsTrue b → P) → P
in_either P true b h f g = f refl
in_either P false b h f g = g h

between_small : (a b c : ℕ) → b < 128 → IsTrue (is_between a c b) → c < 128
between_small a b c lt h = (let le : c ≤ b = leb-true c b (and_right (nat_le a c) _ h) in omega arith)

one_small : (ds : List ℕ) (c : ℕ) → IsTrue (list_all (λ d. nat_lt d 128) ds) → IsTrue (list_any (λ d. eqb c d) ds) → IsTrue (nat_lt c 128)
one_small [] c small h = absurd cc
one_small (d ∷ ds) c small h = in_either (IsTrue (nat_lt c 128)) (eqb c d) _ h
    (λ e. subst (λ (x : ℕ). IsTrue (nat_lt x 128)) (sym (eqb-true c d e)) (and_left (nat_lt d 128) _ small))
    (λ k. one_small ds c (and_right (nat_lt d 128) _ small) k)

character_small : (c : ℕ) → IsTrue (is_token_character c) → c < 128
character_small c h = in_either (c < 128) (is_between 97 c 122) _ h (between_small 97 122 c (omega arith))
    (λ k. in_either (c < 128) (is_between 65 c 90) _ k (between_small 65 90 c (omega arith))
    (λ l. in_either (c < 128) (is_between 48 c 57) _ l (between_small 48 57 c (omega arith))
    (λ m. grind (arith, nat_tests, one_small (codes "-._~+/=") c refl m))))

all_small : (cs : List ℕ) → IsTrue (list_all is_token_character cs) → (i : ℕ) → get_or cs i 0 < 128
all_small [] h i = omega arith
all_small (c ∷ cs) h zero = character_small c (and_left _ (list_all is_token_character cs) h)
all_small (c ∷ cs) h (suc i) = all_small cs (and_right (is_token_character c) _ h) i

pub token_utf8 : (text : List ℕ) → IsTrue (is_token text) → IsUtf8 text
token_utf8 text h = IsUtf8-from_ascii text (all_small text (and_right (nat_le (length text) TOKEN_LIMIT) _ (and_right (nat_lt 0 (length text)) _ h)))

-- ---- places

pub has_place : (token : List ℕ) (es : List TokenEntry) → has_token es token ≡ is_some (place_of token es)
has_place token [] = refl
has_place token (e ∷ es) = by_test (bytes_eq e.token token) (place_of token es) (has_place token es)
  where
    by_test : (b : Bool) (o : Option ℕ) → has_token es token ≡ is_some o → (b || has_token es token) ≡ is_some (cond b (Some 0) (option_map suc o))
    by_test true o h = refl
    by_test false None h = h
    by_test false (Some i) h = h

pub place_none : (token : List ℕ) (es : List TokenEntry) → place_of token es ≡ None → agent_in es token ≡ None
place_none token [] h = refl
place_none token (e ∷ es) h = by_test (bytes_eq e.token token) (place_of token es) refl h (place_none token es)
  where
    by_test : (b : Bool) (o : Option ℕ) → place_of token es ≡ o → cond b (Some 0) (option_map suc o) ≡ None → (place_of token es ≡ None → agent_in es token ≡ None)
        → option_map (λ (x : TokenEntry). x.agent) (cond b (Some e) (find (λ (x : TokenEntry). bytes_eq x.token token) es)) ≡ None
    by_test true o is k below = absurd cc
    by_test false None is k below = below is
    by_test false (Some i) is k below = absurd cc

abbrev IsAt : List ℕ → List TokenEntry → ℕ → Type 0
IsAt token es i = (i < length es) × ((d : TokenEntry) → agent_in es token ≡ Some (get_or es i d).agent)

pub place_at : (token : List ℕ) (es : List TokenEntry) (i : ℕ) → place_of token es ≡ Some i → IsAt token es i
place_at token [] i h = absurd cc
place_at token (e ∷ es) i h = by_test (bytes_eq e.token token) refl (place_of token es) refl h (place_at token es)
  where
    by_test : (b : Bool) → bytes_eq e.token token ≡ b → (o : Option ℕ) → place_of token es ≡ o → cond b (Some 0) (option_map suc o) ≡ Some i → ((j : ℕ) → place_of token es ≡ Some j → IsAt token es j) → IsAt token (e ∷ es) i
    by_test true t o is k below =
        let at : 0 ≡ i = cc in
        subst (IsAt token (e ∷ es)) at (omega arith, λ d. ap (λ (x : Bool). option_map (λ (y : TokenEntry). y.agent) (cond x (Some e) (find (λ (y : TokenEntry). bytes_eq y.token token) es))) t)
    by_test false t None is k below = absurd cc
    by_test false t (Some j) is k below =
        let at : suc j ≡ i = cc in
        let here = below j is in
        subst (IsAt token (e ∷ es)) at (omega (arith, here.0), λ d. ap (λ (x : Bool). option_map (λ (y : TokenEntry). y.agent) (cond x (Some e) (find (λ (y : TokenEntry). bytes_eq y.token token) es))) t ∙ here.1 d)

place_push : (token : List ℕ) (es : List TokenEntry) (e : TokenEntry) → place_of token (es ++ e ∷ []) ≡ option_or (place_of token es) (cond (bytes_eq e.token token) (Some (length es)) None)
place_push token [] e = refl
place_push token (x ∷ es) e = by_test (bytes_eq x.token token) (place_of token es) (bytes_eq e.token token) (place_push token es e)
  where
    by_test : (b : Bool) (o : Option ℕ) (t : Bool) → place_of token (es ++ e ∷ []) ≡ option_or o (cond t (Some (length es)) None)
        → cond b (Some 0) (option_map suc (place_of token (es ++ e ∷ []))) ≡ option_or (cond b (Some 0) (option_map suc o)) (cond t (Some (suc (length es))) None)
    by_test true o t h = refl
    by_test false None true h = ap (option_map suc) h
    by_test false None false h = ap (option_map suc) h
    by_test false (Some i) t h = ap (option_map suc) h

-- one entry more, of a token that had no place
pub filed_more : {Y : Type 0} (es : List TokenEntry) (e : TokenEntry) (old new : BTreeMap (String Y) ℕ) → AreFiled es old → IsUtf8 e.token → place_of e.token es ≡ None
    → ((cs : List ℕ) → get_by_text new cs ≡ update bytes_eq (get_by_text old) e.token (Some (length es)) cs) → AreFiled (es ++ e ∷ []) new
filed_more es e old new f u none updated = record { filed = filed; texts = All-push (λ x. IsUtf8 x.token) es e f.texts u }
  where
    none_or : (o : Option ℕ) → option_or o None ≡ o
    none_or None = refl
    none_or (Some i) = refl

    by_test : (token : List ℕ) (t : Bool) → bytes_eq e.token token ≡ t → cond t (Some (length es)) (get_by_text old token) ≡ option_or (place_of token es) (cond t (Some (length es)) None)
    by_test token true h =
        let same : e.token ≡ token = (bytes_eq-Decides e.token token).0 h in
        ap (λ (o : Option ℕ). option_or o (Some (length es))) (sym none ∙ ap (λ (x : List ℕ). place_of x es) same)
    by_test token false h = f.filed token ∙ sym (none_or (place_of token es))

    filed : (token : List ℕ) → get_by_text new token ≡ place_of token (es ++ e ∷ [])
    filed token = updated token ∙ by_test token (bytes_eq e.token token) refl ∙ sym (place_push token es e)

pub not_utf8 : (token : List ℕ) (es : List TokenEntry) → All (λ x. IsUtf8 x.token) es → (IsUtf8 token → ⊥) → agent_in es token ≡ None
not_utf8 token [] all never = refl
not_utf8 token (e ∷ es) all never = by_test (bytes_eq e.token token) refl (not_utf8 token es (All-tail (λ x. IsUtf8 x.token) e es all) never)
  where
    by_test : (b : Bool) → bytes_eq e.token token ≡ b → agent_in es token ≡ None → option_map (λ (x : TokenEntry). x.agent) (cond b (Some e) (find (λ (x : TokenEntry). bytes_eq x.token token) es)) ≡ None
    by_test true h below = absurd (never (subst IsUtf8 ((bytes_eq-Decides e.token token).0 h) (All-head (λ x. IsUtf8 x.token) e es all)))
    by_test false h below = below

-- the same entries and the same tree
pub filed_same : {Y : Type 0} (es fs : List TokenEntry) (old new : BTreeMap (String Y) ℕ) → fs ≡ es → new.entries ≡ old.entries → AreFiled es old → AreFiled fs new
filed_same es fs old new same kept f = record {
  filed = λ token. ap (λ m. lookup (is_at (λ k. slice_cmp nat_cmp token (string_bytes k))) m) kept ∙ f.filed token ∙ sym (ap (place_of token) same);
  texts = subst (All (λ x. IsUtf8 x.token)) (sym same) f.texts;
}

pub taken_is : {Y : Type 0} (es : List TokenEntry) (places : BTreeMap (String Y) ℕ) → AreFiled es places → (token : List ℕ) → has_token es token ≡ is_some (get_by_text places token)
taken_is es places f token = has_place token es ∙ ap is_some (sym (f.filed token))

pub not_some : (o : Option ℕ) → is_some o ≡ false → o ≡ None
not_some None h = refl
not_some (Some i) h = absurd cc

pub some_from : (n : ℕ) → eqb n 0 ≡ false → 0 < n
some_from zero h = absurd cc
some_from (suc n) h = omega arith

pub utf8_ok : {T E : Type 0} (U : Type 0) (Q : E → Type 0) (R : T → Type 0) (r : Result T E) → MatchResult r R (λ e. (U → ⊥) × Q e) → U → IsOk r
utf8_ok U Q R (Ok x) m u = refl
utf8_ok U Q R (Err e) m u = absurd (m.0 u)
