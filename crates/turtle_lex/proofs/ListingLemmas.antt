-- A text has one list of tokens, or one fault.
use mathlib.Core.List.{IsSuffix}
use Rattle.std.proofs.Common.{◌≡◌, ℕ, Bool, false, ◌-◌, List, [], ◌∷◌, ◌++◌, length, drop, Option, Some, None, Result, Ok, Err, IfErr, refl, sym, ap, ◌∙◌, subst, arith, length-drop}
use Rattle.turtle_lex.specs.declared.token.Token.{Token}
use Rattle.turtle_lex.specs.declared.token.LexFault.{LexFault}
use Rattle.turtle_lex.specs.declared.token.LexFault.TheVariants.{NoMemory}
use Rattle.turtle_lex.specs.Pattern.{Matches}
use Rattle.turtle_lex.specs.Terminals.{gap}
use Rattle.turtle_lex.specs.Tokens.{IsNext, IsAnswer, IsEnd, is_string, listed_token, AreTokensTo, AreTokens, HasFault, HasNoTokens, HasNoFault, AreAllTokens, IsOnlyFault}
use Rattle.turtle_lex.specs.Laws.{AreFirstTokens}
use Rattle.turtle_lex.proofs.NextLemmas.{one_answer, place_is}
use Rattle.turtle_lex.proofs.GroupLemmas.{token_leaves_suffix}
use Rattle.turtle_lex.proofs.Matching.{leaves_suffix}

abbrev found : Token → Result (Option Token) LexFault
found t = Ok (Some t)

abbrev ended : Result (Option Token) LexFault
ended = Ok None

abbrev failed : LexFault → Result (Option Token) LexFault
failed f = Err f

next_same : (a b : Token) → found a ≡ found b → a ≡ b
next_same a b e = cc

end_no_token : (a : Result (Option Token) LexFault) (t : Token) → IsEnd a → a ≡ Ok (Some t) → ⊥
end_no_token a t h e = subst IsEnd e h

walk_same : (bytes : List ℕ) (ts us : List Token) (from : ℕ) (after_string : Bool) (e f : ℕ) (s u : Bool) (a b : Result (Option Token) LexFault)
    → AreTokensTo bytes from after_string ts e s → AreTokensTo bytes from after_string us f u → IsAnswer bytes e a → IsAnswer bytes f b → IsEnd a → IsEnd b → (ts ≡ us) × (a ≡ b)
walk_same bytes [] [] from after_string e f s u a b x y h k i j =
    (refl, one_answer bytes e a b h (subst (λ (n : ℕ). IsAnswer bytes n b) (sym y.0 ∙ x.0) k))
walk_same bytes [] (t ∷ us) from after_string e f s u a b x (next, is_next, listed, rest) h k i j =
    absurd (end_no_token a next i (one_answer bytes from a (Ok (Some next)) (subst (λ (n : ℕ). IsAnswer bytes n a) (sym x.0) h) is_next))
walk_same bytes (t ∷ ts) [] from after_string e f s u a b (next, is_next, listed, rest) y h k i j =
    absurd (end_no_token b next j (one_answer bytes from b (Ok (Some next)) (subst (λ (n : ℕ). IsAnswer bytes n b) (sym y.0) k) is_next))
walk_same bytes (t ∷ ts) (t' ∷ us) from after_string e f s u a b (next, is_next, listed, rest) (next', is_next', listed', rest') h k i j =
    let same : next ≡ next' = next_same next next' (one_answer bytes from (Ok (Some next)) (Ok (Some next')) is_next is_next') in
    let more = walk_same bytes ts us next'.to (is_string next'.kind) e f s u a b (subst (λ (n : Token). AreTokensTo bytes n.to (is_string n.kind) ts e s) same rest) rest' h k i j in
    let head : t ≡ t' = listed ∙ ap (listed_token after_string) same ∙ sym listed' in
    (ap (λ (x : Token). x ∷ ts) head ∙ ap (λ (xs : List Token). t' ∷ xs) more.0, more.1)

-- of two lists from one position on, of which the second goes to the end, the first is a prefix
walk_prefix : (bytes : List ℕ) (ts us : List Token) (from : ℕ) (after_string : Bool) (e f : ℕ) (s u : Bool)
    (b : Result (Option Token) LexFault) → AreTokensTo bytes from after_string ts e s → AreTokensTo bytes from after_string us f u
    → IsAnswer bytes f b → IsEnd b → (rest : List Token) × (ts ++ rest ≡ us) × AreTokensTo bytes e s rest f u
walk_prefix bytes [] us from after_string e f s u b x y k j =
    (us, refl, subst (λ (n : ℕ). AreTokensTo bytes n s us f u) x.0 (subst (λ (t : Bool). AreTokensTo bytes from t us f u) x.1 y))
walk_prefix bytes (t ∷ ts) [] from after_string e f s u b (next, is_next, listed, rest) y k j =
    absurd (end_no_token b next j (one_answer bytes from b (Ok (Some next)) (subst (λ (n : ℕ). IsAnswer bytes n b) (sym y.0) k) is_next))
walk_prefix bytes (t ∷ ts) (t' ∷ us) from after_string e f s u b (next, is_next, listed, rest) (next', is_next', listed', rest') k j =
    let same : next ≡ next' = next_same next next' (one_answer bytes from (Ok (Some next)) (Ok (Some next')) is_next is_next') in
    let more = walk_prefix bytes ts us next'.to (is_string next'.kind) e f s u b (subst (λ (n : Token). AreTokensTo bytes n.to (is_string n.kind) ts e s) same rest) rest' k j in
    let head : t ≡ t' = listed ∙ ap (listed_token after_string) same ∙ sym listed' in
    (more.0, ap (λ (x : Token). x ∷ (ts ++ more.0)) head ∙ ap (λ (xs : List Token). t' ∷ xs) more.1, more.2)

pub first_tokens : AreFirstTokens
first_tokens bytes read tokens to end after string last x y k j =
    walk_prefix bytes read tokens 0 false to end after string last x y k j

ok_is_no_err : (fault : LexFault) → ended ≡ failed fault → ⊥
ok_is_no_err fault e = cc

fault_same : (a b : LexFault) → failed a ≡ failed b → a ≡ b
fault_same a b e = cc

pub one_list : (bytes : List ℕ) (ts us : List Token) → AreTokens bytes ts → AreTokens bytes us → ts ≡ us
one_list bytes ts us (e, s, x, h) (f, u, y, k) = (walk_same bytes ts us 0 false e f s u (Ok None) (Ok None) x y h k tt tt).0

pub no_fault : (bytes : List ℕ) (ts : List Token) (fault : LexFault) → AreTokens bytes ts → HasFault bytes fault → ⊥
no_fault bytes ts fault (e, s, x, h) (us, f, u, y, k) =
    let same = (walk_same bytes ts us 0 false e f s u (Ok None) (Err fault) x y h k tt tt).1 in
    ok_is_no_err fault same

pub one_fault : (bytes : List ℕ) (a b : LexFault) → HasFault bytes a → HasFault bytes b → a ≡ b
one_fault bytes a b (ts, e, s, x, h) (us, f, u, y, k) = fault_same a b (walk_same bytes ts us 0 false e f s u (Err a) (Err b) x y h k tt tt).1

-- one token more after a list
pub listed_more : (bytes : List ℕ) (ts : List Token) (from : ℕ) (after_string : Bool) (e : ℕ) (s : Bool) (next : Token)
    → AreTokensTo bytes from after_string ts e s → IsNext bytes e next → AreTokensTo bytes from after_string (ts ++ listed_token s next ∷ []) next.to (is_string next.kind)
listed_more bytes [] from after_string e s next (at, string) h =
    (next, subst (λ (n : ℕ). IsNext bytes n next) (sym at) h, ap (λ (b : Bool). listed_token b next) (sym string), (refl, refl))
listed_more bytes (t ∷ ts) from after_string e s next (first, is_first, listed, rest) h =
    (first, is_first, listed, listed_more bytes ts first.to (is_string first.kind) e s next rest h)

pub only_tokens : (bytes : List ℕ) (ts : List Token) → AreTokens bytes ts → AreAllTokens bytes ts × HasNoFault bytes
only_tokens bytes ts h = (λ others k. one_list bytes others ts k h, λ fault k. no_fault bytes ts fault h k)

pub only_fault : (bytes : List ℕ) (fault : LexFault) → HasFault bytes fault → IsOnlyFault bytes fault × HasNoTokens bytes
only_fault bytes fault h = (λ other k. one_fault bytes other fault k h, λ ts k. no_fault bytes ts fault k h)

pub only_faults : {T : Type 0} (bytes : List ℕ) (r : Result T LexFault) → IfErr r (λ f. (f ≡ NoMemory → ⊥) → HasFault bytes f)
    → IfErr r (λ f. (f ≡ NoMemory → ⊥) → IsOnlyFault bytes f × HasNoTokens bytes)
only_faults bytes (Ok x) h = tt
only_faults bytes (Err f) h = λ other. only_fault bytes f (h other)

-- the text at the next token, and after it
pub text_at_next : (bytes text : List ℕ) (t : Token) → IsSuffix text bytes → IsNext bytes (length bytes - length text) t → IsSuffix (drop t.from bytes) text
text_at_next bytes text t f h = leaves_suffix gap text (drop t.from bytes) (subst (λ (u : List ℕ). Matches gap u (drop t.from bytes)) (place_is bytes text f) h.gap_before)

pub after_next : (bytes : List ℕ) (from : ℕ) (t : Token) → IsNext bytes from t → IsSuffix (drop t.to bytes) (drop t.from bytes)
after_next bytes from t h = token_leaves_suffix t.kind (drop t.from bytes) (drop t.to bytes) h.matches.matches

pub position_after : (bytes : List ℕ) (from : ℕ) (t : Token) → IsNext bytes from t → t.to ≡ length bytes - length (drop t.to bytes)
position_after bytes from t h = let k = h.within in omega (arith, length-drop t.to bytes)
