-- A text from a place on has one answer.
use mathlib.Core.List.{IsSuffix}
use Rattle.std.proofs.Common.{◌≡◌, ℕ, ◌-◌, ◌<◌, ◌≤◌, ◌⊎◌, inl, inr, List, [], ◌∷◌, length, drop, take, Option, Some, None, Result, Ok, Err, refl, sym, ap, ◌∙◌, subst, arith, length-append, length-drop}
use Rattle.std.proofs.lemmas.List.{drop_at, take-append-drop}
use Rattle.turtle_lex.specs.declared.token.TokenKind.{TokenKind}
use Rattle.turtle_lex.specs.declared.token.TokenKind.TheVariants.{LangTag}
use Rattle.turtle_lex.specs.declared.token.Token.{Token}
use Rattle.turtle_lex.specs.declared.token.LexFault.{LexFault}
use Rattle.turtle_lex.specs.declared.token.LexFault.TheVariants.{NotText, BadToken, NoMemory}
use Rattle.turtle_lex.specs.Pattern.{Pattern, ◌∘◌, Matches, MatchesOnly, HasNoFirstChar}
use Rattle.turtle_lex.specs.Terminals.{comment, gap, last_gap}
use Rattle.turtle_lex.specs.Tokens.{gap_start, MatchesKind, IsToken, HasNoToken, IsNotText, IsBadToken, IsAnswer}
use Rattle.turtle_lex.specs.WithoutToken.{IsAnswerWithoutToken}
use Rattle.turtle_lex.proofs.Matching.{leaves_suffix, suffix_trans, no_longer, refused, not_matched}
use Rattle.turtle_lex.proofs.BlankLemmas.{Stop, stop_same, stop_of_start, stop_of_no_char, stop_of_comment, comment_ends, comment_no_end, comment_start}
use Rattle.turtle_lex.proofs.GroupLemmas.{token_no_gap, token_char, token_shorter, token_leaves_suffix}
use Rattle.turtle_lex.proofs.FirstBytes.{not_empty}

-- places of ends of the bytes
pub place_is : (s r : List ℕ) → IsSuffix r s → drop (length s - length r) s ≡ r
place_is s r (t, e) =
    let len : length t ≡ length s - length r = omega (arith, ap length e, length-append t r) in
    ap (drop (length s - length r)) (sym e) ∙ drop_at t r (length s - length r) len

pub drop_is_suffix : (n : ℕ) (s : List ℕ) → IsSuffix (drop n s) s
drop_is_suffix n s = (take n s, take-append-drop n s)

place_same : (bytes v : List ℕ) (a b : ℕ) → a ≤ length bytes → b ≤ length bytes → v ≡ drop a bytes → v ≡ drop b bytes → a ≡ b
place_same bytes v a b low low' e f = omega (arith, ap length e, ap length f, length-drop a bytes, length-drop b bytes)

pub suffix_no_longer : (s r : List ℕ) → IsSuffix r s → length r ≤ length s
suffix_no_longer s r f = omega (arith, ap length f.1, length-append f.0 r)

-- blanks and comments tail v, up to m, where no character matches
abbrev Ends : List ℕ → List ℕ → Type 0
Ends v m = HasNoFirstChar m × ((v ≡ m) ⊎ Matches comment v m)

-- what an answer says of the place where the gap stops
abbrev Shape : List ℕ → List ℕ → Result (Option Token) LexFault → Type 0
Shape bytes v (Ok (Some t)) = (v ≡ drop t.from bytes) × (t.from < t.to) × (t.to ≤ length bytes) × IsToken t.kind v (drop t.to bytes)
Shape bytes v (Ok None) = Ends v []
Shape bytes v (Err (NotText at)) = (at < length bytes) × Ends v (drop at bytes)
Shape bytes v (Err (BadToken at)) = (v ≡ drop at bytes) × (at < length bytes) × ((m : List ℕ) → Matches gap_start v m → ⊥) × HasNoToken v × (HasNoFirstChar v → ⊥)
Shape bytes v (Err NoMemory) = ⊥

record Stopped (bytes : List ℕ) (from : ℕ) (r : Result (Option Token) LexFault) : Type 0 where
  v : List ℕ
  reached : Matches gap (drop from bytes) v
  stop : Stop v
  shape : Shape bytes v r

empty_no_char : HasNoFirstChar []
empty_no_char c r scalar e = not_empty c r e

ends_stop : (v m : List ℕ) → Ends v m → Stop v
ends_stop v m (none, inl same) = stop_of_no_char v (subst HasNoFirstChar (sym same) none)
ends_stop v m (none, inr c) = stop_of_comment v m c none

stopped : (bytes : List ℕ) (from : ℕ) (r : Result (Option Token) LexFault) → IsAnswer bytes from r → Stopped bytes from r
unfolding last_gap
stopped bytes from (Ok (Some t)) h = record {
  v = drop t.from bytes;
  reached = h.gap_before;
  stop = stop_of_start (drop t.from bytes) (refused gap_start (drop t.from bytes) (λ m x. token_no_gap t.kind (drop t.from bytes) (drop t.to bytes) h.matches.matches m x));
  shape = (refl, h.in_order, h.within, h.matches);
}
stopped bytes from (Ok None) (v, reached, tail) = let ends : Ends v [] = (empty_no_char, elim tail [ inl c ↦ inr c | inr same ↦ inl same ]) in
    record { v = v; reached = reached; stop = ends_stop v [] ends; shape = ends }
stopped bytes from (Err (NotText at)) h =
    let v = h.gap_before.0 in
    let ends : Ends v (drop at bytes) = (h.no_character, elim (h.gap_before.2) [ inl c ↦ inr c | inr same ↦ inl same ]) in
    record { v = v; reached = h.gap_before.1; stop = ends_stop v (drop at bytes) ends; shape = (h.within, ends) }
stopped bytes from (Err (BadToken at)) h = record {
  v = drop at bytes;
  reached = h.gap_before;
  stop = stop_of_start (drop at bytes) (refused gap_start (drop at bytes) h.gap_ends);
  shape = (refl, h.within, h.gap_ends, h.no_token, h.character);
}
stopped bytes from (Err NoMemory) h = absurd h

ends_same : (v a b : List ℕ) → Ends v a → Ends v b → a ≡ b
ends_same v a b (none, inl e) (none', inl f) = sym e ∙ f
ends_same v a b (none, inl e) (none', inr c) = absurd (comment_no_end v b c (subst HasNoFirstChar (sym e) none))
ends_same v a b (none, inr c) (none', inl f) = absurd (comment_no_end v a c (subst HasNoFirstChar (sym f) none'))
ends_same v a b (none, inr c) (none', inr d) = comment_ends v a b c d none none'

not_at_end : (bytes : List ℕ) (at : ℕ) → at < length bytes → [] ≡ drop at bytes → ⊥
not_at_end bytes at less e = absurd (omega (arith, ap length e, length-drop at bytes))

token_not_ends : (v m q : List ℕ) (k : TokenKind) → IsToken k v q → Ends v m → ⊥
token_not_ends v m q k t (none, inl e) = token_char k v q t.matches (subst HasNoFirstChar (sym e) none)
token_not_ends v m q k t (none, inr c) = let h = comment_start v m c in token_no_gap k v q t.matches h.0 h.1

bad_not_ends : (v m : List ℕ) → ((m : List ℕ) → Matches gap_start v m → ⊥) → (HasNoFirstChar v → ⊥) → Ends v m → ⊥
bad_not_ends v m gap_ends char (none, inl e) = char (subst HasNoFirstChar (sym e) none)
bad_not_ends v m gap_ends char (none, inr c) = let h = comment_start v m c in gap_ends h.0 h.1

kinds_same : (k j : TokenKind) → (j ≡ k) ⊎ (j ≡ LangTag) → (k ≡ j) ⊎ (k ≡ LangTag) → k ≡ j
kinds_same k j (inl e) h = sym e
kinds_same k j (inr e) (inl f) = f
kinds_same k j (inr e) (inr f) = f ∙ sym e

tokens_same : (bytes v : List ℕ) (t u : Token) → Shape bytes v (Ok (Some t)) → Shape bytes v (Ok (Some u)) → t ≡ u
tokens_same bytes v t u (at, order, within, h) (at', order', within', h') =
    let from_is : t.from ≡ u.from = place_same bytes v t.from u.from (omega arith) (omega arith) at at' in
    let far = h.longest u.kind (drop u.to bytes) h'.matches in
    let near = h'.longest t.kind (drop t.to bytes) h.matches in
    let to_is : t.to ≡ u.to = omega (arith, length-drop t.to bytes, length-drop u.to bytes) in
    let rest_is : drop t.to bytes ≡ drop u.to bytes = ap (λ (n : ℕ). drop n bytes) to_is in
    let kind_is : t.kind ≡ u.kind = kinds_same t.kind u.kind
    (h.fixed u.kind (subst (λ (r : List ℕ). MatchesKind u.kind v r) (sym rest_is) h'.matches))
    (h'.fixed t.kind (subst (λ (r : List ℕ). MatchesKind t.kind v r) rest_is h.matches)) in
    let with_kind : t ≡ record { kind = u.kind; from = t.from; to = t.to } = ap (λ (k : TokenKind). let x : Token = record { kind = k; from = t.from; to = t.to } in x) kind_is in
    let with_from : record { kind = u.kind; from = t.from; to = t.to } ≡ record { kind = u.kind; from = u.from; to = t.to } = ap (λ (n : ℕ). let x : Token = record { kind = u.kind; from = n; to = t.to } in x) from_is in
    with_kind ∙ with_from ∙ ap (λ (n : ℕ). let x : Token = record { kind = u.kind; from = u.from; to = n } in x) to_is

shapes_same : (bytes v : List ℕ) (a b : Result (Option Token) LexFault) → Shape bytes v a → Shape bytes v b → a ≡ b
shapes_same bytes v (Ok (Some t)) (Ok (Some u)) h k = ap (λ (x : Token). Ok (Some x)) (tokens_same bytes v t u h k)
shapes_same bytes v (Ok (Some t)) (Ok None) h k = absurd (token_not_ends v [] (drop t.to bytes) t.kind h.3 k)
shapes_same bytes v (Ok (Some t)) (Err (NotText at)) h k = absurd (token_not_ends v (drop at bytes) (drop t.to bytes) t.kind h.3 k.1)
shapes_same bytes v (Ok (Some t)) (Err (BadToken at)) h k = absurd (k.3 t.kind (drop t.to bytes) h.3.matches)
shapes_same bytes v (Ok None) (Ok (Some t)) h k = absurd (token_not_ends v [] (drop t.to bytes) t.kind k.3 h)
shapes_same bytes v (Ok None) (Ok None) h k = refl
shapes_same bytes v (Ok None) (Err (NotText at)) h k = absurd (not_at_end bytes at k.0 (ends_same v [] (drop at bytes) h k.1))
shapes_same bytes v (Ok None) (Err (BadToken at)) h k = absurd (bad_not_ends v [] k.2 k.4 h)
shapes_same bytes v (Err (NotText at)) (Ok (Some t)) h k = absurd (token_not_ends v (drop at bytes) (drop t.to bytes) t.kind k.3 h.1)
shapes_same bytes v (Err (NotText at)) (Ok None) h k = absurd (not_at_end bytes at h.0 (ends_same v [] (drop at bytes) k h.1))
shapes_same bytes v (Err (NotText a)) (Err (NotText b)) h k =
    ap (λ (n : ℕ). Err (NotText n)) (place_same bytes (drop a bytes) a b (omega arith) (omega arith) refl (ends_same v (drop a bytes) (drop b bytes) h.1 k.1))
shapes_same bytes v (Err (NotText a)) (Err (BadToken b)) h k = absurd (bad_not_ends v (drop a bytes) k.2 k.4 h.1)
shapes_same bytes v (Err (BadToken at)) (Ok (Some t)) h k = absurd (h.3 t.kind (drop t.to bytes) k.3.matches)
shapes_same bytes v (Err (BadToken at)) (Ok None) h k = absurd (bad_not_ends v [] h.2 h.4 k)
shapes_same bytes v (Err (BadToken a)) (Err (NotText b)) h k = absurd (bad_not_ends v (drop b bytes) h.2 h.4 k.1)
shapes_same bytes v (Err (BadToken a)) (Err (BadToken b)) h k = ap (λ (n : ℕ). Err (BadToken n)) (place_same bytes v a b (omega arith) (omega arith) h.0 k.0)
shapes_same bytes v (Err NoMemory) b h k = absurd h
shapes_same bytes v a (Err NoMemory) h k = absurd k

-- a text from a place on has one answer
pub one_answer : (bytes : List ℕ) (from : ℕ) (a b : Result (Option Token) LexFault) → IsAnswer bytes from a → IsAnswer bytes from b → a ≡ b
one_answer bytes from a b h k =
    let x = stopped bytes from a h in let y = stopped bytes from b k in
    let same : x.v ≡ y.v = stop_same (drop from bytes) x.v y.v x.reached y.reached x.stop y.stop in
    shapes_same bytes y.v a b (subst (λ (u : List ℕ). Shape bytes u a) same x.shape) y.shape

-- the answers of the code
pub gap_leaves_suffix : (bytes text rest : List ℕ) → IsSuffix text bytes → Matches gap text rest → IsSuffix rest bytes
gap_leaves_suffix bytes text rest f x = suffix_trans bytes text rest f (leaves_suffix gap text rest x)

gap_at : (p : Pattern) (bytes text rest : List ℕ) → IsSuffix text bytes → IsSuffix rest bytes → Matches p text rest → Matches p (drop (length bytes - length text) bytes) (drop (length bytes - length rest) bytes)
gap_at p bytes text rest f g x =
    subst (λ (u : List ℕ). Matches p u (drop (length bytes - length rest) bytes)) (sym (place_is bytes text f))
    (subst (λ (u : List ℕ). Matches p text u) (sym (place_is bytes rest g)) x)

pub answer_token : (bytes text rest tail : List ℕ) (kind : TokenKind) → IsSuffix text bytes → Matches gap text rest → IsToken kind rest tail
    → IsAnswer bytes (length bytes - length text) (Ok (Some (record { kind = kind; from = length bytes - length rest; to = length bytes - length tail })))
answer_token bytes text rest tail kind f x t =
    let g = gap_leaves_suffix bytes text rest f x in
    let b : IsSuffix tail bytes = suffix_trans bytes rest tail g (token_leaves_suffix kind rest tail t.matches) in
    record {
      after = let h = no_longer gap text rest x in omega arith;
      in_order = let h = token_shorter kind rest tail t.matches in let k = suffix_no_longer bytes rest g in omega arith;
      within = omega arith;
      gap_before = gap_at gap bytes text rest f g x;
      matches = subst (λ (u : List ℕ). IsToken kind u (drop (length bytes - length tail) bytes)) (sym (place_is bytes rest g))
          (subst (λ (u : List ℕ). IsToken kind rest u) (sym (place_is bytes tail b)) t);
    }

last_of_gap : (s m : List ℕ) → Matches gap s m → Matches last_gap s m
unfolding last_gap
last_of_gap s m x = (m, x, inr refl)

last_of_comment : (s m : List ℕ) → Matches (gap ∘ comment) s m → Matches last_gap s m
unfolding last_gap
last_of_comment s m (v, x, c) = (v, x, inl c)

not_empty_less : (bytes rest : List ℕ) → IsSuffix rest bytes → (rest ≡ [] → ⊥) → length bytes - length rest < length bytes
not_empty_less bytes [] f h = absurd (h refl)
not_empty_less bytes (b ∷ rest) f h = let k = suffix_no_longer bytes (b ∷ rest) f in omega arith

pub answer_closed : (bytes text rest : List ℕ) (r : Result (Option Token) LexFault) → IsSuffix text bytes → Matches gap text rest → MatchesOnly gap_start rest None → HasNoToken rest
    → IsAnswerWithoutToken bytes rest r → IsAnswer bytes (length bytes - length text) r
answer_closed bytes text rest (Ok (Some t)) f x stop none h = absurd h
answer_closed bytes text rest (Ok None) f x stop none h =
    subst (λ (u : List ℕ). Matches last_gap (drop (length bytes - length text) bytes) u) (place_is bytes rest (gap_leaves_suffix bytes text rest f x) ∙ h)
    (gap_at last_gap bytes text rest f (gap_leaves_suffix bytes text rest f x) (last_of_gap text rest x))
answer_closed bytes text rest (Err (NotText at)) f x stop none (is, no_char, full) =
    let g = gap_leaves_suffix bytes text rest f x in
    subst (λ (n : ℕ). IsNotText bytes (length bytes - length text) n) (sym is) (record {
      after = let h = no_longer gap text rest x in omega arith;
      within = not_empty_less bytes rest g full;
      gap_before = gap_at last_gap bytes text rest f g (last_of_gap text rest x);
      no_character = subst HasNoFirstChar (sym (place_is bytes rest g)) no_char;
    })
answer_closed bytes text rest (Err (BadToken at)) f x stop none (is, char) =
    let g = gap_leaves_suffix bytes text rest f x in
    let here = sym (place_is bytes rest g) in
    subst (λ (n : ℕ). IsBadToken bytes (length bytes - length text) n) (sym is) (record {
      after = let h = no_longer gap text rest x in omega arith;
      within = not_empty_less bytes rest g (λ e. char (subst HasNoFirstChar (sym e) empty_no_char));
      gap_before = gap_at gap bytes text rest f g x;
      gap_ends = subst (λ (u : List ℕ). (m : List ℕ) → Matches gap_start u m → ⊥) here (λ m y. not_matched gap_start rest m stop y);
      no_token = subst HasNoToken here none;
      character = subst (λ (u : List ℕ). HasNoFirstChar u → ⊥) here char;
    })
answer_closed bytes text rest (Err NoMemory) f x stop none h = absurd h

pub answer_open : (bytes text rest : List ℕ) (r : Result (Option Token) LexFault) → IsSuffix text bytes → Matches (gap ∘ comment) text rest → HasNoFirstChar rest
    → IsAnswerWithoutToken bytes rest r → IsAnswer bytes (length bytes - length text) r
answer_open bytes text rest (Ok (Some t)) f x none h = absurd h
answer_open bytes text rest (Ok None) f x none h =
    let g = suffix_trans bytes text rest f (leaves_suffix (gap ∘ comment) text rest x) in
    subst (λ (u : List ℕ). Matches last_gap (drop (length bytes - length text) bytes) u) (place_is bytes rest g ∙ h)
    (gap_at last_gap bytes text rest f g (last_of_comment text rest x))
answer_open bytes text rest (Err (NotText at)) f x none (is, no_char, full) =
    let g = suffix_trans bytes text rest f (leaves_suffix (gap ∘ comment) text rest x) in
    subst (λ (n : ℕ). IsNotText bytes (length bytes - length text) n) (sym is) (record {
      after = let h = no_longer (gap ∘ comment) text rest x in omega arith;
      within = not_empty_less bytes rest g full;
      gap_before = gap_at last_gap bytes text rest f g (last_of_comment text rest x);
      no_character = subst HasNoFirstChar (sym (place_is bytes rest g)) no_char;
    })
answer_open bytes text rest (Err (BadToken at)) f x none (is, char) = absurd (char none)
answer_open bytes text rest (Err NoMemory) f x none h = absurd h
