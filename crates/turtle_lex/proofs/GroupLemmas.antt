-- Which kinds of tokens a byte may begin, for all bytes and kinds.
use mathlib.Core.List.{IsSuffix}
use Rattle.std.proofs.Common.{◌≡◌, ℕ, zero, suc, ◌<◌, ◌≤◌, Bool, true, false, cond, not, ◌&&◌, ◌||◌, ltb, ◌⊎◌, inl, inr, ⊎_elim, List, [], ◌∷◌, ◌++◌, length, get_or, Option, Some, None, IfSome, IfNone, refl, sym, ap, ◌∙◌, subst, arith}
use Rattle.std.proofs.lemmas.Bool.{false≢true, ltb-true, lt-ltb, leb-true}
use Rattle.std.proofs.lemmas.Bool.Decides.{nat_tests}
use Rattle.std.proofs.lemmas.Str.{encode_ascii}
use Rattle.std.proofs.Math.Utf8.{low_scalar}
use Rattle.std.specs.Prelude.{nat_le}
use Rattle.turtle_lex.specs.declared.classes.Quote.{Quote}
use Rattle.turtle_lex.specs.declared.classes.Quote.TheVariants.{Double as DoubleQuote, Single as SingleQuote}
use Rattle.turtle_lex.specs.declared.token.TokenKind.{TokenKind}
use Rattle.turtle_lex.specs.declared.token.TokenKind.TheVariants.{IriRef, PnameNs, PnameLn, BlankLabel, LangTag, Integer, Decimal, Double, Quoted, Anon, AtPrefix, AtBase, Prefix, Base, A, True, False, Dot, Semicolon, Comma, Carets, OpenSquare, CloseSquare, OpenRound, CloseRound, OpenBrace, CloseBrace, Variable}
use Rattle.turtle_lex.specs.declared.numbers.Number.TheVariants as Number
use Rattle.turtle_lex.specs.declared.token_groups.Group.{Group}
use Rattle.turtle_lex.specs.declared.token_groups.Group.TheVariants.{Names, Nothing}
use Rattle.turtle_lex.specs.Classes.{is_iri_char, is_line_char, is_long_char, is_sign, is_exponent_mark, is_blank, is_pn_chars, is_pn_chars_u, is_pn_chars_base, is_escaped, is_local_escaped}
use Rattle.turtle_lex.specs.Pattern.{Pattern, Matches, HasNoFirstChar}
use Rattle.turtle_lex.specs.Terminals.{uchar, echar, plx, iri_ref, short_string, long_string, dotted, label, blank_label, variable, pn_prefix, pname_ns, pn_local, pname_ln, lang_tag, sign, exponent, integer, decimal, double, anon}
use Rattle.turtle_lex.specs.Tokens.{IsString, terminal, MatchesKind, IsToken, HasNoToken, gap_start}
use Rattle.turtle_lex.specs.Groups.{in_group, ascii_group, group_of, IsTokenOfGroup, HasNoTokenOf}
use Rattle.turtle_lex.proofs.NumberLemmas.{signed_low}
use Rattle.turtle_lex.proofs.FirstBytes.{lead, nullable, first, low, StartsWith, begins, and_left, and_right, lt_or_same, lead_low, lead_high, least, at_least}
use Rattle.turtle_lex.proofs.Matching.{leaves_suffix}

-- whatever passes f below n passes g
abbrev pub covered : (ℕ → Bool) → (ℕ → Bool) → ℕ → Bool
covered f g zero = true
covered f g (suc n) = (not (f n) || g n) && covered f g n

or_then : (a b : Bool) → (not a || b) ≡ true → a ≡ true → b ≡ true
or_then true b h k = h
or_then false b h k = absurd (false≢true k)

covered_at : (f g : ℕ → Bool) (n x : ℕ) → covered f g n ≡ true → x < n → f x ≡ true → g x ≡ true
covered_at f g zero x h less k = absurd (omega arith)
covered_at f g (suc n) x h less k = ⊎_elim
    (λ (same : x ≡ n). subst (λ (y : ℕ). g y ≡ true) (sym same) (or_then (f n) (g n) (and_left (not (f n) || g n) (covered f g n) h) (subst (λ (y : ℕ). f y ≡ true) same k)))
    (λ (lower : x < n). covered_at f g n x (and_right (not (f n) || g n) (covered f g n) h) lower k)
    (lt_or_same n x less)

string_matches : (quote : Quote) (s r : List ℕ) → IsString quote s r → Matches (terminal Quoted) s r
string_matches DoubleQuote s r (inl x) = inr (inr (inl x))
string_matches DoubleQuote s r (inr x) = inl x.0
string_matches SingleQuote s r (inl x) = inr (inr (inr x))
string_matches SingleQuote s r (inr x) = inr (inl x.0)

-- what begins with no other byte begins with an ASCII one
begins_low : (p : Pattern) (s r : List ℕ) → nullable p ≡ false → first p 128 ≡ false → Matches p s r → StartsWith low s
begins_low p s r full none x = by s (begins p s r full x)
  where
    by : (s : List ℕ) → StartsWith (first p) s → StartsWith low s
    by [] h = h
    by (b ∷ t) h = by_width (ltb b 128) refl
      where
        by_width : (u : Bool) → ltb b 128 ≡ u → low (lead b) ≡ true
        by_width true is = ap low (lead_low b is) ∙ is
        by_width false is = absurd (false≢true (sym none ∙ sym (ap (first p) (lead_high b is)) ∙ h))

-- a text that begins with an ASCII byte begins with a character
pub low_char : (s : List ℕ) → StartsWith low s → HasNoFirstChar s → ⊥
low_char [] h k = h
low_char (b ∷ s) h k = by_width (ltb b 128) refl
  where
    by_width : (t : Bool) → ltb b 128 ≡ t → ⊥
    by_width true is =
        let small = ltb-true b 128 is in
        k b s (low_scalar b (omega (arith, small))) (ap (λ (t : List ℕ). t ++ s) (sym (encode_ascii b small)))
    by_width false is = false≢true (sym (ap low (lead_high b is)) ∙ h)

-- and so does a name
name_char : (s r : List ℕ) → Matches pname_ns s r → HasNoFirstChar s → ⊥
unfolding pname_ns pn_prefix dotted
name_char s r (m, x, colon) none = elim x [
  | inl a ↦ none a.1.0 a.0 a.1.1 a.1.3
  | inr same ↦ low_char s (subst (StartsWith low) (sym (same ∙ colon)) refl) none
]

-- what is computed of each kind
pub record KindFacts (kind : TokenKind) : Type 0 where
  pub full : nullable (terminal kind) ≡ false
  pub ascii : covered (first (terminal kind)) (λ x. in_group (ascii_group x) kind) 128 ≡ true
  -- what a byte that isn't ASCII begins is a name
  pub wide : (s r : List ℕ) → MatchesKind kind s r → StartsWith low s ⊎ ((in_group Names kind ≡ true) × (HasNoFirstChar s → ⊥))
  pub long : nat_le 1 (least (terminal kind)) ≡ true

pub kind_facts : (kind : TokenKind) → KindFacts kind
unfolding is_iri_char is_line_char is_long_char is_sign is_exponent_mark is_blank is_pn_chars is_pn_chars_u is_pn_chars_base is_escaped is_local_escaped uchar echar plx iri_ref short_string long_string dotted label blank_label variable pn_prefix pname_ns pn_local pname_ln lang_tag sign exponent integer decimal double anon
kind_facts IriRef = record { full = refl; ascii = refl; wide = λ s r x. inl (begins_low (terminal IriRef) s r refl refl x); long = refl }
kind_facts PnameNs = record { full = refl; ascii = refl; wide = λ s r x. inr (refl, name_char s r x); long = refl }
kind_facts PnameLn = record { full = refl; ascii = refl; wide = λ s r x. inr (refl, name_char s x.0 x.1); long = refl }
kind_facts BlankLabel = record { full = refl; ascii = refl; wide = λ s r x. inl (begins_low (terminal BlankLabel) s r refl refl x); long = refl }
kind_facts LangTag = record { full = refl; ascii = refl; wide = λ s r x. inl (begins_low (terminal LangTag) s r refl refl x); long = refl }
kind_facts Integer = record { full = refl; ascii = refl; wide = λ s r x. inl (signed_low Number.Integer s r x); long = refl }
kind_facts Decimal = record { full = refl; ascii = refl; wide = λ s r x. inl (signed_low Number.Decimal s r x); long = refl }
kind_facts Double = record { full = refl; ascii = refl; wide = λ s r x. inl (signed_low Number.Double s r x); long = refl }
kind_facts Quoted = record { full = refl; ascii = refl; wide = λ s r x. inl (begins_low (terminal Quoted) s r refl refl (string_matches x.0 s r x.1)); long = refl }
kind_facts Anon = record { full = refl; ascii = refl; wide = λ s r x. inl (begins_low (terminal Anon) s r refl refl x); long = refl }
kind_facts AtPrefix = record { full = refl; ascii = refl; wide = λ s r x. inl (begins_low (terminal AtPrefix) s r refl refl x); long = refl }
kind_facts AtBase = record { full = refl; ascii = refl; wide = λ s r x. inl (begins_low (terminal AtBase) s r refl refl x); long = refl }
kind_facts Prefix = record { full = refl; ascii = refl; wide = λ s r x. inl (begins_low (terminal Prefix) s r refl refl x); long = refl }
kind_facts Base = record { full = refl; ascii = refl; wide = λ s r x. inl (begins_low (terminal Base) s r refl refl x); long = refl }
kind_facts A = record { full = refl; ascii = refl; wide = λ s r x. inl (begins_low (terminal A) s r refl refl x); long = refl }
kind_facts True = record { full = refl; ascii = refl; wide = λ s r x. inl (begins_low (terminal True) s r refl refl x); long = refl }
kind_facts False = record { full = refl; ascii = refl; wide = λ s r x. inl (begins_low (terminal False) s r refl refl x); long = refl }
kind_facts Dot = record { full = refl; ascii = refl; wide = λ s r x. inl (begins_low (terminal Dot) s r refl refl x); long = refl }
kind_facts Semicolon = record { full = refl; ascii = refl; wide = λ s r x. inl (begins_low (terminal Semicolon) s r refl refl x); long = refl }
kind_facts Comma = record { full = refl; ascii = refl; wide = λ s r x. inl (begins_low (terminal Comma) s r refl refl x); long = refl }
kind_facts Carets = record { full = refl; ascii = refl; wide = λ s r x. inl (begins_low (terminal Carets) s r refl refl x); long = refl }
kind_facts OpenSquare = record { full = refl; ascii = refl; wide = λ s r x. inl (begins_low (terminal OpenSquare) s r refl refl x); long = refl }
kind_facts CloseSquare = record { full = refl; ascii = refl; wide = λ s r x. inl (begins_low (terminal CloseSquare) s r refl refl x); long = refl }
kind_facts OpenRound = record { full = refl; ascii = refl; wide = λ s r x. inl (begins_low (terminal OpenRound) s r refl refl x); long = refl }
kind_facts CloseRound = record { full = refl; ascii = refl; wide = λ s r x. inl (begins_low (terminal CloseRound) s r refl refl x); long = refl }
kind_facts OpenBrace = record { full = refl; ascii = refl; wide = λ s r x. inl (begins_low (terminal OpenBrace) s r refl refl x); long = refl }
kind_facts CloseBrace = record { full = refl; ascii = refl; wide = λ s r x. inl (begins_low (terminal CloseBrace) s r refl refl x); long = refl }
kind_facts Variable = record { full = refl; ascii = refl; wide = λ s r x. inl (begins_low (terminal Variable) s r refl refl x); long = refl }

-- every text of a kind is one of its terminal
pub kind_matches : (kind : TokenKind) (s r : List ℕ) → MatchesKind kind s r → Matches (terminal kind) s r
kind_matches Quoted s r x = string_matches x.0 s r x.1
kind_matches kind s r x = x

pub kind_starts_with : (kind : TokenKind) (s r : List ℕ) → MatchesKind kind s r → StartsWith (first (terminal kind)) s
kind_starts_with kind s r x = begins (terminal kind) s r (kind_facts kind).full (kind_matches kind s r x)

-- the group of the first byte has every kind that matches there
pub grouped : (kind : TokenKind) (b : ℕ) (s r : List ℕ) → MatchesKind kind (b ∷ s) r → in_group (group_of b) kind ≡ true
grouped kind b s r x = by_width (ltb b 128) refl
  where
    at : first (terminal kind) (lead b) ≡ true
    at = kind_starts_with kind (b ∷ s) r x

    by_width : (t : Bool) → ltb b 128 ≡ t → in_group (group_of b) kind ≡ true
    by_width true is =
        ap (λ (t : Bool). in_group (cond t (ascii_group b) Names) kind) is
        ∙ covered_at (first (terminal kind)) (λ (y : ℕ). in_group (ascii_group y) kind) 128 b (kind_facts kind).ascii (ltb-true b 128 is)
        (sym (ap (first (terminal kind)) (lead_low b is)) ∙ at)
    by_width false is =
        ap (λ (t : Bool). in_group (cond t (ascii_group b) Names) kind) is
        ∙ ⊎_elim (λ (ascii : StartsWith low (b ∷ s)). absurd (false≢true (sym (ap low (lead_high b is)) ∙ ascii))) (λ (named : (in_group Names kind ≡ true) × (HasNoFirstChar (b ∷ s) → ⊥)). named.0) ((kind_facts kind).wide (b ∷ s) r x)

pub whole_token : (kind : TokenKind) (b : ℕ) (s r : List ℕ) → IsTokenOfGroup (in_group (group_of b)) kind (b ∷ s) r → IsToken kind (b ∷ s) r
whole_token kind b s r h = record {
  matches = h.matches;
  longest = λ other q x. h.longest other q (grouped other b s q x) x;
  fixed = λ other x. h.fixed other (grouped other b s r x) x;
}

pub no_token : (b : ℕ) (s : List ℕ) → HasNoTokenOf (in_group (group_of b)) (b ∷ s) → HasNoToken (b ∷ s)
no_token b s h kind r x = h kind r (grouped kind b s r x) x

pub no_token_at_end : HasNoToken []
no_token_at_end kind r x = kind_starts_with kind [] r x

-- the token of the first byte's group is the token
pub token_found : {T : Type 0} (s : List ℕ) (g : Group) (o : Option T) (kind : T → TokenKind) (rest : T → List ℕ) → g ≡ group_of (get_or s 0 0)
    → IfSome o (λ t. IsTokenOfGroup (in_group g) (kind t) s (rest t)) → IfSome o (λ t. IsToken (kind t) s (rest t))
token_found s g None kind rest is h = tt
token_found [] g (Some t) kind rest is h = absurd (no_token_at_end (kind t) (rest t) h.matches)
token_found (b ∷ s) g (Some t) kind rest is h = whole_token (kind t) b s (rest t) (subst (λ (u : Group). IsTokenOfGroup (in_group u) (kind t) (b ∷ s) (rest t)) is h)

pub token_none : {T : Type 0} (s : List ℕ) (g : Group) (o : Option T) → g ≡ group_of (get_or s 0 0) → IfNone o (HasNoTokenOf (in_group g) s) → IfNone o (HasNoToken s)
token_none s g (Some t) is h = tt
token_none [] g None is h = no_token_at_end
token_none (b ∷ s) g None is h = no_token b s (subst (λ (u : Group). HasNoTokenOf (in_group u) (b ∷ s)) is h)

pub no_token_if_empty : (s : List ℕ) → length s ≡ 0 → HasNoToken s
no_token_if_empty [] e = no_token_at_end
no_token_if_empty (b ∷ s) e = absurd (omega arith)

-- a token begins with a character, is not empty, and begins no gap
pub token_char : (kind : TokenKind) (s r : List ℕ) → MatchesKind kind s r → HasNoFirstChar s → ⊥
token_char kind s r x none = elim ((kind_facts kind).wide s r x) [ inl a ↦ low_char s a none | inr b ↦ b.1 none ]

pub token_leaves_suffix : (kind : TokenKind) (s r : List ℕ) → MatchesKind kind s r → IsSuffix r s
token_leaves_suffix kind s r x = leaves_suffix (terminal kind) s r (kind_matches kind s r x)

pub token_shorter : (kind : TokenKind) (s r : List ℕ) → MatchesKind kind s r → length r < length s
token_shorter kind s r x =
    let h = at_least (terminal kind) s r (kind_matches kind s r x) in
    let k : 1 ≤ least (terminal kind) = leb-true 1 (least (terminal kind)) (kind_facts kind).long in
    omega arith

pub blank_small : (c : ℕ) → is_blank c ≡ true → c < 128
unfolding is_blank
blank_small c h = grind (arith, nat_tests)

is_nothing : Group → Bool
is_nothing Nothing = true
is_nothing group = false

no_kind : (group : Group) (kind : TokenKind) → is_nothing group ≡ true → in_group group kind ≡ false
unfolding is_nothing
no_kind Nothing kind h = refl
no_kind group kind h = absurd (false≢true h)

blanks_begin_nothing : covered is_blank (λ b. is_nothing (ascii_group b)) 128 ≡ true
unfolding is_blank is_nothing
blanks_begin_nothing = refl

ascii_nothing : (b : ℕ) (kind : TokenKind) → b < 128 → is_nothing (ascii_group b) ≡ true → in_group (group_of b) kind ≡ false
ascii_nothing b kind small h =
    ap (λ (t : Bool). in_group (cond t (ascii_group b) Names) kind) (lt-ltb b 128 small) ∙ no_kind (ascii_group b) kind h

pub token_no_gap : (kind : TokenKind) (s r : List ℕ) → MatchesKind kind s r → (m : List ℕ) → Matches gap_start s m → ⊥
unfolding is_nothing
token_no_gap kind s r x m (inl (c, scalar, passes, e)) =
    let small = blank_small c passes in
    let here : s ≡ c ∷ m = e ∙ ap (λ (t : List ℕ). t ++ m) (encode_ascii c small) in
    let nothing = covered_at is_blank (λ (b : ℕ). is_nothing (ascii_group b)) 128 c blanks_begin_nothing small passes in
    false≢true (sym (ascii_nothing c kind small nothing) ∙ grouped kind c m r (subst (λ (u : List ℕ). MatchesKind kind u r) here x))
token_no_gap kind s r x m (inr e) =
    false≢true (sym (no_kind Nothing kind refl) ∙ grouped kind 35 m r (subst (λ (u : List ℕ). MatchesKind kind u r) e x))
