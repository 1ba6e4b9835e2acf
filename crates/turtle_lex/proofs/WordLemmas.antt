-- Names, fixed words of letters, and tags.
use mathlib.Core.List.{IsSuffix}
use Rattle.std.proofs.Common.{◌≡◌, ℕ, suc, ◌<◌, ◌≤◌, Bool, true, false, not, ◌==◌, ◌&&◌, ◌⊎◌, inl, inr, List, [], ◌∷◌, ◌++◌, length, map, Option, Some, None, IfSome, IfNone, refl, sym, ap, ◌∙◌, subst, arith, length-append}
use Rattle.std.specs.List.{list_all}
use Rattle.std.proofs.lemmas.Bool.{false≢true}
use Rattle.std.proofs.lemmas.Bool.Decides.{nat_tests}
use Rattle.std.proofs.lemmas.Str.{encode_ascii}
use Rattle.std.proofs.Math.Utf8.{low_scalar}
use lib.Chars.{codes}
use Rattle.std.specs.Char.{is_ascii_alphabetic, to_ascii_lowercase}
use Rattle.turtle_lex.specs.declared.token.TokenKind.{TokenKind}
use Rattle.turtle_lex.specs.declared.token.TokenKind.TheVariants.{PnameNs, PnameLn, LangTag, AtPrefix, AtBase, Prefix, Base, A, True, False}
use Rattle.turtle_lex.specs.declared.token_groups.Group.TheVariants as Group
use Rattle.turtle_lex.specs.Pattern.{word, one, many, Matches, MatchesOnly, MatchesLongest}
use Rattle.turtle_lex.specs.Terminals.{lang_tag, pn_prefix, pname_ns, pname_ln, pn_local, dotted, plx}
use Rattle.turtle_lex.specs.Tokens.{terminal, MatchesKind}
use Rattle.turtle_lex.specs.Groups.{in_group, is_word, IsTokenOfGroup, HasNoTokenOf}
use Rattle.turtle_lex.proofs.Matching.{leaves_suffix, not_matched, matched_rest, heads}
use Rattle.turtle_lex.proofs.FirstBytes.{excluded, at_least, and_left, and_right}

-- letters are a LANGTAG after an `@`
letter_small : (c : ℕ) → is_ascii_alphabetic c ≡ true → c < 128
letter_small c h = grind (arith, nat_tests)

letter : (c : ℕ) (t : List ℕ) → is_ascii_alphabetic c ≡ true → Matches (one is_ascii_alphabetic) (c ∷ t) t
letter c t h =
    let small = letter_small c h in
    (c, low_scalar c (omega (arith, small)), h, ap (λ (u : List ℕ). u ++ t) (sym (encode_ascii c small)))

letters : (w q : List ℕ) → list_all is_ascii_alphabetic w ≡ true → Matches (many (one is_ascii_alphabetic)) (w ++ q) q
letters [] q h = (0, refl)
letters (c ∷ w) q h =
    let rest = letters w q (and_right (is_ascii_alphabetic c) (list_all is_ascii_alphabetic w) h) in
    (suc rest.0, (w ++ q, letter c (w ++ q) (and_left (is_ascii_alphabetic c) (list_all is_ascii_alphabetic w) h), rest.1))

tag_of_word : (c : ℕ) (w s q : List ℕ) → list_all is_ascii_alphabetic (c ∷ w) ≡ true → s ≡ 64 ∷ c ∷ (w ++ q) → Matches lang_tag s q
unfolding lang_tag
tag_of_word c w s q h e =
    let first = and_left (is_ascii_alphabetic c) (list_all is_ascii_alphabetic w) h in
    (c ∷ (w ++ q), e, (q, (w ++ q, letter c (w ++ q) first, letters w q (and_right (is_ascii_alphabetic c) (list_all is_ascii_alphabetic w) h)), (0, refl)))

pub at_prefix_tag : (s q : List ℕ) → Matches (word (codes "@prefix")) s q → Matches lang_tag s q
at_prefix_tag s q x = tag_of_word 112 (codes "refix") s q refl x

pub at_base_tag : (s q : List ℕ) → Matches (word (codes "@base")) s q → Matches lang_tag s q
at_base_tag s q x = tag_of_word 98 (codes "ase") s q refl x

pub tag_leaves_suffix : (s e : List ℕ) → MatchesLongest lang_tag s (Some e) → IsSuffix e s
tag_leaves_suffix s e h = leaves_suffix lang_tag s e h.found

pub plain_tag : (s e : List ℕ) → MatchesLongest lang_tag s (Some e) → (Matches (word (codes "@prefix")) s e → ⊥) → (Matches (word (codes "@base")) s e → ⊥) → IsTokenOfGroup (in_group Group.Tags) LangTag s e
plain_tag s e h no_prefix no_base = record { matches = h.found; longest = longest; fixed = fixed }
  where
    longest : (j : TokenKind) (r : List ℕ) → in_group Group.Tags j ≡ true → MatchesKind j s r → length e ≤ length r
    longest LangTag r g x = h.longest r x
    longest AtPrefix r g x = h.longest r (at_prefix_tag s r x)
    longest AtBase r g x = h.longest r (at_base_tag s r x)
    longest j r g x = absurd (false≢true g)

    fixed : (j : TokenKind) → in_group Group.Tags j ≡ true → MatchesKind j s e → (j ≡ LangTag) ⊎ (j ≡ LangTag)
    fixed LangTag g x = inl refl
    fixed AtPrefix g x = absurd (no_prefix x)
    fixed AtBase g x = absurd (no_base x)
    fixed j g x = absurd (false≢true g)

pub no_tag_token : (s : List ℕ) → MatchesLongest lang_tag s None → HasNoTokenOf (in_group Group.Tags) s
no_tag_token s h LangTag r g x = h.longest r x
no_tag_token s h AtPrefix r g x = h.longest r (at_prefix_tag s r x)
no_tag_token s h AtBase r g x = h.longest r (at_base_tag s r x)
no_tag_token s h j r g x = false≢true g

-- fixed words of letters: no two begin alike
word_matches_kind : (kind : TokenKind) (s r : List ℕ) → is_word kind ≡ true → Matches (terminal kind) s r → MatchesKind kind s r
word_matches_kind A s r g x = x
word_matches_kind True s r g x = x
word_matches_kind False s r g x = x
word_matches_kind Prefix s r g x = x
word_matches_kind Base s r g x = x
word_matches_kind kind s r g x = absurd (false≢true g)

word_matches : (kind : TokenKind) (s r : List ℕ) → is_word kind ≡ true → MatchesKind kind s r → Matches (terminal kind) s r
word_matches A s r g x = x
word_matches True s r g x = x
word_matches False s r g x = x
word_matches Prefix s r g x = x
word_matches Base s r g x = x
word_matches kind s r g x = absurd (false≢true g)

other_word : (kind j : TokenKind) (s m r : List ℕ) → is_word kind ≡ true → is_word j ≡ true → Matches (terminal kind) s m → Matches (terminal j) s r → j ≡ kind
other_word A A s m r g h x y = refl
other_word A True s m r g h x y = absurd (not_matched (terminal True) s r (excluded (terminal A) (terminal True) s m refl x) y)
other_word A False s m r g h x y = absurd (not_matched (terminal False) s r (excluded (terminal A) (terminal False) s m refl x) y)
other_word A Prefix s m r g h x y = absurd (not_matched (terminal Prefix) s r (excluded (terminal A) (terminal Prefix) s m refl x) y)
other_word A Base s m r g h x y = absurd (not_matched (terminal Base) s r (excluded (terminal A) (terminal Base) s m refl x) y)
other_word A j s m r g h x y = absurd (false≢true h)
other_word True A s m r g h x y = absurd (not_matched (terminal A) s r (excluded (terminal True) (terminal A) s m refl x) y)
other_word True True s m r g h x y = refl
other_word True False s m r g h x y = absurd (not_matched (terminal False) s r (excluded (terminal True) (terminal False) s m refl x) y)
other_word True Prefix s m r g h x y = absurd (not_matched (terminal Prefix) s r (excluded (terminal True) (terminal Prefix) s m refl x) y)
other_word True Base s m r g h x y = absurd (not_matched (terminal Base) s r (excluded (terminal True) (terminal Base) s m refl x) y)
other_word True j s m r g h x y = absurd (false≢true h)
other_word False A s m r g h x y = absurd (not_matched (terminal A) s r (excluded (terminal False) (terminal A) s m refl x) y)
other_word False True s m r g h x y = absurd (not_matched (terminal True) s r (excluded (terminal False) (terminal True) s m refl x) y)
other_word False False s m r g h x y = refl
other_word False Prefix s m r g h x y = absurd (not_matched (terminal Prefix) s r (excluded (terminal False) (terminal Prefix) s m refl x) y)
other_word False Base s m r g h x y = absurd (not_matched (terminal Base) s r (excluded (terminal False) (terminal Base) s m refl x) y)
other_word False j s m r g h x y = absurd (false≢true h)
other_word Prefix A s m r g h x y = absurd (not_matched (terminal A) s r (excluded (terminal Prefix) (terminal A) s m refl x) y)
other_word Prefix True s m r g h x y = absurd (not_matched (terminal True) s r (excluded (terminal Prefix) (terminal True) s m refl x) y)
other_word Prefix False s m r g h x y = absurd (not_matched (terminal False) s r (excluded (terminal Prefix) (terminal False) s m refl x) y)
other_word Prefix Prefix s m r g h x y = refl
other_word Prefix Base s m r g h x y = absurd (not_matched (terminal Base) s r (excluded (terminal Prefix) (terminal Base) s m refl x) y)
other_word Prefix j s m r g h x y = absurd (false≢true h)
other_word Base A s m r g h x y = absurd (not_matched (terminal A) s r (excluded (terminal Base) (terminal A) s m refl x) y)
other_word Base True s m r g h x y = absurd (not_matched (terminal True) s r (excluded (terminal Base) (terminal True) s m refl x) y)
other_word Base False s m r g h x y = absurd (not_matched (terminal False) s r (excluded (terminal Base) (terminal False) s m refl x) y)
other_word Base Prefix s m r g h x y = absurd (not_matched (terminal Prefix) s r (excluded (terminal Base) (terminal Prefix) s m refl x) y)
other_word Base Base s m r g h x y = refl
other_word Base j s m r g h x y = absurd (false≢true h)
other_word kind j s m r g h x y = absurd (false≢true g)

pub word_found : (kind : TokenKind) (s m : List ℕ) → is_word kind ≡ true → MatchesOnly (terminal kind) s (Some m) → IsTokenOfGroup is_word kind s m
word_found kind s m g h = record {
  matches = word_matches_kind kind s m g h.found;
  longest = λ j r i x. let same = other_word kind j s m r g i h.found (word_matches j s r i x) in
      omega (arith, ap length (matched_rest (terminal kind) s m r h (subst (λ (k : TokenKind). Matches (terminal k) s r) same (word_matches j s r i x))));
  fixed = λ j i x. inl (other_word kind j s m m g i h.found (word_matches j s m i x));
}

pub no_word : (s : List ℕ) → MatchesOnly (terminal A) s None → MatchesOnly (terminal True) s None → MatchesOnly (terminal False) s None → MatchesOnly (terminal Prefix) s None → MatchesOnly (terminal Base) s None → HasNoTokenOf is_word s
no_word s a b c d e A r g x = not_matched (terminal A) s r a x
no_word s a b c d e True r g x = not_matched (terminal True) s r b x
no_word s a b c d e False r g x = not_matched (terminal False) s r c x
no_word s a b c d e Prefix r g x = not_matched (terminal Prefix) s r d x
no_word s a b c d e Base r g x = not_matched (terminal Base) s r e x
no_word s a b c d e kind r g x = false≢true g

-- a text without a colon
abbrev pub is_no_colon : ℕ → Bool
is_no_colon b = not (b == 58)

colon_in_case : (b : ℕ) → is_no_colon (to_ascii_lowercase b) ≡ true → is_no_colon b ≡ true
colon_in_case b h = grind (arith, nat_tests)

no_colon_case : (t : List ℕ) → list_all is_no_colon (map to_ascii_lowercase t) ≡ true → list_all is_no_colon t ≡ true
no_colon_case [] h = refl
no_colon_case (b ∷ t) h = both (is_no_colon b) (list_all is_no_colon t)
    (colon_in_case b (and_left (is_no_colon (to_ascii_lowercase b)) (list_all is_no_colon (map to_ascii_lowercase t)) h))
    (no_colon_case t (and_right (is_no_colon (to_ascii_lowercase b)) (list_all is_no_colon (map to_ascii_lowercase t)) h))
  where
    both : (x y : Bool) → x ≡ true → y ≡ true → (x && y) ≡ true
    both true y p q = q
    both false y p q = absurd (false≢true p)

-- a text without a colon ends before a colon does
before_colon : (w t q m : List ℕ) → list_all is_no_colon w ≡ true → w ++ q ≡ t ++ 58 ∷ m → length m < length q
before_colon [] t q m h e = omega (arith, ap length e, length-append t (58 ∷ m))
before_colon (b ∷ w) [] q m h e =
    let same : b ≡ 58 = (heads b 58 (w ++ q) m e).0 in
    absurd (false≢true (sym (ap is_no_colon same) ∙ and_left (is_no_colon b) (list_all is_no_colon w) h))
before_colon (b ∷ w) (a ∷ t) q m h e = before_colon w t q m (and_right (is_no_colon b) (list_all is_no_colon w) h) (heads b a (w ++ q) (t ++ 58 ∷ m) e).1

word_colon : (kind : TokenKind) (s q : List ℕ) → is_word kind ≡ true → MatchesKind kind s q → (w : List ℕ) × (list_all is_no_colon w ≡ true) × (s ≡ w ++ q)
word_colon A s q g x = (codes "a", refl, x)
word_colon True s q g x = (codes "true", refl, x)
word_colon False s q g x = (codes "false", refl, x)
word_colon Prefix s q g x = (x.0, no_colon_case x.0 (ap (list_all is_no_colon) x.1 ∙ refl), x.2)
word_colon Base s q g x = (x.0, no_colon_case x.0 (ap (list_all is_no_colon) x.1 ∙ refl), x.2)
word_colon kind s q g x = absurd (false≢true g)

ns_parts : (s m : List ℕ) → Matches pname_ns s m → (t : List ℕ) × (s ≡ t ++ 58 ∷ m)
unfolding pname_ns
ns_parts s m (u, x, colon) =
    elim x [ inl a ↦ (let f = leaves_suffix pn_prefix s u a in (f.0, sym f.1 ∙ ap (λ (v : List ℕ). f.0 ++ v) colon)) | inr same ↦ ([], same ∙ colon) ]

-- a name is longer than every fixed word that matches there
word_shorter : (kind : TokenKind) (s m q : List ℕ) → is_word kind ≡ true → Matches pname_ns s m → MatchesKind kind s q → length m < length q
word_shorter kind s m q g x y =
    let t = ns_parts s m x in let w = word_colon kind s q g y in
    before_colon w.0 t.0 q m w.1 (sym w.2 ∙ t.1)

local_shorter : (s e : List ℕ) → Matches pn_local s e → length e < length s
unfolding pn_local dotted plx
local_shorter s e x = omega (arith, at_least pn_local s e x)

-- the group of names is those, and the fixed words
pub pname_ln_token : (s m e : List ℕ) → MatchesOnly pname_ns s (Some m) → MatchesLongest pn_local m (Some e) → IsTokenOfGroup (in_group Group.Names) PnameLn s e
unfolding pname_ln
pname_ln_token s m e h k = record { matches = (m, h.found, k.found); longest = longest; fixed = fixed }
  where
    less : length e < length m
    less = local_shorter m e k.found

    longest : (j : TokenKind) (r : List ℕ) → in_group Group.Names j ≡ true → MatchesKind j s r → length e ≤ length r
    longest PnameLn r g x = k.longest r (subst (λ (u : List ℕ). Matches pn_local u r) (matched_rest pname_ns s m x.0 h x.1) x.2)
    longest PnameNs r g x = omega (arith, less, ap length (matched_rest pname_ns s m r h x))
    longest A r g x = omega (arith, less, word_shorter A s m r refl h.found x)
    longest True r g x = omega (arith, less, word_shorter True s m r refl h.found x)
    longest False r g x = omega (arith, less, word_shorter False s m r refl h.found x)
    longest Prefix r g x = omega (arith, less, word_shorter Prefix s m r refl h.found x)
    longest Base r g x = omega (arith, less, word_shorter Base s m r refl h.found x)
    longest j r g x = absurd (false≢true g)

    fixed : (j : TokenKind) → in_group Group.Names j ≡ true → MatchesKind j s e → (j ≡ PnameLn) ⊎ (j ≡ LangTag)
    fixed PnameLn g x = inl refl
    fixed PnameNs g x = absurd (omega (arith, less, ap length (matched_rest pname_ns s m e h x)))
    fixed A g x = absurd (omega (arith, less, word_shorter A s m e refl h.found x))
    fixed True g x = absurd (omega (arith, less, word_shorter True s m e refl h.found x))
    fixed False g x = absurd (omega (arith, less, word_shorter False s m e refl h.found x))
    fixed Prefix g x = absurd (omega (arith, less, word_shorter Prefix s m e refl h.found x))
    fixed Base g x = absurd (omega (arith, less, word_shorter Base s m e refl h.found x))
    fixed j g x = absurd (false≢true g)

pub pname_ns_token : (s m : List ℕ) → MatchesOnly pname_ns s (Some m) → MatchesLongest pn_local m None → IsTokenOfGroup (in_group Group.Names) PnameNs s m
unfolding pname_ln
pname_ns_token s m h k = record { matches = h.found; longest = longest; fixed = fixed }
  where
    no_ln : (r : List ℕ) → MatchesKind PnameLn s r → ⊥
    no_ln r x = k.longest r (subst (λ (u : List ℕ). Matches pn_local u r) (matched_rest pname_ns s m x.0 h x.1) x.2)

    longest : (j : TokenKind) (r : List ℕ) → in_group Group.Names j ≡ true → MatchesKind j s r → length m ≤ length r
    longest PnameLn r g x = absurd (no_ln r x)
    longest PnameNs r g x = omega (arith, ap length (matched_rest pname_ns s m r h x))
    longest A r g x = omega (arith, word_shorter A s m r refl h.found x)
    longest True r g x = omega (arith, word_shorter True s m r refl h.found x)
    longest False r g x = omega (arith, word_shorter False s m r refl h.found x)
    longest Prefix r g x = omega (arith, word_shorter Prefix s m r refl h.found x)
    longest Base r g x = omega (arith, word_shorter Base s m r refl h.found x)
    longest j r g x = absurd (false≢true g)

    fixed : (j : TokenKind) → in_group Group.Names j ≡ true → MatchesKind j s m → (j ≡ PnameNs) ⊎ (j ≡ LangTag)
    fixed PnameLn g x = absurd (no_ln m x)
    fixed PnameNs g x = inl refl
    fixed A g x = absurd (omega (arith, word_shorter A s m m refl h.found x))
    fixed True g x = absurd (omega (arith, word_shorter True s m m refl h.found x))
    fixed False g x = absurd (omega (arith, word_shorter False s m m refl h.found x))
    fixed Prefix g x = absurd (omega (arith, word_shorter Prefix s m m refl h.found x))
    fixed Base g x = absurd (omega (arith, word_shorter Base s m m refl h.found x))
    fixed j g x = absurd (false≢true g)

-- where no name is, the fixed words are all
pub word_is_name : (kind : TokenKind) (s e : List ℕ) → MatchesOnly pname_ns s None → IsTokenOfGroup is_word kind s e → IsTokenOfGroup (in_group Group.Names) kind s e
unfolding pname_ln
word_is_name kind s e none h = record { matches = h.matches; longest = longest; fixed = fixed }
  where
    longest : (j : TokenKind) (r : List ℕ) → in_group Group.Names j ≡ true → MatchesKind j s r → length e ≤ length r
    longest PnameLn r g x = absurd (not_matched pname_ns s x.0 none x.1)
    longest PnameNs r g x = absurd (not_matched pname_ns s r none x)
    longest A r g x = h.longest A r refl x
    longest True r g x = h.longest True r refl x
    longest False r g x = h.longest False r refl x
    longest Prefix r g x = h.longest Prefix r refl x
    longest Base r g x = h.longest Base r refl x
    longest j r g x = absurd (false≢true g)

    fixed : (j : TokenKind) → in_group Group.Names j ≡ true → MatchesKind j s e → (j ≡ kind) ⊎ (j ≡ LangTag)
    fixed PnameLn g x = absurd (not_matched pname_ns s x.0 none x.1)
    fixed PnameNs g x = absurd (not_matched pname_ns s e none x)
    fixed A g x = h.fixed A refl x
    fixed True g x = h.fixed True refl x
    fixed False g x = h.fixed False refl x
    fixed Prefix g x = h.fixed Prefix refl x
    fixed Base g x = h.fixed Base refl x
    fixed j g x = absurd (false≢true g)

pub no_word_no_name : (s : List ℕ) → MatchesOnly pname_ns s None → HasNoTokenOf is_word s → HasNoTokenOf (in_group Group.Names) s
unfolding pname_ln
no_word_no_name s none h PnameLn r g x = not_matched pname_ns s x.0 none x.1
no_word_no_name s none h PnameNs r g x = not_matched pname_ns s r none x
no_word_no_name s none h A r g x = h A r refl x
no_word_no_name s none h True r g x = h True r refl x
no_word_no_name s none h False r g x = h False r refl x
no_word_no_name s none h Prefix r g x = h Prefix r refl x
no_word_no_name s none h Base r g x = h Base r refl x
no_word_no_name s none h j r g x = false≢true g

-- what a call found of the words, seen as names
pub names_found : {T : Type 0} (s : List ℕ) (o : Option T) (kind : T → TokenKind) (rest : T → List ℕ) → MatchesOnly pname_ns s None
    → IfSome o (λ t. IsTokenOfGroup is_word (kind t) s (rest t)) → IfSome o (λ t. IsTokenOfGroup (in_group Group.Names) (kind t) s (rest t))
names_found s None kind rest none h = tt
names_found s (Some t) kind rest none h = word_is_name (kind t) s (rest t) none h

pub names_none : {T : Type 0} (s : List ℕ) (o : Option T) → MatchesOnly pname_ns s None → IfNone o (HasNoTokenOf is_word s) → IfNone o (HasNoTokenOf (in_group Group.Names) s)
names_none s None none h = no_word_no_name s none h
names_none s (Some t) none h = tt
