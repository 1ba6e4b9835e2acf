-- Names of parts and dots, which don't end in a dot.
use mathlib.Core.List.{IsSuffix}
use Rattle.std.proofs.Common.{◌≡◌, ℕ, zero, suc, ◌<◌, ◌≤◌, true, false, ltb, ◌⊎◌, inl, inr, List, [], ◌∷◌, ◌++◌, length, take, drop, get_or, slice_index_or, Option, Some, None, IfSome, refl, sym, ap, ◌∙◌, subst, arith, append_assoc, length-append}
use Rattle.std.proofs.lemmas.Bool.{false≢true, cases_lt}
use Rattle.std.proofs.lemmas.List.{get_or_at}
use Rattle.std.proofs.lemmas.Bool.Decides.{nat_tests}
use Rattle.std.proofs.lemmas.Str.{inside_one, encode_ascii}
use Rattle.std.specs.Char.{encode_utf8}
use Rattle.std.specs.List.{list_all}
use lib.Chars.{codes}
use lib.Utf8.{low_scalar}
use Rattle.std.specs.Char.{is_ascii_alphabetic, is_ascii_digit}
use Rattle.turtle_lex.specs.declared.names.Parts.{Parts}
use Rattle.turtle_lex.specs.declared.names.Parts.TheVariants.{Plain, Local}
use Rattle.turtle_lex.specs.Classes.{is_pn_chars, is_pn_chars_u, is_pn_chars_base, is_local_escaped}
use Rattle.turtle_lex.specs.Pattern.{Pattern, word, one, ◌∘◌, ◌∣◌, many, Matches, Times, MatchesOnly, MatchesLongest}
use Rattle.turtle_lex.specs.Terminals.{plx, dotted, label, pn_local, pn_prefix, pname_ns}
use Rattle.turtle_lex.specs.Names.{two_digits, colon_or_plx, name_part, dot, tail, IsTail, label_first, local_first, prefix_and_colon, StartsWithAscii, HasNoPrefixBefore, PrefixesEnd, is_name_byte, is_name_end, EndsNames}
use Rattle.turtle_lex.proofs.Matching.{one_found, leaves_suffix, suffix_trans, refused, not_matched, matched_rest, word_clashes, or_left, or_right, then_only, then_refused, heads, char_same, ones_found}
use Rattle.turtle_lex.proofs.FirstBytes.{StartsWith, nullable, first, none_below, low, lead_low, begins, low_both, excluded, and_left, and_right}

pub plx_of_digits : (s m : List ℕ) (o : Option (List ℕ)) → MatchesOnly (word (codes "%")) s (Some m) → MatchesOnly two_digits m o → MatchesOnly plx s o
unfolding plx
plx_of_digits s m o h k =
    or_left (word (codes "%") ∘ two_digits) (word (codes "\\") ∘ one is_local_escaped) s o
    (then_only (word (codes "%")) two_digits s m o h k)
    (then_refused (word (codes "\\")) (one is_local_escaped) s (word_clashes (codes "%") (codes "\\") s m refl h.found))

pub plx_of_escape : (s m : List ℕ) (o : Option (List ℕ)) → MatchesOnly (word (codes "%")) s None → MatchesOnly (word (codes "\\")) s (Some m) → MatchesOnly (one is_local_escaped) m o → MatchesOnly plx s o
unfolding plx
plx_of_escape s m o none h k =
    or_right (word (codes "%") ∘ two_digits) (word (codes "\\") ∘ one is_local_escaped) s o
    (then_refused (word (codes "%")) two_digits s none)
    (then_only (word (codes "\\")) (one is_local_escaped) s m o h k)

pub no_plx : (s : List ℕ) → MatchesOnly (word (codes "%")) s None → MatchesOnly (word (codes "\\")) s None → MatchesOnly plx s None
unfolding plx
no_plx s none h =
    or_left (word (codes "%") ∘ two_digits) (word (codes "\\") ∘ one is_local_escaped) s None
    (then_refused (word (codes "%")) two_digits s none)
    (then_refused (word (codes "\\")) (one is_local_escaped) s h)

pub colon_no_plx : (s m : List ℕ) → Matches (word (codes ":")) s m → MatchesOnly plx s None
unfolding plx
colon_no_plx s m x = excluded (word (codes ":")) plx s m refl x

pub part_no_colon : (s m : List ℕ) → Matches (one is_pn_chars) s m → MatchesOnly colon_or_plx s None
unfolding plx is_pn_chars is_pn_chars_u is_pn_chars_base
part_no_colon s m x = excluded (one is_pn_chars) colon_or_plx s m refl x

pub part_no_dot : (parts : Parts) (s m : List ℕ) → Matches (name_part parts) s m → MatchesOnly dot s None
unfolding plx is_pn_chars is_pn_chars_u is_pn_chars_base
part_no_dot Plain s m x = excluded (name_part Plain) dot s m refl x
part_no_dot Local s m x = excluded (name_part Local) dot s m refl x

-- what goes on after the first part
abbrev pub more : Pattern → Pattern
more part = many (part ∣ dot) ∘ part

-- how far the name has been read: it may end at `end`, and goes on from `rest` where it goes on
pub record Run (part : Pattern) (s end rest : List ℕ) : Type 0 where
  pub found : Matches (tail part) s end
  pub dots : IsSuffix rest end
  pub onward : (r : List ℕ) → Matches (more part) rest r → Matches (tail part) s r
  pub others : (r : List ℕ) → Matches (tail part) s r → (length end ≤ length r) ⊎ Matches (more part) rest r
  pub stops : (r : List ℕ) → Matches (tail part) s r → MatchesOnly part r None → MatchesOnly dot r None → (r ≡ rest) ⊎ Matches (more part) rest r

pub run_start : (part : Pattern) (s : List ℕ) → Run part s s s
run_start part s = record {
  found = inr refl;
  dots = ([], refl);
  onward = λ r x. inl x;
  others = λ r x. elim x [ inl y ↦ inr y | inr same ↦ inl (subst (λ (t : List ℕ). length s ≤ length t) same (omega arith)) ];
  stops = λ r x h k. elim x [ inl y ↦ inr y | inr same ↦ inl (sym same) ];
}

part_first : (part : Pattern) (s m r : List ℕ) → MatchesOnly part s (Some m) → MatchesOnly dot s None → Matches (more part) s r → (r ≡ m) ⊎ Matches (more part) m r
part_first part s m r h k (t, (zero, same), last) = inl (matched_rest part s m r h (subst (λ (u : List ℕ). Matches part u r) (sym same) last))
part_first part s m r h k (t, (suc n, (u, step, rest)), last) = elim step [
  | inl a ↦ inr (t, (n, subst (λ (v : List ℕ). Times (Matches (part ∣ dot)) n v t) (matched_rest part s m u h a) rest), last)
  | inr b ↦ absurd (not_matched dot s u k b)
]

dot_first : (part : Pattern) (s m r : List ℕ) → MatchesOnly part s None → MatchesOnly dot s (Some m) → Matches (more part) s r → Matches (more part) m r
dot_first part s m r h k (t, (zero, same), last) = absurd (not_matched part s r h (subst (λ (u : List ℕ). Matches part u r) (sym same) last))
dot_first part s m r h k (t, (suc n, (u, step, rest)), last) = elim step [
  | inl a ↦ absurd (not_matched part s u h a)
  | inr b ↦ (t, (n, subst (λ (v : List ℕ). Times (Matches (part ∣ dot)) n v t) (matched_rest dot s m u k b) rest), last)
]

none_first : (part : Pattern) (s r : List ℕ) → MatchesOnly part s None → MatchesOnly dot s None → Matches (more part) s r → ⊥
none_first part s r h k (t, (zero, same), last) = not_matched part s r h (subst (λ (u : List ℕ). Matches part u r) (sym same) last)
none_first part s r h k (t, (suc n, (u, step, rest)), last) = elim step [ inl a ↦ not_matched part s u h a | inr b ↦ not_matched dot s u k b ]

step_back : (part : Pattern) (s m r : List ℕ) → Matches (part ∣ dot) s m → Matches (more part) m r → Matches (more part) s r
step_back part s m r step (t, (n, rest), last) = (t, (suc n, (m, step, rest)), last)

suffix_shorter : (s r : List ℕ) → IsSuffix r s → length r ≤ length s
suffix_shorter s r f = omega (arith, ap length f.1, length-append f.0 r)

pub run_part : (part : Pattern) (s end t m : List ℕ) → Run part s end t → MatchesOnly part t (Some m) → MatchesOnly dot t None → Run part s m m
run_part part s end t m run h k = record {
  found = run.onward m (t, (0, refl), h.found);
  dots = ([], refl);
  onward = λ r x. run.onward r (step_back part t m r (inl h.found) x);
  others = λ r x. elim (run.others r x) [
    | inl longer ↦ inl (let f = suffix_shorter t m (leaves_suffix part t m h.found) in let g = suffix_shorter end t run.dots in omega arith)
    | inr y ↦ elim (part_first part t m r h k y) [ inl same ↦ inl (subst (λ (u : List ℕ). length m ≤ length u) (sym same) (omega arith)) | inr z ↦ inr z ]
  ];
  stops = λ r x a b. elim (run.stops r x a b) [
    | inl same ↦ absurd (not_matched part t m (subst (λ (u : List ℕ). MatchesOnly part u None) same a) h.found)
    | inr y ↦ part_first part t m r h k y
  ];
}

pub run_dot : (part : Pattern) (s end t m : List ℕ) → Run part s end t → MatchesOnly part t None → MatchesOnly dot t (Some m) → Run part s end m
run_dot part s end t m run h k = record {
  found = run.found;
  dots = let f = leaves_suffix dot t m k.found in (run.dots.0 ++ f.0, append_assoc run.dots.0 f.0 m ∙ ap (λ (u : List ℕ). run.dots.0 ++ u) f.1 ∙ run.dots.1);
  onward = λ r x. run.onward r (step_back part t m r (inr k.found) x);
  others = λ r x. elim (run.others r x) [ inl longer ↦ inl longer | inr y ↦ inr (dot_first part t m r h k y) ];
  stops = λ r x a b. elim (run.stops r x a b) [
    | inl same ↦ absurd (not_matched dot t m (subst (λ (u : List ℕ). MatchesOnly dot u None) same b) k.found)
    | inr y ↦ inr (dot_first part t m r h k y)
  ];
}

pub run_end : (part : Pattern) (s end t : List ℕ) → Run part s end t → MatchesOnly part t None → MatchesOnly dot t None → IsTail part s end t
run_end part s end t run h k = record {
  found = run.found;
  longest = λ r x. elim (run.others r x) [ inl longer ↦ longer | inr y ↦ absurd (none_first part t r h k y) ];
  dots = run.dots;
  stops = λ r x a b. elim (run.stops r x a b) [ inl same ↦ same | inr y ↦ absurd (none_first part t r h k y) ];
}

pub part_found : (parts : Parts) (s m : List ℕ) → MatchesOnly (one is_pn_chars) s (Some m) → MatchesOnly (name_part parts) s (Some m)
part_found Plain s m h = h
part_found Local s m h = or_left (one is_pn_chars) colon_or_plx s (Some m) h (part_no_colon s m h.found)

pub local_of_letter : (s m : List ℕ) → MatchesOnly (one is_pn_chars_u) s (Some m) → MatchesOnly local_first s (Some m)
unfolding plx is_pn_chars_u is_pn_chars_base
local_of_letter s m h = record {
  found = inl h.found;
  only = λ r x. elim x [
    | inl a ↦ h.only r a
    | inr b ↦ elim b [
      | inl colon ↦ absurd (not_matched (word (codes ":")) s r (excluded (one is_pn_chars_u) (word (codes ":")) s m refl h.found) colon)
      | inr d ↦ elim d [
        | inl digit ↦ (ones_found is_pn_chars_u is_ascii_digit s m h).only r (inr digit)
        | inr e ↦ absurd (not_matched plx s r (excluded (one is_pn_chars_u) plx s m refl h.found) e)
      ]
    ]
  ];
}

pub local_of_digit : (s m : List ℕ) → MatchesOnly (one is_pn_chars_u) s None → MatchesOnly (one is_ascii_digit) s (Some m) → MatchesOnly local_first s (Some m)
unfolding plx
local_of_digit s m none h = record {
  found = inr (inr (inl h.found));
  only = λ r x. elim x [
    | inl a ↦ absurd (not_matched (one is_pn_chars_u) s r none a)
    | inr b ↦ elim b [
      | inl colon ↦ absurd (not_matched (word (codes ":")) s r (excluded (one is_ascii_digit) (word (codes ":")) s m refl h.found) colon)
      | inr d ↦ elim d [
        | inl digit ↦ h.only r digit
        | inr e ↦ absurd (not_matched plx s r (excluded (one is_ascii_digit) plx s m refl h.found) e)
      ]
    ]
  ];
}

pub local_of_other : (s : List ℕ) (o : Option (List ℕ)) → MatchesOnly (one is_pn_chars_u) s None → MatchesOnly (one is_ascii_digit) s None → MatchesOnly colon_or_plx s o → MatchesOnly local_first s o
local_of_other s o none also h = record { found = by o h; only = λ r x. pick r x }
  where
    by : (o : Option (List ℕ)) → MatchesOnly colon_or_plx s o → IfSome o (Matches local_first s)
    by None h = tt
    by (Some m) h = elim (h.found) [ inl colon ↦ inr (inl colon) | inr e ↦ inr (inr (inr e)) ]

    pick : (r : List ℕ) → Matches local_first s r → o ≡ Some r
    pick r x = elim x [
      | inl a ↦ absurd (not_matched (one is_pn_chars_u) s r none a)
      | inr b ↦ elim b [
        | inl colon ↦ h.only r (inl colon)
        | inr d ↦ elim d [ inl digit ↦ absurd (not_matched (one is_ascii_digit) s r also digit) | inr e ↦ h.only r (inr e) ]
      ]
    ]

-- a whole name
dotted_longest : (first part : Pattern) (s m end stop : List ℕ) → MatchesOnly first s (Some m) → IsTail part m end stop → MatchesLongest (first ∘ tail part) s (Some end)
dotted_longest first part s m end stop h t = record {
  found = (m, h.found, t.found);
  longest = λ r x. t.longest r (subst (λ (u : List ℕ). Matches (tail part) u r) (matched_rest first s m x.0 h x.1) x.2);
}

not_dotted : (first part : Pattern) (s : List ℕ) → MatchesOnly first s None → MatchesLongest (first ∘ tail part) s None
not_dotted first part s h = record { found = tt; longest = λ r x. absurd (not_matched first s x.0 h x.1) }

pub label_longest : (s m end stop : List ℕ) → MatchesOnly label_first s (Some m) → IsTail (name_part Plain) m end stop → MatchesLongest label s (Some end)
unfolding label dotted
label_longest s m end stop h t = dotted_longest label_first (name_part Plain) s m end stop h t

pub no_label : (s : List ℕ) → MatchesOnly label_first s None → MatchesLongest label s None
unfolding label dotted
no_label s h = not_dotted label_first (name_part Plain) s h

pub local_longest : (s m end stop : List ℕ) → MatchesOnly local_first s (Some m) → IsTail (name_part Local) m end stop → MatchesLongest pn_local s (Some end)
unfolding pn_local dotted
local_longest s m end stop h t = dotted_longest local_first (name_part Local) s m end stop h t

pub no_local : (s : List ℕ) → MatchesOnly local_first s None → MatchesLongest pn_local s None
unfolding pn_local dotted
no_local s h = not_dotted local_first (name_part Local) s h

-- a prefix and its colon: the name stops at the colon, and not after a dot
colon_stops : (m end stop t r : List ℕ) → IsTail (name_part Plain) m end stop → Matches (tail (name_part Plain)) m t → Matches (word (codes ":")) t r → t ≡ stop
unfolding is_pn_chars is_pn_chars_u is_pn_chars_base
colon_stops m end stop t r tail_is x colon =
    tail_is.stops t x (excluded (word (codes ":")) (name_part Plain) t r refl colon) (excluded (word (codes ":")) dot t r refl colon)

same_length : (end stop : List ℕ) → IsSuffix stop end → length end ≡ length stop → end ≡ stop
same_length end stop ([], e) len = sym e
same_length end stop (a ∷ t, e) len = absurd (omega (arith, ap length e, length-append (a ∷ t) stop, len))

pub prefix_matches : (s m end stop : List ℕ) (o : Option (List ℕ)) → MatchesOnly (one is_pn_chars_base) s (Some m) → IsTail (name_part Plain) m end stop → length end ≡ length stop → MatchesOnly (word (codes ":")) stop o → MatchesOnly prefix_and_colon s o
unfolding pn_prefix dotted
prefix_matches s m end stop o h t len colon = record { found = by o colon; only = λ r x. pick r x }
  where
    by : (o : Option (List ℕ)) → MatchesOnly (word (codes ":")) stop o → IfSome o (Matches prefix_and_colon s)
    by None k = tt
    by (Some n) k = (stop, (m, h.found, subst (λ (u : List ℕ). Matches (tail (name_part Plain)) m u) (same_length end stop t.dots len) t.found), k.found)

    pick : (r : List ℕ) → Matches prefix_and_colon s r → o ≡ Some r
    pick r x =
        let after : Matches (tail (name_part Plain)) m x.0 = subst (λ (u : List ℕ). Matches (tail (name_part Plain)) u x.0) (matched_rest (one is_pn_chars_base) s m x.1.0 h x.1.1) x.1.2 in
        colon.only r (subst (λ (u : List ℕ). Matches (word (codes ":")) u r) (colon_stops m end stop x.0 r t after x.2) x.2)

pub prefix_ends_in_dot : (s m end stop : List ℕ) → MatchesOnly (one is_pn_chars_base) s (Some m) → IsTail (name_part Plain) m end stop → (length end ≡ length stop → ⊥) → MatchesOnly prefix_and_colon s None
unfolding pn_prefix dotted
prefix_ends_in_dot s m end stop h t apart = refused prefix_and_colon s (λ r x.
    let after : Matches (tail (name_part Plain)) m x.0 = subst (λ (u : List ℕ). Matches (tail (name_part Plain)) u x.0) (matched_rest (one is_pn_chars_base) s m x.1.0 h x.1.1) x.1.2 in
    let same : x.0 ≡ stop = colon_stops m end stop x.0 r t after x.2 in
    let f = suffix_shorter end stop t.dots in
    let g : length end ≤ length stop = subst (λ (u : List ℕ). length end ≤ length u) same (t.longest x.0 after) in
    apart (omega arith))

pub no_prefix : (s : List ℕ) → MatchesOnly (one is_pn_chars_base) s None → MatchesOnly prefix_and_colon s None
unfolding pn_prefix dotted
no_prefix s h = refused prefix_and_colon s (λ r x. not_matched (one is_pn_chars_base) s x.1.0 h x.1.1)

pub ns_of_colon : (s m : List ℕ) → MatchesOnly (word (codes ":")) s (Some m) → MatchesOnly pname_ns s (Some m)
unfolding pname_ns pn_prefix dotted is_pn_chars is_pn_chars_u is_pn_chars_base
ns_of_colon s m h = record {
  found = (s, inr refl, h.found);
  only = λ r x. elim x.1 [
    | inl a ↦ absurd (not_matched pn_prefix s x.0 (excluded (word (codes ":")) pn_prefix s m refl h.found) a)
    | inr same ↦ h.only r (subst (λ (u : List ℕ). Matches (word (codes ":")) u r) (sym same) x.2)
  ];
}

pub ns_of_prefix : (s : List ℕ) (o : Option (List ℕ)) → MatchesOnly (word (codes ":")) s None → MatchesOnly prefix_and_colon s o → MatchesOnly pname_ns s o
unfolding pname_ns
ns_of_prefix s o none h = record { found = by o h; only = λ r x. pick r x }
  where
    by : (o : Option (List ℕ)) → MatchesOnly prefix_and_colon s o → IfSome o (Matches pname_ns s)
    by None k = tt
    by (Some m) k = (k.found.0, inl k.found.1, k.found.2)

    pick : (r : List ℕ) → Matches pname_ns s r → o ≡ Some r
    pick r x = elim x.1 [
      | inl a ↦ h.only r (x.0, a, x.2)
      | inr same ↦ absurd (not_matched (word (codes ":")) s r none (subst (λ (u : List ℕ). Matches (word (codes ":")) u r) (sym same) x.2))
    ]

-- two ends of one text, of which the one is no longer than the other
pub end_of_end : (s t u : List ℕ) → IsSuffix t s → IsSuffix u s → length u ≤ length t → IsSuffix u t
end_of_end s t u ([], e) f le = (f.0, f.1 ∙ sym e)
end_of_end s t u (a ∷ x, e) ([], f) le = absurd (omega (arith, ap length e, ap length f, length-append (a ∷ x) t))
end_of_end s t u (a ∷ x, e) (b ∷ y, f) le = end_of_end (x ++ t) t u (x, refl) (y, (heads b a (y ++ u) (x ++ t) (f ∙ sym e)).1) le

-- no ASCII byte matches inside a character
inside_char : (c : ℕ) (t m u : List ℕ) → t ≡ encode_utf8 c ++ m → IsSuffix u t → length m < length u → length u < length t → StartsWithAscii u → ⊥
inside_char c t m [] e f less more low = low
inside_char c t m (b ∷ u) e (x, g) less more low =
    let len = ap length (sym g) ∙ length-append x (b ∷ u) in
    let len' = ap length e ∙ length-append (encode_utf8 c) m in
    let at : get_or t (length x) 0 ≡ b = ap (λ (s : List ℕ). get_or s (length x) 0) (sym g) ∙ get_or_at x b u 0 (length x) refl in
    let within : length x < length (encode_utf8 c) = omega arith in
    let small : get_or t (length x) 0 < 128 = subst (λ (n : ℕ). n < 128) (sym at) low in
    let same : c ≡ b = inside_one c m t (length x) e within small ∙ at in
    let short : length (encode_utf8 c) ≡ 1 = ap length (encode_ascii c (subst (λ (n : ℕ). n < 128) (sym same) low)) in
    absurd (omega arith)

-- how far a name goes on that begins before the rest
pub record PrefixesContinue (s end rest : List ℕ) : Type 0 where
  pub inside : (u r : List ℕ) → IsSuffix u s → length rest < length u → StartsWithAscii u → Matches prefix_and_colon u r
      → Matches (more (name_part Plain) ∘ word (codes ":")) rest r ⊎ ((end ≡ rest) × Matches (word (codes ":")) rest r)

pub inside_start : (s : List ℕ) → PrefixesContinue s s s
inside_start s = record { inside = λ u r f less low x. absurd (let h = suffix_shorter s u f in omega arith) }

part_no_prefix_colon : (t m r : List ℕ) → Matches (name_part Plain) t m → Matches (word (codes ":")) t r → ⊥
unfolding is_pn_chars is_pn_chars_u is_pn_chars_base
part_no_prefix_colon t m r x y = not_matched (word (codes ":")) t r (excluded (name_part Plain) (word (codes ":")) t m refl x) y

dot_no_prefix : (t m r : List ℕ) → Matches dot t m → Matches prefix_and_colon t r → ⊥
unfolding pn_prefix dotted is_pn_chars is_pn_chars_u is_pn_chars_base
dot_no_prefix t m r x y = not_matched prefix_and_colon t r (excluded dot prefix_and_colon t m refl x) y

prefix_goes_on : (t m r : List ℕ) → MatchesOnly (name_part Plain) t (Some m) → Matches prefix_and_colon t r → Matches (tail (name_part Plain) ∘ word (codes ":")) m r
unfolding pn_prefix dotted
prefix_goes_on t m r h (v, (w, base, rest), colon) =
    let same : w ≡ m = (char_same t base.0 h.found.0 w m base.3 h.found.3).1 in
    (v, subst (λ (u : List ℕ). Matches (tail (name_part Plain)) u v) same rest, colon)

tail_or_colon : (m r : List ℕ) → Matches (tail (name_part Plain) ∘ word (codes ":")) m r → Matches (more (name_part Plain) ∘ word (codes ":")) m r ⊎ ((m ≡ m) × Matches (word (codes ":")) m r)
tail_or_colon m r (v, x, colon) = elim x [
  | inl a ↦ inl (v, a, colon)
  | inr same ↦ inr (refl, subst (λ (u : List ℕ). Matches (word (codes ":")) u r) (sym same) colon)
]

dot_no_colon : (t m r : List ℕ) → Matches dot t m → Matches (word (codes ":")) t r → ⊥
dot_no_colon t m r x y = absurd (omega (arith, (heads 46 58 m r (sym x ∙ y)).0))

pub inside_part : (s end t m : List ℕ) → IsSuffix t s → PrefixesContinue s end t → MatchesOnly (name_part Plain) t (Some m) → MatchesOnly dot t None → PrefixesContinue s m m
inside_part s end t m f run h k = record { inside = λ u r g less low x. by u r g less low x (cases_lt (length t) (length u)) }
  where
    from_before : (r : List ℕ) → Matches (more (name_part Plain) ∘ word (codes ":")) t r → Matches (more (name_part Plain) ∘ word (codes ":")) m r ⊎ ((m ≡ m) × Matches (word (codes ":")) m r)
    from_before r (v, y, colon) = elim (part_first (name_part Plain) t m v h k y) [
      | inl same ↦ inr (refl, subst (λ (w : List ℕ). Matches (word (codes ":")) w r) same colon)
      | inr z ↦ inl (v, z, colon)
    ]

    at_or_inside : (u r : List ℕ) → IsSuffix u t → length m < length u → length u ≤ length t → StartsWithAscii u → Matches prefix_and_colon u r → Matches (more (name_part Plain) ∘ word (codes ":")) m r ⊎ ((m ≡ m) × Matches (word (codes ":")) m r)
    at_or_inside u r ([], e) less le low x = tail_or_colon m r (prefix_goes_on t m r h (subst (λ (w : List ℕ). Matches prefix_and_colon w r) e x))
    at_or_inside u r (a ∷ y, e) less le low x = absurd (inside_char h.found.0 t m u h.found.3 (a ∷ y, e) less (omega (arith, ap length e, length-append (a ∷ y) u)) low)

    by : (u r : List ℕ) → IsSuffix u s → length m < length u → StartsWithAscii u → Matches prefix_and_colon u r → (length t < length u) ⊎ (length u ≤ length t) → Matches (more (name_part Plain) ∘ word (codes ":")) m r ⊎ ((m ≡ m) × Matches (word (codes ":")) m r)
    by u r g less low x (inl before) = elim (run.inside u r g before low x) [
      | inl y ↦ from_before r y
      | inr y ↦ absurd (part_no_prefix_colon t m r h.found y.1)
    ]
    by u r g less low x (inr le) = at_or_inside u r (end_of_end s t u f g le) less le low x

pub inside_dot : (s end t m : List ℕ) → IsSuffix t s → PrefixesContinue s end t → MatchesOnly (name_part Plain) t None → MatchesOnly dot t (Some m) → PrefixesContinue s end m
inside_dot s end t m f run h k = record { inside = λ u r g less low x. by u r g less low x (cases_lt (length t) (length u)) }
  where
    at_dot : (u r : List ℕ) → IsSuffix u t → length m < length u → Matches prefix_and_colon u r → ⊥
    at_dot u r ([], e) less x = dot_no_prefix t m r k.found (subst (λ (w : List ℕ). Matches prefix_and_colon w r) e x)
    at_dot u r (a ∷ y, e) less x = absurd (omega (arith, ap length e, length-append (a ∷ y) u, ap length k.found))

    by : (u r : List ℕ) → IsSuffix u s → length m < length u → StartsWithAscii u → Matches prefix_and_colon u r → (length t < length u) ⊎ (length u ≤ length t) → Matches (more (name_part Plain) ∘ word (codes ":")) m r ⊎ ((end ≡ m) × Matches (word (codes ":")) m r)
    by u r g less low x (inl before) = elim (run.inside u r g before low x) [
      | inl y ↦ inl (y.0, dot_first (name_part Plain) t m y.0 h k y.1, y.2)
      | inr y ↦ absurd (dot_no_colon t m r k.found y.1)
    ]
    by u r g less low x (inr le) = absurd (at_dot u r (end_of_end s t u f g le) less x)

pub inside_end : (s end t : List ℕ) → PrefixesContinue s end t → MatchesOnly (name_part Plain) t None → MatchesOnly dot t None → PrefixesEnd s end t
inside_end s end t run h k u r f less low x = elim (run.inside u r f less low x) [
  | inl y ↦ absurd (none_first (name_part Plain) t y.0 h k y.1)
  | inr y ↦ y
]

-- how far a name is read
pub record Reach (parts : Parts) (s end rest : List ℕ) : Type 0 where
  pub run : Run (name_part parts) s end rest
  pub suffix : IsSuffix rest s
  pub inside : parts ≡ Plain → PrefixesContinue s end rest

pub reach_start : (parts : Parts) (s : List ℕ) → Reach parts s s s
reach_start parts s = record {
  run = run_start (name_part parts) s;
  suffix = ([], refl);
  inside = λ plain. inside_start s;
}

pub reach_part : (parts : Parts) (s end t m : List ℕ) → Reach parts s end t → MatchesOnly (name_part parts) t (Some m) → Reach parts s m m
reach_part parts s end t m h k =
    let no_dot = part_no_dot parts t m k.found in
    record {
      run = run_part (name_part parts) s end t m h.run k no_dot;
      suffix = suffix_trans s t m h.suffix (leaves_suffix (name_part parts) t m k.found);
      inside = λ plain. inside_part s end t m h.suffix (h.inside plain) (subst (λ (p : Parts). MatchesOnly (name_part p) t (Some m)) plain k) no_dot;
    }

pub reach_dot : (parts : Parts) (s end t m : List ℕ) → Reach parts s end t → MatchesOnly (name_part parts) t None → MatchesOnly dot t (Some m) → Reach parts s end m
reach_dot parts s end t m h none k = record {
  run = run_dot (name_part parts) s end t m h.run none k;
  suffix = suffix_trans s t m h.suffix (leaves_suffix dot t m k.found);
  inside = λ plain. inside_dot s end t m h.suffix (h.inside plain) (subst (λ (p : Parts). MatchesOnly (name_part p) t None) plain none) k;
}

reach_times : (parts : Parts) (s t r : List ℕ) (n : ℕ) → Reach parts s t t → Times (Matches (one is_pn_chars)) n t r → Reach parts s r r
reach_times parts s t r zero h e = subst (λ (u : List ℕ). Reach parts s u u) e h
reach_times parts s t r (suc n) h (m, x, xs) =
    reach_times parts s m r n (reach_part parts s t t m h (part_found parts t m (one_found is_pn_chars t x.0 m x.1 x.3 x.2))) xs

-- the name goes on over a run of PN_CHARS
pub reach_run : (parts : Parts) (s t r : List ℕ) → Reach parts s t t → Matches (many (one is_pn_chars)) t r → Reach parts s r r
reach_run parts s t r h x = reach_times parts s t r x.0 h x.1

name_byte_small : (b : ℕ) → is_name_byte b ≡ true → b < 128
unfolding is_name_byte
name_byte_small b h = grind (arith, nat_tests)

name_byte_part : (b : ℕ) → is_name_byte b ≡ true → is_pn_chars b ≡ true
unfolding is_name_byte is_pn_chars is_pn_chars_u is_pn_chars_base
name_byte_part b h = grind (arith, nat_tests)

pub name_bytes_run : (text : List ℕ) (n : ℕ) → list_all is_name_byte (take n text) ≡ true → Matches (many (one is_pn_chars)) text (drop n text)
name_bytes_run text zero h = (0, refl)
name_bytes_run [] (suc n) h = (0, refl)
name_bytes_run (b ∷ s) (suc n) h =
    let passes = and_left (is_name_byte b) (list_all is_name_byte (take n s)) h in
    let small = name_byte_small b passes in
    let more = name_bytes_run s n (and_right (is_name_byte b) (list_all is_name_byte (take n s)) h) in
    (suc more.0, (s, (b, low_scalar b (omega (arith, small)), name_byte_part b passes, ap (λ (t : List ℕ). t ++ s) (sym (encode_ascii b small))), more.1))

-- what is known of names
pub nothing_known : (s : List ℕ) → HasNoPrefixBefore s s
nothing_known s u r f less low x = let h = suffix_shorter s u f in absurd (omega arith)

pub known_after : (s t stop : List ℕ) → IsSuffix t s → HasNoPrefixBefore s stop → HasNoPrefixBefore t stop
known_after s t stop f h u r g less low x = h u r (suffix_trans s t u f g) less low x

pub known_by_dot : (s end stop : List ℕ) → PrefixesEnd s end stop → (length end ≡ length stop → ⊥) → HasNoPrefixBefore s stop
known_by_dot s end stop h apart u r f less low x = apart (ap length (h u r f less low x).0)

pub known_by_end : (s end stop : List ℕ) → PrefixesEnd s end stop → MatchesOnly (word (codes ":")) stop None → HasNoPrefixBefore s stop
known_by_end s end stop h none u r f less low x = not_matched (word (codes ":")) stop r none (h u r f less low x).1

-- where it is known that no prefix begins, a letter begins no name
letter_small : (c : ℕ) → is_ascii_alphabetic c ≡ true → c < 128
letter_small c h = grind (arith, nat_tests)

letter_no_colon : (c : ℕ) → is_ascii_alphabetic c ≡ true → c ≡ 58 → ⊥
letter_no_colon c h e = false≢true (ap is_ascii_alphabetic (sym e) ∙ h)

pub known_no_name : (s stop : List ℕ) → HasNoPrefixBefore s stop → length stop < length s → is_ascii_alphabetic (get_or s 0 0) ≡ true → MatchesOnly pname_ns s None
known_no_name [] stop h less letter = absurd (omega arith)
known_no_name (b ∷ s) stop h less letter =
    ns_of_prefix (b ∷ s) None
    (refused (word (codes ":")) (b ∷ s) (λ r x. letter_no_colon b letter (heads b 58 s r x).0))
    (refused prefix_and_colon (b ∷ s) (λ r x. h (b ∷ s) r ([], refl) less (letter_small b letter) x))

-- the text begins with ASCII that ends names, and no text of the pattern does
ended : (p : Pattern) (s : List ℕ) → nullable p ≡ false → none_below is_name_end (first p) 128 ≡ true → StartsWith low s → StartsWith is_name_end s → MatchesOnly p s None
ended p s full apart is_low ends = refused p s (λ r x. low_both is_name_end (first p) s apart is_low ends (begins p s r full x))

pub names_end : (s : List ℕ) → 1 ≤ length s → is_name_end (slice_index_or s 0 0) ≡ true → EndsNames s
unfolding plx is_pn_chars is_pn_chars_u is_pn_chars_base is_name_end is_name_byte
names_end [] some h = absurd (omega (arith, some))
names_end (b ∷ s) some h = λ parts.
    let is_low : ltb b 128 ≡ true = and_left (ltb b 128) _ h in
    let same = lead_low b is_low in
    let lows : StartsWith low (b ∷ s) = ap low same ∙ is_low in
    let ends : StartsWith is_name_end (b ∷ s) = ap is_name_end same ∙ h in
    (part_ends parts lows ends, ended dot (b ∷ s) refl refl lows ends)
  where
    part_ends : (parts : Parts) → StartsWith low (b ∷ s) → StartsWith is_name_end (b ∷ s) → MatchesOnly (name_part parts) (b ∷ s) None
    part_ends Plain lows ends = ended (name_part Plain) (b ∷ s) refl refl lows ends
    part_ends Local lows ends = ended (name_part Local) (b ∷ s) refl refl lows ends
