-- Writing segment by segment gives the path without dot segments.
use Rattle.std.proofs.Common.{◌≡◌, ℕ, Bool, true, false, not, cond, ◌||◌, List, [], ◌∷◌, ◌++◌, take, drop, Option, Some, None, refl, sym, ap, subst, ◌∙◌, append_assoc}
use Rattle.std.specs.Prelude.{IsTrue, fold, unwrap_or}
use Rattle.std.specs.List.{list_all, list_any, before_last, onto_first, join_with_byte, AllByRecursion}
use Rattle.iri_ref.specs.Characters.{slash, is_slash, is_allowed, AllAllowed, Lacks}
use Rattle.iri_ref.specs.Segments.{segments, is_single_dot, is_double_dot, is_dot_segment, with_trailing_slash, without_last_segment, push_segment, kept_segments, remove_dot_segments, HasNoDotSegments}
use Rattle.iri_ref.specs.PathWriter.{WriterState, after_segment, after_segments, ends_in_dot_segment}
use Rattle.iri_ref.proofs.Texts.{and_left, and_right, and_both, all_append, all_left}
use Rattle.std.proofs.lemmas.List.{append-nil, take-append-drop}
use Rattle.std.proofs.lemmas.List.Splits.{join_with_byte-slice_split}
use Rattle.iri_ref.proofs.PathWriting.{last_plain}
use Rattle.iri_ref.proofs.Paths.{before_last_cut, before_last_lacking}

abbrev pub joined : List (List ℕ) → List ℕ
joined ss = join_with_byte slash ss

-- no segment has a slash
abbrev pub AreFree : List (List ℕ) → Type 0
AreFree ss = AllByRecursion (λ s. Lacks is_slash s) ss

abbrev IsSome : List (List ℕ) → Type 0
IsSome [] = ⊥
IsSome (s ∷ ss) = Unit {0}

onto_free : (c : ℕ) → IsTrue (not (is_slash c)) → (ss : List (List ℕ)) → AreFree ss → AreFree (onto_first c ss)
onto_free c h [] free = (and_both _ _ h refl, tt)
onto_free c h (s ∷ ss) free = (and_both _ _ h free.0, free.1)

pub segments_free : (path : List ℕ) → AreFree (segments path)
segments_free [] = (refl, tt)
segments_free (c ∷ cs) = by_test (is_slash c) refl (segments_free cs)
  where
    by_test : (b : Bool) → is_slash c ≡ b → AreFree (segments cs) → AreFree (cond b ([] ∷ segments cs) (onto_first c (segments cs)))
    by_test true e free = (refl, free)
    by_test false e free = onto_free c (ap not e) (segments cs) free

joined_more : (k : List ℕ) (ks : List (List ℕ)) (s : List ℕ) → joined ((k ∷ ks) ++ s ∷ []) ≡ joined (k ∷ ks) ++ slash ∷ s
joined_more k [] s = refl
joined_more k (l ∷ ks) s = ap (λ (t : List ℕ). k ++ slash ∷ t) (joined_more l ks s) ∙ sym (append_assoc k (slash ∷ joined (l ∷ ks)) (slash ∷ s))

-- two segments or more, cut at the last slash
record LastCut (s t : List ℕ) (ss : List (List ℕ)) : Type 0 where
  prefix : List ℕ
  last : List ℕ
  lacks : Lacks is_slash last
  whole : joined (s ∷ t ∷ ss) ≡ prefix ++ slash ∷ last
  without : joined (without_last_segment (s ∷ t ∷ ss)) ≡ prefix

last_cut : (s t : List ℕ) (ss : List (List ℕ)) → AreFree (s ∷ t ∷ ss) → LastCut s t ss
last_cut s t [] free = record { prefix = s; last = t; lacks = free.1.0; whole = refl; without = refl }
last_cut s t (u ∷ []) free = record {
  prefix = s ++ slash ∷ t;
  last = u;
  lacks = free.1.1.0;
  whole = sym (append_assoc s (slash ∷ t) (slash ∷ u));
  without = refl;
}
last_cut s t (u ∷ v ∷ ss) free =
    let below = last_cut t u (v ∷ ss) free.1 in
    record {
      prefix = s ++ slash ∷ below.prefix;
      last = below.last;
      lacks = below.lacks;
      whole = ap (λ (x : List ℕ). s ++ slash ∷ x) below.whole ∙ sym (append_assoc s (slash ∷ below.prefix) (slash ∷ below.last));
      without = ap (λ (x : List ℕ). s ++ slash ∷ x) below.without;
    }

-- the path before its last slash is the segments without the last
up_is : (ks : List (List ℕ)) → IsSome ks → AreFree ks → before_last is_slash (joined ks) ≡ joined (without_last_segment ks)
up_is [] some free = absurd some
up_is (k ∷ []) some free = before_last_lacking k free.0
up_is (k ∷ l ∷ ks) some free =
    let cut = last_cut k l ks free in
    ap (before_last is_slash) cut.whole ∙ before_last_cut cut.prefix cut.last cut.lacks ∙ sym cut.without

without_last_some : (ks : List (List ℕ)) → IsSome (without_last_segment ks)
without_last_some [] = tt
without_last_some (k ∷ []) = tt
without_last_some (k ∷ l ∷ []) = tt
without_last_some (k ∷ l ∷ m ∷ ks) = tt

without_last_free : (ks : List (List ℕ)) → AreFree ks → AreFree (without_last_segment ks)
without_last_free [] free = (refl, tt)
without_last_free (k ∷ []) free = (refl, tt)
without_last_free (k ∷ l ∷ []) free = (free.0, tt)
without_last_free (k ∷ l ∷ m ∷ ks) free = (free.0, without_last_free (l ∷ m ∷ ks) free.1)

more_some : (ks : List (List ℕ)) (s : List ℕ) → IsSome (ks ++ s ∷ [])
more_some [] s = tt
more_some (k ∷ ks) s = tt

more_free : (ks : List (List ℕ)) (s : List ℕ) → AreFree ks → Lacks is_slash s → AreFree (ks ++ s ∷ [])
more_free [] s free h = (h, tt)
more_free (k ∷ ks) s free h = (free.0, more_free ks s free.1 h)

-- a text is that of these segments
record Agrees (text : Option (List ℕ)) (ks : List (List ℕ)) : Type 0 where
  same : text ≡ Some (joined ks)
  some : IsSome ks
  free : AreFree ks

adds : (ks : List (List ℕ)) (s : List ℕ) → IsSome ks → joined ks ++ slash ∷ s ≡ joined (ks ++ s ∷ [])
adds [] s some = absurd some
adds (k ∷ ks) s some = sym (joined_more k ks s)

-- one more segment, in the text and in the list
step : (ks : List (List ℕ)) (s : List ℕ) → IsSome ks → AreFree ks → Lacks is_slash s → Agrees (after_segment (Some (joined ks)) s) (push_segment ks s)
step ks s some free h = by_tests (is_single_dot s) (is_double_dot s)
  where
    by_tests : (a b : Bool) → Agrees (cond a (Some (joined ks)) (cond b (Some (before_last is_slash (joined ks))) (Some (joined ks ++ slash ∷ s)))) (cond a ks (cond b (without_last_segment ks) (ks ++ s ∷ [])))
    by_tests true b = record { same = refl; some = some; free = free }
    by_tests false true = record { same = ap (λ (t : List ℕ). Some t) (up_is ks some free); some = without_last_some ks; free = without_last_free ks free }
    by_tests false false = record { same = ap (λ (t : List ℕ). Some t) (adds ks s some); some = more_some ks s; free = more_free ks s free h }

walk : (ss ks : List (List ℕ)) → IsSome ks → AreFree ks → AreFree ss → after_segments (Some (joined ks)) ss ≡ Some (joined (fold push_segment ks ss))
walk [] ks some free all = refl
walk (s ∷ ss) ks some free all =
    let one = step ks s some free all.0 in
    ap (λ (p : Option (List ℕ)). after_segments p ss) one.same ∙ walk ss (push_segment ks s) one.some one.free all.1

pub written_is : (ss : List (List ℕ)) → AreFree ss → unwrap_or (after_segments None ss) [] ≡ joined (kept_segments ss)
written_is [] free = refl
written_is (s ∷ ss) free = by_test (is_dot_segment s) (written_is ss free.1)
  where
    by_test : (b : Bool) → unwrap_or (after_segments None ss) [] ≡ joined (kept_segments ss) → unwrap_or (after_segments (cond b None (Some s)) ss) [] ≡ joined (cond b (kept_segments ss) (fold push_segment (s ∷ []) ss))
    by_test true below = below
    by_test false below = ap (λ (p : Option (List ℕ)). unwrap_or p []) (walk ss (s ∷ []) tt (free.0, tt) free.1)

with_last_slash_free : (ss : List (List ℕ)) → AreFree ss → AreFree (with_trailing_slash ss)
with_last_slash_free [] free = tt
with_last_slash_free (s ∷ []) free = by_test (is_dot_segment s)
  where
    by_test : (b : Bool) → AreFree (cond b (s ∷ [] ∷ []) (s ∷ []))
    by_test true = (free.0, (refl, tt))
    by_test false = (free.0, tt)
with_last_slash_free (s ∷ t ∷ ss) free = (free.0, with_last_slash_free (t ∷ ss) free.1)

-- the text that is written is the path without dot segments
pub written_path : (path : List ℕ) → unwrap_or (after_segments None (with_trailing_slash (segments path))) [] ≡ remove_dot_segments path
written_path path = written_is (with_trailing_slash (segments path)) (with_last_slash_free (segments path) (segments_free path))

pub clean_written : (w v : WriterState) (text path : List ℕ) → w.before ≡ text → w.path ≡ None → v ≡ record { before = w.before; path = after_segments w.path (with_trailing_slash (segments path)) }
    → v.before ++ unwrap_or v.path [] ≡ text ++ remove_dot_segments path
clean_written w v text path before none e =
    ap (λ (x : WriterState). x.before ++ unwrap_or x.path []) e
    ∙ ap (λ (p : Option (List ℕ)). w.before ++ unwrap_or (after_segments p (with_trailing_slash (segments path))) []) none
    ∙ ap (λ (t : List ℕ). t ++ unwrap_or (after_segments None (with_trailing_slash (segments path))) []) before
    ∙ ap (λ (t : List ℕ). text ++ t) (written_path path)

-- ---- a path that has no dot segments stays

plain_parts : (a b : Bool) → (a || b) ≡ false → (a ≡ false) × (b ≡ false)
plain_parts true b e = absurd cc
plain_parts false b e = (refl, e)

keeps_all : (ss ks : List (List ℕ)) → list_any is_dot_segment ss ≡ false → fold push_segment ks ss ≡ ks ++ ss
keeps_all [] ks plain = sym (append-nil ks)
keeps_all (s ∷ ss) ks plain =
    let parts = plain_parts (is_dot_segment s) (list_any is_dot_segment ss) plain in
    let tests = plain_parts (is_single_dot s) (is_double_dot s) parts.0 in
    let one : push_segment ks s ≡ ks ++ s ∷ [] = ap (λ (a : Bool). cond a ks (cond (is_double_dot s) (without_last_segment ks) (ks ++ s ∷ []))) tests.0 ∙ ap (λ (b : Bool). cond b (without_last_segment ks) (ks ++ s ∷ [])) tests.1 in
    ap (λ (x : List (List ℕ)). fold push_segment x ss) one ∙ keeps_all ss (ks ++ s ∷ []) parts.1 ∙ append_assoc ks (s ∷ []) ss

kept_plain : (ss : List (List ℕ)) → list_any is_dot_segment ss ≡ false → kept_segments ss ≡ ss
kept_plain [] plain = refl
kept_plain (s ∷ ss) plain =
    let parts = plain_parts (is_dot_segment s) (list_any is_dot_segment ss) plain in
    ap (λ (b : Bool). cond b (kept_segments ss) (fold push_segment (s ∷ []) ss)) parts.0 ∙ keeps_all ss (s ∷ []) parts.1

ends_plain : (ss : List (List ℕ)) → list_any is_dot_segment ss ≡ false → ends_in_dot_segment ss ≡ false
ends_plain [] plain = refl
ends_plain (s ∷ []) plain = (plain_parts (is_dot_segment s) false plain).0
ends_plain (s ∷ t ∷ ss) plain = ends_plain (t ∷ ss) (plain_parts (is_dot_segment s) (list_any is_dot_segment (t ∷ ss)) plain).1

not_any : (b : Bool) → IsTrue (not b) → b ≡ false
not_any true h = absurd cc
not_any false h = refl

pub without_dots_plain : (path : List ℕ) → HasNoDotSegments path → remove_dot_segments path ≡ path
without_dots_plain path h =
    let plain = not_any (list_any is_dot_segment (segments path)) h in
    ap (λ (ss : List (List ℕ)). joined (kept_segments ss)) (last_plain (segments path) (ends_plain (segments path) plain))
    ∙ ap joined (kept_plain (segments path) plain)
    ∙ join_with_byte-slice_split slash path

-- ---- nothing new is written

all_take : (test : ℕ → Bool) (n : ℕ) (xs : List ℕ) → IsTrue (list_all test xs) → IsTrue (list_all test (take n xs))
all_take test n xs h = all_left test (take n xs) (drop n xs) (subst (λ (t : List ℕ). IsTrue (list_all test t)) (sym (take-append-drop n xs)) h)

abbrev PathAllowed : Option (List ℕ) → Type 0
PathAllowed None = Unit {0}
PathAllowed (Some path) = AllAllowed path

after_allowed : (p : Option (List ℕ)) (s : List ℕ) → PathAllowed p → AllAllowed s → PathAllowed (after_segment p s)
after_allowed None s h hs = by_test (is_dot_segment s)
  where
    by_test : (b : Bool) → PathAllowed (cond b None (Some s))
    by_test true = tt
    by_test false = hs
after_allowed (Some path) s h hs = by_tests (is_single_dot s) (is_double_dot s)
  where
    by_tests : (a b : Bool) → PathAllowed (cond a (Some path) (cond b (Some (before_last is_slash path)) (Some (path ++ slash ∷ s))))
    by_tests true b = h
    by_tests false true = all_take is_allowed _ path h
    by_tests false false = all_append is_allowed path (slash ∷ s) h hs

abbrev AreAllowed : List (List ℕ) → Type 0
AreAllowed ss = AllByRecursion (λ s. AllAllowed s) ss

all_after_allowed : (ss : List (List ℕ)) (p : Option (List ℕ)) → PathAllowed p → AreAllowed ss → PathAllowed (after_segments p ss)
all_after_allowed [] p h hs = h
all_after_allowed (s ∷ ss) p h hs = all_after_allowed ss (after_segment p s) (after_allowed p s h hs.0) hs.1

onto_allowed : (c : ℕ) → IsTrue (is_allowed c) → (ss : List (List ℕ)) → AreAllowed ss → AreAllowed (onto_first c ss)
onto_allowed c h [] all = (and_both _ _ h refl, tt)
onto_allowed c h (s ∷ ss) all = (and_both _ _ h all.0, all.1)

segments_allowed : (path : List ℕ) → AllAllowed path → AreAllowed (segments path)
segments_allowed [] h = (refl, tt)
segments_allowed (c ∷ cs) h = by_test (is_slash c) (segments_allowed cs (and_right (is_allowed c) _ h))
  where
    by_test : (b : Bool) → AreAllowed (segments cs) → AreAllowed (cond b ([] ∷ segments cs) (onto_first c (segments cs)))
    by_test true all = (refl, all)
    by_test false all = onto_allowed c (and_left _ (list_all is_allowed cs) h) (segments cs) all

with_last_slash_allowed : (ss : List (List ℕ)) → AreAllowed ss → AreAllowed (with_trailing_slash ss)
with_last_slash_allowed [] all = tt
with_last_slash_allowed (s ∷ []) all = by_test (is_dot_segment s)
  where
    by_test : (b : Bool) → AreAllowed (cond b (s ∷ [] ∷ []) (s ∷ []))
    by_test true = (all.0, (refl, tt))
    by_test false = (all.0, tt)
with_last_slash_allowed (s ∷ t ∷ ss) all = (all.0, with_last_slash_allowed (t ∷ ss) all.1)

path_allowed : (p : Option (List ℕ)) → PathAllowed p → AllAllowed (unwrap_or p [])
path_allowed None h = refl
path_allowed (Some path) h = h

pub without_dots_allowed : (path : List ℕ) → AllAllowed path → AllAllowed (remove_dot_segments path)
without_dots_allowed path h =
    let ss = with_trailing_slash (segments path) in
    subst AllAllowed (written_path path) (path_allowed (after_segments None ss) (all_after_allowed ss None tt (with_last_slash_allowed (segments path) (segments_allowed path h))))
