-- Texts that are part of a path as they are.
use Rattle.std.proofs.Common.{◌≡◌, ℕ, suc, zero, ◌+◌, ◌<◌, ◌≤◌, Bool, true, false, not, cond, ◌||◌, ◌&&◌, eqb, inl, inr, List, [], ◌∷◌, ◌++◌, length, reverse, Option, Some, None, refl, sym, ap, subst, ◌∙◌, arith, append_assoc}
use Rattle.std.specs.Prelude.{IsTrue, bytes_eq, codes, ◌≢◌}
use Rattle.std.specs.List.{list_all, range_with_len}
use Rattle.std.proofs.Math.Dec.{eqb-suc-zero}
use Rattle.std.proofs.lemmas.Bool.Decides.{eqb_tells}
use Rattle.std.proofs.lemmas.List.{append-nil, reverse-append}
use Rattle.std.proofs.lemmas.Slice.Eq.{bytes_eq-Decides}
use Rattle.iri_ref.specs.Characters.{is_slash, slash, is_question_mark, question_mark}
use Rattle.iri_ref.specs.Segments.{is_dot_segment}
use Rattle.iri_ref.proofs.Texts.{and_left, and_right, and_both, all_append}
use Rattle.iri_ref.proofs.Schemes.{other_kind}
use Rattle.pod_path.specs.Characters.{percent, is_unreserved, is_path_character}
use Rattle.pod_path.specs.Escapes.{is_hex, normal_escape, prepend, normalize_escapes}
use Rattle.pod_path.specs.Norm.{is_auxiliary_name, is_reserved_name}
use Rattle.pod_path.specs.Hierarchy.{IsPlainName}
use Rattle.pod_path.proofs.Escaping.{plain, before_before}
use Rattle.pod_path.proofs.Names.{starts, ends_starts, reserved_auxiliary}
use Rattle.pod_path.proofs.Suffixes.{both_false}
use Rattle.pod_path.proofs.Twins.{not_equal}
use Rattle.percent_encoding.specs.Percent.{percent_encode_byte}
use Rattle.slug_naming.specs.Stems.{escaped, fitting, without_dots, finished}
use Rattle.slug_naming.specs.PlainTexts.{IsPlainText}

before_nothing : (o : Option (List ℕ)) → o ≡ prepend [] o
before_nothing None = refl
before_nothing (Some t) = refl

pub nothing_plain : IsPlainText []
nothing_plain = record { characters = refl; slashes = refl; queries = refl; escapes = λ rest. before_nothing (normalize_escapes rest) }

pub both_plain : (a b : List ℕ) → IsPlainText a → IsPlainText b → IsPlainText (a ++ b)
both_plain a b ha hb = record {
  characters = all_append is_path_character a b ha.characters hb.characters;
  slashes = all_append (λ c. not (is_slash c)) a b ha.slashes hb.slashes;
  queries = all_append (λ c. not (is_question_mark c)) a b ha.queries hb.queries;
  escapes = λ rest. ap normalize_escapes (append_assoc a b rest) ∙ ha.escapes (b ++ rest) ∙ ap (prepend a) (hb.escapes rest) ∙ before_before a b (normalize_escapes rest);
}

-- ---- characters that need no escape

not_true : (b : Bool) → IsTrue (not b) → b ≡ false
not_true true h = absurd cc
not_true false h = refl

or_left : (a b : Bool) → IsTrue a → IsTrue (a || b)
or_left true b h = refl
or_left false b h = absurd cc

pub unreserved_plain : (text : List ℕ) → IsTrue (list_all is_unreserved text) → IsPlainText text
unreserved_plain [] h = nothing_plain
unreserved_plain (c ∷ cs) h =
    let one = and_left (is_unreserved c) _ h in
    both_plain (c ∷ []) cs (record {
      characters = and_both _ _ (or_left (is_unreserved c) _ one) refl;
      slashes = and_both _ _ (other_kind is_unreserved slash refl c one) refl;
      queries = and_both _ _ (other_kind is_unreserved question_mark refl c one) refl;
      escapes = λ rest. plain c rest (not_true (eqb c percent) (other_kind is_unreserved percent refl c one));
    }) (unreserved_plain cs (and_right (is_unreserved c) _ h))

-- ---- escapes

abbrev is_plain_escape : ℕ → ℕ → Bool
is_plain_escape h l =
    (is_hex h && is_hex l) && (bytes_eq (normal_escape h l) (percent ∷ h ∷ l ∷ []) && (list_all is_path_character (percent ∷ h ∷ l ∷ [])
    && (list_all (λ c. not (is_slash c)) (percent ∷ h ∷ l ∷ []) && list_all (λ c. not (is_question_mark c)) (percent ∷ h ∷ l ∷ []))))

escape_plain : (h l : ℕ) → IsTrue (is_plain_escape h l) → IsPlainText (percent ∷ h ∷ l ∷ [])
escape_plain h l e =
    let digits = and_left (is_hex h && is_hex l) _ e in
    let behind = and_right (is_hex h && is_hex l) _ e in
    let same = and_left (bytes_eq (normal_escape h l) (percent ∷ h ∷ l ∷ [])) _ behind in
    let tests = and_right (bytes_eq (normal_escape h l) (percent ∷ h ∷ l ∷ [])) _ behind in
    let marks = and_right (list_all is_path_character (percent ∷ h ∷ l ∷ [])) _ tests in
    record {
      characters = and_left (list_all is_path_character (percent ∷ h ∷ l ∷ [])) _ tests;
      slashes = and_left (list_all (λ c. not (is_slash c)) (percent ∷ h ∷ l ∷ [])) _ marks;
      queries = and_right (list_all (λ c. not (is_slash c)) (percent ∷ h ∷ l ∷ [])) _ marks;
      escapes = λ rest.
          ap (λ (b : Bool). cond b (prepend (normal_escape h l) (normalize_escapes rest)) None) digits
          ∙ ap (λ (t : List ℕ). prepend t (normalize_escapes rest)) ((bytes_eq-Decides (normal_escape h l) (percent ∷ h ∷ l ∷ [])).0 same);
    }

-- the byte needs no escape, or has this one
abbrev is_plain_byte : ℕ → List ℕ → Bool
is_plain_byte b [] = false
is_plain_byte b (p ∷ []) = false
is_plain_byte b (p ∷ h ∷ []) = false
is_plain_byte b (p ∷ h ∷ l ∷ []) = is_unreserved b || (eqb p percent && is_plain_escape h l)
is_plain_byte b (p ∷ h ∷ l ∷ q ∷ r) = false

pub tested : (test : ℕ → Bool) (n a : ℕ) → IsTrue (list_all test (range_with_len a n)) → (c : ℕ) → a ≤ c → c < a + n → IsTrue (test c)
tested test zero a h c le lt = absurd (omega arith)
tested test (suc n) a h c le lt =
    elim (eqb_tells c a) [
      | inl w ↦ subst (λ (d : ℕ). IsTrue (test d)) (sym w.1) (and_left _ (list_all test (range_with_len (a + 1) n)) h)
      | inr w ↦ tested test n (a + 1) (and_right (test a) _ h) c (let ne : c ≢ a = w.1 in omega arith) (omega arith)
    ]

all_bytes : IsTrue (list_all (λ b. is_plain_byte b (percent_encode_byte b)) (range_with_len 0 256))
unfolding percent_encode_byte
all_bytes = refl

by_byte : (b : ℕ) (e : List ℕ) → IsTrue (is_plain_byte b e) → IsPlainText (cond (is_unreserved b) (b ∷ []) e)
by_byte b [] h = absurd cc
by_byte b (p ∷ []) h = absurd cc
by_byte b (p ∷ x ∷ []) h = absurd cc
by_byte b (p ∷ x ∷ y ∷ q ∷ r) h = absurd cc
by_byte b (p ∷ x ∷ y ∷ []) h = by_test (is_unreserved b) refl h
  where
    by_test : (d : Bool) → is_unreserved b ≡ d → IsTrue (d || (eqb p percent && is_plain_escape x y)) → IsPlainText (cond d (b ∷ []) (p ∷ x ∷ y ∷ []))
    by_test true e k = unreserved_plain (b ∷ []) (and_both _ _ e refl)
    by_test false e k =
        subst (λ (n : ℕ). IsPlainText (n ∷ x ∷ y ∷ [])) (sym (elim (eqb_tells p percent) as (λ w. p ≡ percent) [
          | inl w ↦ w.1
          | inr w ↦ absurd (let no : true ≡ false = sym (and_left (eqb p percent) _ k) ∙ w.0 in cc)
        ])) (escape_plain x y (and_right (eqb p percent) _ k))

-- a byte of a stem
pub escaped_plain : (b : ℕ) → b < 256 → IsPlainText (escaped b)
escaped_plain b small = by_byte b (percent_encode_byte b) (tested (λ c. is_plain_byte c (percent_encode_byte c)) 256 0 all_bytes b (omega arith) (omega arith))

-- ---- the first character of a stem

abbrev pub begins_with_dot : List ℕ → Bool
begins_with_dot [] = false
begins_with_dot (c ∷ cs) = eqb c 46

escape_first : (b : ℕ) (rest : List ℕ) → begins_with_dot (percent_encode_byte b ++ rest) ≡ false
unfolding percent_encode_byte
escape_first b rest = refl

pub fitting_first : (room : ℕ) (bytes : List ℕ) → begins_with_dot (fitting room (without_dots bytes)) ≡ false
fitting_first room [] = refl
fitting_first room (b ∷ bytes) = by_test (eqb b 46) refl (fitting_first room bytes)
  where
    by_kind : (d : Bool) (rest : List ℕ) → eqb b 46 ≡ false → begins_with_dot (cond d (b ∷ []) (percent_encode_byte b) ++ rest) ≡ false
    by_kind true rest e = e
    by_kind false rest e = escape_first b rest

    by_room : (d : Bool) (rest : List ℕ) → eqb b 46 ≡ false → begins_with_dot (cond d (escaped b ++ rest) []) ≡ false
    by_room true rest e = by_kind (is_unreserved b) rest e
    by_room false rest e = refl

    by_test : (d : Bool) → eqb b 46 ≡ d → begins_with_dot (fitting room (without_dots bytes)) ≡ false → begins_with_dot (fitting room (cond d (without_dots bytes) (b ∷ bytes))) ≡ false
    by_test true e below = below
    by_test false e below = by_room _ _ e

no_dot : (text : List ℕ) → begins_with_dot text ≡ false → is_dot_segment text ≡ false
no_dot text h = both_false _ _
    (not_equal text (codes ".") (λ e. (let yes : true ≡ false = sym (ap begins_with_dot e) ∙ h in cc)))
    (not_equal text (codes "..") (λ e. (let yes : true ≡ false = sym (ap begins_with_dot e) ∙ h in cc)))

-- ---- names

pub not_reserved : (text : List ℕ) → is_auxiliary_name text ≡ false → (folder : Bool) → cond folder (is_auxiliary_name text) (is_reserved_name text) ≡ false
not_reserved text h true = h
not_reserved text h false = by_test (is_reserved_name text) refl
  where
    by_test : (b : Bool) → is_reserved_name text ≡ b → b ≡ false
    by_test true e = absurd (let yes : true ≡ false = sym (reserved_auxiliary text e) ∙ h in cc)
    by_test false e = refl

pub still_normal : (text : List ℕ) → IsPlainText text → normalize_escapes text ≡ Some text
still_normal text p = ap normalize_escapes (sym (append-nil text)) ∙ p.escapes [] ∙ ap (λ (t : List ℕ). Some t) (append-nil text)

plain_name : (text : List ℕ) → 0 < length text → IsPlainText text → begins_with_dot text ≡ false → is_auxiliary_name text ≡ false → (folder : Bool) → IsPlainName text folder
plain_name text some p first h folder = record {
  segment = record { some = some; slashes = p.slashes; queries = p.queries };
  characters = p.characters;
  escapes = still_normal text p;
  dots = no_dot text first;
  free = not_reserved text h folder;
}

underscored : (text : List ℕ) → is_auxiliary_name (text ++ codes "_") ≡ false
underscored text = both_false _ _
    (ends_starts (text ++ codes "_") (codes ".acl") ∙ ap (starts (reverse (codes ".acl"))) (reverse-append text (codes "_")))
    (ends_starts (text ++ codes "_") (codes ".meta") ∙ ap (starts (reverse (codes ".meta"))) (reverse-append text (codes "_")))

pub item_plain : (folder : Bool) → IsPlainName (codes "item") folder
item_plain folder = plain_name (codes "item") (omega arith) (unreserved_plain (codes "item") refl) refl refl folder

pub item_open : is_auxiliary_name (codes "item") ≡ false
item_open = refl

finished_some : (c : ℕ) (cs : List ℕ) → finished (c ∷ cs) ≡ cond (is_auxiliary_name (c ∷ cs)) ((c ∷ cs) ++ codes "_") (c ∷ cs)
finished_some c cs = ap (λ (b : Bool). cond b (codes "item") (cond (is_auxiliary_name (c ∷ cs)) ((c ∷ cs) ++ codes "_") (c ∷ cs))) (eqb-suc-zero (length cs))

-- what is made of a text that has no dot first
pub finished_plain : (text : List ℕ) → IsPlainText text → begins_with_dot text ≡ false → (folder : Bool) → IsPlainName (finished text) folder
finished_plain [] p first folder = item_plain folder
finished_plain (c ∷ cs) p first folder = subst (λ (t : List ℕ). IsPlainName t folder) (sym (finished_some c cs)) (by_test (is_auxiliary_name (c ∷ cs)) refl)
  where
    by_test : (b : Bool) → is_auxiliary_name (c ∷ cs) ≡ b → IsPlainName (cond b ((c ∷ cs) ++ codes "_") (c ∷ cs)) folder
    by_test true e =
        plain_name ((c ∷ cs) ++ codes "_") (omega arith) (both_plain (c ∷ cs) (codes "_") p (unreserved_plain (codes "_") refl)) first (underscored (c ∷ cs)) folder
    by_test false e = plain_name (c ∷ cs) (omega arith) p first e folder
