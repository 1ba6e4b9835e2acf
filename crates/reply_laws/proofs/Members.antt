-- The path of a new member: its parent is the container, and it is no access list and no description.
use Rattle.std.proofs.Common.{◌≡◌, ℕ, zero, suc, ◌+◌, ◌/◌, ◌%◌, ◌<◌, ◌≤◌, Bool, true, false, not, cond, ◌||◌, ◌&&◌, eqb, List, [], ◌∷◌, ◌++◌, length, reverse, codes, Option, Some, None, Ok, refl, sym, ap, subst, ◌∙◌, arith, append_assoc, length-append}
use Rattle.std.specs.Prelude.{IsTrue, ◌-◌, decimal, nat_eq, nat_le}
use Rattle.std.specs.Fmt.{digits, digits_onto, digit_glyph}
use Rattle.std.specs.List.{list_all, ends_with, range_with_len}
use Rattle.std.proofs.Math.Dec.{eqb-suc-zero}
use Rattle.std.proofs.lemmas.Bool.{ne_eqb}
use Rattle.std.proofs.lemmas.Bool.Decides.{Decides-ltb}
use Rattle.std.proofs.lemmas.List.{append-nil, reverse-append}
use Rattle.iri_ref.specs.Characters.{Lacks, is_slash, slash}
use Rattle.iri_ref.proofs.Texts.{and_left, and_right, and_both, all_append}
use Rattle.percent_encoding.specs.Percent.{percent_decode, percent_encode_byte}
use Rattle.pod_path.specs.Characters.{is_unreserved}
use Rattle.pod_path.specs.Hierarchy.{IsName, is_container, is_meta, is_auxiliary, parent_of, without_end}
use Rattle.pod_path.specs.Norm.{is_auxiliary_name, IsPath, norm}
use Rattle.pod_path.proofs.Ancestors.{ChildText, child_text, child_parent, child_container}
use Rattle.pod_path.proofs.Names.{starts, ends_starts, ends_is}
use Rattle.pod_path.proofs.Suffixes.{both_false}
use Rattle.pod_edits.proofs.Trees.{container_plain}
use Rattle.slug_naming.specs.Names.{candidate_end, candidate, candidate_path}
use Rattle.slug_naming.specs.Stems.{escaped, escaped_length, fitting, finished, fitted, stem_of, without_dots, without_slashes}
use Rattle.slug_naming.specs.declared.stems.TheConstants.{STEM_LIMIT}
use Rattle.slug_naming.proofs.PlainLemmas.{tested}

-- ---- digits

glyph_is : (d : ℕ) → d < 10 → digit_glyph false d ≡ 48 + d
glyph_is d lt = ap (λ (b : Bool). cond b (48 + d) (87 + d)) ((Decides-ltb d 10).1 lt)

record EndsInDigit (text : List ℕ) : Type 0 where
  init : List ℕ
  digit : ℕ
  small : digit < 10
  whole : text ≡ init ++ (48 + digit) ∷ []

onto_ends : (k n : ℕ) (acc : List ℕ) → EndsInDigit acc → EndsInDigit (digits_onto k 10 false n acc)
onto_ends zero n acc h = h
onto_ends (suc k) n acc h = by_test (eqb (n / 10) 0) more (onto_ends k (n / 10) (digit_glyph false (n % 10) ∷ acc) more)
  where
    more : EndsInDigit (digit_glyph false (n % 10) ∷ acc)
    more = record { init = digit_glyph false (n % 10) ∷ h.init; digit = h.digit; small = h.small; whole = ap (λ (t : List ℕ). digit_glyph false (n % 10) ∷ t) h.whole }

    by_test : (b : Bool) → EndsInDigit (digit_glyph false (n % 10) ∷ acc) → EndsInDigit (digits_onto k 10 false (n / 10) (digit_glyph false (n % 10) ∷ acc))
        → EndsInDigit (cond b (digit_glyph false (n % 10) ∷ acc) (digits_onto k 10 false (n / 10) (digit_glyph false (n % 10) ∷ acc)))
    by_test true one later = one
    by_test false one later = later

decimal_ends : (n : ℕ) → EndsInDigit (decimal n)
unfolding digits
decimal_ends n = by_test (eqb (n / 10) 0)
  where
    one : EndsInDigit (digit_glyph false (n % 10) ∷ [])
    one = record { init = []; digit = n % 10; small = omega arith; whole = ap (λ (c : ℕ). c ∷ []) (glyph_is (n % 10) (omega arith)) }

    by_test : (b : Bool) → EndsInDigit (cond b (digit_glyph false (n % 10) ∷ []) (digits_onto 63 10 false (n / 10) (digit_glyph false (n % 10) ∷ [])))
    by_test true = one
    by_test false = onto_ends 63 (n / 10) (digit_glyph false (n % 10) ∷ []) one

onto_pass : (p : ℕ → Bool) → ((d : ℕ) → d < 10 → p (48 + d) ≡ true) → (k n : ℕ) (acc : List ℕ) → IsTrue (list_all p acc) → IsTrue (list_all p (digits_onto k 10 false n acc))
onto_pass p good zero n acc h = h
onto_pass p good (suc k) n acc h = by_test (eqb (n / 10) 0) more (onto_pass p good k (n / 10) (digit_glyph false (n % 10) ∷ acc) more)
  where
    more : IsTrue (list_all p (digit_glyph false (n % 10) ∷ acc))
    more = and_both (p (digit_glyph false (n % 10))) (list_all p acc) (ap p (glyph_is (n % 10) (omega arith)) ∙ good (n % 10) (omega arith)) h

    by_test : (b : Bool) → IsTrue (list_all p (digit_glyph false (n % 10) ∷ acc)) → IsTrue (list_all p (digits_onto k 10 false (n / 10) (digit_glyph false (n % 10) ∷ acc)))
        → IsTrue (list_all p (cond b (digit_glyph false (n % 10) ∷ acc) (digits_onto k 10 false (n / 10) (digit_glyph false (n % 10) ∷ acc))))
    by_test true one later = one
    by_test false one later = later

decimal_pass : (p : ℕ → Bool) → ((d : ℕ) → d < 10 → p (48 + d) ≡ true) → (n : ℕ) → IsTrue (list_all p (decimal n))
unfolding digits
decimal_pass p good n = onto_pass p good 64 n [] refl

-- ---- what no character of a name is: a slash, a question mark

-- The mark is none of the characters that stems and numbers have.
record IsMark (mark : ℕ) : Type 0 where
  unreserved : is_unreserved mark ≡ false
  percent : not (eqb 37 mark) ≡ true
  glyphs : IsTrue (list_all (λ (d : ℕ). not (eqb (digit_glyph true d) mark)) (range_with_len 0 16))
  dash : not (eqb 45 mark) ≡ true
  apart_from_digits : (d : ℕ) → d < 10 → not (eqb (48 + d) mark) ≡ true
  item : IsTrue (list_all (λ (c : ℕ). not (eqb c mark)) (codes "item"))
  line : not (eqb 95 mark) ≡ true

module _ (mark : ℕ) (m : IsMark mark) where
  glyph_apart : (d : ℕ) → d < 16 → not (eqb (digit_glyph true d) mark) ≡ true
  glyph_apart d lt = tested (λ (c : ℕ). not (eqb (digit_glyph true c) mark)) 16 0 m.glyphs d (omega arith) (omega arith)

  escape_apart : (b : ℕ) → IsTrue (list_all (λ (c : ℕ). not (eqb c mark)) (percent_encode_byte b))
  unfolding percent_encode_byte
  escape_apart b =
      and_both _ _ m.percent (and_both _ _ (glyph_apart (b / 16 % 16) (omega arith)) (and_both _ true (glyph_apart (b % 16) (omega arith)) refl))

  escaped_apart : (b : ℕ) → IsTrue (list_all (λ (c : ℕ). not (eqb c mark)) (escaped b))
  escaped_apart b = by_test (is_unreserved b) refl
    where
      by_test : (t : Bool) → is_unreserved b ≡ t → IsTrue (list_all (λ (c : ℕ). not (eqb c mark)) (cond t (b ∷ []) (percent_encode_byte b)))
      by_test true e = and_both _ true (ap not (ne_eqb b mark (λ is. absurd (let no : true ≡ false = sym e ∙ ap is_unreserved is ∙ m.unreserved in cc)))) refl
      by_test false e = escape_apart b

  fitting_apart : (room : ℕ) (bytes : List ℕ) → IsTrue (list_all (λ (c : ℕ). not (eqb c mark)) (fitting room bytes))
  fitting_apart room [] = refl
  fitting_apart room (b ∷ bytes) = by_test (nat_le (escaped_length b) room) (fitting_apart (room - escaped_length b) bytes)
    where
      by_test : (t : Bool) → IsTrue (list_all (λ (c : ℕ). not (eqb c mark)) (fitting (room - escaped_length b) bytes))
          → IsTrue (list_all (λ (c : ℕ). not (eqb c mark)) (cond t (escaped b ++ fitting (room - escaped_length b) bytes) []))
      by_test true more = all_append (λ (c : ℕ). not (eqb c mark)) (escaped b) _ (escaped_apart b) more
      by_test false more = refl

  fitted_apart : (slug : Option (List ℕ)) → IsTrue (list_all (λ (c : ℕ). not (eqb c mark)) (fitted slug))
  fitted_apart None = refl
  fitted_apart (Some value) = fitting_apart STEM_LIMIT (without_dots (without_slashes (percent_decode value)))

  end_apart : (k : ℕ) → IsTrue (list_all (λ (c : ℕ). not (eqb c mark)) (candidate_end k))
  end_apart k = by_test (eqb k 0)
    where
      by_test : (t : Bool) → IsTrue (list_all (λ (c : ℕ). not (eqb c mark)) (cond t [] (codes "-" ++ decimal (k + 1))))
      by_test true = refl
      by_test false = and_both _ _ m.dash (decimal_pass (λ (c : ℕ). not (eqb c mark)) m.apart_from_digits (k + 1))

  finished_apart : (text : List ℕ) → IsTrue (list_all (λ (c : ℕ). not (eqb c mark)) text) → IsTrue (list_all (λ (c : ℕ). not (eqb c mark)) (finished text))
  finished_apart text h = by_length (eqb (length text) 0) (is_auxiliary_name text)
    where
      by_length : (t u : Bool) → IsTrue (list_all (λ (c : ℕ). not (eqb c mark)) (cond t (codes "item") (cond u (text ++ codes "_") text)))
      by_length true u = m.item
      by_length false true = all_append (λ (c : ℕ). not (eqb c mark)) text (codes "_") h (and_both _ true m.line refl)
      by_length false false = h

  candidate_apart : (slug : Option (List ℕ)) (k : ℕ) → IsTrue (list_all (λ (c : ℕ). not (eqb c mark)) (candidate (stem_of slug) k))
  candidate_apart slug k = all_append (λ (c : ℕ). not (eqb c mark)) (stem_of slug) (candidate_end k) (finished_apart (fitted slug) (fitted_apart slug)) (end_apart k)

slash_mark : IsMark 47
slash_mark = record {
  unreserved = refl;
  percent = refl;
  glyphs = refl;
  dash = refl;
  apart_from_digits = λ d lt. ap not (ne_eqb (48 + d) 47 (λ e. absurd (omega arith)));
  item = refl;
  line = refl;
}

question_mark : IsMark 63
question_mark = record {
  unreserved = refl;
  percent = refl;
  glyphs = refl;
  dash = refl;
  apart_from_digits = λ d lt. ap not (ne_eqb (48 + d) 63 (λ e. absurd (omega arith)));
  item = refl;
  line = refl;
}

-- ---- a candidate is a name

finished_some : (text : List ℕ) → 0 < length (finished text)
finished_some [] = omega arith
finished_some (c ∷ cs) = subst (λ (b : Bool). 0 < length (cond b (codes "item") (cond (is_auxiliary_name (c ∷ cs)) ((c ∷ cs) ++ codes "_") (c ∷ cs)))) (sym (eqb-suc-zero (length cs))) (by_test (is_auxiliary_name (c ∷ cs)))
  where
    by_test : (b : Bool) → 0 < length (cond b ((c ∷ cs) ++ codes "_") (c ∷ cs))
    by_test true = omega arith
    by_test false = omega arith

candidate_name : (slug : Option (List ℕ)) (k : ℕ) → IsName (candidate (stem_of slug) k)
candidate_name slug k = record {
  some = omega (arith, length-append (stem_of slug) (candidate_end k), finished_some (fitted slug));
  slashes = candidate_apart 47 slash_mark slug k;
  queries = candidate_apart 63 question_mark slug k;
}

-- ---- it is no auxiliary

underscored : (text : List ℕ) → is_auxiliary_name (text ++ codes "_") ≡ false
underscored text = both_false _ _
    (ends_starts (text ++ codes "_") (codes ".acl") ∙ ap (starts (reverse (codes ".acl"))) (reverse-append text (codes "_")))
    (ends_starts (text ++ codes "_") (codes ".meta") ∙ ap (starts (reverse (codes ".meta"))) (reverse-append text (codes "_")))

finished_open : (text : List ℕ) → is_auxiliary_name (finished text) ≡ false
finished_open text = by_tests (eqb (length text) 0) (is_auxiliary_name text) refl
  where
    by_tests : (t u : Bool) → is_auxiliary_name text ≡ u → is_auxiliary_name (cond t (codes "item") (cond u (text ++ codes "_") text)) ≡ false
    by_tests true u e = refl
    by_tests false true e = underscored text
    by_tests false false e = e

digit_no_letter : (letter d : ℕ) → 58 ≤ letter → d < 10 → eqb letter (48 + d) ≡ false
digit_no_letter letter d far lt = ne_eqb letter (48 + d) (λ e. absurd (omega arith))

ends_open : (text : List ℕ) → EndsInDigit text → is_auxiliary_name text ≡ false
ends_open text e = both_false _ _ (no (codes ".acl") 108 (codes "ca.") (omega arith) refl) (no (codes ".meta") 97 (codes "tem.") (omega arith) refl)
  where
    back : reverse text ≡ (48 + e.digit) ∷ reverse e.init
    back = ap reverse e.whole ∙ reverse-append e.init ((48 + e.digit) ∷ [])

    no : (end : List ℕ) (letter : ℕ) (more : List ℕ) → 58 ≤ letter → reverse end ≡ letter ∷ more → ends_with nat_eq text end ≡ false
    no end letter more far is =
        ends_starts text end ∙ ap (λ (p : List ℕ). starts p (reverse text)) is ∙ ap (starts (letter ∷ more)) back
        ∙ ap (λ (b : Bool). b && starts more (reverse e.init)) (digit_no_letter letter e.digit far e.small)

candidate_open : (slug : Option (List ℕ)) (k : ℕ) → is_auxiliary_name (candidate (stem_of slug) k) ≡ false
candidate_open slug k = by_test (eqb k 0)
  where
    stem : List ℕ
    stem = stem_of slug

    numbered : EndsInDigit (stem_of slug ++ (codes "-" ++ decimal (k + 1)))
    numbered =
        let last = decimal_ends (k + 1) in
        record {
          init = stem_of slug ++ 45 ∷ last.init;
          digit = last.digit;
          small = last.small;
          whole = ap (λ (t : List ℕ). stem_of slug ++ 45 ∷ t) last.whole ∙ sym (append_assoc (stem_of slug) (45 ∷ last.init) ((48 + last.digit) ∷ []));
        }

    by_test : (t : Bool) → is_auxiliary_name (stem_of slug ++ cond t [] (codes "-" ++ decimal (k + 1))) ≡ false
    by_test true = ap is_auxiliary_name (append-nil (stem_of slug)) ∙ finished_open (fitted slug)
    by_test false = ends_open _ numbered

starts_before : (p x r : List ℕ) → Lacks is_slash p → starts p (x ++ slash ∷ r) ≡ starts p x
starts_before [] x r h = refl
starts_before (a ∷ p) [] r h = ap (λ (b : Bool). b && starts p r) (by_not (eqb a slash) (and_left (not (is_slash a)) _ h))
  where
    by_not : (b : Bool) → IsTrue (not b) → b ≡ false
    by_not true k = absurd cc
    by_not false k = refl
starts_before (a ∷ p) (b ∷ x) r h = ap (λ (t : Bool). eqb a b && t) (starts_before p x r (and_right (not (is_slash a)) _ h))

same_end : (c name end : List ℕ) → IsTrue (is_container c) → Lacks is_slash (reverse end) → ends_with nat_eq (c ++ name) end ≡ ends_with nat_eq name end
same_end c name end closed h =
    let prefix = without_end 1 c in
    let whole : c ≡ prefix ++ slash ∷ [] = ends_is c (slash ∷ []) closed in
    ends_starts (c ++ name) end
    ∙ ap (starts (reverse end)) (reverse-append c name ∙ ap (λ (t : List ℕ). reverse name ++ t) (ap reverse whole ∙ reverse-append prefix (slash ∷ [])))
    ∙ starts_before (reverse end) (reverse name) (reverse prefix) h
    ∙ sym (ends_starts name end)

not_auxiliary : (c name : List ℕ) → IsTrue (is_container c) → is_auxiliary_name name ≡ false → is_auxiliary (c ++ name) ≡ false
not_auxiliary c name closed h =
    ap (λ (b : Bool). b || is_meta (c ++ name)) (same_end c name (codes ".acl") closed refl)
    ∙ ap (λ (b : Bool). ends_with nat_eq name (codes ".acl") || b) (same_end c name (codes ".meta") closed refl)
    ∙ h

-- ---- the path of a member

pub record IsMember (container : List ℕ) (folder : Bool) (path : List ℕ) : Type 0 where
  pub parent : parent_of path ≡ Some container
  pub kind : is_container path ≡ folder
  pub plain : is_auxiliary path ≡ false

pub member_of : (container : List ℕ) (slug : Option (List ℕ)) (folder : Bool) (k : ℕ) → IsPath container → is_container container ≡ true
    → norm (candidate_path container (stem_of slug) folder k) ≡ Ok (candidate_path container (stem_of slug) folder k)
    → IsMember container folder (candidate_path container (stem_of slug) folder k)
member_of container slug folder k h closed normal = record {
  parent = child_parent container folder path closed text;
  kind = child_container container folder path text;
  plain = by_kind folder (child_container container folder path text);
}
  where
    path : List ℕ
    path = candidate_path container (stem_of slug) folder k

    text : ChildText container folder path
    text = child_text container (candidate (stem_of slug) k) folder path h closed (candidate_name slug k) normal

    by_kind : (b : Bool) → is_container (candidate_path container (stem_of slug) b k) ≡ b → is_auxiliary (candidate_path container (stem_of slug) b k) ≡ false
    by_kind true e = container_plain (candidate_path container (stem_of slug) true k) e
    by_kind false e =
        ap is_auxiliary (append-nil (container ++ candidate (stem_of slug) k)) ∙ not_auxiliary container (candidate (stem_of slug) k) closed (candidate_open slug k)
