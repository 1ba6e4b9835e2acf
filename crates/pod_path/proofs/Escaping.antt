-- Escapes are read from left to right, and reading them again changes nothing.
use Rattle.std.proofs.Common.{◌≡◌, ℕ, ◌+◌, ◌-◌, ◌*◌, ◌<◌, ◌≤◌, Bool, true, false, not, cond, ◌||◌, ◌&&◌, eqb, ltb, inl, inr, ◌⊎◌, List, [], ◌∷◌, ◌++◌, length, take, drop, get_or, Option, Some, None, refl, sym, ap, subst, ◌∙◌, arith, append_assoc, length-append}
use Rattle.std.specs.Prelude.{IsTrue, nat_le}
use Rattle.std.specs.List.{position, position_or_len, before_first}
use Rattle.std.proofs.lemmas.Bool.{ltb-false, leb-true, le-leb, ne_eqb}
use Rattle.std.proofs.lemmas.Bool.Decides.{leb_tells}
use Rattle.std.proofs.lemmas.List.{take_all, take_at}
use Rattle.iri_ref.specs.Characters.{slash, is_slash, Lacks}
use Rattle.iri_ref.proofs.Schemes.{other_kind}
use Rattle.iri_ref.proofs.Texts.{and_left, and_right, and_both, all_append}
use Rattle.pod_path.specs.Characters.{percent, is_unreserved}
use Rattle.iri_ref.specs.Characters.{is_between}
use Rattle.pod_path.specs.Escapes.{is_hex, hex_digit_value, upper, normal_escape, prepend, normalize_escapes}

-- ---- the part before the first mark

pub position_some : (p : ℕ → Bool) (xs : List ℕ) (at : ℕ) → position p xs ≡ Some at → take at xs ≡ before_first p xs
position_some p xs at e = by_test _ (position_or_len p xs) e
  where
    by_test : (b : Bool) (k : ℕ) → cond b (Some k) None ≡ Some at → take at xs ≡ take k xs
    by_test true k e = let same : k ≡ at = cc in ap (λ (n : ℕ). take n xs) (sym same)
    by_test false k e = absurd cc

pub position_none : (p : ℕ → Bool) (xs : List ℕ) → position p xs ≡ None → xs ≡ before_first p xs
position_none p xs e = by_test _ refl e
  where
    by_test : (b : Bool) → ltb (position_or_len p xs) (length xs) ≡ b → cond b (Some (position_or_len p xs)) None ≡ None → xs ≡ take (position_or_len p xs) xs
    by_test true h e = absurd cc
    by_test false h e = sym (take_all (position_or_len p xs) xs (ltb-false _ _ h))

-- ---- one step

pub plain : (c : ℕ) (cs : List ℕ) → eqb c percent ≡ false → normalize_escapes (c ∷ cs) ≡ prepend (c ∷ []) (normalize_escapes cs)
plain c [] e = ap (λ (b : Bool). cond b None (Some (c ∷ []))) e
plain c (d ∷ []) e = ap (λ (b : Bool). cond b None (prepend (c ∷ []) (normalize_escapes (d ∷ [])))) e
plain c (d ∷ f ∷ cs) e =
    ap (λ (b : Bool). cond b (cond (is_hex d && is_hex f) (prepend (normal_escape d f) (normalize_escapes cs)) None) (prepend (c ∷ []) (normalize_escapes (d ∷ f ∷ cs)))) e

pub before_before : (a b : List ℕ) (o : Option (List ℕ)) → prepend a (prepend b o) ≡ prepend (a ++ b) o
before_before a b None = refl
before_before a b (Some t) = ap (λ (x : List ℕ). Some x) (sym (append_assoc a b t))

pub plain_step : (prefix new text : List ℕ) → 0 < length text → (get_or text 0 0 ≡ percent → ⊥) → new ≡ prefix ++ get_or text 0 0 ∷ []
    → prepend new (normalize_escapes (drop 1 text)) ≡ prepend prefix (normalize_escapes text)
plain_step prefix new [] some other e = absurd (omega arith)
plain_step prefix new (c ∷ cs) some other e =
    ap (λ (x : List ℕ). prepend x (normalize_escapes cs)) e ∙ sym (before_before prefix (c ∷ []) (normalize_escapes cs)) ∙ ap (prepend prefix) (sym (plain c cs (ne_eqb c percent other)))

pub escape_step : (prefix new digits : List ℕ) → 2 ≤ length digits → IsTrue (is_hex (get_or digits 0 0)) → IsTrue (is_hex (get_or digits 1 0))
    → new ≡ prefix ++ normal_escape (get_or digits 0 0) (get_or digits 1 0) → prepend prefix (normalize_escapes (percent ∷ digits)) ≡ prepend new (normalize_escapes (drop 2 digits))
escape_step prefix new [] long high low e = absurd (omega arith)
escape_step prefix new (h ∷ []) long high low e = absurd (omega arith)
escape_step prefix new (h ∷ l ∷ rest) long high low e =
    ap (λ (b : Bool). prepend prefix (cond b (prepend (normal_escape h l) (normalize_escapes rest)) None)) (and_both (is_hex h) (is_hex l) high low)
    ∙ before_before prefix (normal_escape h l) (normalize_escapes rest)
    ∙ ap (λ (x : List ℕ). prepend x (normalize_escapes rest)) (sym e)

-- ---- two texts, cut before a character that is in no escape

abbrev pub over : Option (List ℕ) → Option (List ℕ) → Option (List ℕ)
over None other = None
over (Some text) other = prepend text other

over_before : (a : List ℕ) (o p : Option (List ℕ)) → over (prepend a o) p ≡ prepend a (over o p)
over_before a None p = refl
over_before a (Some t) p = sym (before_before a t p)

before_nothing : (o : Option (List ℕ)) → o ≡ prepend [] o
before_nothing None = refl
before_nothing (Some t) = refl

pub seam : (a : List ℕ) (c : ℕ) (b : List ℕ) → eqb c percent ≡ false → is_hex c ≡ false → normalize_escapes (a ++ c ∷ b) ≡ over (normalize_escapes a) (normalize_escapes (c ∷ b))
seam [] c b e h = before_nothing (normalize_escapes (c ∷ b))
seam (x ∷ []) c b e h = by_test (eqb x percent) refl
  where
    bad : (b : List ℕ) → eqb x percent ≡ true → normalize_escapes (x ∷ c ∷ b) ≡ None
    bad [] t = ap (λ (q : Bool). cond q None (prepend (x ∷ []) (normalize_escapes (c ∷ [])))) t
    bad (d ∷ b) t =
        ap (λ (q : Bool). cond q (cond (is_hex c && is_hex d) (prepend (normal_escape c d) (normalize_escapes b)) None) (prepend (x ∷ []) (normalize_escapes (c ∷ d ∷ b)))) t
        ∙ ap (λ (q : Bool). cond (q && is_hex d) (prepend (normal_escape c d) (normalize_escapes b)) None) h

    by_test : (q : Bool) → eqb x percent ≡ q → normalize_escapes (x ∷ c ∷ b) ≡ over (cond (eqb x percent) None (Some (x ∷ []))) (normalize_escapes (c ∷ b))
    by_test true t = bad b t ∙ ap (λ (q : Bool). over (cond q None (Some (x ∷ []))) (normalize_escapes (c ∷ b))) (sym t)
    by_test false t = plain x (c ∷ b) t ∙ ap (λ (q : Bool). over (cond q None (Some (x ∷ []))) (normalize_escapes (c ∷ b))) (sym t)
seam (x ∷ y ∷ []) c b e h = by_test (eqb x percent) refl (seam (y ∷ []) c b e h)
  where
    and_false : (p q : Bool) → q ≡ false → (p && q) ≡ false
    and_false true q e = e
    and_false false q e = refl

    by_test : (q : Bool) → eqb x percent ≡ q → normalize_escapes (y ∷ c ∷ b) ≡ over (normalize_escapes (y ∷ [])) (normalize_escapes (c ∷ b))
        → normalize_escapes (x ∷ y ∷ c ∷ b) ≡ over (cond (eqb x percent) None (prepend (x ∷ []) (normalize_escapes (y ∷ [])))) (normalize_escapes (c ∷ b))
    by_test true t below =
        ap (λ (q : Bool). cond q (cond (is_hex y && is_hex c) (prepend (normal_escape y c) (normalize_escapes b)) None) (prepend (x ∷ []) (normalize_escapes (y ∷ c ∷ b)))) t
        ∙ ap (λ (q : Bool). cond q (prepend (normal_escape y c) (normalize_escapes b)) None) (and_false (is_hex y) (is_hex c) h)
        ∙ ap (λ (q : Bool). over (cond q None (prepend (x ∷ []) (normalize_escapes (y ∷ [])))) (normalize_escapes (c ∷ b))) (sym t)
    by_test false t below =
        plain x (y ∷ c ∷ b) t ∙ ap (prepend (x ∷ [])) below ∙ sym (over_before (x ∷ []) (normalize_escapes (y ∷ [])) (normalize_escapes (c ∷ b)))
        ∙ ap (λ (q : Bool). over (cond q None (prepend (x ∷ []) (normalize_escapes (y ∷ [])))) (normalize_escapes (c ∷ b))) (sym t)
seam (x ∷ y ∷ z ∷ a) c b e h = by_test (eqb x percent) refl (is_hex y && is_hex z) (seam a c b e h) (seam (y ∷ z ∷ a) c b e h)
  where
    by_test : (q : Bool) → eqb x percent ≡ q → (d : Bool) → normalize_escapes (a ++ c ∷ b) ≡ over (normalize_escapes a) (normalize_escapes (c ∷ b))
        → normalize_escapes (y ∷ z ∷ (a ++ c ∷ b)) ≡ over (normalize_escapes (y ∷ z ∷ a)) (normalize_escapes (c ∷ b))
        → cond (eqb x percent) (cond d (prepend (normal_escape y z) (normalize_escapes (a ++ c ∷ b))) None) (prepend (x ∷ []) (normalize_escapes (y ∷ z ∷ (a ++ c ∷ b))))
        ≡ over (cond (eqb x percent) (cond d (prepend (normal_escape y z) (normalize_escapes a)) None) (prepend (x ∷ []) (normalize_escapes (y ∷ z ∷ a)))) (normalize_escapes (c ∷ b))
    by_test true t true far near =
        ap (λ (q : Bool). cond q (prepend (normal_escape y z) (normalize_escapes (a ++ c ∷ b))) (prepend (x ∷ []) (normalize_escapes (y ∷ z ∷ (a ++ c ∷ b))))) t
        ∙ ap (prepend (normal_escape y z)) far ∙ sym (over_before (normal_escape y z) (normalize_escapes a) (normalize_escapes (c ∷ b)))
        ∙ ap (λ (q : Bool). over (cond q (prepend (normal_escape y z) (normalize_escapes a)) (prepend (x ∷ []) (normalize_escapes (y ∷ z ∷ a)))) (normalize_escapes (c ∷ b))) (sym t)
    by_test true t false far near =
        ap (λ (q : Bool). cond q None (prepend (x ∷ []) (normalize_escapes (y ∷ z ∷ (a ++ c ∷ b))))) t
        ∙ ap (λ (q : Bool). over (cond q None (prepend (x ∷ []) (normalize_escapes (y ∷ z ∷ a)))) (normalize_escapes (c ∷ b))) (sym t)
    by_test false t d far near =
        ap (λ (q : Bool). cond q (cond d (prepend (normal_escape y z) (normalize_escapes (a ++ c ∷ b))) None) (prepend (x ∷ []) (normalize_escapes (y ∷ z ∷ (a ++ c ∷ b))))) t
        ∙ ap (prepend (x ∷ [])) near ∙ sym (over_before (x ∷ []) (normalize_escapes (y ∷ z ∷ a)) (normalize_escapes (c ∷ b)))
        ∙ ap (λ (q : Bool). over (cond q (cond d (prepend (normal_escape y z) (normalize_escapes a)) None) (prepend (x ∷ []) (normalize_escapes (y ∷ z ∷ a)))) (normalize_escapes (c ∷ b))) (sym t)

-- ---- once more

record IsDigit (c : ℕ) : Type 0 where
  hex : IsTrue (is_hex (upper c))
  value : hex_digit_value (upper c) ≡ hex_digit_value c
  stays : upper (upper c) ≡ upper c

no_le : (a b : ℕ) → b < a → nat_le a b ≡ false
no_le a b lt = elim (leb_tells a b) [ inl w ↦ absurd (omega (arith, w.1)) | inr w ↦ w.0 ]

in_either : (a b : Bool) → IsTrue (a || b) → IsTrue a ⊎ IsTrue b
in_either true b h = inl refl
in_either false b h = inr h

or_right : (a b : Bool) → IsTrue b → IsTrue (a || b)
or_right true b h = refl
or_right false b h = h

or_left : (a b : Bool) → IsTrue a → IsTrue (a || b)
or_left true b h = refl
or_left false b h = absurd cc

below : (a c b : ℕ) → IsTrue (is_between a c b) → (a ≤ c) × (c ≤ b)
below a c b h = (leb-true a c (and_left _ (nat_le c b) h), leb-true c b (and_right (nat_le a c) _ h))

stays_upper : (c : ℕ) → c < 97 → IsTrue (is_hex c) → IsDigit c
stays_upper c lt h =
    let same : upper c ≡ c = ap (λ (b : Bool). cond b (c - 32) c) (no_le 97 c lt) in
    record { hex = subst (λ (d : ℕ). IsTrue (is_hex d)) (sym same) h; value = ap hex_digit_value same; stays = ap upper same }

lowered : (c : ℕ) → 97 ≤ c → c ≤ 102 → IsDigit c
lowered c le ge =
    let up : upper c ≡ c - 32 = ap (λ (b : Bool). cond b (c - 32) c) (le-leb 97 c le) in
    let d = c - 32 in
    let low : nat_le 97 d ≡ false = no_le 97 d (omega arith) in
    let hex : IsTrue (is_hex d) = or_right (is_between 48 d 57) _ (or_left (is_between 65 d 70) (is_between 97 d 102) (and_both _ _ (le-leb 65 d (omega arith)) (le-leb d 70 (omega arith)))) in
    let value : hex_digit_value d ≡ hex_digit_value c =
    ap (λ (b : Bool). cond b (d - 87) (cond (nat_le 65 d) (d - 55) (d - 48))) low
    ∙ ap (λ (b : Bool). cond b (d - 55) (d - 48)) (le-leb 65 d (omega arith))
    ∙ (let same : d - 55 ≡ c - 87 = omega arith in same)
    ∙ sym (ap (λ (b : Bool). cond b (c - 87) (cond (nat_le 65 c) (c - 55) (c - 48))) (le-leb 97 c le)) in
    record {
      hex = subst (λ (n : ℕ). IsTrue (is_hex n)) (sym up) hex;
      value = ap hex_digit_value up ∙ value;
      stays = ap upper up ∙ ap (λ (b : Bool). cond b (d - 32) d) low ∙ sym up;
    }

digit : (c : ℕ) → IsTrue (is_hex c) → IsDigit c
digit c h =
    elim (in_either (is_between 48 c 57) _ h) [
      | inl w ↦ stays_upper c (omega (arith, (below 48 c 57 w).1)) h
      | inr w ↦ elim (in_either (is_between 65 c 70) (is_between 97 c 102) w) [
        | inl v ↦ stays_upper c (omega (arith, (below 65 c 70 v).1)) h
        | inr v ↦ (let range = below 97 c 102 v in lowered c range.0 range.1)
      ]
    ]

abbrev Again : Option (List ℕ) → Type 0
Again None = Unit {0}
Again (Some t) = normalize_escapes t ≡ Some t

again_plain : (c : ℕ) (o : Option (List ℕ)) → eqb c percent ≡ false → Again o → Again (prepend (c ∷ []) o)
again_plain c None e h = tt
again_plain c (Some t) e h = plain c t e ∙ ap (prepend (c ∷ [])) h

not_true : (b : Bool) → IsTrue (not b) → b ≡ false
not_true true h = absurd cc
not_true false h = refl

again_escape : (high low : ℕ) (o : Option (List ℕ)) → IsTrue (is_hex high) → IsTrue (is_hex low) → Again o → Again (prepend (normal_escape high low) o)
again_escape high low None hh hl h = tt
again_escape high low (Some t) hh hl h = by_test (16 * hex_digit_value high + hex_digit_value low) refl (is_unreserved (16 * hex_digit_value high + hex_digit_value low)) refl
  where
    by_test : (byte : ℕ) → 16 * hex_digit_value high + hex_digit_value low ≡ byte → (b : Bool) → is_unreserved byte ≡ b → normalize_escapes (cond b (byte ∷ []) (percent ∷ upper high ∷ upper low ∷ []) ++ t) ≡ Some (cond b (byte ∷ []) (percent ∷ upper high ∷ upper low ∷ []) ++ t)
    by_test byte is true e =
        plain byte t (not_true (eqb byte percent) (other_kind is_unreserved percent refl byte e)) ∙ ap (prepend (byte ∷ [])) h
    by_test byte is false e =
        let dh = digit high hh in
        let dl = digit low hl in
        let value : 16 * hex_digit_value (upper high) + hex_digit_value (upper low) ≡ byte = ap (λ (n : ℕ). 16 * n + hex_digit_value (upper low)) dh.value ∙ ap (λ (n : ℕ). 16 * hex_digit_value high + n) dl.value ∙ is in
        let kept : normal_escape (upper high) (upper low) ≡ percent ∷ upper high ∷ upper low ∷ [] =
        ap (λ (n : ℕ). cond (is_unreserved n) (n ∷ []) (percent ∷ upper (upper high) ∷ upper (upper low) ∷ [])) value
        ∙ ap (λ (b : Bool). cond b (byte ∷ []) (percent ∷ upper (upper high) ∷ upper (upper low) ∷ [])) e
        ∙ ap (λ (n : ℕ). percent ∷ n ∷ upper (upper low) ∷ []) dh.stays
        ∙ ap (λ (n : ℕ). percent ∷ upper high ∷ n ∷ []) dl.stays in
        ap (λ (b : Bool). cond b (prepend (normal_escape (upper high) (upper low)) (normalize_escapes t)) None) (and_both _ _ dh.hex dl.hex)
        ∙ ap (prepend (normal_escape (upper high) (upper low))) h
        ∙ ap (λ (x : List ℕ). Some (x ++ t)) kept

pub again : (text : List ℕ) → Again (normalize_escapes text)
again [] = refl
again (c ∷ []) = by_test (eqb c percent) refl
  where
    by_test : (b : Bool) → eqb c percent ≡ b → Again (cond b None (Some (c ∷ [])))
    by_test true e = tt
    by_test false e = plain c [] e
again (c ∷ d ∷ []) = by_test (eqb c percent) refl (again (d ∷ []))
  where
    by_test : (b : Bool) → eqb c percent ≡ b → Again (normalize_escapes (d ∷ [])) → Again (cond b None (prepend (c ∷ []) (normalize_escapes (d ∷ []))))
    by_test true e h = tt
    by_test false e h = again_plain c (normalize_escapes (d ∷ [])) e h
again (c ∷ d ∷ f ∷ cs) = by_tests (eqb c percent) (is_hex d && is_hex f) refl refl (again cs) (again (d ∷ f ∷ cs))
  where
    by_tests : (b x : Bool) → eqb c percent ≡ b → (is_hex d && is_hex f) ≡ x → Again (normalize_escapes cs) → Again (normalize_escapes (d ∷ f ∷ cs))
        → Again (cond b (cond x (prepend (normal_escape d f) (normalize_escapes cs)) None) (prepend (c ∷ []) (normalize_escapes (d ∷ f ∷ cs))))
    by_tests true true e h far near = again_escape d f (normalize_escapes cs) (and_left _ (is_hex f) h) (and_right (is_hex d) _ h) far
    by_tests true false e h far near = tt
    by_tests false x e h far near = again_plain c (normalize_escapes (d ∷ f ∷ cs)) e near

pub unescaped_again : (text t : List ℕ) → normalize_escapes text ≡ Some t → normalize_escapes t ≡ Some t
unescaped_again text t e = subst Again e (again text)

-- ---- nothing grows, nothing vanishes, and no slash comes from an escape

abbrev pub IsNoLonger : Option (List ℕ) → ℕ → Type 0
IsNoLonger None n = Unit {0}
IsNoLonger (Some t) n = length t ≤ n

longer_by : (prefix : List ℕ) (k n : ℕ) (o : Option (List ℕ)) → length prefix ≤ k → IsNoLonger o n → IsNoLonger (prepend prefix o) (k + n)
longer_by prefix k n None le h = tt
longer_by prefix k n (Some t) le h = omega (arith, length-append prefix t)

escape_length : (b : Bool) (byte high low : ℕ) → length (cond b (byte ∷ []) (percent ∷ high ∷ low ∷ [])) ≤ 3
escape_length true byte high low = omega arith
escape_length false byte high low = omega arith

pub no_longer : (text : List ℕ) → IsNoLonger (normalize_escapes text) (length text)
no_longer [] = omega arith
no_longer (c ∷ []) = by_test (eqb c percent)
  where
    by_test : (b : Bool) → IsNoLonger (cond b None (Some (c ∷ []))) (length (c ∷ []))
    by_test true = tt
    by_test false = omega arith
no_longer (c ∷ d ∷ []) = by_test (eqb c percent) (no_longer (d ∷ []))
  where
    by_test : (b : Bool) → IsNoLonger (normalize_escapes (d ∷ [])) (length (d ∷ [])) → IsNoLonger (cond b None (prepend (c ∷ []) (normalize_escapes (d ∷ [])))) (length (c ∷ d ∷ []))
    by_test true h = tt
    by_test false h = subst (IsNoLonger (prepend (c ∷ []) (normalize_escapes (d ∷ [])))) (let e : 1 + length (d ∷ []) ≡ length (c ∷ d ∷ []) = omega arith in e) (longer_by (c ∷ []) 1 (length (d ∷ [])) (normalize_escapes (d ∷ [])) (omega arith) h)
no_longer (c ∷ d ∷ f ∷ cs) = by_tests (eqb c percent) (is_hex d && is_hex f) (no_longer cs) (no_longer (d ∷ f ∷ cs))
  where
    by_tests : (b x : Bool) → IsNoLonger (normalize_escapes cs) (length cs) → IsNoLonger (normalize_escapes (d ∷ f ∷ cs)) (length (d ∷ f ∷ cs))
        → IsNoLonger (cond b (cond x (prepend (normal_escape d f) (normalize_escapes cs)) None) (prepend (c ∷ []) (normalize_escapes (d ∷ f ∷ cs)))) (length (c ∷ d ∷ f ∷ cs))
    by_tests true true far near = subst (IsNoLonger (prepend (normal_escape d f) (normalize_escapes cs))) (let e : 3 + length cs ≡ length (c ∷ d ∷ f ∷ cs) = omega arith in e)
        (longer_by (normal_escape d f) 3 (length cs) (normalize_escapes cs) (escape_length (is_unreserved (16 * hex_digit_value d + hex_digit_value f)) (16 * hex_digit_value d + hex_digit_value f) (upper d) (upper f)) far)
    by_tests true false far near = tt
    by_tests false x far near = subst (IsNoLonger (prepend (c ∷ []) (normalize_escapes (d ∷ f ∷ cs)))) (let e : 1 + length (d ∷ f ∷ cs) ≡ length (c ∷ d ∷ f ∷ cs) = omega arith in e)
        (longer_by (c ∷ []) 1 (length (d ∷ f ∷ cs)) (normalize_escapes (d ∷ f ∷ cs)) (omega arith) near)

abbrev pub LacksSlash : Option (List ℕ) → Type 0
LacksSlash None = Unit {0}
LacksSlash (Some t) = Lacks is_slash t

lacks_before : (prefix : List ℕ) (o : Option (List ℕ)) → Lacks is_slash prefix → LacksSlash o → LacksSlash (prepend prefix o)
lacks_before prefix None h k = tt
lacks_before prefix (Some t) h k = all_append (λ c. not (is_slash c)) prefix t h k

escape_lacks : (b : Bool) (byte high low : ℕ) → is_unreserved byte ≡ b → IsTrue (is_hex high) → IsTrue (is_hex low) → Lacks is_slash (cond b (byte ∷ []) (percent ∷ upper high ∷ upper low ∷ []))
escape_lacks true byte high low e hh hl = and_both _ _ (other_kind is_unreserved slash refl byte e) refl
escape_lacks false byte high low e hh hl =
    and_both _ _ (other_kind is_hex slash refl (upper high) (digit high hh).hex) (and_both _ _ (other_kind is_hex slash refl (upper low) (digit low hl).hex) refl)

pub still_lacks : (text : List ℕ) → Lacks is_slash text → LacksSlash (normalize_escapes text)
still_lacks [] h = refl
still_lacks (c ∷ []) h = by_test (eqb c percent)
  where
    by_test : (b : Bool) → LacksSlash (cond b None (Some (c ∷ [])))
    by_test true = tt
    by_test false = h
still_lacks (c ∷ d ∷ []) h = by_test (eqb c percent) (still_lacks (d ∷ []) (and_right (not (is_slash c)) _ h))
  where
    by_test : (b : Bool) → LacksSlash (normalize_escapes (d ∷ [])) → LacksSlash (cond b None (prepend (c ∷ []) (normalize_escapes (d ∷ []))))
    by_test true k = tt
    by_test false k = lacks_before (c ∷ []) (normalize_escapes (d ∷ [])) (and_both _ _ (and_left (not (is_slash c)) _ h) refl) k
still_lacks (c ∷ d ∷ f ∷ cs) h =
    let behind = and_right (not (is_slash c)) _ h in
    by_tests (eqb c percent) (is_hex d && is_hex f) refl (still_lacks cs (and_right (not (is_slash f)) _ (and_right (not (is_slash d)) _ behind))) (still_lacks (d ∷ f ∷ cs) behind)
  where
    by_tests : (b x : Bool) → (is_hex d && is_hex f) ≡ x → LacksSlash (normalize_escapes cs) → LacksSlash (normalize_escapes (d ∷ f ∷ cs))
        → LacksSlash (cond b (cond x (prepend (normal_escape d f) (normalize_escapes cs)) None) (prepend (c ∷ []) (normalize_escapes (d ∷ f ∷ cs))))
    by_tests true true e far near = lacks_before (normal_escape d f) (normalize_escapes cs) (escape_lacks (is_unreserved (16 * hex_digit_value d + hex_digit_value f)) (16 * hex_digit_value d + hex_digit_value f) d f refl (and_left _ (is_hex f) e) (and_right (is_hex d) _ e)) far
    by_tests true false e far near = tt
    by_tests false x e far near = lacks_before (c ∷ []) (normalize_escapes (d ∷ f ∷ cs)) (and_both _ _ (and_left (not (is_slash c)) _ h) refl) near

abbrev pub HasSome : Option (List ℕ) → Type 0
HasSome None = Unit {0}
HasSome (Some t) = 0 < length t

some_before : (prefix : List ℕ) (o : Option (List ℕ)) → 0 < length prefix → HasSome (prepend prefix o)
some_before prefix None h = tt
some_before prefix (Some t) h = omega (arith, length-append prefix t)

escape_some : (b : Bool) (byte high low : ℕ) → 0 < length (cond b (byte ∷ []) (percent ∷ high ∷ low ∷ []))
escape_some true byte high low = omega arith
escape_some false byte high low = omega arith

pub still_some : (text : List ℕ) → 0 < length text → HasSome (normalize_escapes text)
still_some [] h = absurd (omega arith)
still_some (c ∷ []) h = by_test (eqb c percent)
  where
    by_test : (b : Bool) → HasSome (cond b None (Some (c ∷ [])))
    by_test true = tt
    by_test false = omega arith
still_some (c ∷ d ∷ []) h = by_test (eqb c percent)
  where
    by_test : (b : Bool) → HasSome (cond b None (prepend (c ∷ []) (normalize_escapes (d ∷ []))))
    by_test true = tt
    by_test false = some_before (c ∷ []) (normalize_escapes (d ∷ [])) (omega arith)
still_some (c ∷ d ∷ f ∷ cs) h = by_tests (eqb c percent) (is_hex d && is_hex f)
  where
    by_tests : (b x : Bool) → HasSome (cond b (cond x (prepend (normal_escape d f) (normalize_escapes cs)) None) (prepend (c ∷ []) (normalize_escapes (d ∷ f ∷ cs))))
    by_tests true true = some_before (normal_escape d f) (normalize_escapes cs) (escape_some (is_unreserved (16 * hex_digit_value d + hex_digit_value f)) (16 * hex_digit_value d + hex_digit_value f) (upper d) (upper f))
    by_tests true false = tt
    by_tests false x = some_before (c ∷ []) (normalize_escapes (d ∷ f ∷ cs)) (omega arith)

-- A text that is normal as a whole is normal before a slash in it.
pub front_normal : (u rest : List ℕ) → normalize_escapes (u ++ slash ∷ rest) ≡ Some (u ++ slash ∷ rest) → normalize_escapes u ≡ Some u
front_normal u rest e = by_parts (normalize_escapes u) (normalize_escapes rest) (no_longer u) (no_longer rest) (sym (seam u slash rest refl refl ∙ ap (over (normalize_escapes u)) (plain slash rest refl)) ∙ e)
  where
    by_parts : (o p : Option (List ℕ)) → IsNoLonger o (length u) → IsNoLonger p (length rest) → over o (prepend (slash ∷ []) p) ≡ Some (u ++ slash ∷ rest) → o ≡ Some u
    by_parts None p ho hp h = absurd cc
    by_parts (Some x) None ho hp h = absurd cc
    by_parts (Some x) (Some y) ho hp h =
        let same : x ++ slash ∷ y ≡ u ++ slash ∷ rest = cc in
        let len : length x ≡ length u = omega (arith, ap length same, length-append x (slash ∷ y), length-append u (slash ∷ rest)) in
        ap (λ (z : List ℕ). Some z) (sym (take_at x (slash ∷ y) (length u) len) ∙ ap (take (length u)) same ∙ take_at u (slash ∷ rest) (length u) refl)
