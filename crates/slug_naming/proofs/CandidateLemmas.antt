-- Candidates: they are names, they differ, and what is looked up of them.
use Rattle.std.proofs.Common.{◌≡◌, ℕ, suc, zero, ◌+◌, ◌^◌, ◌<◌, ◌≤◌, ◌/◌, ◌%◌, Bool, true, false, not, cond, ◌||◌, ◌&&◌, eqb, inl, inr, ◌⊎◌, List, [], ◌∷◌, ◌++◌, length, reverse, Option, Some, Result, Ok, Err, refl, sym, ap, subst, ◌∙◌, arith, append_assoc, length-append}
use Rattle.std.specs.Prelude.{IsTrue, codes, decimal, nat_eq, map, IfErr}
use Rattle.std.specs.List.{list_all, Contains, ends_with}
use Rattle.std.proofs.lemmas.Bool.{ne_eqb, cases_lt}
use Rattle.std.proofs.Math.Dec.{eqb-suc-zero}
use Rattle.std.proofs.lemmas.Fmt.{decimal_digit, decimal_step, decimal_by_steps, decimal_injective}
use Rattle.std.proofs.lemmas.List.{append-nil, reverse-append, append_cancel_left, same_from_push, length-map, get_or-map}
use Rattle.iri_ref.specs.Characters.{Lacks, is_slash, slash, is_question_mark}
use Rattle.iri_ref.specs.Segments.{is_dot_segment}
use Rattle.iri_ref.proofs.Texts.{and_left, and_right, and_both, all_append}
use Rattle.pod_path.specs.Characters.{is_unreserved, is_path_character}
use Rattle.pod_path.specs.Escapes.{prepend, normalize_escapes}
use Rattle.pod_path.specs.Norm.{is_auxiliary_name, IsLimitFault, norm}
use Rattle.pod_path.specs.Norm as norms
use Rattle.pod_path.specs.declared.fault.PathFault.{PathFault}
use Rattle.pod_path.specs.declared.fault.PathFault.TheVariants.{BadEscape, NotNormal, Reserved, TooLong, TooDeep, NoMemory}
use Rattle.pod_path.specs.Hierarchy.{IsName, IsPlainName, is_container, is_meta, is_auxiliary, member_text, twin_of, root, without_last_slash, without_end}
use Rattle.pod_path.proofs.Escaping.{seam, over}
use Rattle.pod_path.proofs.Ends.{without_last_slash_none, without_last_slash_some, not_ending}
use Rattle.pod_path.proofs.Names.{starts, ends_starts, ends_is, ends_append}
use Rattle.pod_path.proofs.Suffixes.{both_false}
use Rattle.pod_path.proofs.Twins.{not_equal, longer_root, closed_twin, twin_open}
use Rattle.slug_naming.specs.Names.{candidate_end, candidate, candidate_path, is_free, is_some_row, IsFreeName, HasFewRows, FailsAs}
use Rattle.slug_naming.specs.PlainTexts.{are_no_rows, IsFirstFree}
use Rattle.slug_naming.proofs.PlainLemmas.{unreserved_plain, still_normal, not_reserved, tested}
use Rattle.slug_naming.proofs.CountLemmas.{AreDifferent, no_more_than}

-- ---- digits

-- a text whose last character is a digit
record EndsInDigit (text : List ℕ) : Type 0 where
  init : List ℕ
  digit : ℕ
  small : digit < 10
  whole : text ≡ init ++ (48 + digit) ∷ []

last_digit : (n : ℕ) → n < 2 ^ 64 → EndsInDigit (decimal n)
last_digit n fits =
    elim (cases_lt n 10) as (λ _. EndsInDigit (decimal n)) [
      | inl lt ↦ record { init = []; digit = n; small = lt; whole = decimal_digit n lt }
      | inr le ↦ record { init = decimal (n / 10); digit = n % 10; small = omega arith; whole = decimal_step n le fits }
    ]

digit_unreserved : (d : ℕ) → d < 10 → IsTrue (is_unreserved (48 + d))
digit_unreserved d lt = tested is_unreserved 10 48 refl (48 + d) (omega arith) (omega arith)

decimal_unreserved : (n : ℕ) → n < 2 ^ 64 → IsTrue (list_all is_unreserved (decimal n))
decimal_unreserved n fits = decimal_by_steps (λ m ds. IsTrue (list_all is_unreserved ds))
    (λ m lt. and_both _ _ (digit_unreserved m lt) refl)
    (λ m ds le h. all_append is_unreserved ds ((48 + m % 10) ∷ []) h (and_both _ _ (digit_unreserved (m % 10) (omega arith)) refl))
    n fits

digit_no_letter : (letter d : ℕ) → 58 ≤ letter → d < 10 → eqb letter (48 + d) ≡ false
digit_no_letter letter d far lt = ne_eqb letter (48 + d) (λ e. absurd (omega arith))

ends_open : (text : List ℕ) → EndsInDigit text → is_auxiliary_name text ≡ false
ends_open text e = both_false _ _ (no (codes ".acl") 108 (codes "ca.") (omega arith) refl) (no (codes ".meta") 97 (codes "tem.") (omega arith) refl)
  where
    back : reverse text ≡ (48 + e.digit) ∷ reverse e.init
    back = ap reverse e.whole ∙ reverse-append e.init ((48 + e.digit) ∷ [])

    no : (end : List ℕ) (letter : ℕ) (more : List ℕ) → 58 ≤ letter → reverse end ≡ letter ∷ more → ends_with nat_eq text end ≡ false
    no end letter more far is =
        ends_starts text end ∙ ap (λ (p : List ℕ). starts p (reverse text)) is ∙ ap (starts (letter ∷ more)) back
        ∙ ap (λ (b : Bool). b && starts more (reverse e.init)) (digit_no_letter letter e.digit far e.small)

-- ---- candidates are names

abbrev pub AllNames : List ℕ → Type 0
AllNames name = (folder : Bool) → IsPlainName name folder

long_no_dots : (text : List ℕ) → 3 ≤ length text → is_dot_segment text ≡ false
long_no_dots text long = both_false _ _
    (not_equal text (codes ".") (λ e. absurd (omega (arith, ap length e))))
    (not_equal text (codes "..") (λ e. absurd (omega (arith, ap length e))))

numbered : (stem digits : List ℕ) → IsPlainName stem true → IsTrue (list_all is_unreserved digits) → EndsInDigit digits → AllNames (stem ++ 45 ∷ digits)
numbered stem digits p h last folder =
    let end = unreserved_plain (45 ∷ digits) (and_both _ _ refl h) in
    let long : 1 ≤ length digits = omega (arith, ap length last.whole, length-append last.init ((48 + last.digit) ∷ [])) in
    let len = length-append stem (45 ∷ digits) in
    let ends : EndsInDigit (stem ++ 45 ∷ digits) = record {
      init = stem ++ 45 ∷ last.init;
      digit = last.digit;
      small = last.small;
      whole = ap (λ (t : List ℕ). stem ++ 45 ∷ t) last.whole ∙ sym (append_assoc stem (45 ∷ last.init) ((48 + last.digit) ∷ []));
    } in
    record {
      segment = record {
        some = omega (arith, len);
        slashes = all_append (λ c. not (is_slash c)) stem (45 ∷ digits) p.segment.slashes end.slashes;
        queries = all_append (λ c. not (is_question_mark c)) stem (45 ∷ digits) p.segment.queries end.queries;
      };
      characters = all_append is_path_character stem (45 ∷ digits) p.characters end.characters;
      escapes = seam stem 45 digits refl refl ∙ ap (λ (o : Option (List ℕ)). over o (normalize_escapes (45 ∷ digits))) p.escapes ∙ ap (prepend stem) (still_normal (45 ∷ digits) end);
      dots = long_no_dots (stem ++ 45 ∷ digits) (omega (arith, len, p.segment.some));
      free = not_reserved (stem ++ 45 ∷ digits) (ends_open (stem ++ 45 ∷ digits) ends) folder;
    }

end_more : (k : ℕ) → candidate_end (suc k) ≡ 45 ∷ decimal (suc k + 1)
end_more k = ap (λ (b : Bool). cond b [] (45 ∷ decimal (suc k + 1))) (eqb-suc-zero k)

pub candidate_plain : (stem : List ℕ) (k : ℕ) → AllNames stem → k + 1 < 2 ^ 64 → AllNames (candidate stem k)
candidate_plain stem zero p fits = λ folder. subst (λ (t : List ℕ). IsPlainName t folder) (sym (append-nil stem)) (p folder)
candidate_plain stem (suc k) p fits =
    subst (λ (e : List ℕ). AllNames (stem ++ e)) (sym (end_more k)) (numbered stem (decimal (suc k + 1)) (p true) (decimal_unreserved (suc k + 1) fits) (last_digit (suc k + 1) fits))

-- ---- candidates differ

end_injective : (i j : ℕ) → i + 1 < 2 ^ 64 → j + 1 < 2 ^ 64 → candidate_end i ≡ candidate_end j → i ≡ j
end_injective zero zero fi fj e = refl
end_injective zero (suc j) fi fj e = (let no : [] ≡ 45 ∷ decimal (suc j + 1) = e ∙ end_more j in absurd cc)
end_injective (suc i) zero fi fj e = (let no : [] ≡ 45 ∷ decimal (suc i + 1) = sym e ∙ end_more i in absurd cc)
end_injective (suc i) (suc j) fi fj e =
    let same : suc i + 1 ≡ suc j + 1 = decimal_injective (suc i + 1) (suc j + 1) fi fj (append_cancel_left (codes "-") (decimal (suc i + 1)) (decimal (suc j + 1)) (sym (end_more i) ∙ e ∙ end_more j)) in
    omega (arith, same)

-- ---- slashes

open_end : (name : List ℕ) → 0 < length name → Lacks is_slash name → (c prefix : List ℕ) → c ++ name ≡ prefix ++ slash ∷ [] → ⊥
open_end [] some h c prefix e = absurd (omega arith)
open_end (x ∷ []) some h c prefix e =
    let same : x ≡ slash = (same_from_push c prefix x slash e).1 in
    (let yes : true ≡ false = sym (and_left (not (is_slash x)) _ h) ∙ ap (λ (y : ℕ). not (is_slash y)) same in cc)
open_end (x ∷ y ∷ zs) some h c prefix e =
    open_end (y ∷ zs) (omega arith) (and_right (not (is_slash x)) _ h) (c ++ x ∷ []) prefix (append_assoc c (x ∷ []) (y ∷ zs) ∙ e)

starts_before : (p x r : List ℕ) → Lacks is_slash p → starts p (x ++ slash ∷ r) ≡ starts p x
starts_before [] x r h = refl
starts_before (a ∷ p) [] r h = ap (λ (b : Bool). b && starts p r) (by_not (eqb a slash) (and_left (not (is_slash a)) _ h))
  where
    by_not : (b : Bool) → IsTrue (not b) → b ≡ false
    by_not true k = absurd cc
    by_not false k = refl
starts_before (a ∷ p) (b ∷ x) r h = ap (λ (t : Bool). eqb a b && t) (starts_before p x r (and_right (not (is_slash a)) _ h))

same_end : (c name end : List ℕ) → IsTrue (is_container c) → Lacks is_slash (reverse end) → ends_with nat_eq (c ++ name) end ≡ ends_with nat_eq name end
same_end c name end closed h =
    let above = without_end 1 c in
    let whole : c ≡ above ++ slash ∷ [] = ends_is c (slash ∷ []) closed in
    ends_starts (c ++ name) end
    ∙ ap (starts (reverse end)) (reverse-append c name ∙ ap (λ (t : List ℕ). reverse name ++ t) (ap reverse whole ∙ reverse-append above (slash ∷ [])))
    ∙ starts_before (reverse end) (reverse name) (reverse above) h
    ∙ sym (ends_starts name end)

not_auxiliary : (c name : List ℕ) → IsTrue (is_container c) → is_auxiliary_name name ≡ false → is_auxiliary (c ++ name) ≡ false
not_auxiliary c name closed h =
    ap (λ (b : Bool). b || is_meta (c ++ name)) (same_end c name (codes ".acl") closed refl)
    ∙ ap (λ (b : Bool). ends_with nat_eq name (codes ".acl") || b) (same_end c name (codes ".meta") closed refl)
    ∙ h

longer : (c : List ℕ) → IsTrue (is_container c) → 0 < length c
longer c closed = omega (arith, ap length (ends_is c (slash ∷ []) closed), length-append (without_end 1 c) (slash ∷ []))

name_twin : (c name : List ℕ) → IsTrue (is_container c) → IsName name → is_auxiliary_name name ≡ false → twin_of (c ++ name) ≡ Some ((c ++ name) ++ slash ∷ [])
name_twin c name closed n h =
    sym (twin_open (c ++ name) (λ prefix e. open_end name n.some n.slashes c prefix e) (not_equal (c ++ name) root (longer_root c name (longer c closed) n.some)) (not_auxiliary c name closed h))

swapped : (a b : Bool) → (a && b) ≡ (b && a)
swapped true true = refl
swapped true false = refl
swapped false true = refl
swapped false false = refl

-- the two texts that are looked up are the path and its twin
pub looked_up : (is_row : List ℕ → Bool) (c name : List ℕ) (folder : Bool) → IsTrue (is_container c) → IsPlainName name true → is_free is_row (member_text c name folder) ≡ are_no_rows is_row (c ++ name)
looked_up is_row c name true closed n =
    ap (λ (o : Option (List ℕ)). not (is_row ((c ++ name) ++ slash ∷ [])) && not (is_some_row is_row o)) (closed_twin (c ++ name) (omega (arith, length-append c name, n.segment.some)))
    ∙ swapped (not (is_row ((c ++ name) ++ slash ∷ []))) (not (is_row (c ++ name)))
looked_up is_row c name false closed n =
    ap (is_free is_row) (append-nil (c ++ name))
    ∙ ap (λ (o : Option (List ℕ)). not (is_row (c ++ name)) && not (is_some_row is_row o)) (name_twin c name closed n.segment n.free)

same_text : (is_row : List ℕ → Bool) (c stem : List ℕ) (folder : Bool) (k : ℕ) → IsTrue (is_container c) → AllNames stem → k + 1 < 2 ^ 64
    → is_free is_row (candidate_path c stem folder k) ≡ are_no_rows is_row ((c ++ stem) ++ candidate_end k)
same_text is_row c stem folder k closed p fits =
    looked_up is_row c (candidate stem k) folder closed (candidate_plain stem k p fits true) ∙ ap (are_no_rows is_row) (sym (append_assoc c stem (candidate_end k)))

-- the name that was found
pub found : (is_row : List ℕ → Bool) (c stem base path : List ℕ) (folder : Bool) (number : ℕ) → base ≡ c ++ stem → IsTrue (is_container c) → AllNames stem → number + 1 < 2 ^ 64
    → IsFirstFree is_row base number → path ≡ candidate_path c stem folder number → IsFreeName is_row c stem folder path
found is_row c stem base path folder number whole closed p fits f is = record {
  number = number;
  is = is;
  free = ap (is_free is_row) is ∙ same_text is_row c stem folder number closed p fits ∙ ap (λ (b : List ℕ). are_no_rows is_row (b ++ candidate_end number)) (sym whole) ∙ f.free;
  first = λ k lt. same_text is_row c stem folder k closed p (omega arith) ∙ ap (λ (b : List ℕ). are_no_rows is_row (b ++ candidate_end k)) (sym whole) ∙ f.first k lt;
}

-- ---- one candidate is free

open_digit : (text prefix : List ℕ) → EndsInDigit text → text ≡ prefix ++ slash ∷ [] → ⊥
open_digit text prefix e is =
    let same : 48 + e.digit ≡ slash = (same_from_push e.init prefix (48 + e.digit) slash (sym e.whole ∙ is)).1 in
    absurd (omega (arith, same))

open_candidate : (base : List ℕ) (k : ℕ) → ((prefix : List ℕ) → base ≡ prefix ++ slash ∷ [] → ⊥) → k + 1 < 2 ^ 64 → (prefix : List ℕ) → base ++ candidate_end k ≡ prefix ++ slash ∷ [] → ⊥
open_candidate base zero h fits prefix e = h prefix (sym (append-nil base) ∙ e)
open_candidate base (suc k) h fits prefix e =
    let last = last_digit (suc k + 1) fits in
    open_digit (base ++ candidate_end (suc k)) prefix (record {
      init = base ++ 45 ∷ last.init;
      digit = last.digit;
      small = last.small;
      whole = ap (λ (t : List ℕ). base ++ t) (end_more k) ∙ ap (λ (t : List ℕ). base ++ 45 ∷ t) last.whole ∙ sym (append_assoc base (45 ∷ last.init) ((48 + last.digit) ∷ []));
    }) e

held : (rows : List (List ℕ)) (text name : List ℕ) → Contains rows text → without_last_slash text ≡ name → Contains (map without_last_slash rows) name
held rows text name at is = (
  at.0,
  subst (λ (m : ℕ). at.0 < m) (sym (length-map rows without_last_slash)) at.1,
  get_or-map without_last_slash rows at.0 text name at.1 ∙ ap without_last_slash at.2 ∙ is,
)

one_is : (a b : Bool) → (not a && not b) ≡ false → (a ≡ true) ⊎ (b ≡ true)
one_is true b e = inl refl
one_is false true e = inr refl
one_is false false e = absurd cc

-- As many candidates as there are rows may be taken, and no more.
pub not_all_taken : (is_row : List ℕ → Bool) (base : List ℕ) (n : ℕ) → ((prefix : List ℕ) → base ≡ prefix ++ slash ∷ [] → ⊥) → HasFewRows is_row → 65_536 < n → n + 1 < 2 ^ 64
    → ((k : ℕ) → k < n → are_no_rows is_row (base ++ candidate_end k) ≡ false) → ⊥
not_all_taken is_row base n h w many fits taken =
    let rows = w.0 in
    let held_rows = w.1 in
    let all : (k : ℕ) → k < n → Contains (map without_last_slash rows) (base ++ candidate_end k) = λ k lt.
    elim (one_is (is_row (base ++ candidate_end k)) (is_row ((base ++ candidate_end k) ++ codes "/")) (taken k lt)) as (λ _. Contains (map without_last_slash rows) (base ++ candidate_end k)) [
      | inl e ↦ held rows (base ++ candidate_end k) (base ++ candidate_end k) (held_rows.all (base ++ candidate_end k) e)
          (sym (without_last_slash_none (base ++ candidate_end k) (open_candidate base k h (omega arith))))
      | inr e ↦ held rows ((base ++ candidate_end k) ++ codes "/") (base ++ candidate_end k) (held_rows.all ((base ++ candidate_end k) ++ codes "/") e) (without_last_slash_some (base ++ candidate_end k))
    ] in
    let different : AreDifferent (λ k. base ++ candidate_end k) n = λ i j li lj e.
    end_injective i j (omega arith) (omega arith) (append_cancel_left base (candidate_end i) (candidate_end j) e) in
    let most : n ≤ length (map without_last_slash rows) = no_more_than (λ k. base ++ candidate_end k) n (map without_last_slash rows) different all in
    absurd (omega (arith, most, length-map rows without_last_slash, held_rows.few))

pub closed_no : (text : List ℕ) → is_container text ≡ false → (prefix : List ℕ) → text ≡ prefix ++ slash ∷ [] → ⊥
closed_no text h prefix e = (let yes : true ≡ false = sym (ends_append prefix (slash ∷ [])) ∙ ap is_container (sym e) ∙ h in absurd cc)

-- a container's path and a name end in no slash
pub base_open : (c stem base : List ℕ) → base ≡ c ++ stem → IsPlainName stem true → is_container base ≡ false
base_open c stem base whole n = not_ending base (slash ∷ []) (λ prefix e. open_end stem n.segment.some n.segment.slashes c prefix (sym whole ∙ e))

-- ---- why there is no name

pub fails : (IsName : List ℕ → Type 0) (path : List ℕ) → IsName path → (fault : PathFault) → IsLimitFault fault → norms.FailsAs fault (norm path) → FailsAs IsName fault
fails IsName path n BadEscape l e = l
fails IsName path n NotNormal l e = l
fails IsName path n Reserved l e = l
fails IsName path n TooLong l e = (path, n, e)
fails IsName path n TooDeep l e = (path, n, e)
fails IsName path n NoMemory l e = tt

pub both_faults : {X E : Type 0} (P Q R : E → Type 0) (r : Result X E) → IfErr r P → IfErr r Q → ((e : E) → P e → Q e → R e) → IfErr r R
both_faults P Q R (Ok x) p q f = tt
both_faults P Q R (Err e) p q f = f e p q
