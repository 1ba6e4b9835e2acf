-- The table of framing, row by row.
use Rattle.std.proofs.Common.{◌≡◌, ℕ, suc, ◌==◌, ◌&&◌, ◌||◌, not, Bool, true, false, cond, if◌then◌else◌, nat_lt, nat_le, List, [], ◌∷◌, ◌++◌, length, map, filter, find, Option, Some, None, Result, Ok, Err, codes, refl, sym, ap, subst, arith, ◌∙◌}
use Rattle.std.specs.Option.{option_map}
use Rattle.std.specs.List.{list_all, list_any, join_with_byte}
use Rattle.std.specs.Char.{is_ascii_digit, to_ascii_lowercase}
use Rattle.std.specs.Str.{bytes_eq, str_eq_ignore_ascii_case, str_to_ascii_lowercase}
use Rattle.std.proofs.lemmas.Bool.Decides.{nat_tests}
use Rattle.pod_base.specs.declared.field.Field.{Field}
use Rattle.pod_base.specs.Fields.{is_named}
use Rattle.http_head.specs.Decimals.{is_number, number_of, significant}
use Rattle.http_head.specs.declared.body_form.BodyForm.{BodyForm}
use Rattle.http_head.specs.declared.body_form.BodyForm.TheVariants.{Empty, Length, Chunked}
use Rattle.http_head.specs.declared.body_framing.FramingFault.{FramingFault}
use Rattle.http_head.specs.declared.body_framing.FramingFault.TheVariants.{Conflict, TooLarge, Coding}
use Rattle.http_head.specs.BodyFraming.{lengths, codings, first_length, lengths_differ, number, is_chunked, has_length, has_coding, conflicts, length_form, framing}
use Rattle.http_head.proofs.DecimalLemmas.{same_number}

-- the first of the fields that pass a test
pub record First (test : Field → Bool) (fields : List Field) (value : List ℕ) : Type 0 where
  pub field : Field
  pub rest : List Field
  pub is : filter test fields ≡ field ∷ rest
  pub has : field.value ≡ value
  pub any : list_any test fields ≡ true

first_on : (field : Field) (passing : List Field) (t b : Bool) (found : Option Field) (value : List ℕ) → option_map (λ (f : Field). f.value) (cond t (Some field) found) ≡ Some value
    → ((option_map (λ (f : Field). f.value) found ≡ Some value) → (first : Field) × (rest : List Field) × (passing ≡ first ∷ rest) × (first.value ≡ value) × (b ≡ true))
    → (first : Field) × (rest : List Field) × (cond t (field ∷ passing) passing ≡ first ∷ rest) × (first.value ≡ value) × ((t || b) ≡ true)
first_on field passing true b found value e later = (field, passing, refl, (cc), refl)
first_on field passing false b found value e later = later e

first_of : (test : Field → Bool) (fields : List Field) (value : List ℕ) → option_map (λ (f : Field). f.value) (find test fields) ≡ Some value
    → (first : Field) × (rest : List Field) × (filter test fields ≡ first ∷ rest) × (first.value ≡ value) × (list_any test fields ≡ true)
first_of test [] value e = cc
first_of test (field ∷ fields) value e = first_on field (filter test fields) (test field) (list_any test fields) (find test fields) value e (first_of test fields value)

pub first_found : (test : Field → Bool) (fields : List Field) (value : List ℕ) → option_map (λ (f : Field). f.value) (find test fields) ≡ Some value → First test fields value
first_found test fields value e =
    let it = first_of test fields value e in
    record { field = it.0; rest = it.1; is = it.2; has = it.3; any = it.4 }

-- none of the fields passes
pub record NoneIs (test : Field → Bool) (fields : List Field) : Type 0 where
  pub is : filter test fields ≡ []
  pub any : list_any test fields ≡ false

none_on : (field : Field) (passing : List Field) (t b : Bool) → (t || b) ≡ false → (b ≡ false → passing ≡ []) → cond t (field ∷ passing) passing ≡ []
none_on field passing true b e later = cc
none_on field passing false b e later = later e

pub none_any : (test : Field → Bool) (fields : List Field) → list_any test fields ≡ false → filter test fields ≡ []
none_any test [] e = refl
none_any test (field ∷ fields) e = none_on field (filter test fields) (test field) (list_any test fields) e (none_any test fields)

not_any : (field : Field) (t b : Bool) (found : Option Field) → option_map (λ (f : Field). f.value) (cond t (Some field) found) ≡ None → (option_map (λ (f : Field). f.value) found ≡ None → b ≡ false) → (t || b) ≡ false
not_any field true b found e later = cc
not_any field false b found e later = later e

none_in : (test : Field → Bool) (fields : List Field) → option_map (λ (f : Field). f.value) (find test fields) ≡ None → list_any test fields ≡ false
none_in test [] e = refl
none_in test (field ∷ fields) e = not_any field (test field) (list_any test fields) (find test fields) e (none_in test fields)

pub none_found : (test : Field → Bool) (fields : List Field) → option_map (λ (f : Field). f.value) (find test fields) ≡ None → NoneIs test fields
none_found test fields e = record { is = none_any test fields (none_in test fields e); any = none_in test fields e }

both : (x y : Bool) → (x && y) ≡ true → (x ≡ true) × (y ≡ true)
both true y h = (refl, h)
both false y h = cc

-- lengths are compared by their digits
pub same_lengths : (fields : List Field) (value : List ℕ) → list_all is_ascii_digit value ≡ true → list_all (λ (f : Field). is_number f.value) fields ≡ true
    → list_all (λ (f : Field). bytes_eq (significant f.value) (significant value)) fields ≡ list_all (λ f. number f == number_of value) fields
same_lengths [] value v h = refl
same_lengths (field ∷ fields) value v h =
    let e = both (is_number field.value) (list_all (λ (f : Field). is_number f.value) fields) h in
    let digits = both (nat_lt 0 (length field.value)) (list_all is_ascii_digit field.value) e.0 in
    let others : List Field → (List ℕ → Bool) → Bool = λ fs test. list_all (λ (f : Field). test f.value) fs in
    ap (λ x. x && list_all (λ (f : Field). bytes_eq (significant f.value) (significant value)) fields) (same_number field.value value digits.1 v)
    ∙ ap (λ y. (number field == number_of value) && y) (same_lengths fields value v e.1)

alone : (x : Bool) → (x && true) ≡ x
alone true = refl
alone false = refl

never : (x : Bool) → (x && false) ≡ false
never true = refl
never false = refl

not_comma : (c : ℕ) (y : Bool) → not (c == 44) ≡ true → ((44 == c) && y) ≡ false
not_comma c y h =
    let no : (44 == c) ≡ false = grind (arith, nat_tests, h) in
    ap (λ x. x && y) no

-- a text with a comma is no word without one
comma_apart : (word text rest : List ℕ) → list_all (λ c. not (c == 44)) word ≡ true → bytes_eq (str_to_ascii_lowercase (text ++ 44 ∷ rest)) word ≡ false
comma_apart [] [] rest h = refl
comma_apart [] (b ∷ text) rest h = refl
comma_apart (c ∷ word) [] rest h =
    let e = both (not (c == 44)) (list_all (λ c. not (c == 44)) word) h in
    not_comma c (bytes_eq (str_to_ascii_lowercase rest) word) e.0
comma_apart (c ∷ word) (b ∷ text) rest h =
    let e = both (not (c == 44)) (list_all (λ c. not (c == 44)) word) h in
    ap (λ x. (to_ascii_lowercase b == c) && x) (comma_apart word text rest e.1) ∙ never (to_ascii_lowercase b == c)

several : (n : ℕ) → (suc (suc n) == 1) ≡ false
several n = grind (arith, nat_tests)

-- values joined by commas are `chunked` where there is one and it is
pub one_coding : (fields : List Field) → ((length fields == 1) && list_all (λ (f : Field). str_eq_ignore_ascii_case f.value (codes "chunked")) fields) ≡ is_chunked fields
one_coding [] = refl
one_coding (field ∷ []) = alone (str_eq_ignore_ascii_case field.value (codes "chunked"))
one_coding (field ∷ other ∷ fields) =
    let each : Bool = list_all (λ (f : Field). str_eq_ignore_ascii_case f.value (codes "chunked")) (field ∷ other ∷ fields) in
    ap (λ x. x && each) (several (length fields))
    ∙ sym (comma_apart (codes "chunked") field.value (join_with_byte 44 (map (λ (f : Field). f.value) (other ∷ fields))) refl)

first_is : (fields : List Field) (value : List ℕ) → First (is_named (codes "content-length")) fields value → first_length (lengths fields) ≡ number_of value
first_is fields value it = ap first_length it.is ∙ ap number_of it.has

pub differ_some : (fields : List Field) (value : List ℕ) → First (is_named (codes "content-length")) fields value → list_all (λ (f : Field). is_number f.value) (lengths fields) ≡ true
    → not (list_all (λ (f : Field). bytes_eq (significant f.value) (significant value)) (lengths fields)) ≡ lengths_differ (lengths fields)
differ_some fields value it h =
    let all : List Field = lengths fields in
    let h' : list_all (λ (f : Field). is_number f.value) (it.field ∷ it.rest) ≡ true = subst (λ fs. list_all (λ (f : Field). is_number f.value) fs ≡ true) it.is h in
    let here = both (is_number it.field.value) (list_all (λ (f : Field). is_number f.value) it.rest) h' in
    let number_here : is_number value ≡ true = subst (λ v. is_number v ≡ true) it.has here.0 in
    let digits = both (nat_lt 0 (length value)) (list_all is_ascii_digit value) number_here in
    ap not (same_lengths all value digits.1 h ∙ ap (λ n. list_all (λ f. number f == n) all) (sym (first_is fields value it)))

pub differ_none : (fields : List Field) → NoneIs (is_named (codes "content-length")) fields → false ≡ lengths_differ (lengths fields)
differ_none fields it = sym (ap lengths_differ it.is)

-- no length
pub form_none : (fields : List Field) → NoneIs (is_named (codes "content-length")) fields → Ok Empty ≡ length_form fields
form_none fields it =
    let form : ℕ → Bool → Result BodyForm FramingFault = λ n some. if nat_lt 8_388_608 n then Err TooLarge else (if some then Ok (Length n) else Ok Empty) in
    sym (ap (λ n. form n (has_length fields)) (ap first_length it.is) ∙ ap (form 0) it.any)

form_first : (fields : List Field) (value : List ℕ) → First (is_named (codes "content-length")) fields value → length_form fields ≡ (if nat_lt 8_388_608 (number_of value) then Err TooLarge else Ok (Length (number_of value)))
form_first fields value it =
    let form : ℕ → Bool → Result BodyForm FramingFault = λ n some. if nat_lt 8_388_608 n then Err TooLarge else (if some then Ok (Length n) else Ok Empty) in
    ap (λ n. form n (has_length fields)) (first_is fields value it) ∙ ap (form (number_of value)) it.any

read_within : (most n m : ℕ) → Some m ≡ (if nat_le n most then Some n else None) → Ok (Length m) ≡ (if nat_lt most n then Err TooLarge else Ok (Length n))
read_within most n m e = elim (nat_le n most) as (λ t. nat_le n most ≡ t → Some m ≡ (if t then Some n else None) → Ok (Length m) ≡ (if nat_lt most n then Err TooLarge else Ok (Length n))) [
  | true ↦ λ yes same. let no : nat_lt most n ≡ false = grind (arith, nat_tests, yes) in let is : m ≡ n = cc in sym (ap (λ t. if t then Err TooLarge else Ok (Length n)) no ∙ ap (λ k. Ok (Length k)) (sym is))
  | false ↦ λ no same. cc
] refl e

read_past : (most n : ℕ) → None ≡ (if nat_le n most then Some n else None) → Err TooLarge ≡ (if nat_lt most n then Err TooLarge else Ok (Length n))
read_past most n e = elim (nat_le n most) as (λ t. nat_le n most ≡ t → None ≡ (if t then Some n else None) → Err TooLarge ≡ (if nat_lt most n then Err TooLarge else Ok (Length n))) [
  | true ↦ λ yes same. cc
  | false ↦ λ no same. let past : nat_lt most n ≡ true = grind (arith, nat_tests, no) in sym (ap (λ t. if t then Err TooLarge else Ok (Length n)) past)
] refl e

-- a length within the limit
pub form_some : (fields : List Field) (value : List ℕ) (n : ℕ) → First (is_named (codes "content-length")) fields value
    → Some n ≡ (if nat_le (number_of value) 8_388_608 then Some (number_of value) else None) → Ok (Length n) ≡ length_form fields
form_some fields value n it e = read_within 8_388_608 (number_of value) n e ∙ sym (form_first fields value it)

-- a length past it
pub form_past : (fields : List Field) (value : List ℕ) → First (is_named (codes "content-length")) fields value
    → None ≡ (if nat_le (number_of value) 8_388_608 then Some (number_of value) else None) → Err TooLarge ≡ length_form fields
form_past fields value it e = read_past 8_388_608 (number_of value) e ∙ sym (form_first fields value it)

rows : (l c m n d k x : Bool) (len : ℕ) → (l && c || c && m || not n || d) ≡ false → c ≡ true → k ≡ true → (l ≡ false → x ≡ false)
    → Ok Chunked ≡ cond (l && c) (Err Conflict) (cond (c && m) (Err Conflict) (cond (not n) (Err Conflict) (cond d (Err Conflict) (cond (c && not k) (Err Coding) (cond x (Err TooLarge) (cond c (Ok Chunked) (cond l (Ok (Length len)) (Ok Empty))))))))
rows l false m n d k x len h hc hk hx = cc
rows true true m n d k x len h hc hk hx = cc
rows false true true n d k x len h hc hk hx = cc
rows false true false false d k x len h hc hk hx = cc
rows false true false true true k x len h hc hk hx = cc
rows false true false true false false x len h hc hk hx = cc
rows false true false true false true x len h hc hk hx = sym (ap (λ y. cond y (Err TooLarge) (Ok Chunked)) (hx refl))

-- chunks alone, and nothing that contradicts them
pub chunked_row : (minor : ℕ) (fields : List Field) → conflicts minor fields ≡ false → has_coding fields ≡ true → is_chunked (codings fields) ≡ true → Ok Chunked ≡ framing minor fields
chunked_row minor fields h hc hk =
    rows (has_length fields) (has_coding fields) (minor == 0) (list_all (λ (f : Field). is_number f.value) (lengths fields)) (lengths_differ (lengths fields)) (is_chunked (codings fields))
    (nat_lt 8_388_608 (first_length (lengths fields))) (first_length (lengths fields)) h hc hk
    (λ none. ap (λ fs. nat_lt 8_388_608 (first_length fs)) (none_any (is_named (codes "content-length")) fields none))
