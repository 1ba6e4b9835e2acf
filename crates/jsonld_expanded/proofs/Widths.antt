-- Lengths of texts of JSON.
use Rattle.std.proofs.Common.{◌≡◌, ◌≤◌, ◌<◌, ℕ, zero, suc, ◌+◌, ◌/◌, ◌%◌, ◌==◌, nat_lt, take, drop, Bool, true, false, cond, List, [], ◌∷◌, ◌++◌, codes, All, map, get_or, length, length-append, refl, sym, ap, ◌∙◌, subst, arith}
use Rattle.std.proofs.lemmas.Bool.{and_parts, false≢true}
use Rattle.std.proofs.lemmas.Bool.Decides.{nat_tests}
use Rattle.std.proofs.lemmas.List.{drop_all, drop_more}
use Rattle.std.proofs.lemmas.List.Elements.{All-append, All-same}
use Rattle.std.proofs.lemmas.List.Sorted.{sum_by-IsPermutation}
use Rattle.std.proofs.lemmas.List.Sums.{sum_by-append, sum_by-cons}
use Rattle.std.specs.List.{flat_map, sum_by}
use Rattle.iri_ref.specs.Characters.{AllAllowed, is_allowed}
use Rattle.iri_ref.specs.Components.{IsAbsolute}
use Rattle.std.specs.Char.{digit_char}
use Rattle.std.specs.Str.{bytes_eq}
use Rattle.json.specs.Print.{escape, escape_byte, escape_letter, quoted}
use Rattle.json.proofs.Printed.Strings.{escape_byte_plain}
use Rattle.rdf_graph.specs.Size.{saturated}
use Rattle.rdf_graph.specs.declared.term.Term.TheVariants.{Literal}
use Rattle.rdf_graph.specs.declared.triple.Triple.{Triple}
use Rattle.serde_json.specs.Data.{Data, array, string}
use Rattle.serde_json.specs.View.{items_of}
use Rattle.serde_json.specs.Written.{compact_text, items_text, members_text}
use Rattle.jsonld_expanded.specs.Vocabulary.{xsd_string}
use Rattle.jsonld_expanded.specs.Document.{document, document_text, is_type, value_of, key_below, key_of, name_of, named_value, node_object, object_of, properties, same_key, same_subject, string_value, tagged_value, typed_value}
use Rattle.jsonld_expanded.specs.Runs.{runs}
use Rattle.jsonld_expanded.specs.Sorted.{sorted}
use Rattle.jsonld_expanded.specs.Widths.{has_letter, key_width, keys_width, nodes_width, objects_width, quoted_width, width}
use Rattle.jsonld_expanded.specs.Written.{same_key_by_ref}
use Rattle.jsonld_expanded.proofs.Adding.{by_ref, next_runs, no_runs}
use Rattle.jsonld_expanded.proofs.Runs.{first_run, run_elements}
use Rattle.jsonld_expanded.proofs.Sorting.{sorted_moves}
use Rattle.jsonld_expanded.proofs.Walking.{object_as_type}
use denote.Ref.{Bor}

-- ---- strings

above : (c : ℕ) → is_allowed c ≡ true → 32 ≤ c
above c h = grind (arith, nat_tests)

is_plain : (c : ℕ) → is_allowed c ≡ true → escape_byte c ≡ c ∷ []
is_plain c h = escape_byte_plain c (λ e. false≢true (sym (ap is_allowed e) ∙ h)) (λ e. false≢true (sym (ap is_allowed e) ∙ h)) (above c h)

-- an IRI has no escapes
plain : (text : List ℕ) → AllAllowed text → escape text ≡ text
plain [] a = refl
plain (c ∷ cs) a = let p = and_parts (is_allowed c) _ a in ap (λ l. l ++ escape cs) (is_plain c p.0) ∙ ap (λ l. c ∷ l) (plain cs p.1)

pub text_width : (text : List ℕ) → quoted_width text ≡ 2 + length (escape text)
unfolding quoted_width
text_width text = omega (arith, length-append (escape text) (34 ∷ []))

pub iri_width : (iri : List ℕ) → IsAbsolute iri → quoted_width iri ≡ 2 + length iri
iri_width iri a = text_width iri ∙ ap (λ (l : List ℕ). 2 + length l) (plain iri a.allowed)

mark_width : (label : List ℕ) → length (escape (codes "_:" ++ label)) ≡ 2 + length (escape label)
unfolding escape_byte
mark_width label = omega arith

pub blank_width : (label : List ℕ) → quoted_width (codes "_:" ++ label) ≡ 2 + quoted_width label
blank_width label = omega (arith, text_width (codes "_:" ++ label), text_width label, mark_width label)

pub string_width : (text : List ℕ) → width (string text) ≡ quoted_width text
unfolding width quoted_width
string_width text = refl

-- ---- values

one_member : (key text more : List ℕ) → length (quoted key ++ 58 ∷ (quoted text ++ more)) ≡ quoted_width key + (1 + (quoted_width text + length more))
unfolding quoted_width
one_member key text more = omega (arith, length-append (quoted key) (58 ∷ (quoted text ++ more)), length-append (quoted text) more)

keyword : quoted_width (codes "@id") ≡ 5
unfolding quoted_width escape_byte
keyword = refl

value_word : quoted_width (codes "@value") ≡ 8
unfolding quoted_width escape_byte
value_word = refl

pub type_word : quoted_width (codes "@type") ≡ 7
unfolding quoted_width escape_byte
type_word = refl

language_word : quoted_width (codes "@language") ≡ 11
unfolding quoted_width escape_byte
language_word = refl

pub named_width : (name : List ℕ) → width (named_value name) ≡ 8 + quoted_width name
unfolding width
named_width name = omega (arith, one_member (codes "@id") name (125 ∷ []), keyword)

pub plain_width : (lexical : List ℕ) → width (string_value lexical) ≡ 11 + quoted_width lexical
unfolding width
plain_width lexical = omega (arith, one_member (codes "@value") lexical (125 ∷ []), value_word)

pub typed_width : (lexical datatype : List ℕ) → width (typed_value lexical datatype) ≡ 20 + (quoted_width datatype + quoted_width lexical)
unfolding width
typed_width lexical datatype =
    let value = quoted (codes "@value") ++ 58 ∷ (quoted lexical ++ 125 ∷ []) in
    omega (arith, one_member (codes "@type") datatype (44 ∷ value), type_word, one_member (codes "@value") lexical (125 ∷ []), value_word)

pub tagged_width : (lexical lang : List ℕ) → width (tagged_value lexical lang) ≡ 24 + (quoted_width lang + quoted_width lexical)
unfolding width
tagged_width lexical lang =
    let value = quoted (codes "@value") ++ 58 ∷ (quoted lexical ++ 125 ∷ []) in
    omega (arith, one_member (codes "@language") lang (44 ∷ value), language_word, one_member (codes "@value") lexical (125 ∷ []), value_word)

-- ---- arrays and objects

module _ {X : Type 0} (f : X → Data) where
  items_after : (xs : List X) → length (items_text true (items_of (map f xs))) ≡ 1 + sum_by (λ x. 1 + width (f x)) xs
  unfolding width
  items_after [] = refl
  items_after (x ∷ xs) =
      omega (arith, length-append (compact_text (f x)) (items_text true (items_of (map f xs))), items_after xs, sum_by-cons (λ x. 1 + length (compact_text (f x))) x xs)

  pub array_width : (x : X) (xs : List X) → width (array (items_of (map f (x ∷ xs)))) ≡ 1 + sum_by (λ x. 1 + width (f x)) (x ∷ xs)
  unfolding width
  array_width x xs =
      omega (arith, length-append (compact_text (f x)) (items_text true (items_of (map f xs))), items_after xs, sum_by-cons (λ x. 1 + length (compact_text (f x))) x xs)

-- the keys and the objects of the properties
abbrev all_objects : List (List Triple) → ℕ
all_objects rs = sum_by objects_width rs

is_width : (d : Data) → length (compact_text d) ≡ width d
unfolding width
is_width d = refl

property_after : (t : Triple) (ts : List Triple) (more : List ℕ)
    → length (44 ∷ (quoted (key_of t) ++ 58 ∷ (compact_text (array (items_of (map object_of (t ∷ ts)))) ++ more))) ≡ (3 + quoted_width (key_of t)) + (objects_width (t ∷ ts) + length more)
unfolding objects_width quoted_width
property_after t ts more =
    let text = compact_text (array (items_of (map object_of (t ∷ ts)))) in
    let wide : length text ≡ 1 + sum_by (λ x. 1 + width (object_of x)) (t ∷ ts) = is_width (array (items_of (map object_of (t ∷ ts)))) ∙ array_width object_of t ts in
    omega (arith, length-append (quoted (key_of t)) (58 ∷ (text ++ more)), length-append text more, wide)

members_after : (rs : List (List Triple)) → length (members_text true (properties rs)) ≡ 1 + (keys_width rs + all_objects rs)
unfolding keys_width objects_width
members_after [] = refl
members_after ([] ∷ rs) = omega (arith, members_after rs, sum_by-cons key_width [] rs, sum_by-cons objects_width [] rs)
members_after ((t ∷ ts) ∷ rs) =
    omega (arith, property_after t ts (members_text true (properties rs)), members_after rs, sum_by-cons key_width (t ∷ ts) rs, sum_by-cons objects_width (t ∷ ts) rs)

objects_of_runs : (rs : List (List Triple)) → all_objects rs ≡ objects_width (flat_map (λ r. r) rs)
unfolding objects_width
objects_of_runs [] = refl
objects_of_runs (r ∷ rs) =
    sum_by-cons objects_width r rs ∙ ap (λ n. objects_width r + n) (objects_of_runs rs) ∙ sym (sum_by-append (λ t. 1 + width (object_of t)) r (flat_map (λ r. r) rs))

objects_by_key : (ts : List Triple) → all_objects (runs same_key (sorted key_below ts)) ≡ objects_width ts
unfolding objects_width
objects_by_key ts =
    objects_of_runs (runs same_key (sorted key_below ts)) ∙ ap objects_width (run_elements same_key (sorted key_below ts))
    ∙ sum_by-IsPermutation (λ t. 1 + width (object_of t)) ts (sorted key_below ts) (sorted_moves key_below ts)

pub node_width : (ts : List Triple) (d : Triple) → 0 < length ts
    → width (node_object ts) ≡ (8 + quoted_width (name_of (get_or ts 0 d).s)) + (keys_width (runs same_key (sorted key_below ts)) + objects_width ts)
unfolding width
node_width [] d some = absurd (omega (arith, some))
node_width (t ∷ ts) d some =
    let rs = runs same_key (sorted key_below (t ∷ ts)) in
    omega (arith, one_member (codes "@id") (name_of t.s) (members_text true (properties rs)), keyword, members_after rs, objects_by_key (t ∷ ts))

pub no_nodes_width : width (document []) ≡ 2
unfolding width runs
no_nodes_width = refl

some_nodes : (rs : List (List Triple)) (r : List Triple) (more : List (List Triple)) → rs ≡ r ∷ more → width (array (items_of (map node_object rs))) ≡ 1 + nodes_width rs
unfolding nodes_width
some_nodes rs r more e =
    subst (λ (qs : List (List Triple)). width (array (items_of (map node_object qs))) ≡ 1 + sum_by (λ run. 1 + width (node_object run)) qs) (sym e) (array_width node_object r more)

pub document_width : (ts : List Triple) → 0 < length ts → width (document ts) ≡ 1 + nodes_width (runs same_subject ts)
document_width [] some = absurd (omega (arith, some))
document_width (t ∷ ts) some = let f = first_run same_subject t ts in some_nodes (runs same_subject (t ∷ ts)) (t ∷ f.run) f.more f.is

pub text_length : (ts : List Triple) → length (document_text ts) ≡ width (document ts)
unfolding width
text_length ts = refl

-- ---- for the code's cases

letter_is : (b : ℕ) → nat_lt 0 (escape_letter b) ≡ has_letter b
letter_is b = grind (arith, nat_tests)

abbrev by_letter : ℕ → Bool → List ℕ
by_letter b t = cond t (92 ∷ escape_letter b ∷ []) (cond (nat_lt b 32) (92 ∷ 117 ∷ 48 ∷ 48 ∷ digit_char (b / 16) ∷ digit_char (b % 16) ∷ []) (b ∷ []))

by_cases : (b : ℕ) (t : Bool) → has_letter b ≡ t → escape_byte b ≡ by_letter b t
unfolding escape_byte
by_cases b t e = ap (by_letter b) (letter_is b ∙ e)

pub letter_width : (b : ℕ) → has_letter b ≡ true → length (escape_byte b) ≡ 2
letter_width b e = ap (λ (l : List ℕ). length l) (by_cases b true e)

abbrev control_or_other : Bool → ℕ
control_or_other true = 6
control_or_other false = 1

control_width : (b : ℕ) → has_letter b ≡ false → length (escape_byte b) ≡ control_or_other (nat_lt b 32)
control_width b e = ap (λ (l : List ℕ). length l) (by_cases b false e) ∙ by_test (nat_lt b 32)
  where
    by_test : (t : Bool) → length (cond t (92 ∷ 117 ∷ 48 ∷ 48 ∷ digit_char (b / 16) ∷ digit_char (b % 16) ∷ []) (b ∷ [])) ≡ control_or_other t
    by_test true = refl
    by_test false = refl

six : (b : ℕ) → b < 32 → control_or_other (nat_lt b 32) ≡ 6
six b h = grind (arith, nat_tests)

one : (b : ℕ) → 32 ≤ b → control_or_other (nat_lt b 32) ≡ 1
one b h = grind (arith, nat_tests)

pub escaped_control_width : (b : ℕ) → has_letter b ≡ false → b < 32 → length (escape_byte b) ≡ 6
escaped_control_width b e h = control_width b e ∙ six b h

pub other_width : (b : ℕ) → has_letter b ≡ false → 32 ≤ b → length (escape_byte b) ≡ 1
other_width b e h = control_width b e ∙ one b h

pub no_text_width : quoted_width (codes "") ≡ 2
unfolding quoted_width
no_text_width = refl

pub plain_literal : (lexical datatype : List ℕ) → bytes_eq datatype xsd_string ≡ true → width (value_of (Literal lexical datatype)) ≡ 11 + quoted_width lexical
plain_literal lexical datatype e = ap (λ t. width (cond t (string_value lexical) (typed_value lexical datatype))) e ∙ plain_width lexical

pub typed_literal : (lexical datatype : List ℕ) → bytes_eq datatype xsd_string ≡ false → width (value_of (Literal lexical datatype)) ≡ 20 + (quoted_width datatype + quoted_width lexical)
typed_literal lexical datatype e = ap (λ t. width (cond t (string_value lexical) (typed_value lexical datatype))) e ∙ typed_width lexical datatype

pub type_object : (t : Triple) → is_type t ≡ true → width (object_of t) ≡ quoted_width (name_of t.o)
type_object t e = ap width (object_as_type t e) ∙ string_width (name_of t.o)

-- ---- loops

-- of some lengths these are left
pub record HasLeftLen (len : ℕ) (left whole : ℕ) : Type 0 where
  pub done : ℕ
  pub is : len ≡ saturated done
  pub rest : done + left ≡ whole

pub none_done : (len whole : ℕ) → len ≡ saturated 0 → HasLeftLen len whole whole
none_done len whole e = record { done = 0; is = e; rest = omega arith }

pub more_done : (a b n left left' whole : ℕ) → left ≡ n + left' → HasLeftLen a left whole → ((m : ℕ) → a ≡ saturated m → b ≡ saturated (m + n)) → HasLeftLen b left' whole
more_done a b n left left' whole e h f = record { done = h.done + n; is = f h.done h.is; rest = omega (arith, e, h.rest) }

pub all_done : (len left whole : ℕ) → left ≡ 0 → HasLeftLen len left whole → len ≡ saturated whole
all_done len left whole e h = h.is ∙ ap saturated (omega (arith, e, h.rest))

pub next_key : (xs : List (Bor Triple)) (at n : ℕ) (rest : List (Bor Triple)) (r : Bor Triple) → rest ≡ drop at xs → at < length xs → 0 < n → r ≡ get_or xs at r
    → runs same_key_by_ref rest ≡ take n rest ∷ runs same_key_by_ref (drop n rest)
    → keys_width (by_ref (runs same_key_by_ref (drop at xs))) ≡ (3 + quoted_width (key_of r.now)) + keys_width (by_ref (runs same_key_by_ref (drop (at + n) xs)))
unfolding keys_width
next_key xs at n rest r e l some is h =
    ap (λ (rs : List (List (Bor Triple))). sum_by key_width (by_ref rs)) (next_runs same_key_by_ref xs at n rest e h)
    ∙ sum_by-cons key_width (map (λ (q : Bor Triple). q.now) (take n rest)) (by_ref (runs same_key_by_ref (drop (at + n) xs)))
    ∙ ap (λ (k : ℕ). k + sum_by key_width (by_ref (runs same_key_by_ref (drop (at + n) xs)))) (first_key n rest r some (e ∙ drop_more xs at r l ∙ ap (λ (q : Bor Triple). q ∷ drop (at + 1) xs) (sym is)))
  where
    first_key : (n : ℕ) (rest : List (Bor Triple)) (r : Bor Triple) {more : List (Bor Triple)} → 0 < n → rest ≡ r ∷ more → key_width (map (λ (q : Bor Triple). q.now) (take n rest)) ≡ 3 + quoted_width (key_of r.now)
    first_key zero rest r some e = absurd (omega (arith, some))
    first_key (suc n) rest r some e = ap (λ (l : List (Bor Triple)). key_width (map (λ (q : Bor Triple). q.now) (take (suc n) l))) e

pub no_key : (xs : List (Bor Triple)) (at : ℕ) → length xs ≤ at → keys_width (by_ref (runs same_key_by_ref (drop at xs))) ≡ 0
unfolding keys_width
no_key xs at l = ap (λ (rs : List (List (Bor Triple))). sum_by key_width (by_ref rs)) (no_runs same_key_by_ref xs at l)

pub next_node_width : (xs : List Triple) (at n : ℕ) (rest : List Triple) → rest ≡ drop at xs → runs same_subject rest ≡ take n rest ∷ runs same_subject (drop n rest)
    → nodes_width (runs same_subject (drop at xs)) ≡ (1 + width (node_object (take n rest))) + nodes_width (runs same_subject (drop (at + n) xs))
unfolding nodes_width
next_node_width xs at n rest e h =
    ap (sum_by (λ run. 1 + width (node_object run))) (next_runs same_subject xs at n rest e h)
    ∙ sum_by-cons (λ run. 1 + width (node_object run)) (take n rest) (runs same_subject (drop (at + n) xs))

pub no_node_width : (xs : List Triple) (at : ℕ) → length xs ≤ at → nodes_width (runs same_subject (drop at xs)) ≡ 0
unfolding nodes_width
no_node_width xs at l = ap (sum_by (λ run. 1 + width (node_object run))) (no_runs same_subject xs at l)

pub next_object : (xs : List Triple) (i : ℕ) (x : Triple) → i < length xs → x ≡ get_or xs i x → objects_width (drop i xs) ≡ (1 + width (object_of x)) + objects_width (drop (i + 1) xs)
unfolding objects_width
next_object xs i x l is =
    ap (sum_by (λ t. 1 + width (object_of t))) (drop_more xs i x l ∙ ap (λ (y : Triple). y ∷ drop (i + 1) xs) (sym is))
    ∙ sum_by-cons (λ t. 1 + width (object_of t)) x (drop (i + 1) xs)

pub no_object : (xs : List Triple) (i : ℕ) → length xs ≤ i → objects_width (drop i xs) ≡ 0
unfolding objects_width
no_object xs i l = ap (sum_by (λ t. 1 + width (object_of t))) (drop_all i xs l)

pub empty_text : (ts : List Triple) → length ts ≡ 0 → length (document_text ts) ≡ 2
empty_text [] e = text_length [] ∙ no_nodes_width
empty_text (t ∷ ts) e = absurd (omega (arith, e))

pub some_text : (ts : List Triple) → 0 < length ts → length (document_text ts) ≡ 1 + nodes_width (runs same_subject ts)
some_text ts some = text_length ts ∙ document_width ts some

take_nil : (X : Type 0) (n : ℕ) → take {A = X} n [] ≡ []
take_nil X zero = refl
take_nil X (suc n) = refl

take_both : (X : Type 0) (xs : List X) (at n : ℕ) → take (at + n) xs ≡ take at xs ++ take n (drop at xs)
take_both X xs zero n = ap (λ (m : ℕ). take m xs) (omega arith)
take_both X [] (suc at) n = take_nil X (suc at + n) ∙ sym (take_nil X n)
take_both X (x ∷ xs) (suc at) n =
    let m : suc at + n ≡ suc (at + n) = omega arith in
    ap (λ (k : ℕ). take k (x ∷ xs)) m ∙ ap (λ (l : List X). x ∷ l) (take_both X xs at n)

-- what holds of the first elements and of those after them
pub all_further : {X : Type 0} (P : X → Type 0) (xs : List X) (at n : ℕ) (rest : List X) → rest ≡ drop at xs → All P (take at xs) → All P (take n rest) → All P (take (at + n) xs)
all_further {X} P xs at n rest e a b =
    All-same P (take (at + n) xs) (take at xs ++ take n rest) (take_both X xs at n ∙ ap (λ (l : List X). take at xs ++ take n l) (sym e)) (All-append P (take at xs) (take n rest) a b)

pub is_none : (n : ℕ) (b : Bool) → b ≡ (n == 0) → b ≡ true → n ≡ 0
is_none n b e t = grind (arith, nat_tests)

pub is_some_length : (n : ℕ) (b : Bool) → b ≡ (n == 0) → b ≡ false → 0 < n
is_some_length n b e t = grind (arith, nat_tests)
