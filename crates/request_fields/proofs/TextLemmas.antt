-- Texts: what is before a byte, quotes at an end, printable bytes.
use Rattle.std.proofs.Common.{◌≡◌, ℕ, ◌<◌, Bool, true, false, cond, ltb, ◌&&◌, ◌==◌, nat_le, nat_lt, List, [], ◌∷◌, ◌++◌, take, length, slice_index_or, Option, Some, None, bytes_eq, refl, sym, ap, subst, ◌∙◌, arith}
use Rattle.std.specs.List.{All, AllPass, position, position_or_len, before_first, list_all}
use Rattle.std.specs.Option.{option_and_then}
use Rattle.std.specs.Str.{IsUtf8}
use Rattle.std.proofs.lemmas.Bool.{ltb-false}
use Rattle.std.proofs.lemmas.Bool.Decides.{nat_tests}
use Rattle.std.proofs.lemmas.List.{take_all}
use Rattle.std.proofs.lemmas.List.Sums.{AllPass-from_list_all}
use Rattle.std.proofs.lemmas.Str.{IsUtf8-from_ascii}
use Rattle.std.proofs.lemmas.Str.Ascii.{IsAscii-from_all}
use Rattle.httparse.specs.Grammar.{trim_ows}
use Rattle.request_fields.specs.ContentTypes.{is_printable, is_content_type, type_text}
use Rattle.request_fields.specs.declared.content_types.TheConstants.{CONTENT_TYPE_LIMIT}

pub position_some : (p : ℕ → Bool) (xs : List ℕ) (at : ℕ) → position p xs ≡ Some at → take at xs ≡ before_first p xs
position_some p xs at e = by_test (ltb (position_or_len p xs) (length xs)) e
  where
    by_test : (b : Bool) → cond b (Some (position_or_len p xs)) None ≡ Some at → take at xs ≡ take (position_or_len p xs) xs
    by_test true e = let same : position_or_len p xs ≡ at = cc in ap (λ n. take n xs) (sym same)
    by_test false e = cc

pub position_none : (p : ℕ → Bool) (xs : List ℕ) → position p xs ≡ None → xs ≡ before_first p xs
position_none p xs e = by_test _ refl e
  where
    by_test : (b : Bool) → ltb (position_or_len p xs) (length xs) ≡ b → cond b (Some (position_or_len p xs)) None ≡ None → xs ≡ take (position_or_len p xs) xs
    by_test true h e = cc
    by_test false h e = sym (take_all (position_or_len p xs) xs (ltb-false _ _ h))

and-false : (a b : Bool) → (a && false) ≡ (b && false)
and-false true true = refl
and-false true false = refl
and-false false true = refl
and-false false false = refl

and-swap : (a b c : Bool) → (a && (b && c)) ≡ (b && (a && c))
and-swap true b c = refl
and-swap false true c = refl
and-swap false false c = refl

nil-differs : (tag : List ℕ) (q : ℕ) → bytes_eq [] (tag ++ q ∷ []) ≡ false
nil-differs [] q = refl
nil-differs (t ∷ tag) q = refl

differs-nil : (rest : List ℕ) (q : ℕ) → bytes_eq (rest ++ q ∷ []) [] ≡ false
differs-nil [] q = refl
differs-nil (r ∷ rest) q = refl

-- texts with a last byte are equal where the last bytes and what is before them are
pub equal-last : (rest tag : List ℕ) (last q : ℕ) → bytes_eq (rest ++ last ∷ []) (tag ++ q ∷ []) ≡ ((last == q) && bytes_eq rest tag)
equal-last [] [] last q = refl
equal-last [] (t ∷ tag) last q = ap (λ e. (last == t) && e) (nil-differs tag q) ∙ and-false (last == t) (last == q)
equal-last (r ∷ rest) [] last q = ap (λ e. (r == q) && e) (differs-nil rest last) ∙ and-false (r == q) (last == q)
equal-last (r ∷ rest) (t ∷ tag) last q = ap (λ e. (r == t) && e) (equal-last rest tag last q) ∙ and-swap (r == t) (last == q) (bytes_eq rest tag)

printable-small : (b : ℕ) → is_printable b ≡ true → b < 128
printable-small b holds = grind (arith, nat_tests)

and-both : (a b c : Bool) → (a && (b && c)) ≡ true → c ≡ true
and-both true true c holds = holds
and-both true false c holds = cc
and-both false b c holds = cc

content-utf8 : (text : List ℕ) → is_content_type text ≡ true → IsUtf8 text
content-utf8 text holds =
    let each : AllPass is_printable text = AllPass-from_list_all is_printable text (and-both (nat_lt 0 (length text)) (nat_le (length text) CONTENT_TYPE_LIMIT) (list_all is_printable text) holds) in
    let small : All (λ b. b < 128) text = λ k d within. printable-small (slice_index_or text k d) (each k d within) in
    IsUtf8-from_ascii text (IsAscii-from_all text small)

-- a content type is text
pub type-utf8 : (value : Option (List ℕ)) (text : List ℕ) → Some text ≡ option_and_then type_text value → IsUtf8 text
type-utf8 None text is = cc
type-utf8 (Some value) text is = step (is_content_type (trim_ows value)) refl is
  where
    step : (b : Bool) → is_content_type (trim_ows value) ≡ b → Some text ≡ cond b (Some (trim_ows value)) None → IsUtf8 text
    step true holds is = let same : trim_ows value ≡ text = cc in subst IsUtf8 same (content-utf8 (trim_ows value) holds)
    step false fails is = cc
