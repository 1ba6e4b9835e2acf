-- What is written of a term has the term's value.
use Rattle.std.proofs.Common.{◌≡◌, ℕ, ◌+◌, ◌-◌, Bool, true, false, cond, not, ◌&&◌, ◌==◌, List, [], ◌∷◌, ◌++◌, length, take, refl, sym, ap, ◌∙◌, arith, append_assoc, length-append, IsTrue}
use Rattle.std.specs.List.{list_all}
use Rattle.std.proofs.lemmas.Bool.{false≢true}
use Rattle.std.proofs.lemmas.Bool.Decides.{nat_tests}
use Rattle.std.proofs.lemmas.List.{drop_at, take_at}
use Rattle.iri_ref.specs.Characters.{AllAllowed, Lacks, is_allowed}
use Rattle.rdf_graph.specs.Term.{escaped, escaped_byte}
use Rattle.turtle_terms.specs.Escapes.{decoded_from, decoded}
use Rattle.turtle_terms.specs.Laws.{ReferenceIsRead, StringIsRead}
use Rattle.turtle_terms.specs.Values.{without_ends, quote_count, is_backslash}
use Rattle.turtle_terms.proofs.Decoding.{plain_byte, plain_value, decoded_nothing, and_first, and_second}
use Rattle.turtle_terms.proofs.Delimiters.{one_counted}

-- what stands between delimiters
between : (n : ℕ) (start content end : List ℕ) → length start ≡ n → length end ≡ n → without_ends n (start ++ (content ++ end)) ≡ content
between n start content end p q =
    let text = start ++ (content ++ end) in
    let len : length text ≡ length start + (length content + length end) =
    length-append start (content ++ end) ∙ ap (λ (m : ℕ). length start + m) (length-append content end) in
    let size : length content ≡ length text - (n + n) = omega arith in
    ap (take (length text - (n + n))) (drop_at start (content ++ end) n p) ∙ take_at content end (length text - (n + n)) size

-- an IRI has no backslash
no_backslash : (b : ℕ) → IsTrue (is_allowed b) → (b == 92) ≡ false
no_backslash b h = grind (arith, nat_tests)

allowed_lacks : (text : List ℕ) → AllAllowed text → Lacks is_backslash text
allowed_lacks [] h = refl
allowed_lacks (b ∷ text) h = both (b == 92) (list_all (λ c. not (is_backslash c)) text)
    (no_backslash b (and_first (is_allowed b) (list_all is_allowed text) h))
    (allowed_lacks text (and_second (is_allowed b) (list_all is_allowed text) h))
  where
    both : (x y : Bool) → x ≡ false → IsTrue y → IsTrue (not x && y)
    both false y p q = q
    both true y p q = absurd (false≢true (sym p))

pub reference_is_read : ReferenceIsRead
reference_is_read iri h = ap decoded (between 1 (60 ∷ []) iri (62 ∷ []) refl refl) ∙ plain_value iri (allowed_lacks iri h)

-- a byte is read back from its escape
same_byte : (a b : ℕ) → (a == b) ≡ true → a ≡ b
same_byte a b h = grind (arith, nat_tests)

abbrev escape_of : ℕ → Bool → Bool → Bool → Bool → List ℕ
escape_of b p q r s = cond p (92 ∷ 92 ∷ []) (cond q (92 ∷ 34 ∷ []) (cond r (92 ∷ 110 ∷ []) (cond s (92 ∷ 114 ∷ []) (b ∷ []))))

byte_is_read : (b : ℕ) (rest : List ℕ) (p q r s : Bool) → (b == 92) ≡ p → (b == 34) ≡ q → (b == 10) ≡ r → (b == 13) ≡ s
    → decoded (escape_of b p q r s ++ rest) ≡ b ∷ decoded rest
unfolding decoded_from
byte_is_read b rest true q r s is_p is_q is_r is_s = ap (λ (c : ℕ). c ∷ decoded rest) (sym (same_byte b 92 is_p))
byte_is_read b rest false true r s is_p is_q is_r is_s = ap (λ (c : ℕ). c ∷ decoded rest) (sym (same_byte b 34 is_q))
byte_is_read b rest false false true s is_p is_q is_r is_s = ap (λ (c : ℕ). c ∷ decoded rest) (sym (same_byte b 10 is_r))
byte_is_read b rest false false false true is_p is_q is_r is_s = ap (λ (c : ℕ). c ∷ decoded rest) (sym (same_byte b 13 is_s))
byte_is_read b rest false false false false is_p is_q is_r is_s = plain_byte b rest (decoded rest) (b == 92) is_p refl

escaped_is_read : (bytes : List ℕ) → decoded (escaped bytes) ≡ bytes
escaped_is_read [] = decoded_nothing
escaped_is_read (b ∷ bytes) =
    byte_is_read b (escaped bytes) (b == 92) (b == 34) (b == 10) (b == 13) refl refl refl refl ∙ ap (λ (t : List ℕ). b ∷ t) (escaped_is_read bytes)

-- an escaped text doesn't begin with a quote
heads : (a b : ℕ) (s r : List ℕ) → a ∷ s ≡ b ∷ r → a ≡ b
heads a b s r e = cc

no_quote_first : (b : ℕ) (rest m : List ℕ) (p q r s : Bool) → (b == 34) ≡ q → escape_of b p q r s ++ rest ≡ 34 ∷ m → ⊥
no_quote_first b rest m true q r s is_q e = let same = heads 92 34 (92 ∷ rest) m e in omega arith
no_quote_first b rest m false true r s is_q e = let same = heads 92 34 (34 ∷ rest) m e in omega arith
no_quote_first b rest m false false true s is_q e = let same = heads 92 34 (110 ∷ rest) m e in omega arith
no_quote_first b rest m false false false true is_q e = let same = heads 92 34 (114 ∷ rest) m e in omega arith
no_quote_first b rest m false false false false is_q e = other b is_q (heads b 34 rest m e)
  where
    other : (b : ℕ) → (b == 34) ≡ false → b ≡ 34 → ⊥
    other b h e = grind (arith, nat_tests)

tails : (a b : ℕ) (s r : List ℕ) → a ∷ s ≡ b ∷ r → s ≡ r
tails a b s r e = cc

counted_once : (lexical : List ℕ) → quote_count (34 ∷ (escaped lexical ++ 34 ∷ [])) ≡ 1
counted_once [] = refl
counted_once (b ∷ lexical) =
    let rest = escaped lexical ++ 34 ∷ [] in
    let whole : escaped (b ∷ lexical) ++ 34 ∷ [] ≡ escaped_byte b ++ rest = append_assoc (escaped_byte b) (escaped lexical) (34 ∷ []) in
    ap (λ (t : List ℕ). quote_count (34 ∷ t)) whole
    ∙ one_counted 34 (escaped_byte b ++ rest) (λ m e.
    no_quote_first b rest (34 ∷ m) (b == 92) (b == 34) (b == 10) (b == 13) refl (tails 34 34 (escaped_byte b ++ rest) (34 ∷ 34 ∷ m) e))

pub string_is_read : StringIsRead
string_is_read lexical =
    ap (λ (n : ℕ). decoded (without_ends n (34 ∷ (escaped lexical ++ 34 ∷ [])))) (counted_once lexical)
    ∙ ap decoded (between 1 (34 ∷ []) (escaped lexical) (34 ∷ []) refl refl) ∙ escaped_is_read lexical
