-- Comparisons of texts piece by piece.
use Rattle.std.proofs.Common.{ℕ, ◌≡◌, ◌≢◌, ◌-◌, true, List, [], ◌∷◌, ◌++◌, length, min, take, drop, refl, sym, ap, ◌∙◌, subst, arith, append_assoc, codes}
use Rattle.std.specs.Prelude.{IfSome, Option, None, Some}
use Rattle.std.proofs.Math.Seq.{take-length}
use Rattle.std.proofs.lemmas.List.{length-drop, length-take-le, take-append-drop}
use Rattle.std.proofs.lemmas.Cmp.{nat_list_cmp_total, tied_itself}
use Rattle.std.specs.Ordering.{nat_cmp, ordering_then}
use Rattle.std.specs.declared.cmp.Ordering.{Ordering}
use Rattle.std.specs.declared.cmp.Ordering.TheVariants.{Equal, Less, Greater}
use Rattle.rdf_graph.specs.LineOrder.{DecidesOrder, first_or}
use Rattle.rdf_graph.specs.Term.{text, term_eq}
use Rattle.rdf_graph.specs.TermLaws.{term_eq_decides}
use Rattle.rdf_graph.specs.Triple.{bytes_cmp}
use Rattle.rdf_graph.specs.declared.term.Term.{Term}
use Rattle.rdf_graph.specs.declared.term.Term.TheVariants.{Iri, Blank}

then_assoc : (p q r : Ordering) → ordering_then p (ordering_then q r) ≡ ordering_then (ordering_then p q) r
then_assoc Less q r = refl
then_assoc Equal q r = refl
then_assoc Greater q r = refl

-- what isn't `Equal` decides
decided : (o a b : Ordering) → o ≢ Equal → ordering_then o a ≡ ordering_then o b
decided Less a b n = refl
decided Equal a b n = absurd (n refl)
decided Greater a b n = refl

-- prefixes of one length decide before what follows them
pub cmp_joined : (xs ys us vs : List ℕ) → length xs ≡ length ys → bytes_cmp (xs ++ us) (ys ++ vs) ≡ ordering_then (bytes_cmp xs ys) (bytes_cmp us vs)
cmp_joined [] [] us vs e = refl
cmp_joined [] (y ∷ ys) us vs e = absurd (omega (arith, e))
cmp_joined (x ∷ xs) [] us vs e = absurd (omega (arith, e))
cmp_joined (x ∷ xs) (y ∷ ys) us vs e =
    ap (λ r. ordering_then (nat_cmp x y) r) (cmp_joined xs ys us vs (omega (arith, e))) ∙ then_assoc (nat_cmp x y) (bytes_cmp xs ys) (bytes_cmp us vs)

-- after one prefix what follows it decides
pub cmp_same : (ws us vs : List ℕ) → bytes_cmp (ws ++ us) (ws ++ vs) ≡ bytes_cmp us vs
cmp_same ws us vs = cmp_joined ws ws us vs refl ∙ ap (λ r. ordering_then r (bytes_cmp us vs)) (tied_itself nat_list_cmp_total ws)

-- different prefixes of one length decide the order of all that begin with them
pub decides_apart : (mark : ℕ) (xs ys us vs : List ℕ) (o : Ordering) → length xs ≡ length ys → o ≡ bytes_cmp xs ys → o ≢ Equal → DecidesOrder mark (xs ++ us) (ys ++ vs) o
decides_apart mark xs ys us vs o e is n = record {
  whole = λ ps qs.
      ap (λ z. bytes_cmp z ((ys ++ vs) ++ (mark ∷ qs))) (append_assoc xs us (mark ∷ ps))
      ∙ ap (λ z. bytes_cmp (xs ++ (us ++ (mark ∷ ps))) z) (append_assoc ys vs (mark ∷ qs))
      ∙ cmp_joined xs ys (us ++ (mark ∷ ps)) (vs ++ (mark ∷ qs)) e
      ∙ ap (λ r. ordering_then r (bytes_cmp (us ++ (mark ∷ ps)) (vs ++ (mark ∷ qs)))) (sym is)
      ∙ decided o (bytes_cmp (us ++ (mark ∷ ps)) (vs ++ (mark ∷ qs))) (bytes_cmp ps qs) n;
}

-- after equal prefixes the rest decides
pub decides_behind : (mark : ℕ) (xs ys us vs : List ℕ) (o : Ordering) → length xs ≡ length ys → Equal ≡ bytes_cmp xs ys → DecidesOrder mark us vs o → DecidesOrder mark (xs ++ us) (ys ++ vs) o
decides_behind mark xs ys us vs o e is r = record {
  whole = λ ps qs.
      ap (λ z. bytes_cmp z ((ys ++ vs) ++ (mark ∷ qs))) (append_assoc xs us (mark ∷ ps))
      ∙ ap (λ z. bytes_cmp (xs ++ (us ++ (mark ∷ ps))) z) (append_assoc ys vs (mark ∷ qs))
      ∙ cmp_joined xs ys (us ++ (mark ∷ ps)) (vs ++ (mark ∷ qs)) e
      ∙ ap (λ c. ordering_then c (bytes_cmp (us ++ (mark ∷ ps)) (vs ++ (mark ∷ qs)))) (sym is)
      ∙ r.whole ps qs;
}

-- one text ranks as itself
pub decides_same : (mark : ℕ) (xs ys : List ℕ) → xs ≡ ys → DecidesOrder mark xs ys Equal
decides_same mark xs ys e = subst (λ zs. DecidesOrder mark xs zs Equal) e (record { whole = λ us vs. cmp_same xs (mark ∷ us) (mark ∷ vs) ∙ cmp_same (mark ∷ []) us vs })

-- first bytes that differ rank all that begin with them
pub decides_first : (mark : ℕ) (xs ys : List ℕ) (o : Ordering) → o ≡ nat_cmp (first_or mark xs) (first_or mark ys) → o ≢ Equal → DecidesOrder mark xs ys o
decides_first mark [] [] o is n = record { whole = λ us vs. ap (λ r. ordering_then r (bytes_cmp us vs)) (sym is) }
decides_first mark [] (y ∷ ys) o is n = record { whole = λ us vs. ap (λ r. ordering_then r (bytes_cmp us (ys ++ (mark ∷ vs)))) (sym is) ∙ decided o _ _ n }
decides_first mark (x ∷ xs) [] o is n = record { whole = λ us vs. ap (λ r. ordering_then r (bytes_cmp (xs ++ (mark ∷ us)) vs)) (sym is) ∙ decided o _ _ n }
decides_first mark (x ∷ xs) (y ∷ ys) o is n = record { whole = λ us vs. ap (λ r. ordering_then r (bytes_cmp (xs ++ (mark ∷ us)) (ys ++ (mark ∷ vs)))) (sym is) ∙ decided o _ _ n }

even : (n : ℕ) (xs ys : List ℕ) → n ≡ min (length xs) (length ys) → length (take n xs) ≡ length (take n ys)
even n xs ys e = length-take-le n xs (omega (arith, e)) ∙ sym (length-take-le n ys (omega (arith, e)))

-- prefixes as long as the shorter text decide where they differ
pub decides_apart-cut : (mark n : ℕ) (xs ys : List ℕ) (o : Ordering) → n ≡ min (length xs) (length ys) → o ≡ bytes_cmp (take n xs) (take n ys) → o ≢ Equal → DecidesOrder mark xs ys o
decides_apart-cut mark n xs ys o e is differ =
    subst (λ zs. DecidesOrder mark zs ys o) (take-append-drop n xs)
    (subst (λ zs. DecidesOrder mark (take n xs ++ drop n xs) zs o) (take-append-drop n ys)
    (decides_apart mark (take n xs) (take n ys) (drop n xs) (drop n ys) o (even n xs ys e) is differ))

rest_whole : (n : ℕ) (xs : List ℕ) → take (length xs - n) (drop n xs) ≡ drop n xs
rest_whole n xs = ap (λ m. take m (drop n xs)) (sym (length-drop n xs)) ∙ take-length (drop n xs)

-- where these prefixes are equal, what follows them decides
pub decides_behind-cut : (mark n : ℕ) (xs ys : List ℕ) (found : Option Ordering) → n ≡ min (length xs) (length ys) → Equal ≡ bytes_cmp (take n xs) (take n ys) → IfSome found (DecidesOrder mark (take (length xs - n) (drop n xs)) (take (length ys - n) (drop n ys))) → IfSome found (DecidesOrder mark xs ys)
decides_behind-cut mark n xs ys None e is r = r
decides_behind-cut mark n xs ys (Some o) e is r =
    subst (λ zs. DecidesOrder mark zs ys o) (take-append-drop n xs)
    (subst (λ zs. DecidesOrder mark (take n xs ++ drop n xs) zs o) (take-append-drop n ys)
    (decides_behind mark (take n xs) (take n ys) (drop n xs) (drop n ys) o (even n xs ys e) is
    (subst (λ zs. DecidesOrder mark zs (drop n ys) o) (rest_whole n xs) (subst (λ zs. DecidesOrder mark (take (length xs - n) (drop n xs)) zs o) (rest_whole n ys) r))))

-- a common prefix doesn't matter
decides_shared : (mark : ℕ) (ws xs ys : List ℕ) (o : Ordering) → DecidesOrder mark xs ys o → DecidesOrder mark (ws ++ xs) (ws ++ ys) o
decides_shared mark ws xs ys o r = decides_behind mark ws ws xs ys o refl (sym (tied_itself nat_list_cmp_total ws)) r

-- the mark itself may be in the texts, followed by another one
decides_closed : (mark next : ℕ) (xs ys : List ℕ) (o : Ordering) → DecidesOrder mark xs ys o → DecidesOrder next (xs ++ (mark ∷ [])) (ys ++ (mark ∷ [])) o
decides_closed mark next xs ys o r = record {
  whole = λ ps qs.
      ap (λ z. bytes_cmp z ((ys ++ (mark ∷ [])) ++ (next ∷ qs))) (append_assoc xs (mark ∷ []) (next ∷ ps))
      ∙ ap (λ z. bytes_cmp (xs ++ (mark ∷ next ∷ ps)) z) (append_assoc ys (mark ∷ []) (next ∷ qs))
      ∙ r.whole (next ∷ ps) (next ∷ qs)
      ∙ ap (λ c. ordering_then o c) (cmp_same (next ∷ []) ps qs);
}

-- the texts of IRIs, and of blank nodes
iris_rank : (xs ys : List ℕ) (found : Option Ordering) → IfSome found (DecidesOrder 62 xs ys) → IfSome found (DecidesOrder 32 (text (Iri xs)) (text (Iri ys)))
unfolding text
iris_rank xs ys None r = r
iris_rank xs ys (Some o) r = decides_shared 32 (codes "<") (xs ++ codes ">") (ys ++ codes ">") o (decides_closed 62 32 xs ys o r)

then_equal : (o : Ordering) → ordering_then o Equal ≡ o
then_equal Less = refl
then_equal Equal = refl
then_equal Greater = refl

iris_order : (xs ys : List ℕ) (found : Option Ordering) → IfSome found (DecidesOrder 62 xs ys) → IfSome found (λ o. o ≡ bytes_cmp (text (Iri xs)) (text (Iri ys)))
unfolding text
iris_order xs ys None r = r
iris_order xs ys (Some o) r = sym (cmp_same (codes "<") (xs ++ codes ">") (ys ++ codes ">") ∙ r.whole [] [] ∙ then_equal o)

-- closed by the mark of IRIs, two of them are in the order of their texts
pub orders_iris : (a b : Term) (xs ys : List ℕ) (found : Option Ordering) → Iri xs ≡ a → Iri ys ≡ b → IfSome found (DecidesOrder 62 xs ys)
    → IfSome found (λ o. o ≡ bytes_cmp (text a) (text b))
orders_iris a b xs ys found d e r =
    subst (λ t. IfSome found (λ o. o ≡ bytes_cmp (text t) (text b))) d (subst (λ t. IfSome found (λ o. o ≡ bytes_cmp (text (Iri xs)) (text t))) e (iris_order xs ys found r))

pub decides_iris : (a b : Term) (xs ys : List ℕ) (found : Option Ordering) → Iri xs ≡ a → Iri ys ≡ b → IfSome found (DecidesOrder 62 xs ys) → IfSome found (DecidesOrder 32 (text a) (text b))
decides_iris a b xs ys found d e r =
    subst (λ t. IfSome found (DecidesOrder 32 (text t) (text b))) d (subst (λ t. IfSome found (DecidesOrder 32 (text (Iri xs)) (text t))) e (iris_rank xs ys found r))

blanks_rank : (xs ys : List ℕ) (found : Option Ordering) → IfSome found (DecidesOrder 32 xs ys) → IfSome found (DecidesOrder 32 (text (Blank xs)) (text (Blank ys)))
unfolding text
blanks_rank xs ys None r = r
blanks_rank xs ys (Some o) r = decides_shared 32 (codes "_:") xs ys o r

pub decides_blanks : (a b : Term) (xs ys : List ℕ) (found : Option Ordering) → Blank xs ≡ a → Blank ys ≡ b → IfSome found (DecidesOrder 32 xs ys) → IfSome found (DecidesOrder 32 (text a) (text b))
decides_blanks a b xs ys found d e r =
    subst (λ t. IfSome found (DecidesOrder 32 (text t) (text b))) d (subst (λ t. IfSome found (DecidesOrder 32 (text (Blank xs)) (text t))) e (blanks_rank xs ys found r))

-- terms that are one
pub decides_equal : (a b : Term) → term_eq a b ≡ true → DecidesOrder 32 (text a) (text b) Equal
decides_equal a b h = decides_same 32 (text a) (text b) (ap text ((term_eq_decides a b).0 h))

-- the texts of terms that are one
pub texts_same : (a b : Term) → term_eq a b ≡ true → Equal ≡ bytes_cmp (text a) (text b)
texts_same a b h = sym (tied_itself nat_list_cmp_total (text a)) ∙ ap (λ t. bytes_cmp (text a) (text t)) ((term_eq_decides a b).0 h)
