-- How a line compares with those of a subject, by the two subjects alone.
use Rattle.std.proofs.Common.{ℕ, ◌≡◌, List, [], ◌∷◌, ◌++◌, length, drop, refl, sym, ap, ◌∙◌, append_assoc, codes}
use Rattle.std.specs.Ordering.{nat_cmp, ordering_then}
use Rattle.std.specs.declared.cmp.Ordering.{Ordering}
use Rattle.std.specs.declared.cmp.Ordering.TheVariants.{Equal, Less, Greater}
use Rattle.std.proofs.lemmas.Cmp.{nat_list_cmp_total, tied_itself}
use Rattle.rdf_graph.specs.LineOrder.{DecidesOrder}
use Rattle.rdf_graph.specs.Term.{text}
use Rattle.rdf_graph.specs.Triple.{prefix_cmp, bytes_cmp, line, subject_prefix}
use Rattle.rdf_graph.specs.declared.term.Term.{Term}
use Rattle.rdf_graph.specs.declared.triple.Triple.{Triple}

then_assoc : (p q r : Ordering) → ordering_then p (ordering_then q r) ≡ ordering_then (ordering_then p q) r
then_assoc Less q r = refl
then_assoc Equal q r = refl
then_assoc Greater q r = refl

then_equal : (o : Ordering) → ordering_then o Equal ≡ o
then_equal Less = refl
then_equal Equal = refl
then_equal Greater = refl

-- a text against one with a prefix: the prefix decides first
prefix_first : (xs ps vs : List ℕ) → bytes_cmp xs (ps ++ vs) ≡ ordering_then (prefix_cmp xs ps) (bytes_cmp (drop (length ps) xs) vs)
prefix_first xs [] vs = refl
prefix_first [] (p ∷ ps) vs = refl
prefix_first (x ∷ xs) (p ∷ ps) vs =
    ap (λ r. ordering_then (nat_cmp x p) r) (prefix_first xs ps vs) ∙ then_assoc (nat_cmp x p) (prefix_cmp xs ps) (bytes_cmp (drop (length ps) xs) vs)

pick : (o b first second : Ordering) → ordering_then o first ≡ b → o ≡ ordering_then b second → o ≡ b
pick Less b first second e h = e
pick Greater b first second e h = e
pick Equal Less first second e h = h
pick Equal Equal first second e h = refl
pick Equal Greater first second e h = h

pub decides_prefix : (xs ys us : List ℕ) (o : Ordering) → DecidesOrder 32 xs ys o → o ≡ prefix_cmp (xs ++ (32 ∷ us)) (ys ++ codes " ")
decides_prefix xs ys us o r =
    let whole = xs ++ (32 ∷ us) in
    let rest = drop (length (ys ++ codes " ")) whole in
    let both_ways = λ (vs : List ℕ). sym (r.whole us vs) ∙ ap (λ z. bytes_cmp whole z) (sym (append_assoc ys (codes " ") vs)) ∙ prefix_first whole (ys ++ codes " ") vs in
    pick o (prefix_cmp whole (ys ++ codes " ")) (bytes_cmp us rest) (bytes_cmp rest us)
    (both_ways rest ∙ ap (λ c. ordering_then (prefix_cmp whole (ys ++ codes " ")) c) (tied_itself nat_list_cmp_total rest) ∙ then_equal (prefix_cmp whole (ys ++ codes " ")))
    (sym (then_equal o) ∙ ap (λ c. ordering_then o c) (sym (tied_itself nat_list_cmp_total us)) ∙ both_ways us)

pub decides_subject : (t : Triple) (subject : Term) (o : Ordering) → DecidesOrder 32 (text t.s) (text subject) o → o ≡ prefix_cmp (line t) (subject_prefix subject)
unfolding line subject_prefix
decides_subject t subject o r = decides_prefix (text t.s) (text subject) (text t.p ++ (codes " " ++ (text t.o ++ codes " .\n"))) o r
