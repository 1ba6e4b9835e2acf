use Rattle.std.proofs.Common.{ℕ, ◌≡◌, ◌≤◌, ◌<◌, List, [], ◌∷◌, ◌++◌, length, drop, get_or, refl, sym, ap, ◌∙◌, subst, arith, append_assoc, codes}
use Rattle.std.specs.List.{All}
use Rattle.std.specs.Ordering.{nat_cmp, ordering_index, ordering_then}
use Rattle.std.specs.declared.cmp.Ordering.{Ordering}
use Rattle.std.specs.declared.cmp.Ordering.TheVariants.{Equal, Less, Greater}
use Rattle.std.proofs.lemmas.List.{append-nil}
use Rattle.std.proofs.lemmas.Map.Lookups.{exact_bytes}
use Rattle.rdf_graph.specs.Graph.{IsGraph}
use Rattle.rdf_graph.specs.Laws.{TermsLackDelimiters}
use Rattle.rdf_graph.specs.Term.{text}
use Rattle.rdf_graph.specs.Triple.{prefix_cmp, line, subject_prefix}
use Rattle.rdf_graph.specs.declared.triple.Triple.{Triple}
use Rattle.rdf_graph.specs.declared.term.Term.{Term}
use Rattle.rdf_graph.proofs.Delimiters.{line_rest, term_parts}
use Rattle.rdf_graph.specs.Laws.{LacksDelimiters}
use Rattle.rdf_graph.proofs.SubjectRanges.{own_line, rises}
use Rattle.rdf_graph.proofs.laws.subject_law.Goals as goal

in_the_middle : (o : Ordering) → 1 ≤ ordering_index o → ordering_index o ≤ 1 → o ≡ Equal
in_the_middle Less a b = absurd (omega (arith, a))
in_the_middle Equal a b = refl
in_the_middle Greater a b = absurd (omega (arith, b))

both_equal : (a b : Ordering) → ordering_then a b ≡ Equal → (a ≡ Equal) × (b ≡ Equal)
both_equal Less b e = absurd cc
both_equal Equal b e = (refl, e)
both_equal Greater b e = absurd cc

one_number : (x y : ℕ) → nat_cmp x y ≡ Equal → x ≡ y
one_number x y e = ap (λ z. get_or z 0 0) (exact_bytes (x ∷ []) (y ∷ []) (ap (λ r. ordering_then r Equal) e))

-- a line that begins so
prefix_with : (xs ps : List ℕ) → prefix_cmp xs ps ≡ Equal → xs ≡ ps ++ drop (length ps) xs
prefix_with xs [] e = refl
prefix_with [] (p ∷ ps) e = absurd cc
prefix_with (x ∷ xs) (p ∷ ps) e =
    let both = both_equal _ _ e in
    cc (one_number x p both.0, prefix_with xs ps both.1)

same_subject : (t : Triple) (s : Term) → LacksDelimiters t.s → LacksDelimiters s → prefix_cmp (line t) (subject_prefix s) ≡ Equal → t.s ≡ s
unfolding subject_prefix
same_subject t s a b e =
    let rest = drop (length (text s ++ codes " ")) (line t) in
    (term_parts t.s s (text t.p ++ 32 ∷ (text t.o ++ 32 ∷ (46 ∷ 10 ∷ []))) rest a b
    (sym (line_rest t.s t.p t.o []) ∙ append-nil (line t) ∙ prefix_with (line t) (text s ++ codes " ") e ∙ append_assoc (text s) (codes " ") rest)).0

between : (g : List Triple) (i j k : ℕ) (d : Triple) → IsGraph g → All TermsLackDelimiters g → i ≤ j → j ≤ k → k < length g
    → (get_or g i d).s ≡ (get_or g k d).s → (get_or g j d).s ≡ (get_or g i d).s
between g i j k d graph delimited low high within same =
    let s = (get_or g i d).s in
    let first : ordering_index (prefix_cmp (line (get_or g i d)) (subject_prefix s)) ≡ 1 = ap ordering_index (own_line (get_or g i d)) in
    let last : ordering_index (prefix_cmp (line (get_or g k d)) (subject_prefix s)) ≡ 1 =
    subst (λ z. ordering_index (prefix_cmp (line (get_or g k d)) (subject_prefix z)) ≡ 1) (sym same) (ap ordering_index (own_line (get_or g k d))) in
    let below = rises g s graph.ordered i j d low (omega (arith, high, within)) in
    let above = rises g s graph.ordered j k d high within in
    same_subject (get_or g j d) s (delimited j d (omega (arith, high, within))).s (delimited i d (omega (arith, low, high, within))).s
    (in_the_middle (prefix_cmp (line (get_or g j d)) (subject_prefix s)) (omega (arith, below, first)) (omega (arith, above, last)))

pub returns : goal.returns
returns c = between
