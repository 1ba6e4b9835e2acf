-- Conditions have no solution in a graph, one, or more: a search over all triples of the graph.
use Rattle.std.proofs.Common.{ℕ, ◌≡◌, List, [], ◌∷◌, ◌++◌, Option, Some, None, get_or, length, refl, sym, ◌∙◌, subst, ⊎_elim}
use Rattle.std.specs.Prelude.{IsSome, slice_get}
use Rattle.std.specs.List.{All, Contains}
use Rattle.std.specs.declared.cmp.Ordering.TheVariants.{Less}
use Rattle.std.proofs.lemmas.Bool.{false≢true}
use Rattle.std.proofs.lemmas.List.{append-nil, append_assoc}
use Rattle.std.proofs.lemmas.List.Elements.{All-append, All-cons, All-head, All-nil, Contains-append_right}
use Rattle.pod_base.specs.Listed.{listed}
use Rattle.rdf_graph.specs.Graph.{IsOrdered}
use Rattle.graph_patch.specs.Pattern.{Extends, HasDistinctNames, HoldsIn, IsVariableOf, value_of}
use Rattle.graph_patch.specs.Search.{IsSearchResult, bind_pattern, union}
use Rattle.graph_patch.specs.Solutions.{AreSolutions}
use Rattle.rdf_graph.specs.Triple.{triple_cmp}
use Rattle.rdf_graph.specs.TripleLaws.{triple_cmp_total}
use Rattle.graph_patch.specs.declared.pattern.Found.{Found}
use Rattle.graph_patch.specs.declared.pattern.Found.TheVariants.{Nothing, One}
use Rattle.graph_patch.specs.declared.pattern.Pattern.{Pattern}
use Rattle.rdf_graph.specs.declared.triple.Triple.{Triple}
use Rattle.graph_patch.proofs.BindingSteps.{Pairs, grows_pattern, holds_kept}
use Rattle.graph_patch.proofs.Candidates.{all_candidates}
use Rattle.rdf_graph.proofs.Exact.{triple_cmp_exact}
use Rattle.rdf_graph.proofs.Members.{contains_here}
use Rattle.graph_patch.proofs.SearchResults.{Upto, leaf_tells, upto_all, upto_more, upto_none, upto_same}
use Rattle.graph_patch.proofs.Solving.{result_everything, solutions_from}
use Rattle.rdf_graph.proofs.Sorted.{not_among_below, sorted_cross}

slice_get_middle : {A : Type 0} (xs ys : List A) (x : A) → slice_get (xs ++ x ∷ ys) (length xs) ≡ Some x
slice_get_middle [] ys x = refl
slice_get_middle (y ∷ xs) ys x = slice_get_middle xs ys x

module _ (g : List Triple) (ordered : IsOrdered g) (patterns : List Pattern) where
  -- The first patterns hold under the pairs, whose names are variables of the patterns.
  record Matches (front : List Pattern) (pairs : Pairs) : Type 0 where
    once : HasDistinctNames pairs
    within : (name : List ℕ) → IsSome (value_of pairs name) → IsVariableOf patterns name
    holds : All (HoldsIn g (value_of pairs)) front

  abbrev Finds : Pairs → Type 0
  Finds pairs = (found : Found) × IsSearchResult g patterns (Extends pairs) found

  -- ---- a pattern is matched with each triple

  module _ (front : List Pattern) (pattern : Pattern) (at : slice_get patterns (length front) ≡ Some pattern) (is_one : Contains patterns pattern)
      (rest : (new : Pairs) → Matches (front ++ pattern ∷ []) new → Finds new) (pairs : Pairs) (m : Matches front pairs) where
    matches_more : (t : Triple) (new : Pairs) → Contains g t → bind_pattern pairs pattern t ≡ Some new → Matches (front ++ pattern ∷ []) new
    matches_more t new member fits =
        let grows = grows_pattern pairs pattern t new fits in
        record {
          once = grows.once m.once;
          within = λ name h. ⊎_elim (λ old. m.within name old) (λ variable. (pattern, is_one, variable)) (grows.names name h);
          holds = All-append (HoldsIn g (value_of new)) front (pattern ∷ [])
              (λ k d l. holds_kept g (value_of pairs) (value_of new) grows.keeps _ (m.holds k d l))
              (All-cons (HoldsIn g (value_of new)) pattern [] (t, grows.holds, member) (All-nil (HoldsIn g (value_of new))));
        }

    absent : (so_far later : List Triple) (t : Triple) → so_far ++ t ∷ later ≡ g → Contains so_far t → ⊥
    absent so_far later t e among =
        let cross = sorted_cross triple_cmp so_far (t ∷ later) (subst IsOrdered (sym e) ordered) in
        not_among_below triple_cmp_total triple_cmp_exact t so_far (λ k d l. All-head (λ y. triple_cmp (get_or so_far k d) y ≡ Less) t later (cross k d l)) among

    walk : (so_far later : List Triple) → so_far ++ later ≡ g → (found : Found) → IsSearchResult g patterns (Upto pairs pattern so_far) found → (all : Found) × IsSearchResult g patterns (Upto pairs pattern g) all
    walk so_far [] e found h = (found, subst (λ zs. IsSearchResult g patterns (Upto pairs pattern zs) found) (sym (append-nil so_far) ∙ e) h)
    walk so_far (t ∷ later) e found h = by_bind (bind_pattern pairs pattern t) refl (λ next more. walk (so_far ++ t ∷ []) later (append_assoc so_far (t ∷ []) later ∙ e) next more)
      where
        by_bind : (o : Option Pairs) → bind_pattern pairs pattern t ≡ o → ((next : Found) → IsSearchResult g patterns (Upto pairs pattern (so_far ++ t ∷ [])) next → (all : Found) × IsSearchResult g patterns (Upto pairs pattern g) all)
            → (all : Found) × IsSearchResult g patterns (Upto pairs pattern g) all
        by_bind None refused on = on found (upto_same g patterns [] pairs (length front) pattern at so_far t refused found h)
        by_bind (Some new) fits on =
            let member : Contains g t = subst (λ zs. Contains zs t) e (Contains-append_right so_far (t ∷ later) t (contains_here t later)) in
            let more = rest new (matches_more t new member fits) in
            on (union found more.0) (upto_more g patterns [] pairs (length front) pattern at so_far t new (absent so_far later t e) (grows_pattern pairs pattern t new fits) found more.0 h more.1)

    finds_pattern : Finds pairs
    finds_pattern =
        let all = walk [] g refl Nothing (upto_none g patterns [] pairs (length front) pattern at) in
        (all.0, upto_all g patterns [] pairs (length front) pattern at g (all_candidates _ _ _ g ordered) all.0 all.1)

  -- ---- one pattern after the other

  search : (todo front : List Pattern) (pairs : Pairs) → front ++ todo ≡ patterns → Matches front pairs → Finds pairs
  search [] front pairs e m = (
    One (record { pairs = listed pairs 0 }),
    leaf_tells g patterns pairs (record { once = m.once; within = m.within; satisfies = subst (All (HoldsIn g (value_of pairs))) (sym (append-nil front) ∙ e) m.holds }),
  )
  search (pattern ∷ todo) front pairs e m =
      finds_pattern front pattern
      (subst (λ ps. slice_get ps (length front) ≡ Some pattern) e (slice_get_middle front todo pattern))
      (subst (λ ps. Contains ps pattern) e (Contains-append_right front (pattern ∷ todo) pattern (contains_here pattern todo)))
      (λ new more. search todo (front ++ pattern ∷ []) new (append_assoc front (pattern ∷ []) todo ∙ e) more)
      pairs m

  pub found_solutions : (found : Found) × AreSolutions g patterns found
  found_solutions =
      let all = search patterns [] [] refl (record { once = tt; within = λ name h. absurd (false≢true h); holds = All-nil (HoldsIn g (value_of [])) }) in
      (all.0, solutions_from g patterns all.0 (result_everything g patterns [] all.0 refl all.1))
