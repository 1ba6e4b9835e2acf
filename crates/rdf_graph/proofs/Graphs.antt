-- What an insert, a removal and a sort leave of a graph.
use Rattle.std.proofs.Common.{ℕ, ◌≡◌, List, [], Some, refl, sym, subst, inl, ⊎_elim}
use Rattle.std.specs.Prelude.{slice_get}
use Rattle.std.specs.List.{All, Contains, insert, remove, dedup}
use Rattle.std.specs.List.Sorted.{IsSorted, IsPermutation}
use Rattle.std.specs.Ordering.{eq_by_cmp}
use Rattle.std.specs.Cmp.{eq_by_cmp_equiv, Equal-is}
use Rattle.std.proofs.lemmas.List.Elements.{All-contains, All-nil}
use Rattle.std.proofs.lemmas.List.Filters.{All-dedup}
use Rattle.std.proofs.lemmas.List.Kept.{Contains-dedup, Contains-from_dedup, IsStrictlySortedBy-dedup}
use Rattle.std.proofs.lemmas.List.Sorted.{Contains-permutation, All-permutation, IsPermutation-sym}
use Rattle.std.proofs.lemmas.Option.{slice_get_within, get_or_from_slice_get}
use Rattle.rdf_graph.specs.Graph.{IsGraph, SameSet, SetWith, SetWithout}
use Rattle.rdf_graph.specs.InsertionPoint.{IsInsertionPoint}
use Rattle.rdf_graph.specs.Triple.{triple_cmp, IsRdf}
use Rattle.rdf_graph.specs.TripleLaws.{triple_cmp_total}
use Rattle.rdf_graph.specs.declared.triple.Triple.{Triple}
use Rattle.rdf_graph.proofs.Exact.{triple_cmp_exact}
use Rattle.rdf_graph.proofs.Members.{contains_insert, All-from_members}
use Rattle.rdf_graph.proofs.Sorted.{sorted_nil, sorted_with, sorted_without, absent_at_gap, contains_without, one_list}

pub graph_of_none : IsGraph []
graph_of_none = record { ordered = sorted_nil triple_cmp; rdf = All-nil IsRdf }

pub at_place : (g : List Triple) (i : ℕ) (t : Triple) → slice_get g i ≡ Some t → Contains g t
at_place g i t e = (i, slice_get_within g i t e, get_or_from_slice_get g i t t e)

pub absent : (g : List Triple) (i : ℕ) (t : Triple) → IsInsertionPoint g i t → Contains g t → ⊥
absent g i t gap = absent_at_gap triple_cmp_total triple_cmp_exact g i t gap.before gap.behind

pub graph_with : (g : List Triple) (i : ℕ) (t : Triple) → IsGraph g → IsRdf t → IsInsertionPoint g i t → IsGraph (insert g i t)
graph_with g i t graph rdf gap =
    record {
      ordered = sorted_with triple_cmp_total triple_cmp_exact g i t graph.ordered gap.before gap.behind;
      rdf = All-from_members IsRdf (insert g i t)
          (λ x h. ⊎_elim
          (λ old. All-contains IsRdf g x graph.rdf old)
          (λ same. subst IsRdf (sym same) rdf)
          ((contains_insert g i t x).0 h));
    }

pub graph_without : (g : List Triple) (i : ℕ) (t : Triple) → IsGraph g → slice_get g i ≡ Some t → IsGraph (remove g i)
unfolding at_place
graph_without g i t graph e =
    let position = at_place g i t e in
    record {
      ordered = sorted_without triple_cmp_total triple_cmp_exact g i t position.1 position.2 graph.ordered;
      rdf = All-from_members IsRdf (remove g i)
          (λ x h. All-contains IsRdf g x graph.rdf ((contains_without triple_cmp_total triple_cmp_exact g i t x position.1 position.2 graph.ordered).0 h).0);
    }

pub set_without : (g : List Triple) (i : ℕ) (t : Triple) → IsGraph g → slice_get g i ≡ Some t → SetWithout g t (remove g i)
unfolding at_place
set_without g i t graph e x =
    let position = at_place g i t e in
    contains_without triple_cmp_total triple_cmp_exact g i t x position.1 position.2 graph.ordered

pub set_with_itself : (g : List Triple) (t : Triple) → Contains g t → SetWith g t g
set_with_itself g t h x = (λ old. inl old, λ new. ⊎_elim (λ old. old) (λ same. subst (Contains g) (sym same) h) new)

pub set_without_other : (g : List Triple) (t : Triple) → (Contains g t → ⊥) → SetWithout g t g
set_without_other g t h x = (λ old. (old, λ same. h (subst (Contains g) same old)), λ new. new.0)

-- triples in any order and with repeats, sorted and then rid of the repeats
module _ (xs ys : List Triple) (moved : IsPermutation xs ys) where
  pub same_after_sort : SameSet (dedup (eq_by_cmp triple_cmp) ys) xs
  same_after_sort x = (
    λ h. Contains-permutation ys xs x (IsPermutation-sym xs ys moved) (Contains-from_dedup (eq_by_cmp triple_cmp) ys x h),
    λ h. Contains-dedup (eq_by_cmp_equiv triple_cmp_total) (λ a b e. triple_cmp_exact a b ((Equal-is (triple_cmp a b)).0 e)) ys x (Contains-permutation xs ys x moved h),
  )

  pub graph_after_sort : IsSorted triple_cmp ys → All IsRdf xs → IsGraph (dedup (eq_by_cmp triple_cmp) ys)
  graph_after_sort sorted rdf =
      record {
        ordered = IsStrictlySortedBy-dedup triple_cmp_total (λ x y. refl) ys sorted;
        rdf = All-dedup (eq_by_cmp triple_cmp) IsRdf ys (All-permutation IsRdf xs ys moved rdf);
      }

-- graphs with the same triples are one
pub one_graph : (g h : List Triple) → IsGraph g → IsGraph h → SameSet g h → g ≡ h
one_graph g h a b same = one_list triple_cmp_total triple_cmp_exact g h a.ordered b.ordered same
