-- The ancestors of a path, from one of them on.
use Rattle.std.proofs.Common.{◌≡◌, ◌<◌, ◌≤◌, ◌==◌, ℕ, zero, suc, Bool, true, false, cond, List, [], ◌∷◌, ◌++◌, length, take, filter, Some, refl, sym, ap, ◌∙◌, subst, arith, ⊎_elim, length-append}
use Rattle.std.specs.Prelude.{IsTrue}
use Rattle.std.specs.List.{Contains}
use Rattle.std.proofs.lemmas.Bool.{eqb-true, eqb-false, cases_order}
use Rattle.std.proofs.lemmas.List.{length-take-le, take_at, take-append-le}
use Rattle.rdf_graph.proofs.Members.{contains_here}
use Rattle.pod_path.specs.Hierarchy.{is_container, parent_of, IsInside, IsParentChain}
use Rattle.pod_path.specs.Norm.{IsPath}
use Rattle.pod_path.proofs.Ancestors.{parent_front, front_under, under_inside}
use Rattle.pod_path.proofs.NormalPaths.{parts_of}
use Rattle.pod_rows.specs.Tree.{ancestors, beginnings}
use Rattle.pod_rows.proofs.DefinitionLaws.{above_under}
use Rattle.access_index.proofs.Searches.{Longer}

-- the beginnings of a longer text
pub same_short : (s rest : List ℕ) (n : ℕ) → n ≤ length s → beginnings (s ++ rest) n ≡ beginnings s n
same_short s rest zero h = refl
same_short s rest (suc n) h =
    ap (λ (x : List ℕ). x ∷ beginnings (s ++ rest) n) (take-append-le n s rest (omega (arith, h)))
    ∙ ap (λ (xs : List (List ℕ)). take n s ∷ xs) (same_short s rest n (omega (arith, h)))

-- the ancestors of a text are longer ones, one of them, and its ancestors
pub record Split (s : List ℕ) (all : List (List ℕ)) : Type 0 where
  pub before : List (List ℕ)
  pub whole : all ≡ before ++ s ∷ ancestors s
  pub longer : Longer s before

split_from : (s rest : List ℕ) → IsTrue (is_container s) → 0 < length rest → (n : ℕ) → length s < n → n ≤ length (s ++ rest) → Split s (filter is_container (beginnings (s ++ rest) n))
split_from s rest closed some zero lt le = absurd (omega (arith, lt))
split_from s rest closed some (suc n) lt le = by_place (n == length s) refl (λ above. split_from s rest closed some n above (omega (arith, le)))
  where
    text : List ℕ
    text = s ++ rest

    at : List ℕ
    at = take n text

    is : length at ≡ n
    is = length-take-le n text (omega (arith, le))

    with_kind : (b : Bool) → length s < n → Split s (filter is_container (beginnings text n)) → Split s (cond b (at ∷ filter is_container (beginnings text n)) (filter is_container (beginnings text n)))
    with_kind true l below = record {
      before = at ∷ below.before;
      whole = ap (λ (xs : List (List ℕ)). at ∷ xs) below.whole;
      longer = (omega (arith, l, is), below.longer);
    }
    with_kind false l below = below

    by_place : (b : Bool) → (n == length s) ≡ b → (length s < n → Split s (filter is_container (beginnings text n))) → Split s (filter is_container (beginnings text (suc n)))
    by_place true e more =
        let place : n ≡ length s = eqb-true n (length s) e in
        let here : at ≡ s = ap (λ (k : ℕ). take k text) place ∙ take_at s rest (length s) refl in
        record {
          before = [];
          whole =
              ap (λ (b : Bool). cond b (at ∷ filter is_container (beginnings text n)) (filter is_container (beginnings text n))) (ap is_container here ∙ closed)
              ∙ ap (λ (x : List ℕ). x ∷ filter is_container (beginnings text n)) here
              ∙ ap (λ (k : ℕ). s ∷ filter is_container (beginnings text k)) place
              ∙ ap (λ (xs : List (List ℕ)). s ∷ filter is_container xs) (same_short s rest (length s) (omega arith));
          longer = tt;
        }
    by_place false e more =
        let apart : n ≡ length s → ⊥ = eqb-false n (length s) e in
        let above : length s < n = ⊎_elim (λ k. absurd (apart k)) (λ k. ⊎_elim (λ l. absurd (omega (arith, l, lt))) (λ l. l) k) (cases_order n (length s)) in
        with_kind (is_container at) above (more above)

pub split_at : (path s : List ℕ) → IsInside path s → Split s (ancestors path)
split_at path s h =
    subst (λ (t : List ℕ). Split s (ancestors t)) (sym h.whole)
    (split_from s h.rest h.container h.more (length (s ++ h.rest)) (omega (arith, h.more, length-append s h.rest)) (omega arith))

-- ---- the parent is the first ancestor

chain_length : (path q e : List ℕ) (chain : List (List ℕ)) → IsPath path → parent_of path ≡ Some q → IsParentChain path chain e → length q < length e → ⊥
chain_length path q e [] h is k longer = (let same : Some q ≡ Some e = sym is ∙ k in let is_q : q ≡ e = cc in omega (arith, longer, ap length is_q))
chain_length path q e (above ∷ chain) h is k longer =
    let same : Some q ≡ Some above = sym is ∙ k.0 in
    let is_q : q ≡ above = cc in
    let first = parent_front path above (parts_of path h).characters k.0 in
    let below = front_under above e chain first.characters k.1 in
    omega (arith, longer, ap length is_q, ap length below.whole, length-append e below.rest)

pub parent_first : (path q : List ℕ) → IsPath path → parent_of path ≡ Some q → ancestors path ≡ q ∷ ancestors q
parent_first path q h is = by_before (split_at path q inside).before (split_at path q inside).whole (split_at path q inside).longer
  where
    inside : IsInside path q
    inside = under_inside path q (parts_of path h).characters ([], is)

    by_before : (before : List (List ℕ)) → ancestors path ≡ before ++ q ∷ ancestors q → Longer q before → ancestors path ≡ q ∷ ancestors q
    by_before [] whole longer = whole
    by_before (e ∷ es) whole longer =
        let under = (above_under path e h).0 (subst (λ (xs : List (List ℕ)). Contains xs e) (sym whole) (contains_here e (es ++ q ∷ ancestors q))) in
        absurd (chain_length path q e under.0 h is under.1 longer.0)
