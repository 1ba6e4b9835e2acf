-- Solutions of conditions, from those of their components.
use Rattle.std.proofs.Common.{ℕ, zero, suc, ◌+◌, ◌<◌, ◌≡◌, ◌≢◌, ◌↔◌, List, [], ◌++◌, Bool, true, false, Option, None, Some, refl, sym, ap, ◌∙◌, subst, ⊎_elim, length, replicate, get_or, arith, eqb, ltb}
use Rattle.std.specs.Prelude.{slice_get}
use Rattle.std.specs.List.{Contains, All}
use Rattle.std.proofs.lemmas.Bool.{cases_order, eqb-true, eq-eqb, ltb-true, lt-ltb, false≢true}
use Rattle.std.proofs.lemmas.List.Elements.{All-append, All-contains, All-nil, Contains-append_left, Contains-append_right, Contains-append_cases}
use Rattle.std.proofs.lemmas.Option.{slice_get-get_or, slice_get_within, get_or_from_slice_get}
use Rattle.graph_patch.specs.ConnectedComponents.{AreComponentLabels, Connects, selected}
use Rattle.graph_patch.specs.Pattern.{Binding, Extends, HoldsIn, IsSolution, IsVariableOf, value_of}
use Rattle.graph_patch.specs.Search.{HasTwoMatches, AnyBinding, IsJoin, IsCompleteMatch, IsMergedMapping, IsPartialMatch, IsUniqueMatch, Satisfies, IsSearchResult}
use Rattle.graph_patch.specs.Solutions.{AreSolutions}
use Rattle.graph_patch.specs.declared.pattern.Found.{Found}
use Rattle.graph_patch.specs.declared.pattern.Found.TheVariants.{Nothing, One, Many}
use Rattle.graph_patch.specs.declared.pattern.Pattern.{Pattern}
use Rattle.rdf_graph.specs.declared.term.Term.{Term}
use Rattle.rdf_graph.specs.declared.triple.Triple.{Triple}
use Rattle.graph_patch.proofs.BindingSteps.{Pairs, HasDistinctNames-append, holds_kept, is_some_from, none_is, same_some, some_is, some_not_none, value_of-append_cases, value_of-left, value_of-right}
use Rattle.graph_patch.proofs.Components.{selected_at, selected_from}
use Rattle.rdf_graph.proofs.Members.{All-from_members, All-left, All-right, contains_none}
use Rattle.graph_patch.proofs.SearchResults.{has_variables, result_among}

-- ---- patterns that are the same but for their order

module _ (g : List Triple) (A B : List Pattern) (same : (c : Pattern) → Contains A c ↔ Contains B c) where
  satisfies_same : (m : Binding) → Satisfies g A m → Satisfies g B m
  satisfies_same m s = All-from_members (HoldsIn g m) B (λ c h. All-contains (HoldsIn g m) A c s ((same c).1 h))

  satisfies_back : (m : Binding) → Satisfies g B m → Satisfies g A m
  satisfies_back m s = All-from_members (HoldsIn g m) A (λ c h. All-contains (HoldsIn g m) B c s ((same c).0 h))

  full_same : (pairs : Pairs) → IsCompleteMatch g A pairs → IsCompleteMatch g B pairs
  full_same pairs full =
      record {
        once = full.once;
        within = λ name h. let variable = full.within name h in (variable.0, (same variable.0).0 variable.1, variable.2);
        satisfies = satisfies_same (value_of pairs) full.satisfies;
      }

  pub result_same : (f : Found) → IsSearchResult g A AnyBinding f → IsSearchResult g B AnyBinding f
  result_same Nothing h = λ m s q. h m (satisfies_back m s) q
  result_same (One mapping) h =
      record { full = full_same mapping.pairs.items h.full; among = tt; only = λ m s q. h.only m (satisfies_back m s) q }
  result_same Many h =
      record {
        first = h.first;
        second = h.second;
        is_first = full_same h.first h.is_first;
        is_second = full_same h.second h.is_second;
        among_first = tt;
        among_second = tt;
        name = h.name;
        apart = h.apart;
      }

-- ---- two parts without a variable in common

module _ (g : List Triple) (A B : List Pattern) (disjoint : (name : List ℕ) → IsVariableOf A name → IsVariableOf B name → ⊥) where
  variable_left : (name : List ℕ) → IsVariableOf A name → IsVariableOf (A ++ B) name
  variable_left name h = (h.0, Contains-append_left A B h.0 h.1, h.2)

  variable_right : (name : List ℕ) → IsVariableOf B name → IsVariableOf (A ++ B) name
  variable_right name h = (h.0, Contains-append_right A B h.0 h.1, h.2)

  module _ (ps qs : Pairs) (a : IsCompleteMatch g A ps) (b : IsCompleteMatch g B qs) where
    -- a name of the one isn't one of the other
    not_right : (name : List ℕ) → IsVariableOf A name → value_of qs name ≡ None
    not_right name h = none_is (value_of qs name) (λ s. disjoint name h (b.within name s))

    not_left : (name : List ℕ) → IsVariableOf B name → value_of ps name ≡ None
    not_left name h = none_is (value_of ps name) (λ s. disjoint name (a.within name s) h)

    pub at_left : (name : List ℕ) → IsVariableOf A name → value_of (ps ++ qs) name ≡ value_of ps name
    at_left name h =
        ⊎_elim
        (λ first. first.2 ∙ sym first.1)
        (λ second. second.1 ∙ not_right name h ∙ sym second.0)
        (value_of-append_cases ps qs name)

    pub at_right : (name : List ℕ) → IsVariableOf B name → value_of (ps ++ qs) name ≡ value_of qs name
    at_right name h = value_of-right ps qs name (not_left name h)

    extends_left : Extends ps (value_of (ps ++ qs))
    extends_left name term e = value_of-left ps qs name term e

    extends_right : Extends qs (value_of (ps ++ qs))
    extends_right name term e = at_right name (b.within name (is_some_from _ term e)) ∙ e

    pub full_both : IsCompleteMatch g (A ++ B) (ps ++ qs)
    full_both =
        record {
          once = HasDistinctNames-append ps qs a.once b.once (λ name h. not_right name (a.within name h));
          within = λ name h.
              let found = some_is (value_of (ps ++ qs) name) h in
              ⊎_elim
              (λ first. variable_left name (a.within name (is_some_from _ first.0 first.1)))
              (λ second. variable_right name (b.within name (is_some_from _ found.0 (sym second.1 ∙ found.1))))
              (value_of-append_cases ps qs name);
          satisfies = All-append (HoldsIn g (value_of (ps ++ qs))) A B
              (λ k d l. holds_kept g (value_of ps) (value_of (ps ++ qs)) extends_left _ (a.satisfies k d l))
              (λ k d l. holds_kept g (value_of qs) (value_of (ps ++ qs)) extends_right _ (b.satisfies k d l));
        }

    pub only_both : (m : Binding) → Extends ps m → Extends qs m → Extends (ps ++ qs) m
    only_both m h k name term e =
        ⊎_elim
        (λ first. h name term (first.1 ∙ sym first.2 ∙ e))
        (λ second. k name term (sym second.1 ∙ e))
        (value_of-append_cases ps qs name)

  -- a name at which two full mappings differ is a variable
  differ_at_variable : (C : List Pattern) (ps qs : Pairs) → IsCompleteMatch g C ps → IsCompleteMatch g C qs → (name : List ℕ) → (value_of ps name ≢ value_of qs name) → IsVariableOf C name
  differ_at_variable C ps qs a b name apart = by_first (value_of ps name) refl (value_of qs name) refl
    where
      by_first : (o : Option Term) → value_of ps name ≡ o → (p : Option Term) → value_of qs name ≡ p → IsVariableOf C name
      by_first (Some x) e p f = a.within name (is_some_from _ x e)
      by_first None e (Some y) f = b.within name (is_some_from _ y f)
      by_first None e None f = absurd (apart (e ∙ sym f))

  two_left : (qs : Pairs) → IsCompleteMatch g B qs → HasTwoMatches g A AnyBinding → HasTwoMatches g (A ++ B) AnyBinding
  two_left qs b two =
      let variable : IsVariableOf A two.name = differ_at_variable A two.first two.second two.is_first two.is_second two.name two.apart in
      record {
        first = two.first ++ qs;
        second = two.second ++ qs;
        is_first = full_both two.first qs two.is_first b;
        is_second = full_both two.second qs two.is_second b;
        among_first = tt;
        among_second = tt;
        name = two.name;
        apart = λ same. two.apart (sym (at_left two.first qs two.is_first b two.name variable) ∙ same ∙ at_left two.second qs two.is_second b two.name variable);
      }

  two_right : (ps : Pairs) → IsCompleteMatch g A ps → HasTwoMatches g B AnyBinding → HasTwoMatches g (A ++ B) AnyBinding
  two_right ps a two =
      let variable : IsVariableOf B two.name = differ_at_variable B two.first two.second two.is_first two.is_second two.name two.apart in
      record {
        first = ps ++ two.first;
        second = ps ++ two.second;
        is_first = full_both ps two.first a two.is_first;
        is_second = full_both ps two.second a two.is_second;
        among_first = tt;
        among_second = tt;
        name = two.name;
        apart = λ same. two.apart (sym (at_right ps two.first a two.is_first two.name variable) ∙ same ∙ at_right ps two.second a two.is_second two.name variable);
      }

  none_left : IsSearchResult g A AnyBinding Nothing → IsSearchResult g (A ++ B) AnyBinding Nothing
  none_left h m s q = h m (All-left (HoldsIn g m) A B s) q

  none_right : IsSearchResult g B AnyBinding Nothing → IsSearchResult g (A ++ B) AnyBinding Nothing
  none_right h m s q = h m (All-right (HoldsIn g m) A B s) q

  result_pairs : (ps qs : Pairs) (found : Found) → IsMergedMapping ps qs found → IsUniqueMatch g A AnyBinding ps → IsUniqueMatch g B AnyBinding qs → IsSearchResult g (A ++ B) AnyBinding found
  result_pairs ps qs Nothing e a b = absurd e
  result_pairs ps qs (One mapping) e a b =
      subst (IsUniqueMatch g (A ++ B) AnyBinding) (sym e)
      (record {
        full = full_both ps qs a.full b.full;
        among = tt;
        only = λ m s q. only_both ps qs a.full b.full m (a.only m (All-left (HoldsIn g m) A B s) q) (b.only m (All-right (HoldsIn g m) A B s) q);
      })
  result_pairs ps qs Many e a b = absurd e

  pub result_join : (f h found : Found) → IsJoin f h found → IsSearchResult g A AnyBinding f → IsSearchResult g B AnyBinding h → IsSearchResult g (A ++ B) AnyBinding found
  result_join Nothing h found e a b = subst (IsSearchResult g (A ++ B) AnyBinding) (sym e) (none_left a)
  result_join (One mapping) Nothing found e a b = subst (IsSearchResult g (A ++ B) AnyBinding) (sym e) (none_right b)
  result_join (One mapping) (One other) found e a b = result_pairs mapping.pairs.items other.pairs.items found e a b
  result_join (One mapping) Many found e a b = subst (IsSearchResult g (A ++ B) AnyBinding) (sym e) (two_right mapping.pairs.items a.full b)
  result_join Many Nothing found e a b = subst (IsSearchResult g (A ++ B) AnyBinding) (sym e) (none_right b)
  result_join Many (One other) found e a b = subst (IsSearchResult g (A ++ B) AnyBinding) (sym e) (two_left other.pairs.items b.full a)
  result_join Many Many found e a b = subst (IsSearchResult g (A ++ B) AnyBinding) (sym e) (two_left b.first b.is_first a)

-- ---- from components to all conditions

-- the conditions with lower labels
abbrev pub below : List Pattern → List ℕ → ℕ → List Pattern
below conditions labels label = selected (λ k. ltb k label) conditions labels

-- the conditions with that label
abbrev pub with_label : List Pattern → List ℕ → ℕ → List Pattern
with_label conditions labels label = selected (λ k. eqb k label) conditions labels

module _ (g : List Triple) (conditions : List Pattern) (labels : List ℕ) (components : AreComponentLabels conditions labels) where
  apart : (label : ℕ) (name : List ℕ) → IsVariableOf (below conditions labels label) name → IsVariableOf (with_label conditions labels label) name → ⊥
  apart label name a b =
      let at = selected_at (λ k. ltb k label) conditions labels a.0 a.1 in
      let at' = selected_at (λ k. eqb k label) conditions labels b.0 b.1 in
      let connected : Connects conditions at.0 at'.0 = record { first = a.0; second = b.0; is_first = at.2; is_second = at'.2; shares = (name, a.2, b.2) } in
      let one : at.1 ≡ at'.1 = same_some (slice_get labels at.0) at.1 at'.1 at.3 (components at.0 at'.0 connected ∙ at'.3) in
      omega (arith, ltb-true at.1 label at.4, eqb-true at'.1 label at'.4, one)

  one_more : (label : ℕ) (c : Pattern) → Contains (below conditions labels label ++ with_label conditions labels label) c ↔ Contains (below conditions labels (label + 1)) c
  one_more label c = (
    λ h. ⊎_elim
        (λ a.
        let at = selected_at (λ k. ltb k label) conditions labels c a in
        selected_from (λ k. ltb k (label + 1)) conditions labels c at.0 at.1 at.2 at.3 (lt-ltb at.1 (label + 1) (omega (arith, ltb-true at.1 label at.4))))
        (λ b.
        let at = selected_at (λ k. eqb k label) conditions labels c b in
        selected_from (λ k. ltb k (label + 1)) conditions labels c at.0 at.1 at.2 at.3 (lt-ltb at.1 (label + 1) (omega (arith, eqb-true at.1 label at.4))))
        (Contains-append_cases (below conditions labels label) (with_label conditions labels label) c h),
    λ h.
        let at = selected_at (λ k. ltb k (label + 1)) conditions labels c h in
        ⊎_elim
        (λ (same : at.1 ≡ label). Contains-append_right (below conditions labels label) (with_label conditions labels label) c (selected_from (λ k. eqb k label) conditions labels c at.0 at.1 at.2 at.3 (eq-eqb at.1 label same)))
        (λ sides. ⊎_elim
        (λ (less : at.1 < label). Contains-append_left (below conditions labels label) (with_label conditions labels label) c (selected_from (λ k. ltb k label) conditions labels c at.0 at.1 at.2 at.3 (lt-ltb at.1 label less)))
        (λ (more : label < at.1). absurd (omega (arith, ltb-true at.1 (label + 1) at.4, more)))
        sides)
        (cases_order at.1 label),
  )

  -- one more component
  pub result_more : (label : ℕ) (f h found : Found) → IsJoin f h found → IsSearchResult g (below conditions labels label) AnyBinding f → IsSearchResult g (with_label conditions labels label) AnyBinding h → IsSearchResult g (below conditions labels (label + 1)) AnyBinding found
  result_more label f h found e a b =
      result_same g (below conditions labels label ++ with_label conditions labels label) (below conditions labels (label + 1)) (one_more label) found
      (result_join g (below conditions labels label) (with_label conditions labels label) (apart label) f h found e a b)

  -- before the first
  pub result_before : (found : Found) → IsSearchResult g [] AnyBinding found → IsSearchResult g (below conditions labels 0) AnyBinding found
  result_before found a =
      result_same g [] (below conditions labels 0)
      (λ c. (λ h. absurd (contains_none c h), λ h. let at = selected_at (λ k. ltb k 0) conditions labels c h in absurd (omega (arith, ltb-true at.1 0 at.4))))
      found a

  -- after the last
  pub result_after : length labels ≡ length conditions → All (λ label. label < length conditions) labels → (found : Found) → IsSearchResult g (below conditions labels (length conditions)) AnyBinding found → IsSearchResult g conditions AnyBinding found
  result_after long small found a =
      result_same g (below conditions labels (length conditions)) conditions
      (λ c. (
        λ h. let at = selected_at (λ k. ltb k (length conditions)) conditions labels c h in
            (at.0, slice_get_within conditions at.0 c at.2, get_or_from_slice_get conditions at.0 c c at.2),
        λ h.
            let within : h.0 < length labels = omega (arith, h.1, long) in
            selected_from (λ k. ltb k (length conditions)) conditions labels c h.0 (get_or labels h.0 0)
            (slice_get-get_or conditions h.0 c h.1 ∙ ap (λ x. Some x) h.2) (slice_get-get_or labels h.0 0 within)
            (lt-ltb (get_or labels h.0 0) (length conditions) (small h.0 0 within)),
      ))
      found a

  -- a component without a solution leaves none
  pub none_in_component : (label : ℕ) → IsSearchResult g (with_label conditions labels label) AnyBinding Nothing → AreSolutions g conditions Nothing
  none_in_component label a m s =
      a m (All-from_members (HoldsIn g m) (with_label conditions labels label)
      (λ c h. let at = selected_at (λ k. eqb k label) conditions labels c h in
      All-contains (HoldsIn g m) conditions c s.holds (at.0, slice_get_within conditions at.0 c at.2, get_or_from_slice_get conditions at.0 c c at.2)))
      tt

-- ---- from findings to solutions

module _ (g : List Triple) (conditions : List Pattern) where
  solution_from : (pairs : Pairs) → IsCompleteMatch g conditions pairs → IsSolution g conditions (value_of pairs)
  solution_from pairs full =
      record {
        variables = λ name. (λ h. full.within name h, λ h. has_variables g conditions (value_of pairs) full.satisfies name h);
        holds = full.satisfies;
      }

  pub solutions_from : (found : Found) → IsSearchResult g conditions AnyBinding found → AreSolutions g conditions found
  solutions_from Nothing a = λ m s. a m s.holds tt
  solutions_from (One mapping) a =
      record {
        once = a.full.once;
        solution = solution_from mapping.pairs.items a.full;
        only = λ m s name. has_terms m s name (value_of mapping.pairs.items name) refl;
      }
    where
      has_terms : (m : Binding) → IsSolution g conditions m → (name : List ℕ) (o : Option Term) → value_of mapping.pairs.items name ≡ o → m name ≡ value_of mapping.pairs.items name
      has_terms m s name (Some term) e = a.only m s.holds tt name term e ∙ sym e
      has_terms m s name None e =
          none_is (m name) (λ h. some_not_none _ _ (some_is (value_of mapping.pairs.items name) (has_variables g conditions (value_of mapping.pairs.items) a.full.satisfies name ((s.variables name).0 h))).1 e) ∙ sym e
  solutions_from Many a =
      record {
        first = value_of a.first;
        second = value_of a.second;
        is_first = solution_from a.first a.is_first;
        is_second = solution_from a.second a.is_second;
        name = a.name;
        apart = a.apart;
      }

-- ---- the start

pub one_of_none : (g : List Triple) (pairs : Pairs) → pairs ≡ [] → IsUniqueMatch g [] AnyBinding pairs
one_of_none g pairs e =
    subst (IsUniqueMatch g [] AnyBinding) (sym e)
    (record {
      full = record { once = tt; within = λ name h. absurd (false≢true h); satisfies = All-nil (HoldsIn g (value_of [])) };
      among = tt;
      only = λ m s q name term h. absurd (some_not_none None term h refl);
    })

no_flag : (n i : ℕ) → slice_get (replicate n false) i ≡ Some true → ⊥
no_flag zero i e = some_not_none None true e refl
no_flag (suc n) zero e = false≢true (same_some (Some false) false true refl e)
no_flag (suc n) (suc i) e = no_flag n i e

pub partial_of_none : (g : List Triple) (patterns : List Pattern) (n : ℕ) (taken : List Bool) (pairs : Pairs) → taken ≡ replicate n false → pairs ≡ [] → IsPartialMatch g patterns taken pairs
partial_of_none g patterns n taken pairs e f =
    subst (λ t. IsPartialMatch g patterns t pairs) (sym e)
    (subst (IsPartialMatch g patterns (replicate n false)) (sym f)
    (record { once = tt; within = λ name h. absurd (false≢true h); done = λ i pattern h k. absurd (no_flag n i h) }))

pub result_everything : (g : List Triple) (patterns : List Pattern) (pairs : Pairs) (found : Found) → pairs ≡ [] → IsSearchResult g patterns (Extends pairs) found → IsSearchResult g patterns AnyBinding found
result_everything g patterns pairs found e a =
    result_among g patterns (Extends pairs) AnyBinding
    (λ m s. (λ q. tt, λ q name term h. absurd (some_not_none None term (subst (λ ps. value_of ps name ≡ Some term) e h) refl)))
    found a
