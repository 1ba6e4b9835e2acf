-- What a search has found, joined and carried over.
use Rattle.std.proofs.Common.{ℕ, zero, suc, ◌+◌, ◌<◌, ◌≡◌, ◌≢◌, ◌⊎◌, ◌↔◌, List, [], ◌∷◌, ◌++◌, Bool, true, false, Option, None, Some, refl, sym, ap, ◌∙◌, subst, inl, inr, ⊎_elim, length, take, get_or, set, arith}
use Rattle.std.specs.Prelude.{IsSome, slice_get, map}
use Rattle.std.specs.List.{Contains, All, IsDistinct}
use Rattle.std.specs.Ordering.{eq_by_cmp}
use Rattle.std.proofs.lemmas.Bool.{cases_eq, true≢false}
use Rattle.std.proofs.lemmas.List.{take_more, length-map, get_or-map, set-set, set-get_or}
use Rattle.std.proofs.lemmas.List.Elements.{All-contains, Contains-append_left, Contains-push, Contains-push_cases}
use Rattle.std.proofs.lemmas.Option.{slice_get-get_or, slice_get_within, get_or_from_slice_get}
use Rattle.graph_patch.specs.Lookup.{AreCandidates}
use Rattle.graph_patch.specs.Pattern.{Binding, Extends, HoldsIn, Instantiates, IsVariableOf, slot_term, value_of}
use Rattle.graph_patch.specs.Search.{HasTwoMatches, IsCompleteMatch, IsPartialMatch, IsUniqueMatch, Satisfies, IsSearchResult, bind_pattern, union}
use Rattle.rdf_graph.specs.Triple.{IsGivenTerm, triple_cmp}
use Rattle.graph_patch.specs.declared.pattern.Found.{Found}
use Rattle.graph_patch.specs.declared.pattern.Found.TheVariants.{Nothing, One, Many}
use Rattle.graph_patch.specs.declared.pattern.Pattern.{Pattern}
use Rattle.graph_patch.specs.declared.pattern.Slot.{Slot}
use Rattle.graph_patch.specs.declared.pattern.Slot.TheVariants.{Var}
use Rattle.rdf_graph.specs.declared.term.Term.{Term}
use Rattle.rdf_graph.specs.declared.triple.Triple.{Triple}
use Rattle.graph_patch.proofs.BindingSteps.{Pairs, GrowsByPattern, grows_pattern, refused_pattern, holds_kept, instances_apart, is_some_from, same_some, some_not_none, slot_kept, instance_kept, Extends-trans}
use Rattle.graph_patch.proofs.Candidates.{not_before}
use Rattle.rdf_graph.proofs.Members.{contains_none}

slice_get-set_other : {X : Type 0} (xs : List X) (i k : ℕ) (x : X) → (k ≡ i → ⊥) → slice_get (set xs i x) k ≡ slice_get xs k
slice_get-set_other [] i k x apart = refl
slice_get-set_other (y ∷ ys) zero zero x apart = absurd (apart refl)
slice_get-set_other (y ∷ ys) zero (suc k) x apart = refl
slice_get-set_other (y ∷ ys) (suc i) zero x apart = refl
slice_get-set_other (y ∷ ys) (suc i) (suc k) x apart = slice_get-set_other ys i k x (λ e. apart (ap (λ n. suc n) e))

-- the mappings that have the pairs and make the pattern one of the triples so far
abbrev pub Upto : Pairs → Pattern → List Triple → Binding → Type 0
Upto pairs pattern so_far m = Extends pairs m × ((t : Triple) × Contains so_far t × Instantiates m pattern t)

module _ (g : List Triple) (patterns : List Pattern) where
  -- the same findings among the same mappings
  pub result_among : (P Q : Binding → Type 0) → ((m : Binding) → Satisfies g patterns m → P m ↔ Q m) → (f : Found) → IsSearchResult g patterns P f → IsSearchResult g patterns Q f
  result_among P Q same Nothing h = λ m s q. h m s ((same m s).1 q)
  result_among P Q same (One mapping) h =
      record { full = h.full; among = (same _ h.full.satisfies).0 h.among; only = λ m s q. h.only m s ((same m s).1 q) }
  result_among P Q same Many h =
      record {
        first = h.first;
        second = h.second;
        is_first = h.is_first;
        is_second = h.is_second;
        among_first = (same _ h.is_first.satisfies).0 h.among_first;
        among_second = (same _ h.is_second.satisfies).0 h.among_second;
        name = h.name;
        apart = h.apart;
      }

  -- two are enough among more mappings
  pub two_among : (P Q : Binding → Type 0) → ((m : Binding) → P m → Q m) → HasTwoMatches g patterns P → HasTwoMatches g patterns Q
  two_among P Q more h =
      record {
        first = h.first;
        second = h.second;
        is_first = h.is_first;
        is_second = h.is_second;
        among_first = more _ h.among_first;
        among_second = more _ h.among_second;
        name = h.name;
        apart = h.apart;
      }

  -- findings among mappings that differ
  pub result_union : (P Q : Binding → Type 0) → ((m n : Binding) → P m → Q n → (name : List ℕ) × (m name ≢ n name)) → (f h : Found) → IsSearchResult g patterns P f → IsSearchResult g patterns Q h → IsSearchResult g patterns (λ m. P m ⊎ Q m) (union f h)
  result_union P Q apart Nothing Nothing a b = λ m s q. ⊎_elim (λ p. a m s p) (λ r. b m s r) q
  result_union P Q apart Nothing (One mapping) a b =
      record { full = b.full; among = inr b.among; only = λ m s q. ⊎_elim (λ p. absurd (a m s p)) (λ r. b.only m s r) q }
  result_union P Q apart Nothing Many a b = two_among Q (λ m. P m ⊎ Q m) (λ m q. inr q) b
  result_union P Q apart (One mapping) Nothing a b =
      record { full = a.full; among = inl a.among; only = λ m s q. ⊎_elim (λ p. a.only m s p) (λ r. absurd (b m s r)) q }
  result_union P Q apart (One mapping) (One other) a b =
      let differ = apart _ _ a.among b.among in
      record {
        first = mapping.pairs.items;
        second = other.pairs.items;
        is_first = a.full;
        is_second = b.full;
        among_first = inl a.among;
        among_second = inr b.among;
        name = differ.0;
        apart = differ.1;
      }
  result_union P Q apart (One mapping) Many a b = two_among Q (λ m. P m ⊎ Q m) (λ m q. inr q) b
  result_union P Q apart Many Nothing a b = two_among P (λ m. P m ⊎ Q m) (λ m p. inl p) a
  result_union P Q apart Many (One other) a b = two_among P (λ m. P m ⊎ Q m) (λ m p. inl p) a
  result_union P Q apart Many Many a b = two_among P (λ m. P m ⊎ Q m) (λ m p. inl p) a

  -- ---- when all patterns are taken

  pub all_taken : (taken : List Bool) (pairs : Pairs) → length taken ≡ length patterns → All (λ b. b ≡ true) taken → IsPartialMatch g patterns taken pairs → IsCompleteMatch g patterns pairs
  all_taken taken pairs long all partial =
      record {
        once = partial.once;
        within = partial.within;
        satisfies = λ k d l.
            let within : k < length taken = omega (arith, l, long) in
            partial.done k (get_or patterns k d)
            (slice_get-get_or taken k true within ∙ ap (λ b. Some b) (all k true within))
            (slice_get-get_or patterns k d l);
      }

  -- then the pairs alone are left
  slot_variable : (m : Binding) (slot : Slot) (term : Term) (name : List ℕ) → slot_term m slot ≡ Some term → slot ≡ Var name → IsSome (m name)
  slot_variable m slot term name e is = is_some_from (m name) term (subst (λ s. slot_term m s ≡ Some term) is e)

  -- a mapping that satisfies the patterns has all their variables
  pub has_variables : (m : Binding) → Satisfies g patterns m → (name : List ℕ) → IsVariableOf patterns name → IsSome (m name)
  has_variables m s name h =
      let holds : HoldsIn g m h.0 = All-contains (HoldsIn g m) patterns h.0 s h.1 in
      ⊎_elim
      (λ at. slot_variable m h.0.s holds.0.s name holds.1.s at)
      (λ others. ⊎_elim
      (λ at. slot_variable m h.0.p holds.0.p name holds.1.p at)
      (λ at. slot_variable m h.0.o holds.0.o name holds.1.o at)
      others)
      h.2

  pub leaf_tells : (pairs : Pairs) → IsCompleteMatch g patterns pairs → IsUniqueMatch g patterns (Extends pairs) pairs
  leaf_tells pairs full = record { full = full; among = λ name term e. e; only = λ m s q. q }

  -- ---- taking a pattern

  module _ (taken : List Bool) (pairs : Pairs) (i : ℕ) (pattern : Pattern) (at : slice_get patterns i ≡ Some pattern) where
    pattern_is_one : Contains patterns pattern
    pattern_is_one = (i, slice_get_within patterns i pattern at, get_or_from_slice_get patterns i pattern pattern at)

    -- a triple of g that the pattern is under more pairs
    pub partial_grows : (t : Triple) (new : Pairs) → Contains g t → IsPartialMatch g patterns taken pairs → GrowsByPattern pairs pattern t new → IsPartialMatch g patterns (set taken i true) new
    partial_grows t new member partial grows =
        record {
          once = grows.once partial.once;
          within = λ name h. ⊎_elim (λ old. partial.within name old) (λ variable. (pattern, pattern_is_one, variable)) (grows.names name h);
          done = λ k other is_taken is_other.
              ⊎_elim
              (λ (same : k ≡ i).
              let one : pattern ≡ other = same_some (slice_get patterns i) pattern other at (subst (λ n. slice_get patterns n ≡ Some other) same is_other) in
              subst (HoldsIn g (value_of new)) one (t, grows.holds, member))
              (λ (apart : k ≡ i → ⊥).
              holds_kept g (value_of pairs) (value_of new) grows.keeps other
              (partial.done k other (sym (slice_get-set_other taken i k true apart) ∙ is_taken) is_other))
              (cases_eq k i);
        }

    -- no triple so far
    pub upto_none : IsSearchResult g patterns (Upto pairs pattern []) Nothing
    upto_none m s q = contains_none q.1.0 q.1.1

    module _ (so_far : List Triple) (t : Triple) where
      -- one more triple that the pattern can be
      pub upto_more : (new : Pairs) → (Contains so_far t → ⊥) → GrowsByPattern pairs pattern t new → (f h : Found)
          → IsSearchResult g patterns (Upto pairs pattern so_far) f → IsSearchResult g patterns (Extends new) h → IsSearchResult g patterns (Upto pairs pattern (so_far ++ t ∷ [])) (union f h)
      upto_more new absent grows f h a b =
          result_among (λ m. Upto pairs pattern so_far m ⊎ Extends new m) (Upto pairs pattern (so_far ++ t ∷ []))
          (λ m s. (
            λ q. ⊎_elim
                (λ before. (before.0, (before.1.0, Contains-append_left so_far (t ∷ []) before.1.0 before.1.1, before.1.2)))
                (λ now. (Extends-trans pairs new m grows.keeps now, (t, Contains-push so_far t, instance_kept (value_of new) m now pattern t grows.holds)))
                q,
            λ q. ⊎_elim
                (λ before. inl (q.0, (q.1.0, before, q.1.2)))
                (λ same. inr (grows.both m q.0 (subst (Instantiates m pattern) (sym same) q.1.2)))
                (Contains-push_cases so_far t q.1.0 q.1.1),
          ))
          (union f h)
          (result_union (Upto pairs pattern so_far) (Extends new)
          (λ m n q now. instances_apart m n pattern q.1.0 t q.1.2 (instance_kept (value_of new) n now pattern t grows.holds)
          (λ same. absent (subst (Contains so_far) same q.1.1)))
          f h a b)

      -- one more triple that the pattern can't be
      pub upto_same : bind_pattern pairs pattern t ≡ None → (f : Found) → IsSearchResult g patterns (Upto pairs pattern so_far) f → IsSearchResult g patterns (Upto pairs pattern (so_far ++ t ∷ [])) f
      upto_same refused f a =
          result_among (Upto pairs pattern so_far) (Upto pairs pattern (so_far ++ t ∷ []))
          (λ m s. (
            λ q. (q.0, (q.1.0, Contains-append_left so_far (t ∷ []) q.1.0 q.1.1, q.1.2)),
            λ q. ⊎_elim
                (λ before. (q.0, (q.1.0, before, q.1.2)))
                (λ same. absurd (refused_pattern pairs pattern t refused m q.0 (subst (Instantiates m pattern) (sym same) q.1.2)))
                (Contains-push_cases so_far t q.1.0 q.1.1),
          ))
          f a

    asked_of : (m : Binding) → Extends pairs m → (slot : Slot) (o : Option Term) → slot_term (value_of pairs) slot ≡ o → (x : Term) → slot_term m slot ≡ Some x → IsGivenTerm o x
    asked_of m q slot None e x is = tt
    asked_of m q slot (Some u) e x is = same_some (slot_term m slot) x u is (slot_kept (value_of pairs) m q slot u e)

    -- all triples that the pattern can be
    pub upto_all : (subject_range : List Triple) → AreCandidates (slot_term (value_of pairs) pattern.s) (slot_term (value_of pairs) pattern.p) (slot_term (value_of pairs) pattern.o) g subject_range → (f : Found) → IsSearchResult g patterns (Upto pairs pattern subject_range) f → IsSearchResult g patterns (Extends pairs) f
    upto_all subject_range is f a =
        result_among (Upto pairs pattern subject_range) (Extends pairs)
        (λ m s. (
          λ q. q.0,
          λ q.
              let holds : HoldsIn g m pattern = All-contains (HoldsIn g m) patterns pattern s pattern_is_one in (
                q,
                (
                  holds.0,
                  is.complete holds.0 holds.2
                      (asked_of m q pattern.s (slot_term (value_of pairs) pattern.s) refl holds.0.s holds.1.s)
                      (asked_of m q pattern.p (slot_term (value_of pairs) pattern.p) refl holds.0.p holds.1.p)
                      (asked_of m q pattern.o (slot_term (value_of pairs) pattern.o) refl holds.0.o holds.1.o),
                  holds.1,
                ),
              ),
        ))
        f a

    -- two are enough before the last triple
    pub upto_two : (subject_range : List Triple) (n : ℕ) → HasTwoMatches g patterns (Upto pairs pattern (take n subject_range)) → HasTwoMatches g patterns (Extends pairs)
    upto_two subject_range n a = two_among (Upto pairs pattern (take n subject_range)) (Extends pairs) (λ m q. q.0) a

-- ---- one triple of the candidates after another

module _ (g : List Triple) (patterns : List Pattern) (taken : List Bool) (pairs : Pairs) (i : ℕ) (pattern : Pattern) (at : slice_get patterns i ≡ Some pattern) (subject_range : List Triple) (n : ℕ) (t : Triple) (here : slice_get subject_range n ≡ Some t) where
  one_more : take (n + 1) subject_range ≡ take n subject_range ++ t ∷ []
  one_more = take_more subject_range n t (slice_get_within subject_range n t here) ∙ ap (λ x. take n subject_range ++ x ∷ []) (get_or_from_slice_get subject_range n t t here)

  pub next_fits : IsDistinct (eq_by_cmp triple_cmp) subject_range → (new : Pairs) → bind_pattern pairs pattern t ≡ Some new → (f h found : Found) → found ≡ union f h
      → IsSearchResult g patterns (Upto pairs pattern (take n subject_range)) f → IsSearchResult g patterns (Extends new) h → IsSearchResult g patterns (Upto pairs pattern (take (n + 1) subject_range)) found
  next_fits s new fits f h found e a b =
      subst (λ zs. IsSearchResult g patterns (Upto pairs pattern zs) found) (sym one_more)
      (subst (IsSearchResult g patterns (Upto pairs pattern (take n subject_range ++ t ∷ []))) (sym e)
      (upto_more g patterns taken pairs i pattern at (take n subject_range) t new (not_before subject_range n t s here) (grows_pattern pairs pattern t new fits) f h a b))

  pub next_differs : bind_pattern pairs pattern t ≡ None → (f found : Found) → found ≡ f → IsSearchResult g patterns (Upto pairs pattern (take n subject_range)) f → IsSearchResult g patterns (Upto pairs pattern (take (n + 1) subject_range)) found
  next_differs refused f found e a =
      subst (λ zs. IsSearchResult g patterns (Upto pairs pattern zs) found) (sym one_more)
      (subst (IsSearchResult g patterns (Upto pairs pattern (take n subject_range ++ t ∷ []))) (sym e)
      (upto_same g patterns taken pairs i pattern at (take n subject_range) t refused f a))

  pub next_partial : ((x : Triple) → Contains subject_range x → Contains g x) → (new : Pairs) → bind_pattern pairs pattern t ≡ Some new → IsPartialMatch g patterns taken pairs → IsPartialMatch g patterns (set taken i true) new
  next_partial s new fits partial =
      partial_grows g patterns taken pairs i pattern at t new (s t (n, slice_get_within subject_range n t here, get_or_from_slice_get subject_range n t t here)) partial (grows_pattern pairs pattern t new fits)

-- taken and given back
pub set-back : (taken : List Bool) (i : ℕ) → slice_get taken i ≡ Some false → set (set taken i true) i false ≡ taken
set-back taken i e =
    set-set taken i true false ∙ ap (λ b. set taken i b) (sym (get_or_from_slice_get taken i false true e)) ∙ set-get_or taken i true

-- how many patterns aren't taken
abbrev pub untaken : List Bool → ℕ
untaken [] = 0
untaken (true ∷ taken) = untaken taken
untaken (false ∷ taken) = suc (untaken taken)

pub untaken-set : (taken : List Bool) (i : ℕ) → slice_get taken i ≡ Some false → untaken (set taken i true) < untaken taken
untaken-set [] i e = absurd (some_not_none None false e refl)
untaken-set (true ∷ taken) zero e = absurd (true≢false (same_some (Some true) true false refl e))
untaken-set (false ∷ taken) zero e = omega arith
untaken-set (true ∷ taken) (suc i) e = untaken-set taken i e
untaken-set (false ∷ taken) (suc i) e = omega (arith, untaken-set taken i e)

-- what is read through a reference at a position
pub read_map : {X Y : Type 0} (f : X → Y) (xs : List X) (i : ℕ) (x : X) → i < length xs → x ≡ get_or xs i x → slice_get (map f xs) i ≡ Some (f x)
read_map f xs i x l is =
    let within : i < length (map f xs) = omega (arith, length-map xs f, l) in
    slice_get-get_or (map f xs) i (f x) within ∙ ap (λ y. Some y) (get_or-map f xs i x (f x) l ∙ ap f (sym is))
