-- Labels that conditions share, and the components that they make.
use Rattle.std.proofs.Common.{ℕ, zero, suc, ◌+◌, ◌<◌, ◌≡◌, List, [], ◌∷◌, ◌++◌, Bool, true, false, cond, None, Some, refl, sym, ap, ◌∙◌, subst, inl, inr, ⊎_elim, length, take, drop, get_or, set, arith, eqb}
use Rattle.std.specs.Prelude.{slice_get, map, option_map}
use Rattle.std.specs.List.{Contains, All}
use Rattle.std.proofs.lemmas.Bool.{cases_order, eq-eqb}
use Rattle.std.proofs.lemmas.List.{take_more, take_more_set, drop_more, drop-set-lt, map_more, take_all, drop_all, append-nil, length-take-le}
use Rattle.std.proofs.lemmas.List.Elements.{All-map}
use Rattle.std.proofs.lemmas.Option.{slice_get_within, get_or_from_slice_get}
use Rattle.graph_patch.specs.ConnectedComponents.{AreComponentLabels, AreLabelledSoFar, Connects, SharesVariable, selected}
use Rattle.graph_patch.specs.declared.pattern.Pattern.{Pattern}
use Rattle.graph_patch.proofs.BindingSteps.{same_some, some_not_none}
use Rattle.rdf_graph.proofs.Members.{contains_cases, contains_here, contains_there, contains_none, slice_get-push_before}

-- ---- labels

pub slice_get-map : {X Y : Type 0} (f : X → Y) (xs : List X) (k : ℕ) → slice_get (map f xs) k ≡ option_map f (slice_get xs k)
slice_get-map f [] k = refl
slice_get-map f (x ∷ xs) zero = refl
slice_get-map f (x ∷ xs) (suc k) = slice_get-map f xs k

connects_back : (patterns : List Pattern) (a b : ℕ) → Connects patterns a b → Connects patterns b a
connects_back patterns a b h =
    record {
      first = h.second;
      second = h.first;
      is_first = h.is_second;
      is_second = h.is_first;
      shares = (h.shares.0, h.shares.2, h.shares.1);
    }

-- none so far
pub joined_none : (patterns : List Pattern) (labels : List ℕ) → AreLabelledSoFar patterns labels 0 0
joined_none patterns labels a b h within = absurd (⊎_elim (λ both. omega (arith, both.0)) (λ last. omega (arith, last.1)) within)

-- one more, with a label of its own
pub joined_push : (patterns : List Pattern) (labels : List ℕ) (label : ℕ) → AreLabelledSoFar patterns labels (length labels) 0 → AreLabelledSoFar patterns (labels ++ label ∷ []) (length labels) 0
joined_push patterns labels label joined a b h within =
    ⊎_elim
    (λ both. slice_get-push_before labels label a both.0 ∙ joined a b h (inl both) ∙ sym (slice_get-push_before labels label b both.1))
    (λ last. absurd (omega (arith, last.1)))
    within

-- all so far
pub joined_row : (patterns : List Pattern) (labels : List ℕ) (i : ℕ) → AreLabelledSoFar patterns labels i i → AreLabelledSoFar patterns labels (i + 1) 0
joined_row patterns labels i joined a b h within =
    ⊎_elim
    (λ both.
    ⊎_elim
    (λ (at : a ≡ i). ⊎_elim
    (λ (at' : b ≡ i). ap (slice_get labels) (at ∙ sym at'))
    (λ sides. ⊎_elim
    (λ (below : b < i). joined a b h (inr (at, below)))
    (λ (above : i < b). absurd (omega (arith, both.1, above)))
    sides)
    (cases_order b i))
    (λ sides. ⊎_elim
    (λ (below : a < i). ⊎_elim
    (λ (at' : b ≡ i). sym (joined b a (connects_back patterns a b h) (inr (at', below))))
    (λ sides'. ⊎_elim
    (λ (below' : b < i). joined a b h (inl (below, below')))
    (λ (above : i < b). absurd (omega (arith, both.1, above)))
    sides')
    (cases_order b i))
    (λ (above : i < a). absurd (omega (arith, both.0, above)))
    sides)
    (cases_order a i))
    (λ last. absurd (omega (arith, last.1)))
    within

pub joined_all : (patterns : List Pattern) (labels : List ℕ) → AreLabelledSoFar patterns labels (length patterns) 0 → AreComponentLabels patterns labels
joined_all patterns labels joined a b h =
    joined a b h (inl (slice_get_within patterns a h.first h.is_first, slice_get_within patterns b h.second h.is_second))

-- one more earlier condition, whose label is replaced where the two are connected
pub joined_relabel : (patterns : List Pattern) (labels : List ℕ) (i j from to : ℕ) → slice_get labels j ≡ Some from → slice_get labels i ≡ Some to
    → AreLabelledSoFar patterns labels i j → AreLabelledSoFar patterns (map (λ label. cond (eqb label from) to label) labels) i (j + 1)
joined_relabel patterns labels i j from to at_j at_i joined a b h within =
    let f : ℕ → ℕ = λ label. cond (eqb label from) to label in
    let kept : slice_get labels a ≡ slice_get labels b → slice_get (map (λ label. cond (eqb label from) to label) labels) a ≡ slice_get (map (λ label. cond (eqb label from) to label) labels) b =
    λ same. slice_get-map _ labels a ∙ ap (option_map (λ label. cond (eqb label from) to label)) same ∙ sym (slice_get-map _ labels b) in
    ⊎_elim
    (λ both. kept (joined a b h (inl both)))
    (λ last. ⊎_elim
    (λ (at : b ≡ j).
    slice_get-map _ labels a ∙ ap (λ k. option_map (λ label. cond (eqb label from) to label) (slice_get labels k)) last.0
    ∙ ap (option_map (λ label. cond (eqb label from) to label)) at_i
    ∙ ap (λ l. Some l) (unchanged (eqb to from) to ∙ sym (replaced from to))
    ∙ sym (ap (option_map (λ label. cond (eqb label from) to label)) at_j)
    ∙ sym (slice_get-map _ labels b ∙ ap (λ k. option_map (λ label. cond (eqb label from) to label) (slice_get labels k)) at))
    (λ sides. ⊎_elim
    (λ (below : b < j). kept (joined a b h (inr (last.0, below))))
    (λ (above : j < b). absurd (omega (arith, last.1, above)))
    sides)
    (cases_order b j))
    within
  where
    unchanged : (r : Bool) (to : ℕ) → cond r to to ≡ to
    unchanged true to = refl
    unchanged false to = refl

    replaced : (from to : ℕ) → cond (eqb from from) to from ≡ to
    replaced from to = ap (λ r. cond r to from) (eq-eqb from from refl)

-- one more earlier condition that isn't connected
pub joined_apart : (patterns : List Pattern) (labels : List ℕ) (i j : ℕ) → (Connects patterns i j → ⊥) → AreLabelledSoFar patterns labels i j → AreLabelledSoFar patterns labels i (j + 1)
joined_apart patterns labels i j apart joined a b h within =
    ⊎_elim
    (λ both. joined a b h (inl both))
    (λ last. ⊎_elim
    (λ (at : b ≡ j). absurd (apart (subst (λ k. Connects patterns k j) last.0 (subst (Connects patterns a) at h))))
    (λ sides. ⊎_elim
    (λ (below : b < j). joined a b h (inr (last.0, below)))
    (λ (above : j < b). absurd (omega (arith, last.1, above)))
    sides)
    (cases_order b j))
    within

-- one more label in position
pub relabelled_more : (f : ℕ → ℕ) (now before : List ℕ) (i v x : ℕ) → i < length now → length now ≡ length before → x ≡ get_or now i x → v ≡ f x
    → take i now ≡ map f (take i before) → drop i now ≡ drop i before → (take (i + 1) (set now i v) ≡ map f (take (i + 1) before)) × (drop (i + 1) (set now i v) ≡ drop (i + 1) before)
relabelled_more f now before i v x l long is made done left =
    let within : i < length before = omega (arith, l, long) in
    let same : get_or now i x ∷ drop (i + 1) now ≡ get_or before i x ∷ drop (i + 1) before = sym (drop_more now i x l) ∙ left ∙ drop_more before i x within in
    let here : x ≡ get_or before i x = is ∙ first_same same in (
      take_more_set now i v l ∙ ap (λ ys. ys ++ v ∷ []) done ∙ ap (λ y. map f (take i before) ++ y ∷ []) (made ∙ ap f here) ∙ sym (map_more f before i x within),
      drop-set-lt (i + 1) now i v (omega arith) ∙ rest_same same,
    )
  where
    first_same : {a b : ℕ} {xs ys : List ℕ} → a ∷ xs ≡ b ∷ ys → a ≡ b
    first_same e = cc

    rest_same : {a b : ℕ} {xs ys : List ℕ} → a ∷ xs ≡ b ∷ ys → xs ≡ ys
    rest_same e = cc

-- a vector whose items were lent and written
pub refilled : {X : Type 0} (n : ℕ) (new items : List X) → length new ≡ length items → n ≡ length items → take n (new ++ drop (length new) items) ≡ new
refilled n new items e f =
    ap (λ ys. take n (new ++ ys)) (drop_all (length new) items (omega (arith, e))) ∙ ap (take n) (append-nil new) ∙ take_all n new (omega (arith, e, f))

-- ---- components

pub selected-push : (p : ℕ → Bool) (patterns : List Pattern) (labels : List ℕ) (c : Pattern) (k : ℕ) → length labels ≡ length patterns
    → selected p (patterns ++ c ∷ []) (labels ++ k ∷ []) ≡ selected p patterns labels ++ cond (p k) (c ∷ []) []
selected-push p [] [] c k e = refl
selected-push p [] (l ∷ labels) c k e = absurd (omega (arith, e))
selected-push p (d ∷ patterns) [] c k e = absurd (omega (arith, e))
selected-push p (d ∷ patterns) (l ∷ labels) c k e = both (p l) (selected-push p patterns labels c k (omega (arith, e)))
  where
    both : (b : Bool) → selected p (patterns ++ c ∷ []) (labels ++ k ∷ []) ≡ selected p patterns labels ++ cond (p k) (c ∷ []) []
        → cond b (d ∷ selected p (patterns ++ c ∷ []) (labels ++ k ∷ [])) (selected p (patterns ++ c ∷ []) (labels ++ k ∷ []))
        ≡ cond b (d ∷ selected p patterns labels) (selected p patterns labels) ++ cond (p k) (c ∷ []) []
    both true h = ap (λ rest. d ∷ rest) h
    both false h = h

-- what is selected is at a position whose label passes
pub selected_at : (p : ℕ → Bool) (patterns : List Pattern) (labels : List ℕ) (c : Pattern) → Contains (selected p patterns labels) c
    → (i : ℕ) × (k : ℕ) × (slice_get patterns i ≡ Some c) × (slice_get labels i ≡ Some k) × (p k ≡ true)
selected_at p [] labels c h = absurd (contains_none c h)
selected_at p (d ∷ patterns) [] c h = absurd (contains_none c h)
selected_at p (d ∷ patterns) (l ∷ labels) c h = by_test (p l) refl h (selected_at p patterns labels c)
  where
    by_test : (b : Bool) → p l ≡ b → Contains (cond b (d ∷ selected p patterns labels) (selected p patterns labels)) c
        → (Contains (selected p patterns labels) c → (i : ℕ) × (k : ℕ) × (slice_get patterns i ≡ Some c) × (slice_get labels i ≡ Some k) × (p k ≡ true))
        → (i : ℕ) × (k : ℕ) × (slice_get (d ∷ patterns) i ≡ Some c) × (slice_get (l ∷ labels) i ≡ Some k) × (p k ≡ true)
    by_test true e h rest =
        ⊎_elim
        (λ same. (0, l, ap (λ x. Some x) same, refl, e))
        (λ behind. let at = rest behind in (suc at.0, at.1, at.2, at.3, at.4))
        (contains_cases d (selected p patterns labels) c h)
    by_test false e h rest = let at = rest h in (suc at.0, at.1, at.2, at.3, at.4)

pub selected_from : (p : ℕ → Bool) (patterns : List Pattern) (labels : List ℕ) (c : Pattern) (i k : ℕ) → slice_get patterns i ≡ Some c → slice_get labels i ≡ Some k → p k ≡ true → Contains (selected p patterns labels) c
selected_from p [] labels c i k a b e = absurd (some_not_none None c a refl)
selected_from p (d ∷ patterns) [] c i k a b e = absurd (some_not_none None k b refl)
selected_from p (d ∷ patterns) (l ∷ labels) c zero k a b e =
    let same : d ≡ c = same_some (Some d) d c refl a in
    let label : l ≡ k = same_some (Some l) l k refl b in
    subst (λ r. Contains (cond r (d ∷ selected p patterns labels) (selected p patterns labels)) c) (sym (ap p label ∙ e))
    (subst (Contains (d ∷ selected p patterns labels)) same (contains_here d (selected p patterns labels)))
selected_from p (d ∷ patterns) (l ∷ labels) c (suc i) k a b e = either_way (p l) (selected_from p patterns labels c i k a b e)
  where
    either_way : (r : Bool) → Contains (selected p patterns labels) c → Contains (cond r (d ∷ selected p patterns labels) (selected p patterns labels)) c
    either_way true h = contains_there d (selected p patterns labels) c h
    either_way false h = h

-- one more condition of a component
pub selected_more : (p : ℕ → Bool) (patterns : List Pattern) (labels : List ℕ) (i : ℕ) (c : Pattern) (k : ℕ) → length labels ≡ length patterns → i < length patterns → c ≡ get_or patterns i c → k ≡ get_or labels i k
    → selected p (take (i + 1) patterns) (take (i + 1) labels) ≡ selected p (take i patterns) (take i labels) ++ cond (p k) (c ∷ []) []
selected_more p patterns labels i c k long l is is' =
    let within : i < length labels = omega (arith, long, l) in
    ap (λ cs. selected p cs (take (i + 1) labels)) (take_more patterns i c l ∙ ap (λ x. take i patterns ++ x ∷ []) (sym is))
    ∙ ap (selected p (take i patterns ++ c ∷ [])) (take_more labels i k within ∙ ap (λ x. take i labels ++ x ∷ []) (sym is'))
    ∙ selected-push p (take i patterns) (take i labels) c k (length-take-le i labels (omega (arith, within)) ∙ sym (length-take-le i patterns (omega (arith, l))))

pub small_relabel : (n : ℕ) (labels : List ℕ) (from to : ℕ) → to < n → All (λ label. label < n) labels → All (λ label. label < n) (map (λ label. cond (eqb label from) to label) labels)
small_relabel n labels from to l small = All-map (λ label. label < n) (λ label. cond (eqb label from) to label) labels (λ k d m. either_label (eqb (get_or labels k d) from) (get_or labels k d) (small k d m))
  where
    either_label : (r : Bool) (label : ℕ) → label < n → cond r to label < n
    either_label true label h = l
    either_label false label h = h

-- what a test at two places says
pub connects_at : (patterns : List Pattern) (a b : ℕ) (c d : Pattern) → a < length patterns → b < length patterns → c ≡ get_or patterns a c → d ≡ get_or patterns b d → Connects patterns a b → SharesVariable c d
connects_at patterns a b c d l m is is' h =
    let first : h.first ≡ c = sym (get_or_from_slice_get patterns a h.first c h.is_first) ∙ sym is in
    let second : h.second ≡ d = sym (get_or_from_slice_get patterns b h.second d h.is_second) ∙ sym is' in
    subst (λ x. SharesVariable x d) first (subst (SharesVariable h.first) second h.shares)
