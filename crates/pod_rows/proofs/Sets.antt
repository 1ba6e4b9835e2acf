-- The one list of a set of triples, and what a change makes of it.
use Rattle.std.proofs.Common.{◌≡◌, ◌⊎◌, Bool, true, not, ◌&&◌, List, [], ◌∷◌, ◌++◌, filter, refl, sym, ◌∙◌, subst, inl, inr, ⊎_elim}
use Rattle.std.specs.List.{All, AllByRecursion, Contains}
use Rattle.std.specs.List.Sorted.{IsStrictlySortedBy}
use Rattle.std.specs.declared.cmp.Ordering.{Ordering}
use Rattle.std.specs.declared.cmp.Ordering.TheVariants.{Less, Equal, Greater}
use Rattle.std.proofs.lemmas.Bool.{and_parts, and_from, or_cases, or_left, or_right, false≢true, false_from_ne_true, not-true, not_from_false}
use Rattle.std.proofs.lemmas.List.Elements.{All-contains, Contains-append_left, Contains-append_right, Contains-append_cases}
use Rattle.rdf_graph.specs.Change.{IsChanged}
use Rattle.rdf_graph.specs.Graph.{IsGraph, IsOrdered, SameSet}
use Rattle.rdf_graph.specs.Term.{term_eq}
use Rattle.rdf_graph.specs.TermLaws.{term_eq_decides}
use Rattle.rdf_graph.specs.Triple.{triple_cmp, IsRdf}
use Rattle.rdf_graph.specs.TripleLaws.{triple_cmp_total}
use Rattle.rdf_graph.specs.declared.triple.Triple.{Triple}
use Rattle.rdf_graph.proofs.Exact.{triple_cmp_exact, same_parts}
use Rattle.rdf_graph.proofs.Graphs.{one_graph}
use Rattle.rdf_graph.proofs.Members.{contains_cases, contains_here, contains_there, contains_none, contains_filter, All-from_members}
use Rattle.rdf_graph.proofs.Sorted.{above_is_below}
use Rattle.pod_rows.specs.GraphSets.{placed, with_triple, graph_of, triple_eq, has_triple, has_triples, changed_graph}

-- ---- one more triple

all_with : (P : Triple → Type 0) (t : Triple) (g : List Triple) → P t → AllByRecursion P g → AllByRecursion P (with_triple t g)
all_with P t [] p a = (p, tt)
all_with P t (u ∷ us) p a = all_placed (triple_cmp t u) (all_with P t us p a.1)
  where
    all_placed : (o : Ordering) → AllByRecursion P (with_triple t us) → AllByRecursion P (placed o t u us (with_triple t us))
    all_placed Less more = (p, a)
    all_placed Equal more = a
    all_placed Greater more = (a.0, more)

below_further : (t u : Triple) (us : List Triple) → triple_cmp t u ≡ Less → AllByRecursion (λ y. triple_cmp u y ≡ Less) us → AllByRecursion (λ y. triple_cmp t y ≡ Less) us
below_further t u [] h a = tt
below_further t u (v ∷ vs) h a = (triple_cmp_total.trans t u v h a.0, below_further t u vs h a.1)

ordered_nil : IsOrdered []
unfolding IsStrictlySortedBy
ordered_nil = tt

ordered_with : (t : Triple) (g : List Triple) → IsOrdered g → IsOrdered (with_triple t g)
unfolding IsStrictlySortedBy
ordered_with t [] h = (tt, tt)
ordered_with t (u ∷ us) h = ordered_placed (triple_cmp t u) refl (ordered_with t us h.1)
  where
    ordered_placed : (o : Ordering) → triple_cmp t u ≡ o → IsStrictlySortedBy triple_cmp (with_triple t us) → IsStrictlySortedBy triple_cmp (placed o t u us (with_triple t us))
    ordered_placed Less e more = ((e, below_further t u us e h.0), h)
    ordered_placed Equal e more = h
    ordered_placed Greater e more = (all_with (λ y. triple_cmp u y ≡ Less) t us (above_is_below triple_cmp_total triple_cmp_exact t u e) h.0, more)

with_to : (t : Triple) (g : List Triple) (x : Triple) → Contains (with_triple t g) x → (t ≡ x) ⊎ Contains g x
with_to t [] x h = contains_cases t [] x h
with_to t (u ∷ us) x h = placed_to (triple_cmp t u) h (with_to t us x)
  where
    placed_to : (o : Ordering) → Contains (placed o t u us (with_triple t us)) x → (Contains (with_triple t us) x → (t ≡ x) ⊎ Contains us x) → (t ≡ x) ⊎ Contains (u ∷ us) x
    placed_to Less c more = contains_cases t (u ∷ us) x c
    placed_to Equal c more = inr c
    placed_to Greater c more =
        ⊎_elim (λ e. inr (subst (Contains (u ∷ us)) e (contains_here u us)))
        (λ m. ⊎_elim (λ e. inl e) (λ d. inr (contains_there u us x d)) (more m))
        (contains_cases u (with_triple t us) x c)

with_itself : (t : Triple) (g : List Triple) → Contains (with_triple t g) t
with_itself t [] = contains_here t []
with_itself t (u ∷ us) = placed_itself (triple_cmp t u) refl (with_itself t us)
  where
    placed_itself : (o : Ordering) → triple_cmp t u ≡ o → Contains (with_triple t us) t → Contains (placed o t u us (with_triple t us)) t
    placed_itself Less e more = contains_here t (u ∷ us)
    placed_itself Equal e more = subst (Contains (u ∷ us)) (sym (triple_cmp_exact t u e)) (contains_here u us)
    placed_itself Greater e more = contains_there u (with_triple t us) t more

with_others : (t : Triple) (g : List Triple) (x : Triple) → Contains g x → Contains (with_triple t g) x
with_others t [] x h = absurd (contains_none x h)
with_others t (u ∷ us) x h = placed_others (triple_cmp t u) (with_others t us x)
  where
    placed_others : (o : Ordering) → (Contains us x → Contains (with_triple t us) x) → Contains (placed o t u us (with_triple t us)) x
    placed_others Less more = contains_there t (u ∷ us) x h
    placed_others Equal more = h
    placed_others Greater more =
        ⊎_elim (λ e. subst (Contains (u ∷ with_triple t us)) e (contains_here u (with_triple t us)))
        (λ c. contains_there u (with_triple t us) x (more c))
        (contains_cases u us x h)

-- ---- the graph of a list

pub graph_to : (ts : List Triple) (x : Triple) → Contains (graph_of ts) x → Contains ts x
graph_to [] x h = h
graph_to (t ∷ ts) x h =
    ⊎_elim (λ e. subst (Contains (t ∷ ts)) e (contains_here t ts)) (λ c. contains_there t ts x (graph_to ts x c)) (with_to t (graph_of ts) x h)

pub graph_from : (ts : List Triple) (x : Triple) → Contains ts x → Contains (graph_of ts) x
graph_from [] x h = h
graph_from (t ∷ ts) x h =
    ⊎_elim (λ e. subst (Contains (with_triple t (graph_of ts))) e (with_itself t (graph_of ts)))
    (λ c. with_others t (graph_of ts) x (graph_from ts x c))
    (contains_cases t ts x h)

pub graph_same : (ts : List Triple) → SameSet (graph_of ts) ts
graph_same ts = λ x. (graph_to ts x, graph_from ts x)

graph_ordered : (ts : List Triple) → IsOrdered (graph_of ts)
graph_ordered [] = ordered_nil
graph_ordered (t ∷ ts) = ordered_with t (graph_of ts) (graph_ordered ts)

pub graph_is : (ts : List Triple) → All IsRdf ts → IsGraph (graph_of ts)
graph_is ts h = record {
  ordered = graph_ordered ts;
  rdf = All-from_members IsRdf (graph_of ts) (λ x c. All-contains IsRdf ts x h (graph_to ts x c));
}

-- a graph with the triples of a list is the graph of the list
pub graph_unique : (g ts : List Triple) → IsGraph g → All IsRdf ts → SameSet g ts → g ≡ graph_of ts
graph_unique g ts h rdf same =
    one_graph g (graph_of ts) h (graph_is ts rdf) (λ x. (λ c. graph_from ts x ((same x).0 c), λ c. (same x).1 (graph_to ts x c)))

-- ---- members, as a test

eq_to : (t u : Triple) → triple_eq t u ≡ true → t ≡ u
eq_to t u h =
    let a = and_parts (term_eq t.s u.s) (term_eq t.p u.p && term_eq t.o u.o) h in
    let b = and_parts (term_eq t.p u.p) (term_eq t.o u.o) a.1 in
    same_parts t.s t.p t.o u.s u.p u.o ((term_eq_decides t.s u.s).0 a.0) ((term_eq_decides t.p u.p).0 b.0) ((term_eq_decides t.o u.o).0 b.1)

eq_itself : (t : Triple) → triple_eq t t ≡ true
eq_itself t =
    and_from (term_eq t.s t.s) (term_eq t.p t.p && term_eq t.o t.o) ((term_eq_decides t.s t.s).1 refl)
    (and_from (term_eq t.p t.p) (term_eq t.o t.o) ((term_eq_decides t.p t.p).1 refl) ((term_eq_decides t.o t.o).1 refl))

pub has_to : (g : List Triple) (t : Triple) → has_triple g t ≡ true → Contains g t
has_to [] t h = absurd (false≢true h)
has_to (u ∷ us) t h =
    ⊎_elim (λ e. subst (Contains (u ∷ us)) (eq_to u t e) (contains_here u us)) (λ m. contains_there u us t (has_to us t m))
    (or_cases (triple_eq u t) (has_triple us t) h)

pub has_from : (g : List Triple) (t : Triple) → Contains g t → has_triple g t ≡ true
has_from [] t h = absurd (contains_none t h)
has_from (u ∷ us) t h =
    ⊎_elim (λ e. or_left (triple_eq u t) (has_triple us t) (subst (λ x. triple_eq u x ≡ true) e (eq_itself u)))
    (λ c. or_right (triple_eq u t) (has_triple us t) (has_from us t c))
    (contains_cases u us t h)

pub have_to : (g ts : List Triple) → has_triples g ts ≡ true → All (Contains g) ts
have_to g ts h = All-from_members (Contains g) ts (λ x c. has_to g x (one ts h x c))
  where
    one : (ts : List Triple) → has_triples g ts ≡ true → (x : Triple) → Contains ts x → has_triple g x ≡ true
    one [] h x c = absurd (contains_none x c)
    one (t ∷ ts) h x c =
        let parts = and_parts (has_triple g t) (has_triples g ts) h in
        ⊎_elim (λ e. subst (λ y. has_triple g y ≡ true) e parts.0) (λ d. one ts parts.1 x d) (contains_cases t ts x c)

pub have_from : (g ts : List Triple) → All (Contains g) ts → has_triples g ts ≡ true
have_from g ts h = each ts (λ x c. has_from g x (All-contains (Contains g) ts x h c))
  where
    each : (ts : List Triple) → ((x : Triple) → Contains ts x → has_triple g x ≡ true) → has_triples g ts ≡ true
    each [] k = refl
    each (t ∷ ts) k = and_from (has_triple g t) (has_triples g ts) (k t (contains_here t ts)) (each ts (λ x c. k x (contains_there t ts x c)))

-- ---- changes

pub changed_is : (old removed added new : List Triple) → IsGraph old → IsGraph added → IsGraph new → IsChanged old removed added new → new ≡ changed_graph old removed added
changed_is old removed added new o a n h =
    graph_unique new (filter keep old ++ added) n
    (All-from_members IsRdf (filter keep old ++ added) (λ x c. rdf x (Contains-append_cases (filter keep old) added x c)))
    (λ x. (λ c. to x ((h x).0 c), λ c. (h x).1 (from x (Contains-append_cases (filter keep old) added x c))))
  where
    keep : Triple → Bool
    keep = λ t. not (has_triple removed t)

    rdf : (x : Triple) → Contains (filter keep old) x ⊎ Contains added x → IsRdf x
    rdf x (inl c) = All-contains IsRdf old x o.rdf ((contains_filter keep old x).0 c).0
    rdf x (inr c) = All-contains IsRdf added x a.rdf c

    to : (x : Triple) → Contains added x ⊎ (Contains old x × (Contains removed x → ⊥)) → Contains (filter keep old ++ added) x
    to x (inl c) = Contains-append_right (filter keep old) added x c
    to x (inr p) =
        Contains-append_left (filter keep old) added x
        ((contains_filter keep old x).1 (p.0, not_from_false (has_triple removed x) (false_from_ne_true (has_triple removed x) (λ e. p.1 (has_to removed x e)))))

    from : (x : Triple) → Contains (filter keep old) x ⊎ Contains added x → Contains added x ⊎ (Contains old x × (Contains removed x → ⊥))
    from x (inl c) =
        let parts = (contains_filter keep old x).0 c in
        inr (parts.0, λ r. false≢true (sym (not-true (has_triple removed x) parts.1) ∙ has_from removed x r))
    from x (inr c) = inl c
