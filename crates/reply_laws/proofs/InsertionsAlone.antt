-- What a body without conditions and deletions makes of a graph doesn't depend on the graph.
use Rattle.std.proofs.Common.{◌≡◌, ℕ, Bool, true, false, cond, not, ◌||◌, ◌&&◌, List, [], ◌∷◌, ◌++◌, map, filter, Option, Some, None, Result, Ok, Err, refl, sym, ap, ap₂, ◌∙◌, subst, arith, inl, inr, ⊎_elim}
use Rattle.std.specs.List.{Contains, list_any}
use Rattle.std.proofs.lemmas.Bool.{true≢false}
use Rattle.patch_outcome.specs.Outcomes.{IsOutcome, IsRefusedBy, TouchesContainment, fault_of}
use Rattle.patch_outcome.specs.Updates.{IsSpelledOutcome, IsUpdateOutcome}
use Rattle.patch_outcome.specs.declared.patch_refusals.PatchRefusal.{PatchRefusal}
use Rattle.pod_reply.specs.PatchReplies.{IsBodyOutcome}
use Rattle.pod_reply.specs.Shapes.{has_conditions, has_deletions, is_deletion, is_some_of}
use Rattle.pod_path.specs.Hierarchy.{is_container}
use Rattle.rdf_graph.proofs.Members.{contains_none}
use Rattle.graph_patch.specs.Patch.{IsChangeOf, IsFaultOf, IsInstance, IsTheSolution}
use Rattle.graph_patch.specs.Pattern.{Binding, IsSolution}
use Rattle.graph_patch.specs.Solutions.{HasTwoSolutions}
use Rattle.rdf_graph.specs.declared.change.Change.{Change}
use Rattle.graph_patch.specs.declared.patch.Patch.{Patch}
use Rattle.graph_patch.specs.declared.patch.PatchFault.{PatchFault}
use Rattle.graph_patch.specs.declared.patch.PatchFault.TheVariants.{NoMatch, ManyMatches, MissingDeletion, NotTriple, NoMemory}
use Rattle.graph_patch.specs.declared.pattern.Pattern.{Pattern}
use Rattle.rdf_graph.specs.declared.triple.Triple.{Triple}
use Rattle.request_body.specs.declared.body.RequestBody.{RequestBody}
use Rattle.request_body.specs.declared.body.RequestBody.TheVariants as bodies
use Rattle.sparql_patch.specs.NamedUpdate.{IsSpelledAt, has_triple, is_named, last_named, pattern_of}
use Rattle.sparql_patch.specs.declared.named.Named.{Named}

-- ---- no conditions hold in every graph

no_conditions : (g h : List Triple) (m : Binding) → IsSolution g [] m → IsSolution h [] m
no_conditions g h m s = record { variables = s.variables; holds = λ k d l. absurd (omega (arith, l)) }

the_solution : (g h : List Triple) (m : Binding) → IsTheSolution g [] m → IsTheSolution h [] m
the_solution g h m s = record { solution = no_conditions g h m s.solution; only = λ n other. s.only n (no_conditions h g n other) }

module _ (g h : List Triple) (patch : Patch) (conditions : patch.conditions.items ≡ []) (deletions : patch.deletions.items ≡ []) where
  the_same : (m : Binding) → IsTheSolution g patch.conditions.items m → IsTheSolution h patch.conditions.items m
  the_same m s =
      subst (λ (c : List Pattern). IsTheSolution h c m) (sym conditions)
      (the_solution g h m (subst (λ (c : List Pattern). IsTheSolution g c m) conditions s))

  no_instance : (m : Binding) (x : Triple) → IsInstance m patch.deletions.items x → ⊥
  no_instance m x is = contains_none is.0 (subst (λ (d : List Pattern). Contains d is.0) deletions is.1)

  same_change : (change : Change) → IsChangeOf g patch change → IsChangeOf h patch change
  same_change change is = record {
    mapping = is.mapping;
    only = the_same is.mapping is.only;
    removed = is.removed;
    added = is.added;
    in_graph = λ x one. absurd (no_instance is.mapping x one);
    rdf = is.rdf;
  }

  same_fault : (fault : PatchFault) → IsFaultOf g patch fault → IsFaultOf h patch fault
  same_fault NoMatch none = λ m s.
      none m (subst (λ (c : List Pattern). IsSolution g c m) (sym conditions) (no_conditions h g m (subst (λ (c : List Pattern). IsSolution h c m) conditions s)))
  same_fault ManyMatches two =
      subst (λ (c : List Pattern). HasTwoSolutions h c) (sym conditions) (two_solutions (subst (λ (c : List Pattern). HasTwoSolutions g c) conditions two))
    where
      two_solutions : HasTwoSolutions g [] → HasTwoSolutions h []
      two_solutions s = record { first = s.first; second = s.second; is_first = no_conditions g h s.first s.is_first; is_second = no_conditions g h s.second s.is_second; name = s.name; apart = s.apart }
  same_fault MissingDeletion lacks = absurd (no_instance lacks.mapping lacks.missing lacks.is_deletion)
  same_fault NotTriple wrong = record {
    mapping = wrong.mapping;
    only = the_same wrong.mapping wrong.only;
    in_graph = λ x one. absurd (no_instance wrong.mapping x one);
    wrong = wrong.wrong;
    is_insertion = wrong.is_insertion;
    no_triple = wrong.no_triple;
  }
  same_fault NoMemory _ = tt

  same_touches : TouchesContainment g patch → TouchesContainment h patch
  same_touches t =
      ⊎_elim
      (λ fixed. inl fixed)
      (λ solved. inr (record { mapping = solved.mapping; only = the_same solved.mapping solved.only; names = solved.names }))
      t

module _ (g h : List Triple) (patch : Patch) (conditions : patch.conditions.items ≡ []) (deletions : patch.deletions.items ≡ []) where
  same_refused : (container : Bool) (fault : Option PatchFault) → IsRefusedBy container g patch fault → IsRefusedBy container h patch fault
  same_refused container None r = (r.0, same_touches g h patch conditions deletions r.1)
  same_refused container (Some fault) r =
      (λ is touches. r.0 is (same_touches h g patch conditions deletions touches), same_fault g h patch conditions deletions fault r.1)

  pub same_outcome : (container : Bool) (outcome : Result Change PatchRefusal) → IsOutcome container g patch outcome → IsOutcome container h patch outcome
  same_outcome container (Ok change) o =
      (λ is touches. o.0 is (same_touches h g patch conditions deletions touches), same_change g h patch conditions deletions change o.1)
  same_outcome container (Err refusal) o = same_refused container (fault_of refusal) o

-- ---- an update that deletes nothing

no_last : (named : List Named) → list_any is_deletion named ≡ false → last_named false named ≡ []
no_last [] h = refl
no_last (x ∷ xs) h =
    let parts = both_false (not x.insert) (list_any is_deletion xs) h in
    ap₂ (λ (a b : List Triple). a ++ b) (no_last xs parts.1)
    (ap (λ (b : Bool). cond (b && not (is_named xs x.triple)) (x.triple ∷ []) []) parts.0)
  where
    both_false : (a b : Bool) → (a || b) ≡ false → (a ≡ false) × (b ≡ false)
    both_false true b e = absurd (true≢false e)
    both_false false b e = (refl, e)

no_patterns : (g : List Triple) (named : List Named) → list_any is_deletion named ≡ false → map pattern_of (filter (has_triple g) (last_named false named)) ≡ []
no_patterns g named h = ap (λ (ts : List Triple). map pattern_of (filter (has_triple g) ts)) (no_last named h)

same_spelled : (g h : List Triple) (named : List Named) (patch : Patch) → list_any is_deletion named ≡ false → IsSpelledAt g named patch → IsSpelledAt h named patch
same_spelled g h named patch none s = record {
  conditions = s.conditions;
  deletions = s.deletions ∙ no_patterns g named none ∙ sym (no_patterns h named none);
  insertions = s.insertions;
}

same_spelled_outcome : (g h : List Triple) (named : List Named) (outcome : Result Change PatchRefusal) → list_any is_deletion named ≡ false
    → IsSpelledOutcome g named outcome → IsSpelledOutcome h named outcome
same_spelled_outcome g h named outcome none s = record {
  patch = s.patch;
  spelled = same_spelled g h named s.patch none s.spelled;
  applied = same_outcome g h s.patch s.spelled.conditions (s.spelled.deletions ∙ no_patterns g named none) false outcome s.applied;
}

same_update : (container : Bool) (g h : List Triple) (named : List Named) (outcome : Result Change PatchRefusal) → list_any is_deletion named ≡ false
    → IsUpdateOutcome container g named outcome → IsUpdateOutcome container h named outcome
same_update container g h named outcome none o =
    ⊎_elim (λ contains. inl contains) (λ spelled. inr (spelled.0, same_spelled_outcome g h named outcome none spelled.1)) o

-- ---- the bodies

no_items : {X : Type 0} (xs : List X) → is_some_of xs ≡ false → xs ≡ []
no_items [] h = refl
no_items (x ∷ xs) h = absurd (true≢false h)

pub insertions_alone : (body : RequestBody) (path : List ℕ) (g h : List Triple) (outcome : Result Change PatchRefusal)
    → has_conditions body ≡ false → has_deletions body ≡ false → IsBodyOutcome body path g outcome → IsBodyOutcome body path h outcome
insertions_alone bodies.Nothing path g h outcome c d o = o
insertions_alone (bodies.Content content) path g h outcome c d o = o
insertions_alone (bodies.Patch patch) path g h outcome c d o =
    same_outcome g h patch (no_items patch.conditions.items c) (no_items patch.deletions.items d) (is_container path) outcome o
insertions_alone (bodies.Update named) path g h outcome c d o = same_update (is_container path) g h named.items outcome d o
