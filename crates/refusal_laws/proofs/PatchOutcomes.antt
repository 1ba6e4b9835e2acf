-- A patch, and an update, has an outcome at each graph.
use Rattle.std.proofs.Common.{◌≡◌, ◌&&◌, Bool, true, false, List, [], None, Result, Ok, Err, refl, sym, ◌∙◌, inl, inr, ⊎_elim, map, filter}
use Rattle.std.specs.Prelude.{IsTrue}
use Rattle.std.specs.List.{Contains}
use Rattle.std.proofs.lemmas.Bool.{true≢false}
use Rattle.std.proofs.lemmas.List.Elements.{All-contains}
use Rattle.patch_outcome.specs.Outcomes.{HasFixedContainment, HasGraphs, HasSolvedContainment, IsOutcome, KeepsContainment, NamesContainment, TouchesContainment}
use Rattle.patch_outcome.specs.Updates.{IsUpdateOutcome, names_containment}
use Rattle.patch_outcome.specs.declared.patch_refusals.PatchRefusal.{PatchRefusal}
use Rattle.patch_outcome.specs.declared.patch_refusals.PatchRefusal.TheVariants as refusals
use Rattle.pod_base.specs.Listed.{listed}
use Rattle.pod_rows.proofs.Sets.{graph_is, graph_same}
use Rattle.pod_rows.specs.GraphSets.{graph_of}
use Rattle.pod_rows.specs.Vocabulary.{ldp_contains}
use Rattle.rdf_graph.proofs.Members.{All-from_members}
use Rattle.graph_patch.proofs.Patching.{instances_same, the_solution}
use Rattle.rdf_graph.specs.Graph.{IsGraph}
use Rattle.graph_patch.specs.Patch.{HasPredicate, IsInstance, IsTheSolution}
use Rattle.graph_patch.specs.Pattern.{Binding, SameBinding, slot_term, value_of}
use Rattle.graph_patch.specs.Solutions.{AreSolutions}
use Rattle.rdf_graph.specs.Triple.{IsRdf}
use Rattle.rdf_graph.specs.declared.change.Change.{Change}
use Rattle.graph_patch.specs.declared.patch.Patch.{Patch}
use Rattle.graph_patch.specs.declared.pattern.Found.{Found}
use Rattle.graph_patch.specs.declared.pattern.Found.TheVariants.{Nothing, One, Many}
use Rattle.graph_patch.specs.declared.pattern.Pattern.{Pattern}
use Rattle.graph_patch.specs.declared.pattern.Slot.{Slot}
use Rattle.graph_patch.specs.declared.pattern.Slot.TheVariants.{Fixed, Var}
use Rattle.rdf_graph.specs.declared.triple.Triple.{Triple}
use Rattle.sparql_patch.specs.NamedUpdate.{has_triple, last_named, pattern_of}
use Rattle.sparql_patch.specs.declared.named.Named.{Named}
use Rattle.refusal_laws.proofs.FoundSolutions.{found_solutions}
use Rattle.refusal_laws.proofs.PatchInstances.{Decided, all_or_one, are_instances, decide_member, decide_predicate, decide_rdf, instances}

-- an outcome whose triples are graphs
abbrev pub SomeOutcome : Bool → List Triple → Patch → Type 0
SomeOutcome container g patch = (outcome : Result Change PatchRefusal) × IsOutcome container g patch outcome × HasGraphs outcome

slot_moved : (m n : Binding) → SameBinding m n → (slot : Slot) → slot_term m slot ≡ slot_term n slot
slot_moved m n same (Fixed term) = refl
slot_moved m n same (Var name) = same name

predicate_moved : (m n : Binding) (patterns : List Pattern) → SameBinding m n → HasPredicate m patterns ldp_contains → HasPredicate n patterns ldp_contains
predicate_moved m n patterns same h = (h.0, h.1, sym (slot_moved m n same h.0.p) ∙ h.2)

names_moved : (m n : Binding) (patch : Patch) → SameBinding m n → NamesContainment m patch → NamesContainment n patch
names_moved m n patch same (inl h) = inl (predicate_moved m n patch.deletions.items same h)
names_moved m n patch same (inr h) = inr (predicate_moved m n patch.insertions.items same h)

decide_names : (m : Binding) (patch : Patch) → Decided (NamesContainment m patch)
decide_names m patch = ⊎_elim
    (λ deletes. inl (inl deletes))
    (λ not. ⊎_elim
    (λ inserts. inl (inr inserts))
    (λ neither. inr (λ h. ⊎_elim not neither h))
    (decide_predicate m patch.insertions.items ldp_contains))
    (decide_predicate m patch.deletions.items ldp_contains)

module _ (container : Bool) (g : List Triple) (graph : IsGraph g) (patch : Patch) where
  -- ---- under the one solution

  module _ (m : Binding) (only : IsTheSolution g patch.conditions.items m) (keeps : KeepsContainment container g patch) where
    abbrev deleted : List Triple
    deleted = instances m patch.deletions.items

    abbrev inserted : List Triple
    inserted = instances m patch.insertions.items

    deletes : (x : Triple) → Contains deleted x → IsInstance m patch.deletions.items x
    deletes x h = (are_instances m patch.deletions.items x).0 h

    inserts : (x : Triple) → Contains inserted x → IsInstance m patch.insertions.items x
    inserts x h = (are_instances m patch.insertions.items x).0 h

    changes : ((x : Triple) → Contains deleted x → Contains g x) → ((x : Triple) → Contains inserted x → IsRdf x) → SomeOutcome container g patch
    changes all rdf = (
      Ok (record { removed = graph_of deleted; added = graph_of inserted }),
      (
        keeps,
        record {
          mapping = m;
          only = only;
          removed = instances_same m patch.deletions.items deleted (graph_of deleted) (graph_same deleted) (are_instances m patch.deletions.items);
          added = instances_same m patch.insertions.items inserted (graph_of inserted) (graph_same inserted) (are_instances m patch.insertions.items);
          in_graph = λ x h. all x ((are_instances m patch.deletions.items x).1 h);
          rdf = λ x h. rdf x ((are_instances m patch.insertions.items x).1 h);
        },
      ),
      (
        graph_is deleted (All-from_members IsRdf deleted (λ x h. All-contains IsRdf g x graph.rdf (all x h))),
        graph_is inserted (All-from_members IsRdf inserted rdf),
      ),
    )

    under_solution : SomeOutcome container g patch
    under_solution = ⊎_elim
        (λ all. ⊎_elim
        (λ rdf. changes all rdf)
        (λ wrong. (
          Err refusals.NotTriple,
          (
            keeps,
            record {
              mapping = m;
              only = only;
              in_graph = λ x h. all x ((are_instances m patch.deletions.items x).1 h);
              wrong = wrong.0;
              is_insertion = inserts wrong.0 wrong.1;
              no_triple = wrong.2;
            },
          ),
          tt,
        ))
        (all_or_one IsRdf decide_rdf inserted))
        (λ missing. (
          Err refusals.MissingDeletion,
          (keeps, record { mapping = m; only = only; missing = missing.0; is_deletion = deletes missing.0 missing.1; absent = missing.2 }),
          tt,
        ))
        (all_or_one (Contains g) (decide_member g) deleted)

  -- ---- containment

  touches : IsTrue container → TouchesContainment g patch → SomeOutcome container g patch
  touches is h = (Err refusals.Contains, (is, h), tt)

  none_touches : (HasFixedContainment patch → ⊥) → (HasSolvedContainment g patch → ⊥) → KeepsContainment container g patch
  none_touches fixed solved = λ is h. ⊎_elim fixed solved h

  by_found : (IsTrue container → HasFixedContainment patch → ⊥) → (found : Found) → AreSolutions g patch.conditions.items found → SomeOutcome container g patch
  by_found fixed Nothing none = (
    Err refusals.NoMatch,
    ((λ is h. ⊎_elim (fixed is) (λ s. none s.mapping s.only.solution) h), none),
    tt,
  )
  by_found fixed Many two = (
    Err refusals.ManyMatches,
    ((λ is h. ⊎_elim (fixed is) (λ s. two.apart (s.only.only two.first two.is_first two.name ∙ sym (s.only.only two.second two.is_second two.name))) h), two),
    tt,
  )
  by_found fixed (One mapping) only =
      let m = value_of mapping.pairs.items in
      let one = the_solution g patch.conditions.items mapping.pairs.items only in
      by_names m one (decide_names m patch)
    where
      solved_names : (m : Binding) → IsTheSolution g patch.conditions.items m → HasSolvedContainment g patch → NamesContainment m patch
      solved_names m one s = names_moved s.mapping m patch (one.only s.mapping s.only.solution) s.names

      by_container : (m : Binding) → IsTheSolution g patch.conditions.items m → NamesContainment m patch → (b : Bool) → container ≡ b → SomeOutcome container g patch
      by_container m one names true e = touches e (inr (record { mapping = m; only = one; names = names }))
      by_container m one names false e = under_solution m one (λ is h. absurd (true≢false (sym is ∙ e)))

      by_names : (m : Binding) → IsTheSolution g patch.conditions.items m → Decided (NamesContainment m patch) → SomeOutcome container g patch
      by_names m one (inl names) = by_container m one names container refl
      by_names m one (inr not) = under_solution m one (λ is h. ⊎_elim (fixed is) (λ s. not (solved_names m one s)) h)

  by_fixed : (b : Bool) → container ≡ b → Decided (HasFixedContainment patch) → SomeOutcome container g patch
  by_fixed true e (inl fixed) = touches e (inl fixed)
  by_fixed true e (inr not) =
      let all = found_solutions g graph.ordered patch.conditions.items in by_found (λ is. not) all.0 all.1
  by_fixed false e fixed =
      let all = found_solutions g graph.ordered patch.conditions.items in by_found (λ is h. true≢false (sym is ∙ e)) all.0 all.1

  pub patch_outcome : SomeOutcome container g patch
  patch_outcome = by_fixed container refl (decide_names (λ name. None) patch)

-- ---- updates

-- the patch that an update spells at a graph
abbrev spelled_at : List Triple → List Named → Patch
spelled_at g named = record {
  conditions = listed [] 0;
  deletions = listed (map pattern_of (filter (has_triple g) (last_named false named))) 0;
  insertions = listed (map pattern_of (last_named true named)) 0;
}

abbrev pub SomeUpdateOutcome : Bool → List Triple → List Named → Type 0
SomeUpdateOutcome container g named = (outcome : Result Change PatchRefusal) × IsUpdateOutcome container g named outcome × HasGraphs outcome

pub update_outcome : (container : Bool) (g : List Triple) → IsGraph g → (named : List Named) → SomeUpdateOutcome container g named
update_outcome container g graph named = by_test (container && names_containment named) refl
  where
    by_test : (b : Bool) → (container && names_containment named) ≡ b → SomeUpdateOutcome container g named
    by_test true e = (Err refusals.Contains, inl (e, tt), tt)
    by_test false e =
        let all = patch_outcome false g graph (spelled_at g named) in (
          all.0,
          inr ((λ is. true≢false (sym is ∙ e)), record { patch = spelled_at g named; spelled = record { conditions = refl; deletions = refl; insertions = refl }; applied = all.1 }),
          all.2,
        )
