-- A patch touches containment under its one solution, or not at all; a fault of it is its refusal.
use Rattle.std.proofs.Common.{◌≡◌, ℕ, Bool, List, Some, inl, inr, refl, sym, ◌∙◌, subst}
use Rattle.std.specs.Prelude.{IsTrue}
use Rattle.graph_patch.specs.Patch.{HasPredicate, IsFaultOf, IsMappingFault}
use Rattle.graph_patch.specs.Pattern.{Binding, SameBinding, slot_term, value_of}
use Rattle.graph_patch.specs.Solutions.{HasTwoSolutions, IsOnlySolution}
use Rattle.graph_patch.specs.declared.patch.Patch.{Patch}
use Rattle.graph_patch.specs.declared.patch.PatchFault.{PatchFault}
use Rattle.graph_patch.specs.declared.patch.PatchFault.TheVariants as faults
use Rattle.graph_patch.specs.declared.pattern.Pattern.{Pattern}
use Rattle.graph_patch.specs.declared.pattern.Slot.{Slot}
use Rattle.graph_patch.specs.declared.pattern.Slot.TheVariants.{Fixed, Var}
use Rattle.rdf_graph.specs.declared.term.Term.{Term}
use Rattle.rdf_graph.specs.declared.triple.Triple.{Triple}
use Rattle.graph_patch.proofs.Patching.{the_solution}
use Rattle.patch_outcome.specs.Outcomes.{NamesContainment, HasFixedContainment, HasSolvedContainment, TouchesContainment}
use Rattle.patch_outcome.specs.Outcomes.{KeepsContainment, IsRefusal, IsRefusedBy, fault_of}
use Rattle.patch_outcome.specs.declared.patch_refusals.PatchRefusal.{PatchRefusal}
use Rattle.patch_outcome.specs.declared.patch_refusals.PatchRefusal.TheVariants as refusals

slot_moved : (m n : Binding) → SameBinding m n → (slot : Slot) → slot_term m slot ≡ slot_term n slot
slot_moved m n same (Fixed term) = refl
slot_moved m n same (Var name) = same name

predicate_moved : (m n : Binding) (patterns : List Pattern) (iri : List ℕ) → SameBinding m n
    → HasPredicate m patterns iri → HasPredicate n patterns iri
predicate_moved m n patterns iri same h = (h.0, h.1, sym (slot_moved m n same h.0.p) ∙ h.2)

names_moved : (m n : Binding) (patch : Patch) → SameBinding m n → NamesContainment m patch
    → NamesContainment n patch
names_moved m n patch same (inl h) = inl (predicate_moved m n patch.deletions.items _ same h)
names_moved m n patch same (inr h) = inr (predicate_moved m n patch.insertions.items _ same h)

-- what a patch names under the one solution
pub solved_touches : (g : List Triple) (patch : Patch) (pairs : List (List ℕ × Term))
    → IsOnlySolution g patch.conditions.items pairs → NamesContainment (value_of pairs) patch
    → TouchesContainment g patch
solved_touches g patch pairs only h = inr (record {
  mapping = value_of pairs;
  only = the_solution g patch.conditions.items pairs only;
  names = h;
})

no_touch : (container : Bool) (g : List Triple) (patch : Patch) (pairs : List (List ℕ × Term))
    → IsOnlySolution g patch.conditions.items pairs
    → (IsTrue container → HasFixedContainment patch → ⊥)
    → (IsTrue container → NamesContainment (value_of pairs) patch → ⊥)
    → IsTrue container → TouchesContainment g patch → ⊥
no_touch container g patch pairs only fixed solved is (inl h) = fixed is h
no_touch container g patch pairs only fixed solved is (inr h) =
    solved is (names_moved h.mapping (value_of pairs) patch (only.only h.mapping h.only.solution) h.names)

pub kept : (container : Bool) (g : List Triple) (patch : Patch) (pairs : List (List ℕ × Term))
    → IsOnlySolution g patch.conditions.items pairs
    → (IsTrue container → HasFixedContainment patch → ⊥)
    → (IsTrue container → NamesContainment (value_of pairs) patch → ⊥)
    → KeepsContainment container g patch
kept container g patch pairs only fixed solved = no_touch container g patch pairs only fixed solved

-- a fault under the one solution
pub refused_under : (container : Bool) (g : List Triple) (patch : Patch) (refusal : PatchRefusal)
    (fault : PatchFault) → fault_of refusal ≡ Some fault → KeepsContainment container g patch
    → IsFaultOf g patch fault → IsRefusal container g patch refusal
refused_under container g patch refusal fault is keeps h =
    subst (λ o. IsRefusedBy container g patch o) (sym is) (keeps, h)

not_memory : (refusal : PatchRefusal) → fault_of refusal ≡ Some faults.NoMemory → ⊥
not_memory refusals.Contains is = absurd cc
not_memory refusals.NoMatch is = absurd cc
not_memory refusals.ManyMatches is = absurd cc
not_memory refusals.MissingDeletion is = absurd cc
not_memory refusals.NotTriple is = absurd cc

no_solution : (container : Bool) (g : List Triple) (patch : Patch)
    → (IsTrue container → HasFixedContainment patch → ⊥) → ((h : HasSolvedContainment g patch) → ⊥)
    → IsTrue container → TouchesContainment g patch → ⊥
no_solution container g patch fixed none is (inl h) = fixed is h
no_solution container g patch fixed none is (inr h) = none h

two_solutions : (g : List Triple) (patch : Patch) → HasTwoSolutions g patch.conditions.items
    → HasSolvedContainment g patch → ⊥
two_solutions g patch two h =
    two.apart (h.only.only two.first two.is_first two.name ∙ sym (h.only.only two.second two.is_second two.name))

-- a fault of the conditions
pub refused_unmatched : (container : Bool) (g : List Triple) (patch : Patch) (refusal : PatchRefusal)
    (fault : PatchFault) → fault_of refusal ≡ Some fault
    → (IsTrue container → HasFixedContainment patch → ⊥)
    → IsMappingFault g patch.conditions.items fault → IsRefusal container g patch refusal
refused_unmatched container g patch refusal faults.NoMatch is fixed h =
    refused_under container g patch refusal faults.NoMatch is
    (no_solution container g patch fixed (λ s. h s.mapping s.only.solution)) h
refused_unmatched container g patch refusal faults.ManyMatches is fixed h =
    refused_under container g patch refusal faults.ManyMatches is
    (no_solution container g patch fixed (two_solutions g patch h)) h
refused_unmatched container g patch refusal faults.MissingDeletion is fixed h = absurd h
refused_unmatched container g patch refusal faults.NotTriple is fixed h = absurd h
refused_unmatched container g patch refusal faults.NoMemory is fixed h = absurd (not_memory refusal is)
