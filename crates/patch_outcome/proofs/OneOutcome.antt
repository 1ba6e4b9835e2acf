-- A patch, and an update, has one outcome at a graph.
use Rattle.std.proofs.Common.{◌≡◌, Bool, false, List, None, Result, Ok, Err, inl, inr, refl, sym, ◌∙◌, ap, subst}
use Rattle.std.specs.List.{Contains}
use Rattle.rdf_graph.specs.Graph.{IsGraph, SameSet}
use Rattle.graph_patch.specs.Patch.{AreInstances, HasInvalidInsertion, HasPredicate, IsChangeOf, IsInstance, IsTheSolution, LacksDeletion}
use Rattle.graph_patch.specs.Pattern.{Binding, IsSolution, SameBinding, slot_term}
use Rattle.graph_patch.specs.Solutions.{HasTwoSolutions}
use Rattle.rdf_graph.specs.Triple.{IsRdf}
use Rattle.rdf_graph.specs.declared.change.Change.{Change}
use Rattle.graph_patch.specs.declared.patch.Patch.{Patch}
use Rattle.graph_patch.specs.declared.pattern.Pattern.{Pattern}
use Rattle.graph_patch.specs.declared.pattern.Slot.{Slot}
use Rattle.graph_patch.specs.declared.pattern.Slot.TheVariants.{Fixed, Var}
use Rattle.rdf_graph.specs.declared.triple.Triple.{Triple}
use Rattle.rdf_graph.proofs.Graphs.{one_graph}
use Rattle.sparql_patch.specs.declared.named.Named.{Named}
use Rattle.pod_rows.specs.Vocabulary.{ldp_contains}
use Rattle.patch_outcome.specs.Laws.{HasOneOutcome, HasOneUpdateOutcome}
use Rattle.patch_outcome.specs.Outcomes.{NamesContainment, TouchesContainment}
use Rattle.patch_outcome.specs.Outcomes.{HasGraphs, KeepsContainment, IsRefusal, IsOutcome}
use Rattle.patch_outcome.specs.Updates.{IsContainsRefusal, IsSpelledOutcome}
use Rattle.patch_outcome.specs.declared.patch_refusals.PatchRefusal.{PatchRefusal}
use Rattle.patch_outcome.specs.declared.patch_refusals.PatchRefusal.TheVariants.{Contains as Children, NoMatch, ManyMatches, MissingDeletion, NotTriple}

-- ---- equal mappings

slot_moved : (m n : Binding) → SameBinding m n → (slot : Slot) → slot_term m slot ≡ slot_term n slot
slot_moved m n same (Fixed term) = refl
slot_moved m n same (Var name) = same name

instance_moved : (m n : Binding) (patterns : List Pattern) (x : Triple) → SameBinding m n
    → IsInstance m patterns x → IsInstance n patterns x
instance_moved m n patterns x same h = (
  h.0,
  h.1,
  record {
    s = sym (slot_moved m n same h.0.s) ∙ h.2.s;
    p = sym (slot_moved m n same h.0.p) ∙ h.2.p;
    o = sym (slot_moved m n same h.0.o) ∙ h.2.o;
  },
)

same_solution : (g : List Triple) (conditions : List Pattern) (m n : Binding)
    → IsTheSolution g conditions m → IsTheSolution g conditions n → SameBinding m n
same_solution g conditions m n h k = k.only m h.solution

one_set : (m n : Binding) (patterns : List Pattern) (xs ys : List Triple) → SameBinding m n
    → AreInstances m patterns xs → AreInstances n patterns ys → SameSet xs ys
one_set m n patterns xs ys same h k x = (
  λ a. (k x).1 (instance_moved m n patterns x same ((h x).0 a)),
  λ b. (h x).1 (instance_moved n m patterns x (λ name. sym (same name)) ((k x).0 b)),
)

-- ---- one patch

abbrev change_of : List Triple → List Triple → Change
change_of removed added = record { removed = removed; added = added }

module _ (container : Bool) (g : List Triple) (patch : Patch) where
  same_change : (c d : Change) → IsChangeOf g patch c → IsChangeOf g patch d
      → IsGraph c.removed × IsGraph c.added → IsGraph d.removed × IsGraph d.added → c ≡ d
  same_change c d h k graphs graphs' =
      let same = same_solution g patch.conditions.items h.mapping k.mapping h.only k.only in
      let removed : c.removed ≡ d.removed = one_graph c.removed d.removed graphs.0 graphs'.0
      (one_set h.mapping k.mapping patch.deletions.items c.removed d.removed same h.removed k.removed) in
      let added : c.added ≡ d.added = one_graph c.added d.added graphs.1 graphs'.1
      (one_set h.mapping k.mapping patch.insertions.items c.added d.added same h.added k.added) in
      ap (λ (r : List Triple). change_of r c.added) removed ∙ ap (λ (a : List Triple). change_of d.removed a) added

  -- no solution, one and two
  no_solution : (m : Binding) → ((n : Binding) → IsSolution g patch.conditions.items n → ⊥)
      → IsTheSolution g patch.conditions.items m → ⊥
  no_solution m none only = none m only.solution

  two_solutions : (m : Binding) → HasTwoSolutions g patch.conditions.items
      → IsTheSolution g patch.conditions.items m → ⊥
  two_solutions m two only =
      two.apart (only.only two.first two.is_first two.name ∙ sym (only.only two.second two.is_second two.name))

  no_two : ((n : Binding) → IsSolution g patch.conditions.items n → ⊥)
      → HasTwoSolutions g patch.conditions.items → ⊥
  no_two none two = none two.first two.is_first

  -- a deletion isn't in the graph, and all are
  lacks_none : (m : Binding) → LacksDeletion g patch → IsTheSolution g patch.conditions.items m
      → ((x : Triple) → IsInstance m patch.deletions.items x → Contains g x) → ⊥
  lacks_none m h only in_graph =
      let same = same_solution g patch.conditions.items h.mapping m h.only only in
      h.absent (in_graph h.missing (instance_moved h.mapping m patch.deletions.items h.missing same h.is_deletion))

  -- an insertion is no triple, and all are
  invalid_none : (m : Binding) → HasInvalidInsertion g patch → IsTheSolution g patch.conditions.items m
      → ((x : Triple) → IsInstance m patch.insertions.items x → IsRdf x) → ⊥
  invalid_none m h only rdf =
      let same = same_solution g patch.conditions.items h.mapping m h.only only in
      h.no_triple (rdf h.wrong (instance_moved h.mapping m patch.insertions.items h.wrong same h.is_insertion))

  -- a change is no refusal
  no_refusal : (change : Change) (r : PatchRefusal) → IsOutcome container g patch (Ok change)
      → IsRefusal container g patch r → ⊥
  no_refusal change Children h k = h.0 k.0 k.1
  no_refusal change NoMatch h k = no_solution h.1.mapping k.1 h.1.only
  no_refusal change ManyMatches h k = two_solutions h.1.mapping k.1 h.1.only
  no_refusal change MissingDeletion h k = lacks_none h.1.mapping k.1 h.1.only h.1.in_graph
  no_refusal change NotTriple h k = invalid_none h.1.mapping k.1 h.1.only h.1.rdf

  one_refusal : (r q : PatchRefusal) → IsRefusal container g patch r → IsRefusal container g patch q
      → r ≡ q
  one_refusal Children Children h k = refl
  one_refusal Children NoMatch h k = absurd (k.0 h.0 h.1)
  one_refusal Children ManyMatches h k = absurd (k.0 h.0 h.1)
  one_refusal Children MissingDeletion h k = absurd (k.0 h.0 h.1)
  one_refusal Children NotTriple h k = absurd (k.0 h.0 h.1)
  one_refusal NoMatch Children h k = absurd (h.0 k.0 k.1)
  one_refusal NoMatch NoMatch h k = refl
  one_refusal NoMatch ManyMatches h k = absurd (no_two h.1 k.1)
  one_refusal NoMatch MissingDeletion h k = absurd (no_solution k.1.mapping h.1 k.1.only)
  one_refusal NoMatch NotTriple h k = absurd (no_solution k.1.mapping h.1 k.1.only)
  one_refusal ManyMatches Children h k = absurd (h.0 k.0 k.1)
  one_refusal ManyMatches NoMatch h k = absurd (no_two k.1 h.1)
  one_refusal ManyMatches ManyMatches h k = refl
  one_refusal ManyMatches MissingDeletion h k = absurd (two_solutions k.1.mapping h.1 k.1.only)
  one_refusal ManyMatches NotTriple h k = absurd (two_solutions k.1.mapping h.1 k.1.only)
  one_refusal MissingDeletion Children h k = absurd (h.0 k.0 k.1)
  one_refusal MissingDeletion NoMatch h k = absurd (no_solution h.1.mapping k.1 h.1.only)
  one_refusal MissingDeletion ManyMatches h k = absurd (two_solutions h.1.mapping k.1 h.1.only)
  one_refusal MissingDeletion MissingDeletion h k = refl
  one_refusal MissingDeletion NotTriple h k = absurd (lacks_none k.1.mapping h.1 k.1.only k.1.in_graph)
  one_refusal NotTriple Children h k = absurd (h.0 k.0 k.1)
  one_refusal NotTriple NoMatch h k = absurd (no_solution h.1.mapping k.1 h.1.only)
  one_refusal NotTriple ManyMatches h k = absurd (two_solutions h.1.mapping k.1 h.1.only)
  one_refusal NotTriple MissingDeletion h k = absurd (lacks_none h.1.mapping k.1 h.1.only h.1.in_graph)
  one_refusal NotTriple NotTriple h k = refl

  one : (a b : Result Change PatchRefusal) → HasGraphs a → HasGraphs b
      → IsOutcome container g patch a → IsOutcome container g patch b → a ≡ b
  one (Ok c) (Ok d) graphs graphs' h k = ap Ok (same_change c d h.1 k.1 graphs graphs')
  one (Ok c) (Err r) graphs graphs' h k = absurd (no_refusal c r h k)
  one (Err r) (Ok d) graphs graphs' h k = absurd (no_refusal d r k h)
  one (Err r) (Err q) graphs graphs' h k = ap Err (one_refusal r q h k)

-- ---- patches with the same lists

record SamePatch (p q : Patch) : Type 0 where
  conditions : p.conditions.items ≡ q.conditions.items
  deletions : p.deletions.items ≡ q.deletions.items
  insertions : p.insertions.items ≡ q.insertions.items

same_back : (p q : Patch) → SamePatch p q → SamePatch q p
same_back p q same = record {
  conditions = sym same.conditions;
  deletions = sym same.deletions;
  insertions = sym same.insertions;
}

module _ (g : List Triple) where
  only_moved : (p q : Patch) (m : Binding) → SamePatch p q → IsTheSolution g p.conditions.items m
      → IsTheSolution g q.conditions.items m
  only_moved p q m same h =
      subst (λ (cs : List Pattern). IsTheSolution g cs m) same.conditions h

  names_moved : (p q : Patch) (m : Binding) → SamePatch p q → NamesContainment m p → NamesContainment m q
  names_moved p q m same (inl h) =
      inl (subst (λ (ps : List Pattern). HasPredicate m ps ldp_contains) same.deletions h)
  names_moved p q m same (inr h) =
      inr (subst (λ (ps : List Pattern). HasPredicate m ps ldp_contains) same.insertions h)

  touches_moved : (p q : Patch) → SamePatch p q → TouchesContainment g p → TouchesContainment g q
  touches_moved p q same (inl h) = inl (names_moved p q (λ name. None) same h)
  touches_moved p q same (inr h) = inr (record {
    mapping = h.mapping;
    only = only_moved p q h.mapping same h.only;
    names = names_moved p q h.mapping same h.names;
  })

  keeps_moved : (container : Bool) (p q : Patch) → SamePatch p q → KeepsContainment container g p
      → KeepsContainment container g q
  keeps_moved container p q same keeps is touches = keeps is (touches_moved q p (same_back p q same) touches)

  deletes : (p q : Patch) (m : Binding) (x : Triple) → SamePatch p q → IsInstance m p.deletions.items x
      → IsInstance m q.deletions.items x
  deletes p q m x same h = subst (λ (ps : List Pattern). IsInstance m ps x) same.deletions h

  inserts : (p q : Patch) (m : Binding) (x : Triple) → SamePatch p q → IsInstance m p.insertions.items x
      → IsInstance m q.insertions.items x
  inserts p q m x same h = subst (λ (ps : List Pattern). IsInstance m ps x) same.insertions h

  change_moved : (p q : Patch) (c : Change) → SamePatch p q → IsChangeOf g p c → IsChangeOf g q c
  change_moved p q c same h = record {
    mapping = h.mapping;
    only = only_moved p q h.mapping same h.only;
    removed = subst (λ (ps : List Pattern). AreInstances h.mapping ps c.removed) same.deletions h.removed;
    added = subst (λ (ps : List Pattern). AreInstances h.mapping ps c.added) same.insertions h.added;
    in_graph = λ x is. h.in_graph x (deletes q p h.mapping x (same_back p q same) is);
    rdf = λ x is. h.rdf x (inserts q p h.mapping x (same_back p q same) is);
  }

  refusal_moved : (container : Bool) (p q : Patch) (r : PatchRefusal) → SamePatch p q
      → IsRefusal container g p r → IsRefusal container g q r
  refusal_moved container p q Children same h = (h.0, touches_moved p q same h.1)
  refusal_moved container p q NoMatch same h = (
    keeps_moved container p q same h.0,
    λ m is. h.1 m (subst (λ (cs : List Pattern). IsSolution g cs m) (sym same.conditions) is),
  )
  refusal_moved container p q ManyMatches same h = (
    keeps_moved container p q same h.0,
    subst (λ (cs : List Pattern). HasTwoSolutions g cs) same.conditions h.1,
  )
  refusal_moved container p q MissingDeletion same h = (
    keeps_moved container p q same h.0,
    record {
      mapping = h.1.mapping;
      only = only_moved p q h.1.mapping same h.1.only;
      missing = h.1.missing;
      is_deletion = deletes p q h.1.mapping h.1.missing same h.1.is_deletion;
      absent = h.1.absent;
    },
  )
  refusal_moved container p q NotTriple same h = (
    keeps_moved container p q same h.0,
    record {
      mapping = h.1.mapping;
      only = only_moved p q h.1.mapping same h.1.only;
      in_graph = λ x is. h.1.in_graph x (deletes q p h.1.mapping x (same_back p q same) is);
      wrong = h.1.wrong;
      is_insertion = inserts p q h.1.mapping h.1.wrong same h.1.is_insertion;
      no_triple = h.1.no_triple;
    },
  )

  outcome_moved : (container : Bool) (p q : Patch) (o : Result Change PatchRefusal) → SamePatch p q
      → IsOutcome container g p o → IsOutcome container g q o
  outcome_moved container p q (Ok c) same h = (keeps_moved container p q same h.0, change_moved p q c same h.1)
  outcome_moved container p q (Err r) same h = refusal_moved container p q r same h

pub one_patch_outcome : HasOneOutcome
one_patch_outcome container g p q a b conditions deletions insertions graphs graphs' h k =
    let same : SamePatch p q = record { conditions = conditions; deletions = deletions; insertions = insertions } in
    one container g q a b graphs graphs' (outcome_moved g container p q a same h) k

-- ---- updates

is_contains : (o : Result Change PatchRefusal) → IsContainsRefusal o → o ≡ Err Children
is_contains (Ok c) h = absurd h
is_contains (Err Children) h = refl
is_contains (Err NoMatch) h = absurd h
is_contains (Err ManyMatches) h = absurd h
is_contains (Err MissingDeletion) h = absurd h
is_contains (Err NotTriple) h = absurd h

one_spelled_outcome : (g : List Triple) (named : List Named) (a b : Result Change PatchRefusal)
    → HasGraphs a → HasGraphs b → IsSpelledOutcome g named a → IsSpelledOutcome g named b → a ≡ b
one_spelled_outcome g named a b graphs graphs' h k =
    one_patch_outcome false g h.patch k.patch a b (h.spelled.conditions ∙ sym k.spelled.conditions)
    (h.spelled.deletions ∙ sym k.spelled.deletions) (h.spelled.insertions ∙ sym k.spelled.insertions)
    graphs graphs' h.applied k.applied

pub one_update_outcome : HasOneUpdateOutcome
one_update_outcome container g named a b graphs graphs' (inl h) (inl k) =
    is_contains a h.1 ∙ sym (is_contains b k.1)
one_update_outcome container g named a b graphs graphs' (inl h) (inr k) = absurd (k.0 h.0)
one_update_outcome container g named a b graphs graphs' (inr h) (inl k) = absurd (h.0 k.0)
one_update_outcome container g named a b graphs graphs' (inr h) (inr k) =
    one_spelled_outcome g named a b graphs graphs' h.1 k.1
