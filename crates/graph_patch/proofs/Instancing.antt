-- What holds of the instances of patterns, one pattern after another.
use Rattle.std.proofs.Common.{ℕ, ◌+◌, ◌<◌, ◌≤◌, ◌≡◌, List, [], ◌∷◌, ◌++◌, length, take, get_or, sym, ap, ◌∙◌, subst, ⊎_elim}
use Rattle.std.specs.List.{All, AllZip, Contains}
use Rattle.std.proofs.lemmas.List.{take_all, take_more}
use Rattle.std.proofs.lemmas.List.Elements.{Contains-append_cases}
use Rattle.graph_patch.specs.Patch.{IsFaultOf, IsInstance, IsMappingFault, IsCheckFault}
use Rattle.graph_patch.specs.Pattern.{Binding, Instantiates, value_of}
use Rattle.graph_patch.specs.Solutions.{IsOnlySolution}
use Rattle.graph_patch.specs.declared.patch.Patch.{Patch}
use Rattle.graph_patch.specs.declared.patch.PatchFault.{PatchFault}
use Rattle.graph_patch.specs.declared.patch.PatchFault.TheVariants.{NoMatch, ManyMatches, MissingDeletion, NotTriple, NoMemory}
use Rattle.graph_patch.specs.declared.pattern.Pattern.{Pattern}
use Rattle.rdf_graph.specs.declared.term.Term.{Term}
use Rattle.rdf_graph.specs.declared.triple.Triple.{Triple}
use Rattle.rdf_graph.proofs.Members.{All-from_members, contains_cases, contains_none}
use Rattle.graph_patch.proofs.Patching.{instances_are, one_instance, the_solution}

pub instance_here : (m : Binding) (patterns : List Pattern) (i : ℕ) (pattern : Pattern) (t : Triple) → i < length patterns → pattern ≡ get_or patterns i pattern → Instantiates m pattern t → IsInstance m patterns t
instance_here m patterns i pattern t l is made = (pattern, (i, l, sym is), made)

-- what holds of the instances so far, and of the next one
pub instance_more : (P : Triple → Type 0) (m : Binding) (patterns : List Pattern) (i : ℕ) (pattern : Pattern) (t : Triple) → i < length patterns → pattern ≡ get_or patterns i pattern
    → ((x : Triple) → IsInstance m (take i patterns) x → P x) → Instantiates m pattern t → P t → (x : Triple) → IsInstance m (take (i + 1) patterns) x → P x
instance_more P m patterns i pattern t l is old made holds x h =
    let longer : take (i + 1) patterns ≡ take i patterns ++ pattern ∷ [] = take_more patterns i pattern l ∙ ap (λ z. take i patterns ++ z ∷ []) (sym is) in
    ⊎_elim
    (λ front. old x (h.0, front, h.2))
    (λ last. ⊎_elim
    (λ same. subst P (one_instance m pattern t x made (subst (λ d. Instantiates m d x) (sym same) h.2)) holds)
    (λ none. absurd (contains_none h.0 none))
    (contains_cases pattern [] h.0 last))
    (Contains-append_cases (take i patterns) (pattern ∷ []) h.0 (subst (λ ps. Contains ps h.0) longer h.1))

pub instance_all : (P : Triple → Type 0) (m : Binding) (patterns : List Pattern) (i : ℕ) → length patterns ≤ i → ((x : Triple) → IsInstance m (take i patterns) x → P x) → (x : Triple) → IsInstance m patterns x → P x
instance_all P m patterns i past h = subst (λ ps. (x : Triple) → IsInstance m ps x → P x) (take_all i patterns past) h

-- what holds of each instance holds of all that were made
pub all_made : (P : Triple → Type 0) (m : Binding) (patterns : List Pattern) (triples : List Triple) → AllZip (Instantiates m) patterns triples → ((x : Triple) → IsInstance m patterns x → P x) → All P triples
all_made P m patterns triples made h = All-from_members P triples (λ x among. h x ((instances_are m patterns triples made x).0 among))

pub fault_of_mapping : (g : List Triple) (patch : Patch) (fault : PatchFault) → IsMappingFault g patch.conditions.items fault → IsFaultOf g patch fault
fault_of_mapping g patch NoMatch h = h
fault_of_mapping g patch ManyMatches h = h
fault_of_mapping g patch MissingDeletion h = absurd h
fault_of_mapping g patch NotTriple h = absurd h
fault_of_mapping g patch NoMemory h = tt

pub fault_of_check : (g : List Triple) (patch : Patch) (pairs : List (List ℕ × Term)) (fault : PatchFault) → IsOnlySolution g patch.conditions.items pairs → IsCheckFault g patch (value_of pairs) fault → IsFaultOf g patch fault
fault_of_check g patch pairs NoMatch only h = absurd h
fault_of_check g patch pairs ManyMatches only h = absurd h
fault_of_check g patch pairs MissingDeletion only h =
    record {
      mapping = value_of pairs;
      only = the_solution g patch.conditions.items pairs only;
      missing = h.0;
      is_deletion = h.1;
      absent = h.2;
    }
fault_of_check g patch pairs NotTriple only h =
    record {
      mapping = value_of pairs;
      only = the_solution g patch.conditions.items pairs only;
      in_graph = h.0;
      wrong = h.1.0;
      is_insertion = h.1.1;
      no_triple = h.1.2;
    }
fault_of_check g patch pairs NoMemory only h = tt
