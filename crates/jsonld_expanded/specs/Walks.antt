-- What the code keeps of a walk.
use Rattle.std.specs.Prelude.{◌≡◌, ◌≤◌, ℕ, List, All, false}
use Rattle.std.specs.BTreeSet.{contains_text}
use Rattle.rdf_graph.specs.Size.{saturated, triples_size}
use Rattle.rdf_graph.specs.Triple.{IsRdf}
use Rattle.rdf_graph.specs.declared.triple.Triple.{Triple}
use Rattle.serde_json.specs.Data.{Data}
use Rattle.rdf_graph.specs.declared.size.TheConstants.{TRIPLES_LIMIT}
use Rattle.jsonld_expanded.specs.declared.walk_scope.Scope.{Scope as Kept}
use Rattle.jsonld_expanded.specs.declared.walk_state.Walk.{Walk}
use Rattle.jsonld_expanded.specs.Expands.{ExpandsTo, State, Scope}
use Rattle.jsonld_expanded.specs.Nodes.{has_label, labels_in}

-- The walk has come to this state: the triples are kept as long as they are within the limit.
pub record Stands (walk : Walk) (a : State) : Type 0 where
  pub next : walk.next ≡ a.next
  pub size : walk.size ≡ saturated (triples_size a.triples)
  pub kept : triples_size a.triples ≤ TRIPLES_LIMIT → walk.triples.items ≡ a.triples
  pub rdf : All IsRdf walk.triples.items

-- the walk has done the step
abbrev pub Advances : (State → State → Type 0) → Walk → Walk → Type 0
Advances R old new = (a : State) → Stands old a → (b : State) × R a b × Stands new b

-- the step can't be done
abbrev pub Refuses : (State → State → Type 0) → Walk → Type 0
Refuses R old = (a : State) → Stands old a → (b : State) → R a b → ⊥

-- what a document's scope stands for
abbrev pub scope_view : Kept → Scope
scope_view kept = record { base = kept.base.now; taken = contains_text kept.labels }

-- the set has the labels of the document
abbrev pub HasLabelsOf : Kept → Data → Type 0
HasLabelsOf kept value = (l : List ℕ) → contains_text kept.labels l
    ≡ has_label (labels_in false value) l

-- no walk over the value comes to an end
abbrev pub HasNoWalk : List ℕ → Data → Type 0
HasNoWalk base value = (triples : List Triple) → ExpandsTo base value triples → ⊥

-- the whole walk over the value
pub record IsWalkOf (base : List ℕ) (value : Data) (walk : Walk) : Type 0 where
  pub triples : List Triple
  pub expands : ExpandsTo base value triples
  pub size : walk.size ≡ saturated (triples_size triples)
  pub kept : triples_size triples ≤ TRIPLES_LIMIT → walk.triples.items ≡ triples
  pub rdf : All IsRdf walk.triples.items
