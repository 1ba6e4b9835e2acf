-- Expanded JSON-LD: which triples a JSON value stands for, by its cases. (JSON-LD 1.1, section 9,
-- without `@graph`, `@index`, `@set`, `@reverse`, `@json` and `@direction`.)
use Rattle.std.specs.Prelude.{◌≡◌, ◌++◌, ℕ, suc, codes, Bool, true, false, is_some, List, [], ◌∷◌}
use Rattle.std.specs.Prelude.{Option, None, Some}
use Rattle.std.specs.Str.{bytes_eq}
use Rattle.iri_ref.specs.Components.{IsAbsolute}
use Rattle.rdf_graph.specs.Graph.{SameSet}
use Rattle.rdf_graph.specs.declared.term.Term.{Term}
use Rattle.rdf_graph.specs.declared.term.Term.TheVariants.{Iri, Blank}
use Rattle.rdf_graph.specs.declared.triple.Triple.{Triple}
use Rattle.serde_json.specs.Data.{Data, null, boolean, number, string, array, object}
use Rattle.serde_json.specs.Data.{Items, no_items, item, Members, no_members, member}
use Rattle.serde_json.specs.Events.{members_len}
use Rattle.serde_json.specs.Find.{get_member}
use Rattle.jsonld_expanded.specs.Literals.{IsLiteralOf}
use Rattle.jsonld_expanded.specs.Nodes.{IsNamed, IsNextFree, has_label, labels_in, unnamed_label}
use Rattle.jsonld_expanded.specs.Vocabulary.{rdf_first, rdf_nil, rdf_rest, rdf_type}

-- how far a walk over the value has come
pub record State : Type 0 where
  -- the triples so far, in the order of the walk
  pub triples : List Triple
  -- the next unnamed node has this number or a greater one
  pub next : ℕ

-- what the steps of a walk depend on
pub record Scope : Type 0 where
  pub base : List ℕ
  -- whether the document has the label
  pub taken : List ℕ → Bool

-- one step and then another
abbrev pub Then : (State → State → Type 0) → (State → State → Type 0) → State → State → Type 0
Then R S a c = (b : State) × R a b × S b c

-- the one of two facts that the test chooses
abbrev pub Choose : Bool → Type 0 → Type 0 → Type 0
Choose true A B = A
Choose false A B = B

-- one triple more
abbrev pub saying : Term → List ℕ → Term → State → State
saying s p o a = record {
  triples = a.triples ++ record { s = s; p = Iri p; o = o } ∷ [];
  next = a.next;
}

abbrev pub Says : Term → List ℕ → Term → State → State → Type 0
Says s p o a b = b ≡ saying s p o a

-- the node is the next unnamed one
pub record IsUnnamed (scope : Scope) (node : Term) (a b : State) : Type 0 where
  pub number : ℕ
  pub next : IsNextFree scope.taken a.next number
  pub label : node ≡ Blank (unnamed_label number)
  pub after : b ≡ record { triples = a.triples; next = suc number }

-- the node of an object with this `@id`
abbrev pub IsNodeBy : Scope → Option Data → Term → State → State → Type 0
IsNodeBy scope None node a b = IsUnnamed scope node a b
IsNodeBy scope (Some null) node a b = ⊥
IsNodeBy scope (Some (boolean t)) node a b = ⊥
IsNodeBy scope (Some (number n)) node a b = ⊥
IsNodeBy scope (Some (string text)) node a b = IsNamed scope.base text node × (b ≡ a)
IsNodeBy scope (Some (array ds)) node a b = ⊥
IsNodeBy scope (Some (object ms)) node a b = ⊥

abbrev pub IsNodeOf : Scope → Members → Term → State → State → Type 0
IsNodeOf scope ms node a b = IsNodeBy scope (get_member (codes "@id") ms) node a b

-- a type of the node
abbrev pub WalksType : Scope → Term → Data → State → State → Type 0
WalksType scope node null a b = ⊥
WalksType scope node (boolean t) a b = ⊥
WalksType scope node (number n) a b = ⊥
WalksType scope node (string text) a b =
    (o : Term) × IsNamed scope.base text o × Says node rdf_type o a b
WalksType scope node (array ds) a b = ⊥
WalksType scope node (object ms) a b = ⊥

abbrev pub WalksEachType : Scope → Term → Items → State → State → Type 0
WalksEachType scope node no_items a b = b ≡ a
WalksEachType scope node (item d ds) a b =
    Then (WalksType scope node d) (WalksEachType scope node ds) a b

-- the value of a `@type`: a type, or an array of them
abbrev pub WalksTypes : Scope → Term → Data → State → State → Type 0
WalksTypes scope node null a b = ⊥
WalksTypes scope node (boolean t) a b = ⊥
WalksTypes scope node (number n) a b = ⊥
WalksTypes scope node (string text) a b = WalksType scope node (string text) a b
WalksTypes scope node (array ds) a b = WalksEachType scope node ds a b
WalksTypes scope node (object ms) a b = ⊥

abbrev pub has : List ℕ → Members → Bool
has key ms = is_some (get_member key ms)

-- a literal as the object
abbrev pub WalksLiteral : Term → List ℕ → Members → State → State → Type 0
WalksLiteral s p ms a b = (o : Term) × IsLiteralOf ms o × Says s p o a b

-- a node object as the object, with what its members say
abbrev pub NodeWith : Scope → Term → List ℕ → Members → (Term → State → State → Type 0)
    → State → State → Type 0
NodeWith scope s p ms Says_members a b = (node : Term) × Then (IsNodeOf scope ms node)
    (Then (Says s p node) (Says_members node)) a b

-- by its keys: a value object, a list object or a node object
abbrev pub ObjectWith : Scope → Term → List ℕ → Members → (State → State → Type 0)
    → (Term → State → State → Type 0) → State → State → Type 0
ObjectWith scope s p ms Lists Says_members a b = Choose (has (codes "@value") ms)
    (WalksLiteral s p ms a b)
    (Choose (has (codes "@list") ms) (Lists a b) (NodeWith scope s p ms Says_members a b))

-- a member of a node object, with what the values of a predicate say
abbrev pub MemberWith : Scope → Term → List ℕ → Data → (State → State → Type 0)
    → State → State → Type 0
MemberWith scope node key d Says_values a b = Choose (bytes_eq key (codes "@id")) (b ≡ a)
    (Choose (bytes_eq key (codes "@type")) (WalksTypes scope node d a b)
    (IsAbsolute key × Says_values a b))

abbrev mutual
  -- a value of the predicate p of the node s
  pub WalksValue : Scope → Term → List ℕ → Data → State → State → Type 0
  WalksValue scope s p null a b = ⊥
  WalksValue scope s p (boolean t) a b = ⊥
  WalksValue scope s p (number n) a b = ⊥
  WalksValue scope s p (string text) a b = ⊥
  WalksValue scope s p (array ds) a b = ⊥
  WalksValue scope s p (object ms) a b = ObjectWith scope s p ms
      (λ c d. WalksList scope s p ms c d) (λ node c d. WalksMembers scope node ms c d) a b

  -- `@list` alone, with an array
  pub WalksList : Scope → Term → List ℕ → Members → State → State → Type 0
  WalksList scope s p no_members a b = ⊥
  WalksList scope s p (member key d ms) a b = (members_len ms ≡ 0) × WalksArray scope s p d a b

  pub WalksArray : Scope → Term → List ℕ → Data → State → State → Type 0
  WalksArray scope s p null a b = ⊥
  WalksArray scope s p (boolean t) a b = ⊥
  WalksArray scope s p (number n) a b = ⊥
  WalksArray scope s p (string text) a b = ⊥
  WalksArray scope s p (array ds) a b = WalksCells scope s p ds a b
  WalksArray scope s p (object ms) a b = ⊥

  -- a cell for each element, as the object of p, and its rest; `rdf:nil` at the end
  pub WalksCells : Scope → Term → List ℕ → Items → State → State → Type 0
  WalksCells scope s p no_items a b = Says s p (Iri rdf_nil) a b
  WalksCells scope s p (item d ds) a b = (cell : Term) × Then (IsUnnamed scope cell)
      (Then (Says s p cell) (Then (λ c e. WalksValue scope cell rdf_first d c e)
      (λ c e. WalksCells scope cell rdf_rest ds c e))) a b

  -- the members of a node object, in byte order of their keys
  pub WalksMembers : Scope → Term → Members → State → State → Type 0
  WalksMembers scope node no_members a b = b ≡ a
  WalksMembers scope node (member key d ms) a b =
      Then (MemberWith scope node key d (λ c e. WalksValues scope node key d c e))
      (λ c e. WalksMembers scope node ms c e) a b

  -- a value, or an array of them
  pub WalksValues : Scope → Term → List ℕ → Data → State → State → Type 0
  WalksValues scope s p null a b = ⊥
  WalksValues scope s p (boolean t) a b = ⊥
  WalksValues scope s p (number n) a b = ⊥
  WalksValues scope s p (string text) a b = ⊥
  WalksValues scope s p (array ds) a b = WalksEachValue scope s p ds a b
  WalksValues scope s p (object ms) a b = ObjectWith scope s p ms
      (λ c d. WalksList scope s p ms c d) (λ node c d. WalksMembers scope node ms c d) a b

  pub WalksEachValue : Scope → Term → List ℕ → Items → State → State → Type 0
  WalksEachValue scope s p no_items a b = b ≡ a
  WalksEachValue scope s p (item d ds) a b = Then (λ c e. WalksValue scope s p d c e)
      (λ c e. WalksEachValue scope s p ds c e) a b

-- a node object as the object
abbrev pub WalksNode : Scope → Term → List ℕ → Members → State → State → Type 0
WalksNode scope s p ms a b = NodeWith scope s p ms (λ node. WalksMembers scope node ms) a b

-- a member of a node object
abbrev pub WalksMember : Scope → Term → List ℕ → Data → State → State → Type 0
WalksMember scope node key d a b = MemberWith scope node key d (WalksValues scope node key d) a b

-- a node object by itself
abbrev pub WalksNodeObject : Scope → Data → State → State → Type 0
WalksNodeObject scope null a b = ⊥
WalksNodeObject scope (boolean t) a b = ⊥
WalksNodeObject scope (number n) a b = ⊥
WalksNodeObject scope (string text) a b = ⊥
WalksNodeObject scope (array ds) a b = ⊥
WalksNodeObject scope (object ms) a b = (node : Term) × Then (IsNodeOf scope ms node)
    (WalksMembers scope node ms) a b

abbrev pub WalksEachNodeObject : Scope → Items → State → State → Type 0
WalksEachNodeObject scope no_items a b = b ≡ a
WalksEachNodeObject scope (item d ds) a b =
    Then (WalksNodeObject scope d) (WalksEachNodeObject scope ds) a b

-- a document: an array of node objects, or one node object
abbrev pub WalksDocument : Scope → Data → State → State → Type 0
WalksDocument scope null a b = ⊥
WalksDocument scope (boolean t) a b = ⊥
WalksDocument scope (number n) a b = ⊥
WalksDocument scope (string text) a b = ⊥
WalksDocument scope (array ds) a b = WalksEachNodeObject scope ds a b
WalksDocument scope (object ms) a b = WalksNodeObject scope (object ms) a b

abbrev pub scope_of : List ℕ → Data → Scope
scope_of base value = record { base = base; taken = has_label (labels_in false value) }

abbrev pub start : State
start = record { triples = []; next = 0 }

-- the value stands for these triples, in the order of the walk and with repeats
pub record ExpandsTo (base : List ℕ) (value : Data) (triples : List Triple) : Type 0 where
  pub end : State
  pub walk : WalksDocument (scope_of base value) value start end
  pub said : triples ≡ end.triples

-- the value stands for the graph
pub record Expands (base : List ℕ) (value : Data) (graph : List Triple) : Type 0 where
  pub triples : List Triple
  pub expands : ExpandsTo base value triples
  pub members : SameSet graph triples
