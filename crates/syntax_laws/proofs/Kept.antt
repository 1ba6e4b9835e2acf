-- Each step of a walk over a JSON value keeps that the terms of its triples are read back.
use Rattle.std.proofs.Common.{◌≡◌, ◌⊎◌, ℕ, codes, Bool, true, false, List, [], ◌∷◌, ◌++◌, map, drop, Option, Some, None, sym, subst, arith, inl, inr}
use Rattle.std.proofs.lemmas.List.Elements.{All-append, All-cons}
use Rattle.std.specs.Char.{to_ascii_lowercase}
use Rattle.std.specs.List.{All}
use Rattle.std.specs.Str.{bytes_eq}
use Rattle.iri_ref.specs.Components.{IsAbsolute}
use Rattle.rdf_graph.specs.declared.term.Term.{Term}
use Rattle.rdf_graph.specs.declared.term.Term.TheVariants.{Iri, Blank, Literal, Tagged}
use Rattle.rdf_graph.specs.declared.triple.Triple.{Triple}
use Rattle.serde_json.specs.Data.{Data, null, boolean, number, string, array, object, Items, no_items, item, Members, no_members, member}
use Rattle.serde_json.specs.Find.{get_member}
use Rattle.jsonld_expanded.specs.Literals.{IsPlain, IsLiteralOf}
use Rattle.jsonld_expanded.specs.Nodes.{IsNamed}
use Rattle.jsonld_expanded.specs.Expands.{State, Scope, Then, Choose, Says, IsUnnamed, IsNodeBy, IsNodeOf, NodeWith, ObjectWith, MemberWith, WalksType, WalksEachType, WalksTypes, WalksLiteral, WalksValue, WalksList, WalksArray, WalksCells, WalksMembers, WalksValues, WalksEachValue, WalksNodeObject, WalksEachNodeObject, WalksDocument, has}
use Rattle.jsonld_expanded.specs.Vocabulary.{rdf_type, rdf_first, rdf_rest, rdf_nil}
use Rattle.syntax_laws.specs.ReadBack.{IsReadBack, TripleIsReadBack, GraphIsReadBack}
use Rattle.syntax_laws.proofs.Lowered.{tag_in_lower_case, stays_lower}
use Rattle.syntax_laws.proofs.Numbered.{unnamed_is_label}

-- the terms of the triples so far are read back
abbrev pub IsKept : State → Type 0
IsKept a = GraphIsReadBack a.triples

abbrev pub Keeps : (State → State → Type 0) → Type 0
Keeps R = (a b : State) → R a b → IsKept a → IsKept b

keeps-same : Keeps (λ a b. b ≡ a)
keeps-same a b e h = subst IsKept (sym e) h

keeps-then : (R S : State → State → Type 0) → Keeps R → Keeps S → Keeps (Then R S)
keeps-then R S r s a c (b, x, y) h = s b c y (r a b x h)

keeps-choose : (test : Bool) (R S : State → State → Type 0) → Keeps R → Keeps S → Keeps (λ a b. Choose test (R a b) (S a b))
keeps-choose true R S r s = r
keeps-choose false R S r s = s

keeps-says : (s : Term) (p : List ℕ) (o : Term) → IsReadBack s → IsReadBack o → Keeps (Says s p o)
keeps-says s p o x y a b e h =
    let t : Triple = record { s = s; p = Iri p; o = o } in
    let one : TripleIsReadBack t = record { subject = x; predicate = tt; object = y } in
    subst IsKept (sym e) (All-append TripleIsReadBack a.triples (t ∷ []) h (All-cons TripleIsReadBack t [] one (λ k d l. absurd (omega (arith, l)))))

-- ---- nodes

named_kept : (base text : List ℕ) (t : Term) → IsNamed base text t → IsReadBack t
named_kept base text (Iri i) x = tt
named_kept base text (Blank l) x = x.1
named_kept base text (Literal l d) x = absurd x
named_kept base text (Tagged l d) x = absurd x

unnamed_kept : (scope : Scope) (node : Term) (a b : State) → IsUnnamed scope node a b → IsReadBack node
unnamed_kept scope node a b x = subst IsReadBack (sym x.label) (unnamed_is_label x.number)

keeps-unnamed : (scope : Scope) (node : Term) → Keeps (IsUnnamed scope node)
keeps-unnamed scope node a b x h = subst IsKept (sym x.after) h

node_kept : (scope : Scope) (id : Option Data) (node : Term) (a b : State) → IsNodeBy scope id node a b → IsReadBack node
node_kept scope None node a b x = unnamed_kept scope node a b x
node_kept scope (Some null) node a b x = absurd x
node_kept scope (Some (boolean w)) node a b x = absurd x
node_kept scope (Some (number n)) node a b x = absurd x
node_kept scope (Some (string text)) node a b x = named_kept scope.base text node x.0
node_kept scope (Some (array ds)) node a b x = absurd x
node_kept scope (Some (object ms)) node a b x = absurd x

keeps-node : (scope : Scope) (id : Option Data) (node : Term) → Keeps (IsNodeBy scope id node)
keeps-node scope None node a b x h = keeps-unnamed scope node a b x h
keeps-node scope (Some null) node a b x h = absurd x
keeps-node scope (Some (boolean w)) node a b x h = absurd x
keeps-node scope (Some (number n)) node a b x h = absurd x
keeps-node scope (Some (string text)) node a b x h = keeps-same a b x.1 h
keeps-node scope (Some (array ds)) node a b x h = absurd x
keeps-node scope (Some (object ms)) node a b x h = absurd x

-- ---- types

keeps-type : (scope : Scope) (node : Term) (d : Data) → IsReadBack node → Keeps (WalksType scope node d)
keeps-type scope node null n a b x h = absurd x
keeps-type scope node (boolean w) n a b x h = absurd x
keeps-type scope node (number m) n a b x h = absurd x
keeps-type scope node (string text) n a b (o, named, said) h = keeps-says node rdf_type o n (named_kept scope.base text o named) a b said h
keeps-type scope node (array ds) n a b x h = absurd x
keeps-type scope node (object ms) n a b x h = absurd x

keeps-each_type : (scope : Scope) (node : Term) (ds : Items) → IsReadBack node → Keeps (WalksEachType scope node ds)
keeps-each_type scope node no_items n a b x h = keeps-same a b x h
keeps-each_type scope node (item d ds) n a b x h = keeps-then (WalksType scope node d) (WalksEachType scope node ds) (keeps-type scope node d n) (keeps-each_type scope node ds n) a b x h

keeps-types : (scope : Scope) (node : Term) (d : Data) → IsReadBack node → Keeps (WalksTypes scope node d)
keeps-types scope node null n a b x h = absurd x
keeps-types scope node (boolean w) n a b x h = absurd x
keeps-types scope node (number m) n a b x h = absurd x
keeps-types scope node (string text) n a b x h = keeps-type scope node (string text) n a b x h
keeps-types scope node (array ds) n a b x h = keeps-each_type scope node ds n a b x h
keeps-types scope node (object ms) n a b x h = absurd x

-- ---- literals

plain_kept : (d : Data) (t : Term) → IsPlain d t → IsReadBack t
plain_kept null t x = absurd x
plain_kept (boolean w) t x = subst IsReadBack (sym x) tt
plain_kept (number n) t x = subst IsReadBack (sym x.1) tt
plain_kept (string text) t x = subst IsReadBack (sym x) tt
plain_kept (array ds) t x = absurd x
plain_kept (object ms) t x = absurd x

literal_kept : (ms : Members) (t : Term) → IsLiteralOf ms t → IsReadBack t
literal_kept ms t (inl x) = plain_kept x.value t x.literal
literal_kept ms t (inr (inl x)) = subst IsReadBack (sym x.literal) tt
literal_kept ms t (inr (inr x)) = subst IsReadBack (sym x.literal) (tag_in_lower_case (codes "@" ++ x.lang) x.is_tag, stays_lower x.lang)

keeps-literal : (s : Term) (p : List ℕ) (ms : Members) → IsReadBack s → Keeps (WalksLiteral s p ms)
keeps-literal s p ms n a b (o, literal, said) h = keeps-says s p o n (literal_kept ms o literal) a b said h

-- ---- values

keeps-node_with : (scope : Scope) (s : Term) (p : List ℕ) (ms : Members) (M : Term → State → State → Type 0) → IsReadBack s → ((node : Term) → IsReadBack node → Keeps (M node)) → Keeps (NodeWith scope s p ms M)
keeps-node_with scope s p ms M n keeps a b (node, (c, is, (e, said, rest))) h =
    let k = node_kept scope (get_member (codes "@id") ms) node a c is in
    keeps node k e b rest (keeps-says s p node n k c e said (keeps-node scope (get_member (codes "@id") ms) node a c is h))

keeps-object_with : (scope : Scope) (s : Term) (p : List ℕ) (ms : Members) (L : State → State → Type 0) (M : Term → State → State → Type 0) → IsReadBack s → Keeps L → ((node : Term) → IsReadBack node → Keeps (M node)) → Keeps (ObjectWith scope s p ms L M)
keeps-object_with scope s p ms L M n l m =
    let Node : State → State → Type 0 = NodeWith scope s p ms M in
    keeps-choose (has (codes "@value") ms) (WalksLiteral s p ms) (λ a b. Choose (has (codes "@list") ms) (L a b) (Node a b)) (keeps-literal s p ms n)
    (keeps-choose (has (codes "@list") ms) L Node l (keeps-node_with scope s p ms M n m))

keeps-member_with : (scope : Scope) (node : Term) (key : List ℕ) (d : Data) (V : State → State → Type 0) → IsReadBack node → Keeps V → Keeps (MemberWith scope node key d V)
keeps-member_with scope node key d V n v =
    keeps-choose (bytes_eq key (codes "@id")) (λ a b. b ≡ a) (λ a b. Choose (bytes_eq key (codes "@type")) (WalksTypes scope node d a b) (IsAbsolute key × V a b)) keeps-same
    (keeps-choose (bytes_eq key (codes "@type")) (WalksTypes scope node d) (λ a b. IsAbsolute key × V a b) (keeps-types scope node d n) (λ a b x h. v a b x.1 h))

mutual
  keeps-value : (scope : Scope) (s : Term) (p : List ℕ) (d : Data) → IsReadBack s → Keeps (WalksValue scope s p d)
  keeps-value scope s p null n a b x h = absurd x
  keeps-value scope s p (boolean w) n a b x h = absurd x
  keeps-value scope s p (number m) n a b x h = absurd x
  keeps-value scope s p (string text) n a b x h = absurd x
  keeps-value scope s p (array ds) n a b x h = absurd x
  keeps-value scope s p (object ms) n a b x h = keeps-object_with scope s p ms (WalksList scope s p ms) (λ node. WalksMembers scope node ms) n (keeps-list scope s p ms n) (λ node k. keeps-members scope node ms k) a b x h

  keeps-list : (scope : Scope) (s : Term) (p : List ℕ) (ms : Members) → IsReadBack s → Keeps (WalksList scope s p ms)
  keeps-list scope s p no_members n a b x h = absurd x
  keeps-list scope s p (member key d ms) n a b x h = keeps-array scope s p d n a b x.1 h

  keeps-array : (scope : Scope) (s : Term) (p : List ℕ) (d : Data) → IsReadBack s → Keeps (WalksArray scope s p d)
  keeps-array scope s p null n a b x h = absurd x
  keeps-array scope s p (boolean w) n a b x h = absurd x
  keeps-array scope s p (number m) n a b x h = absurd x
  keeps-array scope s p (string text) n a b x h = absurd x
  keeps-array scope s p (array ds) n a b x h = keeps-cells scope s p ds n a b x h
  keeps-array scope s p (object ms) n a b x h = absurd x

  keeps-cells : (scope : Scope) (s : Term) (p : List ℕ) (ds : Items) → IsReadBack s → Keeps (WalksCells scope s p ds)
  keeps-cells scope s p no_items n a b x h = keeps-says s p (Iri rdf_nil) n tt a b x h
  keeps-cells scope s p (item d ds) n a b (cell, (c, is, (e, said, (f, value, rest)))) h =
      let k = unnamed_kept scope cell a c is in
      keeps-cells scope cell rdf_rest ds k f b rest (keeps-value scope cell rdf_first d k e f value (keeps-says s p cell n k c e said (keeps-unnamed scope cell a c is h)))

  keeps-members : (scope : Scope) (node : Term) (ms : Members) → IsReadBack node → Keeps (WalksMembers scope node ms)
  keeps-members scope node no_members n a b x h = keeps-same a b x h
  keeps-members scope node (member key d ms) n a b x h = keeps-then (MemberWith scope node key d (WalksValues scope node key d)) (WalksMembers scope node ms)
      (keeps-member_with scope node key d (WalksValues scope node key d) n (keeps-values scope node key d n)) (keeps-members scope node ms n) a b x h

  keeps-values : (scope : Scope) (s : Term) (p : List ℕ) (d : Data) → IsReadBack s → Keeps (WalksValues scope s p d)
  keeps-values scope s p null n a b x h = absurd x
  keeps-values scope s p (boolean w) n a b x h = absurd x
  keeps-values scope s p (number m) n a b x h = absurd x
  keeps-values scope s p (string text) n a b x h = absurd x
  keeps-values scope s p (array ds) n a b x h = keeps-each_value scope s p ds n a b x h
  keeps-values scope s p (object ms) n a b x h = keeps-object_with scope s p ms (WalksList scope s p ms) (λ node. WalksMembers scope node ms) n (keeps-list scope s p ms n) (λ node k. keeps-members scope node ms k) a b x h

  keeps-each_value : (scope : Scope) (s : Term) (p : List ℕ) (ds : Items) → IsReadBack s → Keeps (WalksEachValue scope s p ds)
  keeps-each_value scope s p no_items n a b x h = keeps-same a b x h
  keeps-each_value scope s p (item d ds) n a b x h = keeps-then (WalksValue scope s p d) (WalksEachValue scope s p ds) (keeps-value scope s p d n) (keeps-each_value scope s p ds n) a b x h

-- ---- documents

keeps-node_object : (scope : Scope) (d : Data) → Keeps (WalksNodeObject scope d)
keeps-node_object scope null a b x h = absurd x
keeps-node_object scope (boolean w) a b x h = absurd x
keeps-node_object scope (number m) a b x h = absurd x
keeps-node_object scope (string text) a b x h = absurd x
keeps-node_object scope (array ds) a b x h = absurd x
keeps-node_object scope (object ms) a b (node, (c, is, members)) h =
    keeps-members scope node ms (node_kept scope (get_member (codes "@id") ms) node a c is) c b members (keeps-node scope (get_member (codes "@id") ms) node a c is h)

keeps-each_node_object : (scope : Scope) (ds : Items) → Keeps (WalksEachNodeObject scope ds)
keeps-each_node_object scope no_items a b x h = keeps-same a b x h
keeps-each_node_object scope (item d ds) a b x h = keeps-then (WalksNodeObject scope d) (WalksEachNodeObject scope ds) (keeps-node_object scope d) (keeps-each_node_object scope ds) a b x h

pub keeps-document : (scope : Scope) (d : Data) → Keeps (WalksDocument scope d)
keeps-document scope null a b x h = absurd x
keeps-document scope (boolean w) a b x h = absurd x
keeps-document scope (number m) a b x h = absurd x
keeps-document scope (string text) a b x h = absurd x
keeps-document scope (array ds) a b x h = keeps-each_node_object scope ds a b x h
keeps-document scope (object ms) a b x h = keeps-node_object scope (object ms) a b x h
