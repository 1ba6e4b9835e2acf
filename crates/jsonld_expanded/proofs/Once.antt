-- Each step of a walk leads to one state at most.
use Rattle.std.proofs.Common.{◌≡◌, ◌≤◌, ◌<◌, ◌⊎◌, ⊎_elim, inl, inr, ℕ, suc, ◌++◌, codes, Bool, true, false, List, [], ◌∷◌, Option, Some, None, refl, sym, ap, ◌∙◌, subst, arith, is_some, true≢false, option_and_then}
use Rattle.std.specs.Str.{bytes_eq}
use Rattle.std.proofs.lemmas.List.{append_cancel_left}
use Rattle.rdf_graph.specs.declared.term.Term.{Term}
use Rattle.rdf_graph.specs.declared.term.Term.TheVariants.{Iri, Blank, Literal, Tagged}
use Rattle.serde_json.specs.Data.{Data, null, boolean, number, string, array, object, Items, no_items, item, Members, no_members, member}
use Rattle.serde_json.specs.Find.{get_member}
use Rattle.iri_ref.proofs.Written.{one_iri as one_iri_of_reference}
use Rattle.jsonld_expanded.specs.Literals.{IsPlain, IsPlainObject, IsTypedObject, IsTaggedObject, IsLiteralOf, text_at}
use Rattle.jsonld_expanded.specs.Nodes.{IsNamed, IsLabelled, IsNextFree, unnamed_label}
use Rattle.jsonld_expanded.specs.Expands.{State, Scope, Then, Choose, Says, IsUnnamed, IsNodeBy, IsNodeOf, NodeWith, ObjectWith, MemberWith, WalksType, WalksEachType, WalksTypes, WalksLiteral, WalksValue, WalksList, WalksArray, WalksCells, WalksMembers, WalksMember, WalksValues, WalksEachValue, WalksNodeObject, WalksEachNodeObject, WalksDocument, has, saying}
use Rattle.iri_ref.specs.Components.{IsAbsolute}
use Rattle.jsonld_expanded.specs.Vocabulary.{rdf_type, rdf_first, rdf_rest, rdf_nil}

-- from each state the step leads to one state at most
abbrev pub Once : (State → State → Type 0) → Type 0
Once R = (a b c : State) → R a b → R a c → b ≡ c

-- the same of a step that picks a term
abbrev pub PicksOnce : (Term → State → State → Type 0) → Type 0
PicksOnce R = (t u : Term) (a b c : State) → R t a b → R u a c → (t ≡ u) × (b ≡ c)

pub once-then : (R S : State → State → Type 0) → Once R → Once S → Once (Then R S)
once-then R S r s a b c (m, rm, sm) (n, rn, sn) = s m b c sm (subst (λ (x : State). S x c) (r a n m rn rm) sn)

pub once-picks : (R S : Term → State → State → Type 0) → PicksOnce R → ((t : Term) → Once (S t)) → (a b c : State) → (t : Term) × Then (R t) (S t) a b → (u : Term) × Then (R u) (S u) a c → b ≡ c
once-picks R S r s a b c (t, (m, rm, sm)) (u, (n, rn, sn)) =
    let same = r t u a m n rm rn in
    s t m b c sm (subst (λ (x : State). S t x c) (sym same.1) (subst (λ (x : Term). S x n c) (sym same.0) sn))

pub once-same : Once (λ a b. b ≡ a)
once-same a b c x y = x ∙ sym y

pub once-says : (s : Term) (p : List ℕ) (o : Term) → Once (Says s p o)
once-says s p o a b c x y = x ∙ sym y

abbrev Choice : Bool → (State → State → Type 0) → (State → State → Type 0) → State → State → Type 0
Choice test R S a b = Choose test (R a b) (S a b)

pub once-choose : (test : Bool) (R S : State → State → Type 0) → Once R → Once S → Once (λ a b. Choose test (R a b) (S a b))
once-choose true R S r s = r
once-choose false R S r s = s

-- ---- nodes

pub one_label : (text l m : List ℕ) → IsLabelled text l → IsLabelled text m → l ≡ m
one_label text l m x y = append_cancel_left (codes "_:") l m (sym x.0 ∙ y.0)

pub one_name : (base text : List ℕ) (t u : Term) → IsNamed base text t → IsNamed base text u → t ≡ u
one_name base text (Iri i) (Iri j) x y = ap (λ k. Iri k) (one_iri_of_reference base text i j x.stands_for y.stands_for)
one_name base text (Iri i) (Blank m) x y = absurd (x.no_label m y)
one_name base text (Iri i) (Literal l d) x y = absurd y
one_name base text (Iri i) (Tagged l d) x y = absurd y
one_name base text (Blank l) (Iri j) x y = absurd (y.no_label l x)
one_name base text (Blank l) (Blank m) x y = ap (λ k. Blank k) (one_label text l m x y)
one_name base text (Blank l) (Literal m d) x y = absurd y
one_name base text (Blank l) (Tagged m d) x y = absurd y
one_name base text (Literal l d) u x y = absurd x
one_name base text (Tagged l d) u x y = absurd x

not_both : (b : Bool) → b ≡ true → b ≡ false → ⊥
not_both b x y = true≢false (sym x ∙ y)

pub one_number : (taken : List ℕ → Bool) (from m n : ℕ) → IsNextFree taken from m → IsNextFree taken from n → m ≡ n
one_number taken from m n x y =
    ⊎_elim (λ (less : m < n). absurd (not_both (taken (unnamed_label m)) (y.before m x.least less) x.free))
    (λ (h : (m ≡ n) ⊎ (n < m)). ⊎_elim (λ (e : m ≡ n). e) (λ (more : n < m). absurd (not_both (taken (unnamed_label n)) (x.before n y.least more) y.free)) h)
    (three m n)
  where
    three : (m n : ℕ) → (m < n) ⊎ ((m ≡ n) ⊎ (n < m))
    three m n = grind arith

pub picks-unnamed : (scope : Scope) → PicksOnce (IsUnnamed scope)
picks-unnamed scope t u a b c x y =
    let same = one_number scope.taken a.next x.number y.number x.next y.next in
    (x.label ∙ ap (λ n. Blank (unnamed_label n)) same ∙ sym y.label, x.after ∙ ap (λ n. record { triples = a.triples; next = suc n }) same ∙ sym y.after)

pub picks-node : (scope : Scope) (id : Option Data) → PicksOnce (IsNodeBy scope id)
picks-node scope None t u a b c x y = picks-unnamed scope t u a b c x y
picks-node scope (Some null) t u a b c x y = absurd x
picks-node scope (Some (boolean w)) t u a b c x y = absurd x
picks-node scope (Some (number n)) t u a b c x y = absurd x
picks-node scope (Some (string text)) t u a b c x y = (one_name scope.base text t u x.0 y.0, x.1 ∙ sym y.1)
picks-node scope (Some (array ds)) t u a b c x y = absurd x
picks-node scope (Some (object ms)) t u a b c x y = absurd x

pub once-type : (scope : Scope) (node : Term) (d : Data) → Once (WalksType scope node d)
once-type scope node null a b c x y = absurd x
once-type scope node (boolean w) a b c x y = absurd x
once-type scope node (number n) a b c x y = absurd x
once-type scope node (string text) a b c (o, named, said) (o', named', said') = said ∙ ap (λ t. saying node rdf_type t a) (one_name scope.base text o o' named named') ∙ sym said'
once-type scope node (array ds) a b c x y = absurd x
once-type scope node (object ms) a b c x y = absurd x

pub once-each_type : (scope : Scope) (node : Term) (ds : Items) → Once (WalksEachType scope node ds)
once-each_type scope node no_items a b c x y = once-same a b c x y
once-each_type scope node (item d ds) a b c x y = (once-then (WalksType scope node d) (WalksEachType scope node ds) (once-type scope node d) (once-each_type scope node ds)) a b c x y

pub once-types : (scope : Scope) (node : Term) (d : Data) → Once (WalksTypes scope node d)
once-types scope node null a b c x y = absurd x
once-types scope node (boolean w) a b c x y = absurd x
once-types scope node (number n) a b c x y = absurd x
once-types scope node (string text) a b c x y = (once-type scope node (string text)) a b c x y
once-types scope node (array ds) a b c x y = (once-each_type scope node ds) a b c x y
once-types scope node (object ms) a b c x y = absurd x

-- ---- literals

pub one_plain : (d : Data) (t u : Term) → IsPlain d t → IsPlain d u → t ≡ u
one_plain null t u x y = absurd x
one_plain (boolean w) t u x y = x ∙ sym y
one_plain (number n) t u x y = x.1 ∙ sym y.1
one_plain (string text) t u x y = x ∙ sym y
one_plain (array ds) t u x y = absurd x
one_plain (object ms) t u x y = absurd x

same_some : {A : Type 0} (o : Option A) (x y : A) → o ≡ Some x → o ≡ Some y → x ≡ y
same_some o x y d e = cc

not_one : (n : ℕ) → n ≡ 1 → n ≡ 2 → ⊥
not_one n d e = omega (arith, d, e)

pub one_literal : (ms : Members) (t u : Term) → IsLiteralOf ms t → IsLiteralOf ms u → t ≡ u
one_literal ms t u (inl x) (inl y) =
    let same = same_some (get_member (codes "@value") ms) x.value y.value x.has_value y.has_value in
    one_plain y.value t u (subst (λ (d : Data). IsPlain d t) same x.literal) y.literal
one_literal ms t u (inl x) (inr (inl y)) = absurd (not_one _ x.count y.count)
one_literal ms t u (inl x) (inr (inr y)) = absurd (not_one _ x.count y.count)
one_literal ms t u (inr (inl x)) (inl y) = absurd (not_one _ y.count x.count)
one_literal ms t u (inr (inr x)) (inl y) = absurd (not_one _ y.count x.count)
one_literal ms t u (inr (inl x)) (inr (inl y)) =
    let lexical = same_some (text_at (codes "@value") ms) x.lexical y.lexical x.has_value y.has_value in
    let datatype = same_some (text_at (codes "@type") ms) x.datatype y.datatype x.has_type y.has_type in
    cc (x.literal, y.literal)
one_literal ms t u (inr (inl x)) (inr (inr y)) = absurd cc
one_literal ms t u (inr (inr x)) (inr (inl y)) = absurd cc
one_literal ms t u (inr (inr x)) (inr (inr y)) =
    let lexical = same_some (text_at (codes "@value") ms) x.lexical y.lexical x.has_value y.has_value in
    let lang = same_some (text_at (codes "@language") ms) x.lang y.lang x.has_language y.has_language in
    cc (x.literal, y.literal)

pub once-literal : (s : Term) (p : List ℕ) (ms : Members) → Once (WalksLiteral s p ms)
once-literal s p ms a b c (o, lit, said) (o', lit', said') = said ∙ ap (λ t. saying s p t a) (one_literal ms o o' lit lit') ∙ sym said'

-- ---- values

once-object_with : (scope : Scope) (s : Term) (p : List ℕ) (ms : Members) (L : State → State → Type 0) (M : Term → State → State → Type 0) → Once L → ((node : Term) → Once (M node)) → Once (ObjectWith scope s p ms L M)
once-object_with scope s p ms L M l m =
    let Node : State → State → Type 0 = NodeWith scope s p ms M in
    let node : Once Node = once-picks (λ node. IsNodeOf scope ms node) (λ node. Then (Says s p node) (M node)) (picks-node scope (get_member (codes "@id") ms)) (λ node. once-then (Says s p node) (M node) (once-says s p node) (m node)) in
    once-choose (has (codes "@value") ms) (WalksLiteral s p ms) (λ a b. Choose (has (codes "@list") ms) (L a b) (Node a b)) (once-literal s p ms)
    (once-choose (has (codes "@list") ms) L Node l node)

once-member_with : (scope : Scope) (node : Term) (key : List ℕ) (d : Data) (V : State → State → Type 0) → Once V → Once (MemberWith scope node key d V)
once-member_with scope node key d V v = once-choose (bytes_eq key (codes "@id")) (λ a b. b ≡ a) (λ a b. Choose (bytes_eq key (codes "@type")) (WalksTypes scope node d a b) (IsAbsolute key × V a b)) once-same
    (once-choose (bytes_eq key (codes "@type")) (WalksTypes scope node d) (λ a b. IsAbsolute key × V a b) (once-types scope node d) (λ a b c x y. v a b c x.1 y.1))

mutual
  pub once-value : (scope : Scope) (s : Term) (p : List ℕ) (d : Data) → Once (WalksValue scope s p d)
  once-value scope s p null a b c x y = absurd x
  once-value scope s p (boolean w) a b c x y = absurd x
  once-value scope s p (number n) a b c x y = absurd x
  once-value scope s p (string text) a b c x y = absurd x
  once-value scope s p (array ds) a b c x y = absurd x
  once-value scope s p (object ms) a b c x y = (once-object_with scope s p ms (WalksList scope s p ms) (λ node. WalksMembers scope node ms) (once-list scope s p ms) (λ node. once-members scope node ms)) a b c x y

  pub once-list : (scope : Scope) (s : Term) (p : List ℕ) (ms : Members) → Once (WalksList scope s p ms)
  once-list scope s p no_members a b c x y = absurd x
  once-list scope s p (member key d ms) a b c x y = once-array scope s p d a b c x.1 y.1

  pub once-array : (scope : Scope) (s : Term) (p : List ℕ) (d : Data) → Once (WalksArray scope s p d)
  once-array scope s p null a b c x y = absurd x
  once-array scope s p (boolean t) a b c x y = absurd x
  once-array scope s p (number n) a b c x y = absurd x
  once-array scope s p (string text) a b c x y = absurd x
  once-array scope s p (array ds) a b c x y = once-cells scope s p ds a b c x y
  once-array scope s p (object ms) a b c x y = absurd x

  pub once-cells : (scope : Scope) (s : Term) (p : List ℕ) (ds : Items) → Once (WalksCells scope s p ds)
  once-cells scope s p no_items a b c x y = once-says s p (Iri rdf_nil) a b c x y
  once-cells scope s p (item d ds) a b c x y =
      let S : Term → State → State → Type 0 = λ cell. Then (Says s p cell) (Then (WalksValue scope cell rdf_first d) (WalksCells scope cell rdf_rest ds)) in
      let once : (cell : Term) → Once (S cell) = λ cell. once-then (Says s p cell) (Then (WalksValue scope cell rdf_first d) (WalksCells scope cell rdf_rest ds)) (once-says s p cell)
      (once-then (WalksValue scope cell rdf_first d) (WalksCells scope cell rdf_rest ds) (once-value scope cell rdf_first d) (once-cells scope cell rdf_rest ds)) in
      once-picks (λ cell. IsUnnamed scope cell) S (picks-unnamed scope) once a b c x y

  pub once-members : (scope : Scope) (node : Term) (ms : Members) → Once (WalksMembers scope node ms)
  once-members scope node no_members a b c x y = (once-same) a b c x y
  once-members scope node (member key d ms) a b c x y = once-then (MemberWith scope node key d (WalksValues scope node key d)) (WalksMembers scope node ms)
      (once-member_with scope node key d (WalksValues scope node key d) (once-values scope node key d)) (once-members scope node ms) a b c x y

  pub once-values : (scope : Scope) (s : Term) (p : List ℕ) (d : Data) → Once (WalksValues scope s p d)
  once-values scope s p null a b c x y = absurd x
  once-values scope s p (boolean w) a b c x y = absurd x
  once-values scope s p (number n) a b c x y = absurd x
  once-values scope s p (string text) a b c x y = absurd x
  once-values scope s p (array ds) a b c x y = (once-each_value scope s p ds) a b c x y
  once-values scope s p (object ms) a b c x y = (once-object_with scope s p ms (WalksList scope s p ms) (λ node. WalksMembers scope node ms) (once-list scope s p ms) (λ node. once-members scope node ms)) a b c x y

  pub once-each_value : (scope : Scope) (s : Term) (p : List ℕ) (ds : Items) → Once (WalksEachValue scope s p ds)
  once-each_value scope s p no_items a b c x y = (once-same) a b c x y
  once-each_value scope s p (item d ds) a b c x y = (once-then (WalksValue scope s p d) (WalksEachValue scope s p ds) (once-value scope s p d) (once-each_value scope s p ds)) a b c x y

pub once-member : (scope : Scope) (node : Term) (key : List ℕ) (d : Data) → Once (WalksMember scope node key d)
once-member scope node key d = once-member_with scope node key d (WalksValues scope node key d) (once-values scope node key d)

-- ---- documents

pub once-node_object : (scope : Scope) (d : Data) → Once (WalksNodeObject scope d)
once-node_object scope null a b c x y = absurd x
once-node_object scope (boolean w) a b c x y = absurd x
once-node_object scope (number n) a b c x y = absurd x
once-node_object scope (string text) a b c x y = absurd x
once-node_object scope (array ds) a b c x y = absurd x
once-node_object scope (object ms) a b c x y = (once-picks (λ node. IsNodeOf scope ms node) (λ node. WalksMembers scope node ms) (picks-node scope (get_member (codes "@id") ms)) (λ node. once-members scope node ms)) a b c x y

pub once-each_node_object : (scope : Scope) (ds : Items) → Once (WalksEachNodeObject scope ds)
once-each_node_object scope no_items a b c x y = (once-same) a b c x y
once-each_node_object scope (item d ds) a b c x y = (once-then (WalksNodeObject scope d) (WalksEachNodeObject scope ds) (once-node_object scope d) (once-each_node_object scope ds)) a b c x y

pub once-document : (scope : Scope) (d : Data) → Once (WalksDocument scope d)
once-document scope null a b c x y = absurd x
once-document scope (boolean w) a b c x y = absurd x
once-document scope (number n) a b c x y = absurd x
once-document scope (string text) a b c x y = absurd x
once-document scope (array ds) a b c x y = (once-each_node_object scope ds) a b c x y
once-document scope (object ms) a b c x y = (once-node_object scope (object ms)) a b c x y
