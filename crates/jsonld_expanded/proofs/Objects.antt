-- Values by their kinds: what a step over a part says of the step over the value.
use Rattle.std.proofs.Common.{◌≡◌, ℕ, suc, Bool, true, false, List, [], ◌∷◌, codes, length, ◌++◌, is_some, refl, sym, ap, ◌∙◌, subst, arith, string_bytes, Option, Some, None}
use Rattle.std.specs.Str.{bytes_eq}
use Rattle.iri_ref.specs.Components.{IsAbsolute}
use Rattle.rdf_graph.specs.declared.term.Term.{Term}
use Rattle.rdf_graph.specs.declared.term.Term.TheVariants.{Iri}
use Rattle.serde_json.specs.Data.{Data, array, object, Items, item, Members, no_members, member}
use Rattle.serde_json.specs.Events.{members_len}
use Rattle.serde_json.specs.Find.{get, get_member}
use Rattle.serde_json.specs.View.{view, members_view}
use Rattle.serde_json.proofs.Views.{Entry, members_len-members_view}
use Rattle.jsonld_expanded.specs.declared.walk_state.Walk.{Walk}
use Rattle.jsonld_expanded.specs.Expands.{State, Scope, Choose, Then, Says, has, IsNodeBy, IsNodeOf, IsUnnamed, saying, WalksArray, WalksCells, WalksList, WalksLiteral, WalksMember, WalksMembers, WalksNode, WalksTypes, WalksValue, WalksValues}
use Rattle.jsonld_expanded.specs.Vocabulary.{rdf_first, rdf_rest}
use Rattle.jsonld_expanded.specs.Walks.{Advances, Refuses}
use Rattle.jsonld_expanded.proofs.Once.{once-says, once-then, once-value, picks-node, picks-unnamed}
use Rattle.jsonld_expanded.proofs.Steps.{Leads, Picks, advance-false, advance-if, advance-pick, advance-then, advance-true, leads-pick, leads-then, refuse-false, refuse-if, refuse-not, refuse-pick, refuse-picked, refuse-second, refuse-true}

-- whether an object has the key, from what was asked of the value
pub has_of : (key : List ℕ) (d : Data) (ms : Members) (found test : Bool) → d ≡ object ms → found ≡ is_some (get key d) → found ≡ test → has key ms ≡ test
has_of key d ms found test is e t = ap (λ v. is_some (get key v)) (sym is) ∙ sym e ∙ t

module _ (scope : Scope) (s : Term) (p : List ℕ) (d : Data) (ms : Members) (is : d ≡ object ms) (u : Walk) where
  abbrev Other : State → State → Type 0
  Other = λ a b. Choose (has (codes "@list") ms) (WalksList scope s p ms a b) (WalksNode scope s p ms a b)

  pub literal_ok : (v : Walk) → has (codes "@value") ms ≡ true → Advances (WalksLiteral s p ms) u v → Advances (WalksValue scope s p d) u v
  literal_ok v h r = subst (λ (e : Data). Advances (WalksValue scope s p e) u v) (sym is) (advance-true (has (codes "@value") ms) (WalksLiteral s p ms) Other u v h r)

  pub literal_out : has (codes "@value") ms ≡ true → Refuses (WalksLiteral s p ms) u → Refuses (WalksValue scope s p d) u
  literal_out h r = subst (λ (e : Data). Refuses (WalksValue scope s p e) u) (sym is) (refuse-true (has (codes "@value") ms) (WalksLiteral s p ms) Other u h r)

  pub list_ok : (v : Walk) → has (codes "@value") ms ≡ false → has (codes "@list") ms ≡ true → Advances (WalksList scope s p ms) u v → Advances (WalksValue scope s p d) u v
  list_ok v h k r = subst (λ (e : Data). Advances (WalksValue scope s p e) u v) (sym is) (advance-false (has (codes "@value") ms) (WalksLiteral s p ms) Other u v h
      (advance-true (has (codes "@list") ms) (WalksList scope s p ms) (WalksNode scope s p ms) u v k r))

  pub list_out : has (codes "@value") ms ≡ false → has (codes "@list") ms ≡ true → Refuses (WalksList scope s p ms) u → Refuses (WalksValue scope s p d) u
  list_out h k r = subst (λ (e : Data). Refuses (WalksValue scope s p e) u) (sym is) (refuse-false (has (codes "@value") ms) (WalksLiteral s p ms) Other u h
      (refuse-true (has (codes "@list") ms) (WalksList scope s p ms) (WalksNode scope s p ms) u k r))

  pub node_ok : (v : Walk) → has (codes "@value") ms ≡ false → has (codes "@list") ms ≡ false → Advances (WalksNode scope s p ms) u v → Advances (WalksValue scope s p d) u v
  node_ok v h k r = subst (λ (e : Data). Advances (WalksValue scope s p e) u v) (sym is) (advance-false (has (codes "@value") ms) (WalksLiteral s p ms) Other u v h
      (advance-false (has (codes "@list") ms) (WalksList scope s p ms) (WalksNode scope s p ms) u v k r))

  pub node_out : has (codes "@value") ms ≡ false → has (codes "@list") ms ≡ false → Refuses (WalksNode scope s p ms) u → Refuses (WalksValue scope s p d) u
  node_out h k r = subst (λ (e : Data). Refuses (WalksValue scope s p e) u) (sym is) (refuse-false (has (codes "@value") ms) (WalksLiteral s p ms) Other u h
      (refuse-false (has (codes "@list") ms) (WalksList scope s p ms) (WalksNode scope s p ms) u k r))

  pub values_ok : (v : Walk) → Advances (WalksValue scope s p d) u v → Advances (WalksValues scope s p d) u v
  values_ok v r = subst (λ (e : Data). Advances (WalksValues scope s p e) u v) (sym is) (subst (λ (e : Data). Advances (WalksValue scope s p e) u v) is r)

  pub values_out : Refuses (WalksValue scope s p d) u → Refuses (WalksValues scope s p d) u
  values_out r = subst (λ (e : Data). Refuses (WalksValues scope s p e) u) (sym is) (subst (λ (e : Data). Refuses (WalksValue scope s p e) u) is r)

-- ---- lists

module _ (scope : Scope) (s : Term) (p : List ℕ) (u : Walk) where
  no_rest : (n : ℕ) → suc n ≡ 1 → n ≡ 0
  no_rest n e = omega (arith, e)

  pub many_out : (es : List Entry) → (length es ≡ 1 → ⊥) → Refuses (WalksList scope s p (members_view es)) u
  many_out [] h a st b x = x
  many_out (e ∷ es) h a st b x = h (let n : length es ≡ 0 = sym (members_len-members_view es) ∙ x.0 in omega (arith, n))

  pub only_ok : (v : Walk) (es rest : List Entry) (e : Entry) → es ≡ e ∷ rest → length es ≡ 1 → Advances (WalksArray scope s p (view e.1)) u v → Advances (WalksList scope s p (members_view es)) u v
  only_ok v es rest e is one r =
      let none : members_len (members_view rest) ≡ 0 = members_len-members_view rest ∙ no_rest (length rest) (sym (ap length is) ∙ one) in
      subst (λ (xs : List Entry). Advances (WalksList scope s p (members_view xs)) u v) (sym is)
      (advance-if (members_len (members_view rest) ≡ 0) (WalksArray scope s p (view e.1)) u v none r)

  pub only_out : (es rest : List Entry) (e : Entry) → es ≡ e ∷ rest → Refuses (WalksArray scope s p (view e.1)) u → Refuses (WalksList scope s p (members_view es)) u
  only_out es rest e is r = subst (λ (xs : List Entry). Refuses (WalksList scope s p (members_view xs)) u) (sym is)
      (refuse-if (members_len (members_view rest) ≡ 0) (WalksArray scope s p (view e.1)) u r)

-- ---- members

module _ (scope : Scope) (node : Term) (key : List ℕ) (d : Data) (u : Walk) where
  abbrev Predicate : State → State → Type 0
  Predicate = λ a b. IsAbsolute key × WalksValues scope node key d a b

  abbrev Otherwise : State → State → Type 0
  Otherwise = λ a b. Choose (bytes_eq key (codes "@type")) (WalksTypes scope node d a b) (Predicate a b)

  pub id_ok : bytes_eq key (codes "@id") ≡ true → Advances (WalksMember scope node key d) u u
  id_ok h = advance-true (bytes_eq key (codes "@id")) (λ a b. b ≡ a) Otherwise u u h (λ a st. (a, refl, st))

  pub type_ok : (v : Walk) → bytes_eq key (codes "@id") ≡ false → bytes_eq key (codes "@type") ≡ true → Advances (WalksTypes scope node d) u v → Advances (WalksMember scope node key d) u v
  type_ok v h k r = advance-false (bytes_eq key (codes "@id")) (λ a b. b ≡ a) Otherwise u v h (advance-true (bytes_eq key (codes "@type")) (WalksTypes scope node d) Predicate u v k r)

  pub type_out : bytes_eq key (codes "@id") ≡ false → bytes_eq key (codes "@type") ≡ true → Refuses (WalksTypes scope node d) u → Refuses (WalksMember scope node key d) u
  type_out h k r = refuse-false (bytes_eq key (codes "@id")) (λ a b. b ≡ a) Otherwise u h (refuse-true (bytes_eq key (codes "@type")) (WalksTypes scope node d) Predicate u k r)

  pub predicate_ok : (v : Walk) (p : List ℕ) → bytes_eq key (codes "@id") ≡ false → bytes_eq key (codes "@type") ≡ false → p ≡ key → IsAbsolute key → Advances (WalksValues scope node p d) u v → Advances (WalksMember scope node key d) u v
  predicate_ok v p h k same absolute r =
      advance-false (bytes_eq key (codes "@id")) (λ a b. b ≡ a) Otherwise u v h (advance-false (bytes_eq key (codes "@type")) (WalksTypes scope node d) Predicate u v k
      (advance-if (IsAbsolute key) (WalksValues scope node key d) u v absolute (subst (λ (q : List ℕ). Advances (WalksValues scope node q d) u v) same r)))

  pub predicate_out : (p : List ℕ) → bytes_eq key (codes "@id") ≡ false → bytes_eq key (codes "@type") ≡ false → p ≡ key → Refuses (WalksValues scope node p d) u → Refuses (WalksMember scope node key d) u
  predicate_out p h k same r =
      refuse-false (bytes_eq key (codes "@id")) (λ a b. b ≡ a) Otherwise u h (refuse-false (bytes_eq key (codes "@type")) (WalksTypes scope node d) Predicate u k
      (refuse-if (IsAbsolute key) (WalksValues scope node key d) u (subst (λ (q : List ℕ). Refuses (WalksValues scope node q d) u) same r)))

  pub relative_out : bytes_eq key (codes "@id") ≡ false → bytes_eq key (codes "@type") ≡ false → (IsAbsolute key → ⊥) → Refuses (WalksMember scope node key d) u
  relative_out h k none = refuse-false (bytes_eq key (codes "@id")) (λ a b. b ≡ a) Otherwise u h (refuse-false (bytes_eq key (codes "@type")) (WalksTypes scope node d) Predicate u k
      (refuse-not (IsAbsolute key) (WalksValues scope node key d) u none))

-- ---- nodes

module _ (scope : Scope) (s : Term) (p : List ℕ) (d : Data) (ms : Members) (is : d ≡ object ms) (u : Walk) where
  abbrev By : Term → State → State → Type 0
  By = λ node. IsNodeBy scope (get (codes "@id") d) node

  of_by : (node : Term) (v : Walk) → Advances (By node) u v → Advances (IsNodeOf scope ms node) u v
  of_by node v r = subst (λ (e : Data). Advances (IsNodeBy scope (get (codes "@id") e) node) u v) is r

  abbrev Said : Term → State → State → Type 0
  Said = λ node. Then (Says s p node) (WalksMembers scope node ms)

  pub node_value_ok : (node : Term) (v w x : Walk) → Advances (By node) u v → Advances (Says s p node) v w → Advances (WalksMembers scope node ms) w x → Advances (WalksNode scope s p ms) u x
  node_value_ok node v w x r said rest = advance-pick (λ n. IsNodeOf scope ms n) Said node u v x (of_by node v r) (advance-then (Says s p node) (WalksMembers scope node ms) v w x said rest)

  pub node_value_none : ((node : Term) → Refuses (By node) u) → Refuses (WalksNode scope s p ms) u
  node_value_none r = refuse-pick (λ n. IsNodeOf scope ms n) Said u (λ node. subst (λ (e : Data). Refuses (IsNodeBy scope (get (codes "@id") e) node) u) is (r node))

  pub node_value_out : (node : Term) (v w : Walk) → Advances (By node) u v → Advances (Says s p node) v w → Refuses (WalksMembers scope node ms) w → Refuses (WalksNode scope s p ms) u
  node_value_out node v w r said rest = refuse-picked (λ n. IsNodeOf scope ms n) Said node u v (picks-node scope (get_member (codes "@id") ms)) (of_by node v r)
      (refuse-second (Says s p node) (WalksMembers scope node ms) v w (once-says s p node) said rest)

module _ (scope : Scope) (d : Data) (ms : Members) (is : d ≡ object ms) (u : Walk) where
  abbrev LoneBy : Term → State → State → Type 0
  LoneBy = λ node. IsNodeBy scope (get (codes "@id") d) node

  lone_by : (node : Term) (v : Walk) → Advances (LoneBy node) u v → Advances (IsNodeOf scope ms node) u v
  lone_by node v r = subst (λ (e : Data). Advances (IsNodeBy scope (get (codes "@id") e) node) u v) is r

  -- a node object by itself
  pub node_object_ok : (node : Term) (v x : Walk) → Advances (LoneBy node) u v → Advances (WalksMembers scope node ms) v x → Advances (Picks (λ n. IsNodeOf scope ms n) (λ n. WalksMembers scope n ms)) u x
  node_object_ok node v x r rest = advance-pick (λ n. IsNodeOf scope ms n) (λ n. WalksMembers scope n ms) node u v x (lone_by node v r) rest

  pub node_object_none : ((node : Term) → Refuses (LoneBy node) u) → Refuses (Picks (λ n. IsNodeOf scope ms n) (λ n. WalksMembers scope n ms)) u
  node_object_none r = refuse-pick (λ n. IsNodeOf scope ms n) (λ n. WalksMembers scope n ms) u (λ node. subst (λ (e : Data). Refuses (IsNodeBy scope (get (codes "@id") e) node) u) is (r node))

  pub node_object_out : (node : Term) (v : Walk) → Advances (LoneBy node) u v → Refuses (WalksMembers scope node ms) v → Refuses (Picks (λ n. IsNodeOf scope ms n) (λ n. WalksMembers scope n ms)) u
  node_object_out node v r rest = refuse-picked (λ n. IsNodeOf scope ms n) (λ n. WalksMembers scope n ms) node u v (picks-node scope (get_member (codes "@id") ms)) (lone_by node v r) rest

-- ---- cells

module _ (R : State → State → Type 0) (scope : Scope) (s : Term) (p : List ℕ) (d : Data) (ds : Items) where
  abbrev Element : Term → State → State → Type 0
  Element = λ cell. Then (WalksValue scope cell rdf_first d) (WalksCells scope cell rdf_rest ds)

  -- after the cell is there and is said
  pub leads_cell : (cell : Term) (u v w : Walk) → Leads R (WalksCells scope s p (item d ds)) u v → Advances (Then (IsUnnamed scope cell) (Says s p cell)) v w → Leads R (Element cell) u w
  leads_cell cell u v w leads h = record {
    ok = λ x r. leads.ok x (λ a st.
        let y = h a st in
        let z = r y.0 y.2 in
        (z.0, (cell, (y.1.0, y.1.1, (y.0, y.1.2, z.1))), z.2));
    out = λ r. leads.out (λ a st c found.
        let y = h a st in
        let other = found.1 in
        let same = picks-unnamed scope found.0 cell a other.0 y.1.0 other.1 y.1.1 in
        let second = other.2 in
        let said : second.0 ≡ y.0 = second.1 ∙ ap (λ (b : State). saying s p found.0 b) same.1 ∙ ap (λ (n : Term). saying s p n y.1.0) same.0 ∙ sym y.1.2 in
        r y.0 y.2 c (subst (λ (b : State). Element cell b c) said (subst (λ (n : Term). Element n second.0 c) same.0 second.2)));
  }
