-- In a new pod the owner has every mode everywhere, and nobody else has any.
use Rattle.std.proofs.Common.{◌≡◌, ⊎_elim, ℕ, ◌+◌, Bool, true, false, cond, List, [], ◌∷◌, length, Option, Some, None, inl, inr, refl, sym, ap, subst, ◌∙◌, length-append, arith}
use Rattle.std.specs.Prelude.{IsSome, bytes_eq, codes, filter, is_some}
use Rattle.std.specs.List.{Contains}
use Rattle.std.proofs.lemmas.Bool.{false≢true}
use Rattle.std.proofs.lemmas.List.{append-nil}
use Rattle.std.proofs.lemmas.Slice.Eq.{bytes_eq-Decides}
use Rattle.acl_rules.specs.Statements.{IsRule, States, statement}
use Rattle.acl_rules.specs.Vocabulary.{acl_access_to, acl_agent, acl_agent_class, acl_agent_group, acl_authenticated_agent, acl_authorization, acl_control, acl_default, acl_mode, acl_read, acl_write, foaf_agent, rdf_type}
use Rattle.acl_rules.specs.declared.rule.How.{How}
use Rattle.acl_rules.specs.declared.rule.How.TheVariants.{Own, Inherited}
use Rattle.pod_rows.specs.FirstPods.{first_pod, list_row, owner_triples, root_row, rule_iri}
use Rattle.pod_access.specs.PodGrants.{GrantsBy, PodGrants, list_graph, membership}
use Rattle.pod_access.proofs.GoverningLists.{own_row}
use Rattle.pod_base.specs.declared.agent.Agent.{Agent}
use Rattle.pod_base.specs.declared.agent.Agent.TheVariants.{Known, Public}
use Rattle.pod_base.specs.declared.agent.Mode.{Mode}
use Rattle.pod_base.specs.declared.agent.Mode.TheVariants.{Append, Control, Read, Write}
use Rattle.pod_base.specs.declared.moment.Moment.{Moment}
use Rattle.pod_path.specs.Hierarchy.{root, subject_of, uri_of}
use Rattle.pod_path.proofs.Subjects.{acl_back}
use Rattle.pod_rows.specs.Access.{Governs, about, effective_of, has_own_list, list_path}
use Rattle.pod_rows.specs.Pod.{Pod, row_at}
use Rattle.rdf_graph.specs.Term.{term_eq}
use Rattle.rdf_graph.specs.TermLaws.{term_eq_decides}
use Rattle.rdf_graph.specs.declared.term.Term.{Term}
use Rattle.rdf_graph.specs.declared.term.Term.TheVariants.{Iri}
use Rattle.rdf_graph.specs.declared.triple.Triple.{Triple}
use Rattle.rdf_graph.proofs.Members.{contains_cases, contains_filter, contains_none}
use Rattle.pod_access.specs.Grants.{Covers, Grants, GrantsMode, place_property}
use Rattle.pod_access.proofs.Positions.{slice_get_member}

module _ (base owner : List ℕ) (modified : Moment) where
  abbrev pod : Pod
  pod = first_pod base owner modified

  abbrev rule : Term
  rule = Iri (rule_iri base)

  abbrev triples : List Triple
  triples = owner_triples base owner

  -- ---- the root's list governs every path

  same_text : (xs ys : List ℕ) → bytes_eq xs ys ≡ true → xs ≡ ys
  same_text xs ys e = (bytes_eq-Decides xs ys).0 e

  is_root_list : (at : List ℕ) → codes "/.acl" ≡ list_path at → at ≡ root
  is_root_list at e =
      let both : Some root ≡ Some at = ap subject_of e ∙ acl_back at in
      let same : root ≡ at = cc both in
      sym same

  no_list : (at : List ℕ) → codes "/" ≡ list_path at → ⊥
  no_list at e =
      let long : length (codes "/") ≡ length at + 4 = ap length e ∙ length-append at (codes ".acl") in
      absurd (omega (arith, long))

  own_root : (at : List ℕ) → has_own_list pod.rows at ≡ true → at ≡ root
  own_root at h = by_first (bytes_eq (codes "/") (list_path at)) refl h
    where
      by_second : (b : Bool) → bytes_eq (codes "/.acl") (list_path at) ≡ b → is_some (cond b (Some (list_row base owner modified)) None) ≡ true → at ≡ root
      by_second true e h = is_root_list at (same_text (codes "/.acl") (list_path at) e)
      by_second false e h = absurd (false≢true h)

      by_first : (b : Bool) → bytes_eq (codes "/") (list_path at) ≡ b → is_some (cond b (Some (root_row modified)) (row_at (list_row base owner modified ∷ []) (list_path at))) ≡ true → at ≡ root
      by_first true e h = absurd (no_list at (same_text (codes "/") (list_path at) e))
      by_first false e h = by_second (bytes_eq (codes "/.acl") (list_path at)) refl h

  governs_root : (path : List ℕ) (list : Governs) → effective_of pod.rows path ≡ Some list → list.at ≡ root
  governs_root path list e = own_root list.at (own_row pod.rows (about path (subject_of path)) list e)

  graph_is : list_graph pod root ≡ triples
  graph_is = refl

  -- ---- the owner

  base_is : uri_of base root ≡ base
  base_is = append-nil base

  is_rule : IsRule triples rule
  unfolding owner_triples
  is_rule = slice_get_member triples 0 (statement rule rdf_type acl_authorization) refl

  has_place : (how : How) → States triples rule (place_property how) base
  unfolding owner_triples
  has_place Own = slice_get_member triples 1 (statement rule acl_access_to base) refl
  has_place Inherited = slice_get_member triples 3 (statement rule acl_default base) refl

  has_agent : States triples rule acl_agent owner
  unfolding owner_triples
  has_agent = slice_get_member triples 2 (statement rule acl_agent owner) refl

  has_control : States triples rule acl_mode acl_control
  unfolding owner_triples
  has_control = slice_get_member triples 4 (statement rule acl_mode acl_control) refl

  has_read : States triples rule acl_mode acl_read
  unfolding owner_triples
  has_read = slice_get_member triples 5 (statement rule acl_mode acl_read) refl

  has_write : States triples rule acl_mode acl_write
  unfolding owner_triples
  has_write = slice_get_member triples 6 (statement rule acl_mode acl_write) refl

  grants_mode : (mode : Mode) → GrantsMode triples rule mode
  grants_mode Read = (Read, has_read, refl)
  grants_mode Append = (Write, has_write, refl)
  grants_mode Write = (Write, has_write, refl)
  grants_mode Control = (Control, has_control, refl)

  owner_at_root : (how : How) (mode : Mode) → Grants (membership pod) base triples how root (Known owner) mode
  owner_at_root how mode = (
    rule,
    record {
      rule = is_rule;
      place = subst (States triples rule (place_property how)) (sym base_is) (has_place how);
      grants = grants_mode mode;
      covers = inr (inr (inl has_agent));
    },
  )

  pub owner_has : (path : List ℕ) (mode : Mode) → IsSome (effective_of pod.rows path) → PodGrants pod (Known owner) path mode
  owner_has path mode some = by_governs (effective_of pod.rows path) refl some
    where
      by_governs : (o : Option Governs) → effective_of pod.rows path ≡ o → IsSome o → PodGrants pod (Known owner) path mode
      by_governs None e s = absurd (false≢true s)
      by_governs (Some list) e s =
          subst (GrantsBy pod (Known owner) mode) (sym e)
          (subst (λ at. Grants (membership pod) base (list_graph pod at) list.how at (Known owner) mode) (sym (governs_root path list e)) (owner_at_root list.how mode))

  -- ---- nobody else

  abbrev is_of : List ℕ → Triple → Bool
  is_of property t = term_eq t.p (Iri property)

  is_property : (node : Term) (property value : List ℕ) → is_of property (statement node property value) ≡ true
  is_property node property value = (term_eq_decides (Iri property) (Iri property)).1 refl

  -- no triple has one of these properties
  no_classes : filter (is_of acl_agent_class) triples ≡ []
  unfolding owner_triples acl_agent_class rdf_type acl_access_to acl_agent acl_default acl_mode
  no_classes = refl

  no_groups : filter (is_of acl_agent_group) triples ≡ []
  unfolding owner_triples acl_agent_group rdf_type acl_access_to acl_agent acl_default acl_mode
  no_groups = refl

  one_agent : filter (is_of acl_agent) triples ≡ statement rule acl_agent owner ∷ []
  unfolding owner_triples rdf_type acl_access_to acl_agent acl_default acl_mode
  one_agent = refl

  among : (property : List ℕ) (node : Term) (value : List ℕ) → States triples node property value → Contains (filter (is_of property) triples) (statement node property value)
  among property node value h = (contains_filter (is_of property) triples (statement node property value)).1 (h, is_property node property value)

  never_class : (node : Term) (value : List ℕ) → States triples node acl_agent_class value → ⊥
  never_class node value h = contains_none (statement node acl_agent_class value) (subst (λ (xs : List Triple). Contains xs (statement node acl_agent_class value)) no_classes (among acl_agent_class node value h))

  never_group : (node : Term) (value : List ℕ) → States triples node acl_agent_group value → ⊥
  never_group node value h = contains_none (statement node acl_agent_group value) (subst (λ (xs : List Triple). Contains xs (statement node acl_agent_group value)) no_groups (among acl_agent_group node value h))

  only_owner : (node : Term) (agent : List ℕ) → States triples node acl_agent agent → agent ≡ owner
  only_owner node agent h =
      let one = subst (λ (xs : List Triple). Contains xs (statement node acl_agent agent)) one_agent (among acl_agent node agent h) in
      ⊎_elim
      (λ same. let objects : Iri owner ≡ Iri agent = ap (λ (t : Triple). t.o) same in
      let texts : owner ≡ agent = cc objects in sym texts)
      (λ none. absurd (contains_none (statement node acl_agent agent) none))
      (contains_cases (statement rule acl_agent owner) [] (statement node acl_agent agent) one)

  covers_owner : (node : Term) (agent : Agent) → Covers (membership pod) base triples node agent → agent ≡ Known owner
  covers_owner node Public h = absurd (never_class node foaf_agent h)
  covers_owner node (Known agent) (inl all) = absurd (never_class node foaf_agent all)
  covers_owner node (Known agent) (inr (inl known)) = absurd (never_class node acl_authenticated_agent known)
  covers_owner node (Known agent) (inr (inr (inl one))) = ap (λ (iri : List ℕ). Known iri) (only_owner node agent one)
  covers_owner node (Known agent) (inr (inr (inr group))) = absurd (never_group node group.0 group.2)

  pub others_lack : (path : List ℕ) (mode : Mode) (agent : Agent) → PodGrants pod agent path mode → agent ≡ Known owner
  others_lack path mode agent h = by_governs (effective_of pod.rows path) refl
    where
      by_governs : (o : Option Governs) → effective_of pod.rows path ≡ o → agent ≡ Known owner
      by_governs None e = absurd (subst (GrantsBy pod agent mode) e h)
      by_governs (Some list) e =
          let some = subst (GrantsBy pod agent mode) e h in
          let at_root = subst (λ at. Grants (membership pod) base (list_graph pod at) list.how at agent mode) (governs_root path list e) some in
          covers_owner at_root.0 agent at_root.1.covers
