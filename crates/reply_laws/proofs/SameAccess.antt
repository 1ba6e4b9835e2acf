-- Pods that are alike for an agent decide access alike, for whomever.
use Rattle.std.proofs.Common.{◌≡◌, ℕ, Bool, true, false, cond, not, length, ◌+◌, ◌||◌, ◌&&◌, List, [], ◌∷◌, map, Option, Some, None, refl, sym, ap, ap₂, ◌∙◌, subst, ⊎_elim}
use Rattle.std.specs.Prelude.{codes, is_some, nat_lt, slice_get, option_and_then}
use Rattle.std.specs.List.{Contains, list_any, position, position_or_len}
use Rattle.std.specs.Option.{option_map}
use Rattle.std.proofs.lemmas.Bool.{true≢false}
use Rattle.std.proofs.lemmas.Slice.Eq.{bytes_eq-Decides}
use Rattle.acl_rules.proofs.IriPaths.{document_uri}
use Rattle.acl_rules.proofs.NodeRules.{own_rule}
use Rattle.acl_rules.proofs.NodeValues.{group_members}
use Rattle.acl_rules.specs.Rules.{rule_of}
use Rattle.acl_rules.specs.Statements.{States}
use Rattle.acl_rules.specs.Vocabulary.{acl_agent_group}
use Rattle.acl_rules.specs.declared.rule.How.{How}
use Rattle.acl_rules.specs.declared.rule.Rule.{Rule}
use Rattle.acl_rules.specs.declared.rule.Subject.{Subject}
use Rattle.acl_rules.specs.declared.rule.Subject.TheVariants.{Agent as AgentSubject, Everyone, Authenticated, Group}
use Rattle.pod_access.specs.AllowField.{allow_field, four, modes_at, modes_in, modes_by}
use Rattle.pod_access.specs.Bases.{bases_of, basis_by, basis_of, ground_by, with_basis}
use Rattle.pod_access.specs.PodGrants.{membership}
use Rattle.pod_base.specs.declared.agent.Agent.{Agent}
use Rattle.pod_base.specs.declared.agent.Agent.TheVariants.{Public, Known}
use Rattle.pod_base.specs.declared.agent.Mode.{Mode}
use Rattle.pod_base.specs.declared.agent.Mode.TheVariants.{Control}
use Rattle.pod_access.specs.Allow.{allow_text}
use Rattle.pod_rows.specs.View.{triples_in}
use Rattle.pod_command.specs.declared.row.Content.{Content}
use Rattle.pod_command.specs.declared.row.Content.TheVariants as contents
use Rattle.pod_command.specs.declared.row.Row.{Row}
use Rattle.pod_path.proofs.Names.{ends_append}
use Rattle.pod_path.specs.Hierarchy.{is_acl}
use Rattle.pod_rows.specs.Access.{Governs, effective_of, list_path, rules_at, rules_in, rules_of_row}
use Rattle.pod_rows.specs.Members.{row_states_member}
use Rattle.pod_rows.specs.Pod.{Pod, is_at, row_at}
use Rattle.rdf_graph.proofs.Members.{contains_here, contains_there, contains_none}
use Rattle.reply_laws.proofs.SamePaths.{same_effective}
use Rattle.reply_laws.specs.Alike.{Alike, NamesGroup}
use Rattle.pod_access.proofs.Positions.{slice_get_member}
use Rattle.pod_access.specs.Decision.{allow_modes, basis_at, covers, first_ground, ground_in, has_mode, has_subject, is_about, rule_grants, subjects_at, subjects_of}
use Rattle.pod_access.specs.declared.granting_rules.Ground.{Ground}
use Rattle.pod_access.specs.declared.request_needs.Need.{Need}

-- ---- a row that is found

pub found_row : (rows : List Row) (path : List ℕ) (row : Row) → row_at rows path ≡ Some row → Contains rows row × (row.path ≡ path)
found_row [] path row h = absurd cc
found_row (r ∷ rows) path row h = by_test (is_at path r) refl h (found_row rows path row)
  where
    by_test : (b : Bool) → is_at path r ≡ b → cond b (Some r) (row_at rows path) ≡ Some row
        → (row_at rows path ≡ Some row → Contains rows row × (row.path ≡ path)) → Contains (r ∷ rows) row × (row.path ≡ path)
    by_test true e g more =
        let same : r ≡ row = cc in
        (subst (Contains (r ∷ rows)) same (contains_here r rows), subst (λ (x : Row). x.path ≡ path) same ((bytes_eq-Decides r.path path).0 e))
    by_test false e g more = let rest = more g in (contains_there r rows row rest.0, rest.1)

-- ---- lists of which two tests say the same

any_same : {X : Type 0} (f g : X → Bool) (xs : List X) → ((x : X) → Contains xs x → f x ≡ g x) → list_any f xs ≡ list_any g xs
any_same f g [] h = refl
any_same f g (x ∷ xs) h =
    ap₂ (λ (a b : Bool). a || b) (h x (contains_here x xs)) (any_same f g xs (λ y c. h y (contains_there x xs y c)))

-- the first index at which a test passes depends on what the test says of the elements
prefix_same : {X : Type 0} (f g : X → Bool) (xs : List X) → ((x : X) → Contains xs x → f x ≡ g x) → position_or_len f xs ≡ position_or_len g xs
prefix_same f g [] h = refl
prefix_same f g (x ∷ xs) h =
    ap₂ (λ (a : Bool) (n : ℕ). cond (not a) (1 + n) 0) (h x (contains_here x xs)) (prefix_same f g xs (λ y c. h y (contains_there x xs y c)))

position_same : {X : Type 0} (f g : X → Bool) (xs : List X) → ((x : X) → Contains xs x → f x ≡ g x) → position f xs ≡ position g xs
position_same f g xs h = ap (λ (n : ℕ). cond (nat_lt n (length xs)) (Some n) None) (prefix_same f g xs h)

module _ (agent : Agent) (p q : Pod) (alike : Alike agent p q) where
  -- ---- access lists and group documents are the same

  pub same_list : (at : List ℕ) → row_at p.rows (list_path at) ≡ row_at q.rows (list_path at)
  same_list at =
      ⊎_elim
      (λ same. same)
      (λ hidden. absurd (true≢false (sym (ends_append at (codes ".acl")) ∙ hidden.0.no_list)))
      (alike.rows (list_path at))

  pub same_rules : (at : List ℕ) → rules_at p at ≡ rules_at q at
  same_rules at = λ i. rules_of_row (alike.base i) (same_list at i)

  -- a rule that names a group names the group's document
  names_in : (row : Row) (content : Content) (rule : Rule) (doc group : List ℕ) → Contains p.rows row → is_acl row.path ≡ true → row.content ≡ content
      → Contains (rules_in p.base content) rule → Contains rule.subjects (Group (Some doc) group) → NamesGroup p doc
  names_in row (contents.Graph triples) rule doc group member list is in_rules subject =
      let own : rule ≡ rule_of p.base triples rule.node = own_rule p.base triples rule in_rules in
      let stated = (group_members p.base triples rule.node (Some doc) group).0 (subst (λ (r : Rule). Contains r.subjects (Group (Some doc) group)) own subject) in
      record {
        list = row;
        is_row = member;
        is_list = list;
        node = rule.node;
        group = group;
        named = subst (λ (c : Content). States (triples_in c) rule.node acl_agent_group group) (sym is) stated.0;
        document = document_uri p.base group doc (sym stated.1);
      }
  names_in row (contents.Bytes ctype bytes) rule doc group member list is in_rules subject = absurd (contains_none rule in_rules)

  names : (at doc group : List ℕ) (rule : Rule) → Contains (rules_at p at) rule → Contains rule.subjects (Group (Some doc) group) → NamesGroup p doc
  names at doc group rule in_rules subject = by_row (row_at p.rows (list_path at)) refl in_rules
    where
      by_row : (o : Option Row) → row_at p.rows (list_path at) ≡ o → Contains (rules_of_row p.base o) rule → NamesGroup p doc
      by_row None e h = absurd (contains_none rule h)
      by_row (Some row) e h =
          let found = found_row p.rows (list_path at) row e in
          names_in row row.content rule doc group found.0 (ap is_acl found.1 ∙ ends_append at (codes ".acl")) refl h subject

  same_member : (at doc group who : List ℕ) (rule : Rule) → Contains (rules_at p at) rule → Contains rule.subjects (Group (Some doc) group)
      → membership p doc group who ≡ membership q doc group who
  same_member at doc group who rule in_rules subject =
      ⊎_elim
      (λ same. ap (row_states_member group who) same)
      (λ hidden. absurd (hidden.0.no_group (names at doc group rule in_rules subject)))
      (alike.rows doc)

  same_covers : (at : List ℕ) (who : Agent) (rule : Rule) (s : Subject) → Contains (rules_at p at) rule → Contains rule.subjects s
      → covers (membership p) who s ≡ covers (membership q) who s
  same_covers at Public rule (AgentSubject iri) r h = refl
  same_covers at Public rule Everyone r h = refl
  same_covers at Public rule Authenticated r h = refl
  same_covers at Public rule (Group doc group) r h = refl
  same_covers at (Known who) rule (AgentSubject iri) r h = refl
  same_covers at (Known who) rule Everyone r h = refl
  same_covers at (Known who) rule Authenticated r h = refl
  same_covers at (Known who) rule (Group (Some doc) group) r h = same_member at doc group who rule r h
  same_covers at (Known who) rule (Group None group) r h = refl

  same_has : (at : List ℕ) (who : Agent) (rule : Rule) → Contains (rules_at p at) rule → has_subject (membership p) who rule ≡ has_subject (membership q) who rule
  same_has at who rule r = any_same (covers (membership p) who) (covers (membership q) who) rule.subjects (λ s h. same_covers at who rule s r h)

  same_grants : (how : How) (at : List ℕ) (who : Agent) (mode : Mode) (rule : Rule) → Contains (rules_at p at) rule
      → rule_grants (membership p) how at who mode rule ≡ rule_grants (membership q) how at who mode rule
  same_grants how at who mode rule r = ap (λ (b : Bool). is_about how at rule && (has_mode rule mode && b)) (same_has at who rule r)

  same_ground_in : (at : List ℕ) (who : Agent) (i : ℕ) → ground_in (membership p) (rules_at p at) who i ≡ ground_in (membership q) (rules_at p at) who i
  same_ground_in at who i =
      ap (option_map (λ (j : ℕ). record { rule = i; subject = j }))
      (position_same (covers (membership p) who) (covers (membership q) who) (subjects_at (rules_at p at) i) (by_rule (slice_get (rules_at p at) i) refl))
    where
      by_rule : (o : Option Rule) → slice_get (rules_at p at) i ≡ o → (s : Subject) → Contains (subjects_of o) s → covers (membership p) who s ≡ covers (membership q) who s
      by_rule None e s h = absurd (contains_none s h)
      by_rule (Some rule) e s h = same_covers at who rule s (slice_get_member (rules_at p at) i rule e) h

  same_first : (how : How) (at : List ℕ) (who : Agent) (mode : Mode)
      → first_ground (membership p) (rules_at p at) how at who mode ≡ first_ground (membership q) (rules_at p at) how at who mode
  unfolding first_ground
  same_first how at who mode =
      λ i. option_and_then (λ n. same_ground_in at who n i)
      (position_same (rule_grants (membership p) how at who mode) (rule_grants (membership q) how at who mode) (rules_at p at) (λ rule r. same_grants how at who mode rule r) i)

  -- ---- so are grounds, bases and modes

  pub same_ground : (who : Agent) (mode : Mode) (list : Governs) → ground_by p who mode list ≡ ground_by q who mode list
  same_ground who mode list =
      same_first list.how list.at who mode ∙ ap (λ (rules : List Rule). first_ground (membership q) rules list.how list.at who mode) (same_rules list.at)

  same_basis_by : (who : Agent) (mode : Mode) (list : Governs) → basis_by p who mode list ≡ basis_by q who mode list
  same_basis_by who mode list = λ i. option_and_then (λ first. basis_at (same_rules list.at i) first (list_path list.at)) (same_ground who mode list i)

  pub same_basis : (who : Agent) (need : Need) → basis_of p who need ≡ basis_of q who need
  unfolding basis_of
  same_basis who need = λ i. option_and_then (λ list. same_basis_by who need.mode list i) (same_effective p.rows q.rows alike.paths need.path i)

  pub same_bases : (who : Agent) (needs : List Need) → bases_of p who needs ≡ bases_of q who needs
  same_bases who [] = refl
  same_bases who (need ∷ needs) = ap₂ with_basis (same_basis who need) (same_bases who needs)

  same_modes_by : (who : Agent) (list : Governs) → modes_by p who list ≡ modes_by q who list
  same_modes_by who list = λ i. map (λ mode. is_some (same_ground who mode list i)) allow_modes

  same_modes_in : (who : Agent) (acl : Bool) (o : Option Governs) → modes_in p who acl o ≡ modes_in q who acl o
  same_modes_in who acl None = refl
  same_modes_in who true (Some list) = ap (λ (o : Option Ground). four (is_some o)) (same_ground who Control list)
  same_modes_in who false (Some list) = same_modes_by who list

  same_modes : (who : Agent) (path : List ℕ) → modes_at p who path ≡ modes_at q who path
  unfolding modes_at
  same_modes who path =
      same_modes_in who (is_acl path) (effective_of p.rows path) ∙ ap (modes_in q who (is_acl path)) (same_effective p.rows q.rows alike.paths path)

  pub same_allow : (who : Agent) (path : List ℕ) → allow_field p who path ≡ allow_field q who path
  same_allow who path = λ i. allow_text (same_modes who path i) (same_modes Public path i)
