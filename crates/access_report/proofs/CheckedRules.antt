-- The rule of a node grants by subjects of one kind exactly where the node does so.
use Rattle.std.proofs.Common.{◌≡◌, inl, inr, ℕ, Bool, true, false, ◌&&◌, ◌||◌, List, [], ◌∷◌, Option, Some, None, refl, sym, ap, ◌∙◌, subst}
use Rattle.std.specs.Prelude.{◌↔◌, Contains, IsTrue, bytes_eq, filter, is_some}
use Rattle.std.specs.List.{find, list_any}
use Rattle.std.proofs.lemmas.Bool.{false≢true}
use Rattle.std.proofs.lemmas.Slice.Eq.{bytes_eq-Decides}
use Rattle.acl_rules.specs.Rules.{rule_of, rules_of}
use Rattle.acl_rules.specs.Statements.{States, IsRule}
use Rattle.acl_rules.specs.Vocabulary.{acl_agent}
use Rattle.acl_rules.specs.declared.rule.How.{How}
use Rattle.acl_rules.specs.declared.rule.How.TheVariants.{Own, Inherited}
use Rattle.acl_rules.specs.declared.rule.Rule.{Rule}
use Rattle.acl_rules.specs.declared.rule.Subject.{Subject}
use Rattle.acl_rules.specs.declared.rule.Subject.TheVariants.{Agent as AgentSubject, Everyone, Authenticated, Group}
use Rattle.acl_rules.proofs.IriPaths.{document_uri, uri_document}
use Rattle.acl_rules.proofs.NodeRules.{rule_nodes, own_rule, image_contains, contains_image}
use Rattle.acl_rules.proofs.NodeValues.{agent_members, everyone_members, authenticated_members, group_members}
use Rattle.pod_access.specs.PodGrants.{PodGrants, GrantsBy, list_graph, membership}
use Rattle.pod_access.proofs.GraphGrants.{rules_of_graph, uri_governs}
use Rattle.pod_base.specs.declared.agent.Agent.{Agent}
use Rattle.pod_base.specs.declared.agent.Agent.TheVariants.{Public, Known}
use Rattle.pod_base.specs.declared.agent.Mode.{Mode}
use Rattle.pod_command.specs.declared.basis.Who.{Who}
use Rattle.pod_command.specs.declared.basis.Who.TheVariants as whos
use Rattle.pod_path.specs.Hierarchy.{acl_of, uri_of, IsUriOf}
use Rattle.pod_rows.specs.Access.{Governs, governed, effective_of, list_path, rules_at}
use Rattle.pod_rows.specs.Pod.{Pod}
use Rattle.pod_rows.specs.WellFormed.{WellFormed}
use Rattle.rdf_graph.proofs.Members.{contains_filter}
use Rattle.rdf_graph.specs.TermLaws.{term_eq_decides}
use Rattle.rdf_graph.specs.declared.term.Term.{Term}
use Rattle.rdf_graph.specs.declared.triple.Triple.{Triple}
use Rattle.pod_access.specs.Decision.{covers, is_about, has_mode, first_ground, has_subject, rule_grants, who_of}
use Rattle.pod_access.specs.Grants.{Membership, Covers, NodeGrants}
use Rattle.pod_access.proofs.Grounds.{some_grants}
use Rattle.pod_access.proofs.Granting.{rule_node, node_rule}
use Rattle.pod_access.proofs.Positions.{any_passes, passes_any}
use Rattle.access_report.specs.Checked.{CoversAsMember, CoversAs, ChecksBy, ChecksIn, Checks}
use Rattle.access_report.specs.Reports.{IsReported}
use Rattle.access_report.specs.Subjects.{is_named, is_node, is_path_if, rule_as, grants_if}
use Rattle.access_report.specs.declared.line.Line.{Line}
use Rattle.access_report.proofs.Members.{found, finds, some_found}

same_bytes : (xs ys : List ℕ) → bytes_eq xs ys ≡ true → xs ≡ ys
same_bytes xs ys e = (bytes_eq-Decides xs ys).0 e

equal_bytes : (xs : List ℕ) → bytes_eq xs xs ≡ true
equal_bytes xs = (bytes_eq-Decides xs xs).1 refl

-- a subject of the kind covers, by its statement
module _ (member : Membership) (base : List ℕ) (g : List Triple) (node : Term) where
  -- what covers as one kind covers
  pub as_covers : (agent : Agent) (who : Who) → CoversAs member base g node agent who → Covers member base g node agent
  as_covers Public whos.Everyone h = h
  as_covers Public whos.Agent h = absurd h
  as_covers Public whos.Authenticated h = absurd h
  as_covers Public (whos.Group group) h = absurd h
  as_covers (Known agent) whos.Everyone h = inl h
  as_covers (Known agent) whos.Authenticated h = inr (inl h)
  as_covers (Known agent) whos.Agent h = inr (inr (inl h))
  as_covers (Known agent) (whos.Group group) h = inr (inr (inr (group, h.doc, h.stated, h.is_doc, h.is_member)))

  -- a subject of that kind
  record Covering (agent : Agent) (who : Who) : Type 0 where
    at : Subject
    among : Contains (rule_of base g node).subjects at
    named : is_named who at ≡ true
    covering : covers member agent at ≡ true

  one : (agent : Agent) (who : Who) (s : Subject) → Contains (rule_of base g node).subjects s → is_named who s ≡ true → covers member agent s ≡ true → Covering agent who
  one agent who s h n e = record { at = s; among = h; named = n; covering = e }

  stated : (agent : Agent) (who : Who) → CoversAs member base g node agent who → Covering agent who
  stated Public whos.Everyone h = one Public whos.Everyone Everyone ((everyone_members base g node).1 h) refl refl
  stated Public whos.Agent h = absurd h
  stated Public whos.Authenticated h = absurd h
  stated Public (whos.Group group) h = absurd h
  stated (Known agent) whos.Everyone h = one (Known agent) whos.Everyone Everyone ((everyone_members base g node).1 h) refl refl
  stated (Known agent) whos.Authenticated h = one (Known agent) whos.Authenticated Authenticated ((authenticated_members base g node).1 h) refl refl
  stated (Known agent) whos.Agent h = one (Known agent) whos.Agent (AgentSubject agent) ((agent_members base g node agent).1 h) refl (equal_bytes agent)
  stated (Known agent) (whos.Group group) h =
      one (Known agent) (whos.Group group) (Group (Some h.doc) group) ((group_members base g node (Some h.doc) group).1 (h.stated, sym (uri_document base group h.doc h.is_doc))) (equal_bytes group) h.is_member

  pub named : (agent : Agent) (who : Who) (s : Subject) → Contains (rule_of base g node).subjects s → is_named who s ≡ true → covers member agent s ≡ true → CoversAs member base g node agent who
  named Public whos.Everyone Everyone h n e = (everyone_members base g node).0 h
  named Public whos.Everyone (AgentSubject iri) h n e = absurd (false≢true n)
  named Public whos.Everyone Authenticated h n e = absurd (false≢true n)
  named Public whos.Everyone (Group doc iri) h n e = absurd (false≢true n)
  named Public whos.Agent (AgentSubject iri) h n e = absurd (false≢true e)
  named Public whos.Agent Everyone h n e = absurd (false≢true n)
  named Public whos.Agent Authenticated h n e = absurd (false≢true n)
  named Public whos.Agent (Group doc iri) h n e = absurd (false≢true n)
  named Public whos.Authenticated Authenticated h n e = absurd (false≢true e)
  named Public whos.Authenticated Everyone h n e = absurd (false≢true n)
  named Public whos.Authenticated (AgentSubject iri) h n e = absurd (false≢true n)
  named Public whos.Authenticated (Group doc iri) h n e = absurd (false≢true n)
  named Public (whos.Group group) (Group doc iri) h n e = absurd (false≢true e)
  named Public (whos.Group group) Everyone h n e = absurd (false≢true n)
  named Public (whos.Group group) (AgentSubject iri) h n e = absurd (false≢true n)
  named Public (whos.Group group) Authenticated h n e = absurd (false≢true n)
  named (Known agent) whos.Everyone Everyone h n e = (everyone_members base g node).0 h
  named (Known agent) whos.Everyone (AgentSubject iri) h n e = absurd (false≢true n)
  named (Known agent) whos.Everyone Authenticated h n e = absurd (false≢true n)
  named (Known agent) whos.Everyone (Group doc iri) h n e = absurd (false≢true n)
  named (Known agent) whos.Agent (AgentSubject iri) h n e = subst (States g node acl_agent) (same_bytes iri agent e) ((agent_members base g node iri).0 h)
  named (Known agent) whos.Agent Everyone h n e = absurd (false≢true n)
  named (Known agent) whos.Agent Authenticated h n e = absurd (false≢true n)
  named (Known agent) whos.Agent (Group doc iri) h n e = absurd (false≢true n)
  named (Known agent) whos.Authenticated Authenticated h n e = (authenticated_members base g node).0 h
  named (Known agent) whos.Authenticated Everyone h n e = absurd (false≢true n)
  named (Known agent) whos.Authenticated (AgentSubject iri) h n e = absurd (false≢true n)
  named (Known agent) whos.Authenticated (Group doc iri) h n e = absurd (false≢true n)
  named (Known agent) (whos.Group group) (Group None iri) h n e = absurd (false≢true e)
  named (Known agent) (whos.Group group) (Group (Some doc) iri) h n e =
      let is = (group_members base g node (Some doc) iri).0 h in
      subst (λ (i : List ℕ). CoversAsMember member base g node i agent) (same_bytes iri group n)
      (record { stated = is.0; doc = doc; is_doc = document_uri base iri doc (sym is.1); is_member = e })
  named (Known agent) (whos.Group group) Everyone h n e = absurd (false≢true n)
  named (Known agent) (whos.Group group) (AgentSubject iri) h n e = absurd (false≢true n)
  named (Known agent) (whos.Group group) Authenticated h n e = absurd (false≢true n)

  -- the subjects of that kind, among those of the rule
  abbrev those : Who → List Subject
  those who = filter (is_named who) (rule_of base g node).subjects

  covers_as : (agent : Agent) (who : Who) → list_any (covers member agent) (those who) ≡ true → CoversAs member base g node agent who
  covers_as agent who h =
      let s = any_passes (covers member agent) (those who) h in
      let is = (contains_filter (is_named who) (rule_of base g node).subjects s.at).0 s.member in
      named agent who s.at is.0 is.1 s.passes

  as_covered : (agent : Agent) (who : Who) → CoversAs member base g node agent who → list_any (covers member agent) (those who) ≡ true
  as_covered agent who h =
      let s = stated agent who h in
      passes_any (covers member agent) (those who) s.at ((contains_filter (is_named who) (rule_of base g node).subjects s.at).1 (s.among, s.named)) s.covering

three_true : (a b c : Bool) → (a && (b && c)) ≡ true → (a ≡ true) × (b ≡ true) × (c ≡ true)
three_true true true c h = (refl, refl, h)
three_true true false c h = absurd (false≢true h)
three_true false b c h = absurd (false≢true h)

all_three : (a b c : Bool) → a ≡ true → b ≡ true → c ≡ true → (a && (b && c)) ≡ true
all_three a b c ea eb ec = ap (λ x. x && (b && c)) ea ∙ ap (λ x. x && c) eb ∙ ec

-- only the subjects differ
about_as : (how : How) (at : List ℕ) (r : Rule) (who : Who) → is_about how at r ≡ true → is_about how at (rule_as who r) ≡ true
about_as Own at r who e = e
about_as Inherited at r who e = e

as_about : (how : How) (at : List ℕ) (r : Rule) (who : Who) → is_about how at (rule_as who r) ≡ true → is_about how at r ≡ true
as_about Own at r who e = e
as_about Inherited at r who e = e

-- the rule of a node, by its subjects of one kind
pub record NodeChecks (member : Membership) (base : List ℕ) (g : List Triple) (how : How) (at : List ℕ) (agent : Agent) (mode : Mode) (node : Term) (who : Who) : Type 0 where
  pub node_grants : NodeGrants member base g how at agent mode node
  pub as_who : CoversAs member base g node agent who

pub rule_checks : (member : Membership) (base : List ℕ) (g : List Triple) (how : How) (at : List ℕ) (agent : Agent) (mode : Mode) (node : Term) (who : Who)
    → IsRule g node → rule_grants member how at agent mode (rule_as who (rule_of base g node)) ≡ true → NodeChecks member base g how at agent mode node who
rule_checks member base g how at agent mode node who rule h =
    let r = rule_of base g node in
    let all = three_true (is_about how at (rule_as who r)) (has_mode (rule_as who r) mode) (has_subject member agent (rule_as who r)) h in
    let as_who = covers_as member base g node agent who all.2 in
    let s = any_passes (covers member agent) (filter (is_named who) r.subjects) all.2 in
    let is = (contains_filter (is_named who) r.subjects s.at).0 s.member in
    let some = passes_any (covers member agent) r.subjects s.at is.0 s.passes in
    record {
      node_grants = rule_node member base g how at agent mode node rule (all_three (is_about how at r) (has_mode r mode) (has_subject member agent r) (as_about how at r who all.0) all.1 some);
      as_who = as_who;
    }

pub checks_rule : (member : Membership) (base : List ℕ) (g : List Triple) (how : How) (at : List ℕ) (agent : Agent) (mode : Mode) (node : Term) (who : Who)
    → IsUriOf base (uri_of base at) at → NodeChecks member base g how at agent mode node who → rule_grants member how at agent mode (rule_as who (rule_of base g node)) ≡ true
checks_rule member base g how at agent mode node who own h =
    let r = rule_of base g node in
    let all = three_true (is_about how at r) (has_mode r mode) (has_subject member agent r) (node_rule member base g how at agent mode node own h.node_grants) in
    all_three (is_about how at (rule_as who r)) (has_mode (rule_as who r) mode) (has_subject member agent (rule_as who r)) (about_as how at r who all.0) all.1 (as_covered member base g node agent who h.as_who)

-- ---- the rules of a list

module _ (member : Membership) (base : List ℕ) (g : List Triple) (how : How) (at : List ℕ) (agent : Agent) (line : Line) where
  abbrev node : Term
  node = line.basis.rule

  abbrev Node : Type 0
  Node = NodeChecks member base g how at agent line.mode line.basis.rule line.basis.who

  -- the rule that is found is that of the node
  found_rule : (rule : Rule) → find (is_node line.basis.rule) (rules_of base g) ≡ Some rule → (rule ≡ rule_of base g line.basis.rule) × IsRule g line.basis.rule
  found_rule rule e =
      let is = found (is_node line.basis.rule) (rules_of base g) rule e in
      let same : rule.node ≡ line.basis.rule = (term_eq_decides rule.node line.basis.rule).0 is.passes in (
        own_rule base g rule is.among ∙ ap (rule_of base g) same,
        subst (IsRule g) same ((rule_nodes base g rule.node).0 (image_contains (λ (r : Rule). r.node) (rules_of base g) rule is.among)),
      )

  pub grants_node : (o : Option Rule) → find (is_node line.basis.rule) (rules_of base g) ≡ o → grants_if member how at agent line o ≡ true → Node
  grants_node None e h = absurd (false≢true h)
  grants_node (Some rule) e h =
      let is = found_rule rule e in
      rule_checks member base g how at agent line.mode line.basis.rule line.basis.who is.1
      (subst (λ (r : Rule). rule_grants member how at agent line.mode (rule_as line.basis.who r) ≡ true) is.0 h)

  pub node_grants : IsUriOf base (uri_of base at) at → Node → grants_if member how at agent line (find (is_node line.basis.rule) (rules_of base g)) ≡ true
  node_grants own h =
      let image = contains_image (λ (r : Rule). r.node) (rules_of base g) line.basis.rule ((rule_nodes base g line.basis.rule).1 h.node_grants.rule) in
      let some = some_found (find (is_node line.basis.rule) (rules_of base g)) (finds (is_node line.basis.rule) (rules_of base g) image.at image.member ((term_eq_decides image.at.node line.basis.rule).1 image.is)) in
      let is = found_rule some.0 some.1 in
      subst (λ (o : Option Rule). grants_if member how at agent line o ≡ true) (sym some.1)
      (subst (λ (r : Rule). rule_grants member how at agent line.mode (rule_as line.basis.who r) ≡ true) (sym is.0)
      (checks_rule member base g how at agent line.mode line.basis.rule line.basis.who own h))

-- ---- lines

module _ (pod : Pod) (agent : Agent) (line : Line) (at : List ℕ) (how : How) (w : WellFormed pod) (governs : effective_of pod.rows line.path ≡ Some (governed at how)) where
  abbrev graph : List Triple
  graph = list_graph pod at

  abbrev InList : Type 0
  InList = NodeChecks (membership pod) pod.base (list_graph pod at) how at agent line.mode line.basis.rule line.basis.who

  pub checks_by : line.basis.acl ≡ list_path at → InList → ChecksBy pod agent line (governed at how)
  checks_by acl h = record {
    acl = acl;
    rule = h.node_grants.rule;
    place = h.node_grants.place;
    grants = h.node_grants.grants;
    covers = h.as_who;
  }

  pub by_checks : ChecksBy pod agent line (governed at how) → InList
  by_checks h = record {
    node_grants = record {
      rule = h.rule;
      place = h.place;
      grants = h.grants;
      covers = as_covers (membership pod) pod.base (list_graph pod at) line.basis.rule agent line.basis.who h.covers;
    };
    as_who = h.covers;
  }

  pub checks_in : ChecksBy pod agent line (governed at how) → ChecksIn pod agent line (effective_of pod.rows line.path)
  checks_in h = subst (λ (o : Option Governs). ChecksIn pod agent line o) (sym governs) h

  pub in_checks : ChecksIn pod agent line (effective_of pod.rows line.path) → ChecksBy pod agent line (governed at how)
  in_checks h = subst (λ (o : Option Governs). ChecksIn pod agent line o) governs h

  -- the list is that of the basis
  pub list_checks : (rules : List Rule) (granted : Bool) → rules ≡ rules_at pod at → line.basis.acl ≡ list_path at
      → granted ≡ grants_if (membership pod) how at agent line (find (is_node line.basis.rule) rules)
      → IsTrue granted ↔ ChecksIn pod agent line (effective_of pod.rows line.path)
  list_checks rules granted are acl e =
      let by_graph : rules ≡ rules_of pod.base (list_graph pod at) = are ∙ rules_of_graph pod at in
      let is : granted ≡ grants_if (membership pod) how at agent line (find (is_node line.basis.rule) (rules_of pod.base (list_graph pod at))) =
      e ∙ ap (λ (rs : List Rule). grants_if (membership pod) how at agent line (find (is_node line.basis.rule) rs)) by_graph in (
        λ t. checks_in (checks_by acl (grants_node (membership pod) pod.base (list_graph pod at) how at agent line _ refl (sym is ∙ t))),
        λ h. is ∙ node_grants (membership pod) pod.base (list_graph pod at) how at agent line (uri_governs pod line.path (governed at how) w governs) (by_checks (in_checks h)),
      )

  -- or isn't
  pub other_list : (line.basis.acl ≡ list_path at → ⊥) → IsTrue false ↔ ChecksIn pod agent line (effective_of pod.rows line.path)
  other_list other = (λ t. absurd (false≢true t), λ h. absurd (other (in_checks h).acl))

-- what checks is granted
granted_in : (pod : Pod) (agent : Agent) (line : Line) (o : Option Governs) → ChecksIn pod agent line o → GrantsBy pod agent line.mode o
granted_in pod agent line None h = absurd h
granted_in pod agent line (Some list) h = (
  line.basis.rule,
  record {
    rule = h.rule;
    place = h.place;
    grants = h.grants;
    covers = as_covers (membership pod) pod.base (list_graph pod list.at) line.basis.rule agent line.basis.who h.covers;
  },
)

pub checked_granted : (pod : Pod) (agent : Agent) (line : Line) → Checks pod agent line → PodGrants pod agent line.path line.mode
checked_granted pod agent line h = granted_in pod agent line (effective_of pod.rows line.path) h.basis

-- the kind of a subject
pub own_kind : (s : Subject) → is_named (who_of s) s ≡ true
own_kind (AgentSubject iri) = refl
own_kind Everyone = refl
own_kind Authenticated = refl
own_kind (Group doc iri) = equal_bytes iri

-- ---- steps of the code

or_false : (b : Bool) → (b || false) ≡ b
or_false true = refl
or_false false = refl

-- one rule alone grants where it does
pub alone_grants : (member : Membership) (how : How) (at : List ℕ) (agent : Agent) (mode : Mode) (rule : Rule) → is_some (first_ground member (rule ∷ []) how at agent mode) ≡ rule_grants member how at agent mode rule
alone_grants member how at agent mode rule = some_grants member (rule ∷ []) how at agent mode ∙ or_false (rule_grants member how at agent mode rule)

-- whether the list of a basis is the one that governs
pub is_list : (acl at : List ℕ) (b : Bool) → b ≡ is_path_if acl (acl_of at) → acl_of at ≡ Some (list_path at) → b ≡ true → acl ≡ list_path at
is_list acl at b e is t = sym (same_bytes (list_path at) acl (sym (ap (is_path_if acl) is) ∙ sym e ∙ t))

pub no_list : (acl at : List ℕ) (b : Bool) → b ≡ is_path_if acl (acl_of at) → acl_of at ≡ Some (list_path at) → b ≡ false → acl ≡ list_path at → ⊥
no_list acl at b e is f same =
    let equal : bytes_eq (list_path at) acl ≡ true = (bytes_eq-Decides (list_path at) acl).1 (sym same) in
    absurd (false≢true (sym f ∙ e ∙ ap (is_path_if acl) is ∙ equal))

-- a line that isn't reported doesn't check
pub not_reported : (pod : Pod) (agent : Agent) (line : Line) → (IsReported pod line.path → ⊥) → IsTrue false ↔ Checks pod agent line
not_reported pod agent line other = (λ t. absurd (false≢true t), λ h. absurd (other h.reported))

-- one that is does where it does by its list
pub reported_checks : (pod : Pod) (agent : Agent) (line : Line) → IsReported pod line.path → (b : Bool) → IsTrue b ↔ ChecksIn pod agent line (effective_of pod.rows line.path) → IsTrue b ↔ Checks pod agent line
reported_checks pod agent line is b h = (λ t. record { reported = is; basis = h.0 t }, λ c. h.1 c.basis)

pub checked_by : (pod : Pod) (agent : Agent) (line : Line) (b : Bool) → IsTrue b ↔ ChecksIn pod agent line (effective_of pod.rows line.path) → IsTrue b → PodGrants pod agent line.path line.mode
checked_by pod agent line b h t = granted_in pod agent line (effective_of pod.rows line.path) (h.0 t)
