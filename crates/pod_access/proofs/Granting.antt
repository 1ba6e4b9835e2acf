-- The rule of a node grants exactly where the node does.
use Rattle.std.proofs.Common.{◌≡◌, ◌⊎◌, ℕ, Bool, true, false, ◌&&◌, List, Option, Some, None, refl, sym, ap, subst, ◌∙◌, inl, inr, ⊎_elim, map}
use Rattle.std.specs.Prelude.{◌↔◌, IsTrue, bytes_eq, is_some}
use Rattle.std.specs.List.{Contains, list_any}
use Rattle.std.proofs.lemmas.Bool.{false≢true}
use Rattle.std.proofs.lemmas.Slice.Eq.{bytes_eq-Decides}
use Rattle.pod_base.specs.declared.agent.Agent.{Agent}
use Rattle.pod_base.specs.declared.agent.Agent.TheVariants.{Public, Known}
use Rattle.pod_base.specs.declared.agent.Mode.{Mode}
use Rattle.pod_path.specs.Hierarchy.{uri_of, IsUriOf}
use Rattle.rdf_graph.specs.declared.term.Term.{Term}
use Rattle.rdf_graph.specs.declared.triple.Triple.{Triple}
use Rattle.acl_rules.specs.declared.rule.How.{How}
use Rattle.acl_rules.specs.declared.rule.How.TheVariants.{Own, Inherited}
use Rattle.acl_rules.specs.declared.rule.Rule.{Rule}
use Rattle.acl_rules.specs.declared.rule.Subject.{Subject}
use Rattle.acl_rules.specs.declared.rule.Subject.TheVariants.{Agent as AgentSubject, Everyone, Authenticated, Group}
use Rattle.acl_rules.specs.Documents.{document_of, resource_of}
use Rattle.acl_rules.specs.Rules.{rule_of, rules_of}
use Rattle.acl_rules.specs.Statements.{States, IsRule, mode_iri}
use Rattle.acl_rules.specs.Vocabulary.{acl_access_to, acl_default, acl_mode, acl_agent, acl_agent_class, acl_agent_group, acl_authenticated_agent, foaf_agent}
use Rattle.acl_rules.proofs.IriPaths.{document_uri, uri_document, resource_is, uri_is}
use Rattle.acl_rules.proofs.NodeRules.{rule_nodes, own_rule, image_contains, contains_image}
use Rattle.acl_rules.proofs.NodeValues.{access_to_members, default_members, mode_members, agent_members, everyone_members, authenticated_members, group_members}
use Rattle.pod_access.specs.Decision.{covers, places, is_about, has_mode, has_subject, rule_grants, first_ground}
use Rattle.pod_access.specs.Grants.{Membership, place_property, GrantsMode, Covers, CoversMember, NodeGrants, Grants}
use Rattle.pod_access.specs.Modes.{includes}
use Rattle.pod_access.proofs.Grounds.{some_grants}
use Rattle.pod_access.proofs.Positions.{any_passes, passes_any}

same_bytes : (xs ys : List ℕ) → bytes_eq xs ys ≡ true → xs ≡ ys
same_bytes xs ys e = (bytes_eq-Decides xs ys).0 e

equal_bytes : (xs : List ℕ) → bytes_eq xs xs ≡ true
equal_bytes xs = (bytes_eq-Decides xs xs).1 refl

-- ---- places

place_members : (base : List ℕ) (g : List Triple) (node : Term) (how : How) (path : List ℕ)
    → Contains (places how (rule_of base g node)) path ↔ ((iri : List ℕ) × States g node (place_property how) iri × (resource_of base iri ≡ Some path))
place_members base g node Own path = access_to_members base g node path
place_members base g node Inherited path = default_members base g node path

about_node : (base : List ℕ) (g : List Triple) (node : Term) (how : How) (at : List ℕ)
    → is_about how at (rule_of base g node) ≡ true → States g node (place_property how) (uri_of base at)
about_node base g node how at h =
    let place = any_passes (λ p. bytes_eq p at) (places how (rule_of base g node)) h in
    let stated = (place_members base g node how place.at).0 place.member in
    let same : place.at ≡ at = same_bytes place.at at place.passes in
    subst (States g node (place_property how)) (resource_is base stated.0 place.at stated.2 ∙ ap (uri_of base) same) stated.1

node_about : (base : List ℕ) (g : List Triple) (node : Term) (how : How) (at : List ℕ) → IsUriOf base (uri_of base at) at
    → States g node (place_property how) (uri_of base at) → is_about how at (rule_of base g node) ≡ true
node_about base g node how at own h =
    passes_any (λ p. bytes_eq p at) (places how (rule_of base g node)) at
    ((place_members base g node how at).1 (uri_of base at, h, uri_is base at own)) (equal_bytes at)

-- ---- modes

mode_node : (base : List ℕ) (g : List Triple) (node : Term) (wanted : Mode) → has_mode (rule_of base g node) wanted ≡ true → GrantsMode g node wanted
mode_node base g node wanted h =
    let mode = any_passes (λ m. includes m wanted) (rule_of base g node).modes h in
    (mode.at, (mode_members base g node mode.at).0 mode.member, mode.passes)

node_mode : (base : List ℕ) (g : List Triple) (node : Term) (wanted : Mode) → GrantsMode g node wanted → has_mode (rule_of base g node) wanted ≡ true
node_mode base g node wanted h =
    passes_any (λ m. includes m wanted) (rule_of base g node).modes h.0 ((mode_members base g node h.0).1 h.1) h.2

-- ---- subjects

module _ (member : Membership) (base : List ℕ) (g : List Triple) (node : Term) where
  covers_node : (agent : Agent) (s : Subject) → Contains (rule_of base g node).subjects s → covers member agent s ≡ true → Covers member base g node agent
  covers_node Public (AgentSubject iri) h e = absurd (false≢true e)
  covers_node Public Everyone h e = (everyone_members base g node).0 h
  covers_node Public Authenticated h e = absurd (false≢true e)
  covers_node Public (Group doc group) h e = absurd (false≢true e)
  covers_node (Known agent) (AgentSubject iri) h e =
      inr (inr (inl (subst (States g node acl_agent) (same_bytes iri agent e) ((agent_members base g node iri).0 h))))
  covers_node (Known agent) Everyone h e = inl ((everyone_members base g node).0 h)
  covers_node (Known agent) Authenticated h e = inr (inl ((authenticated_members base g node).0 h))
  covers_node (Known agent) (Group (Some doc) group) h e =
      let stated = (group_members base g node (Some doc) group).0 h in
      inr (inr (inr (group, doc, stated.0, document_uri base group doc (sym stated.1), e)))
  covers_node (Known agent) (Group None group) h e = absurd (false≢true e)

  subject_node : (agent : Agent) → has_subject member agent (rule_of base g node) ≡ true → Covers member base g node agent
  subject_node agent h =
      let subject = any_passes (covers member agent) (rule_of base g node).subjects h in
      covers_node agent subject.at subject.member subject.passes

  has : (agent : Agent) (s : Subject) → Contains (rule_of base g node).subjects s → covers member agent s ≡ true → has_subject member agent (rule_of base g node) ≡ true
  has agent s h e = passes_any (covers member agent) (rule_of base g node).subjects s h e

  node_subject : (agent : Agent) → Covers member base g node agent → has_subject member agent (rule_of base g node) ≡ true
  node_subject Public h = has Public Everyone ((everyone_members base g node).1 h) refl
  node_subject (Known agent) h =
      ⊎_elim
      (λ all. has (Known agent) Everyone ((everyone_members base g node).1 all) refl)
      (λ rest. ⊎_elim
      (λ known. has (Known agent) Authenticated ((authenticated_members base g node).1 known) refl)
      (λ last. ⊎_elim
      (λ own. has (Known agent) (AgentSubject agent) ((agent_members base g node agent).1 own) (equal_bytes agent))
      (λ some. has (Known agent) (Group (Some some.1) some.0)
      ((group_members base g node (Some some.1) some.0).1 (some.2, sym (uri_document base some.0 some.1 some.3))) some.4)
      last)
      rest)
      h

-- ---- rules

three_true : (a b c : Bool) → (a && (b && c)) ≡ true → (a ≡ true) × (b ≡ true) × (c ≡ true)
three_true true true c h = (refl, refl, h)
three_true true false c h = absurd (false≢true h)
three_true false b c h = absurd (false≢true h)

all_three : (a b c : Bool) → a ≡ true → b ≡ true → c ≡ true → (a && (b && c)) ≡ true
all_three a b c ea eb ec = ap (λ x. x && (b && c)) ea ∙ ap (λ x. x && c) eb ∙ ec

pub rule_node : (member : Membership) (base : List ℕ) (g : List Triple) (how : How) (at : List ℕ) (agent : Agent) (mode : Mode) (node : Term)
    → IsRule g node → rule_grants member how at agent mode (rule_of base g node) ≡ true → NodeGrants member base g how at agent mode node
rule_node member base g how at agent mode node rule h =
    let all = three_true (is_about how at (rule_of base g node)) (has_mode (rule_of base g node) mode) (has_subject member agent (rule_of base g node)) h in
    record {
      rule = rule;
      place = about_node base g node how at all.0;
      grants = mode_node base g node mode all.1;
      covers = subject_node member base g node agent all.2;
    }

pub node_rule : (member : Membership) (base : List ℕ) (g : List Triple) (how : How) (at : List ℕ) (agent : Agent) (mode : Mode) (node : Term)
    → IsUriOf base (uri_of base at) at → NodeGrants member base g how at agent mode node → rule_grants member how at agent mode (rule_of base g node) ≡ true
node_rule member base g how at agent mode node own h =
    all_three (is_about how at (rule_of base g node)) (has_mode (rule_of base g node) mode) (has_subject member agent (rule_of base g node))
    (node_about base g node how at own h.place) (node_mode base g node mode h.grants) (node_subject member base g node agent h.covers)

-- ---- lists

pub some_is_granted : (member : Membership) (base : List ℕ) (g : List Triple) (how : How) (at : List ℕ) (agent : Agent) (mode : Mode)
    → IsUriOf base (uri_of base at) at
    → IsTrue (is_some (first_ground member (rules_of base g) how at agent mode)) ↔ Grants member base g how at agent mode
some_is_granted member base g how at agent mode own = (
  λ h. let rule = any_passes (rule_grants member how at agent mode) (rules_of base g) (sym (some_grants member (rules_of base g) how at agent mode) ∙ h) in
      let node = rule.at.node in (
        node,
        rule_node member base g how at agent mode node
            ((rule_nodes base g node).0 (image_contains (λ (r : Rule). r.node) (rules_of base g) rule.at rule.member))
            (subst (λ r. rule_grants member how at agent mode r ≡ true) (own_rule base g rule.at rule.member) rule.passes),
      ),
  λ h. let image = contains_image (λ (r : Rule). r.node) (rules_of base g) h.0 ((rule_nodes base g h.0).1 h.1.rule) in
      let same : image.at ≡ rule_of base g h.0 = own_rule base g image.at image.member ∙ ap (rule_of base g) image.is in
      some_grants member (rules_of base g) how at agent mode
      ∙ passes_any (rule_grants member how at agent mode) (rules_of base g) image.at image.member
      (subst (λ r. rule_grants member how at agent mode r ≡ true) (sym same) (node_rule member base g how at agent mode h.0 own h.1)),
)
