-- internal: the subjects of a rule that are of one kind
use Rattle.std.specs.Prelude.{ℕ, Bool, true, false, List, Option, Some, None, bytes_eq, filter}
use Rattle.acl_rules.specs.declared.rule.How.{How}
use Rattle.acl_rules.specs.declared.rule.Rule.{Rule}
use Rattle.acl_rules.specs.declared.rule.Subject.{Subject}
use Rattle.acl_rules.specs.declared.rule.Subject.TheVariants as subjects
use Rattle.pod_base.specs.declared.agent.Agent.{Agent}
use Rattle.pod_command.specs.declared.basis.Who.{Who}
use Rattle.pod_command.specs.declared.basis.Who.TheVariants as whos
use Rattle.rdf_graph.specs.Term.{term_eq}
use Rattle.rdf_graph.specs.declared.term.Term.{Term}
use Rattle.pod_access.specs.Decision.{rule_grants}
use Rattle.pod_access.specs.Grants.{Membership}
use Rattle.access_report.specs.declared.line.Line.{Line}

-- Is the subject of this kind? Of groups, is it this one?
abbrev pub is_named : Who → Subject → Bool
is_named whos.Agent (subjects.Agent iri) = true
is_named whos.Everyone subjects.Everyone = true
is_named whos.Authenticated subjects.Authenticated = true
is_named (whos.Group group) (subjects.Group doc iri) = bytes_eq iri group
is_named _ _ = false

-- Is the rule that of the node?
abbrev pub is_node : Term → Rule → Bool
is_node node rule = term_eq rule.node node

-- the rule with those of its subjects
abbrev pub rule_as : Who → Rule → Rule
rule_as who rule = record rule { subjects = filter (is_named who) rule.subjects }

-- Does the rule, if there is one, grant the line's mode by subjects of the line's kind?
abbrev pub grants_if : Membership → How → List ℕ → Agent → Line → Option Rule → Bool
grants_if member how at agent line None = false
grants_if member how at agent line (Some rule) =
    rule_grants member how at agent line.mode (rule_as line.basis.who rule)

-- Is there a path, and is it this one?
abbrev pub is_path_if : List ℕ → Option (List ℕ) → Bool
is_path_if path None = false
is_path_if path (Some other) = bytes_eq other path
