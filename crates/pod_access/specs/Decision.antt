-- Which rule of a list decides, and which subject in it.
use Rattle.std.specs.Prelude.{◌≡◌, ℕ, Bool, true, false, IsTrue, ◌&&◌, bytes_eq, List, [], ◌∷◌, map}
use Rattle.std.specs.Prelude.{All, Option, Some, None, is_some, option_and_then, slice_get, take}
use Rattle.std.specs.List.{list_any, position}
use Rattle.std.specs.Option.{option_map}
use Rattle.pod_base.specs.declared.agent.Agent.{Agent}
use Rattle.pod_base.specs.declared.agent.Agent.TheVariants.{Public, Known}
use Rattle.pod_base.specs.declared.agent.Mode.{Mode}
use Rattle.pod_base.specs.declared.agent.Mode.TheVariants.{Read, Append, Write, Control}
use Rattle.pod_command.specs.declared.basis.Basis.{Basis}
use Rattle.pod_command.specs.declared.basis.Who.{Who}
use Rattle.pod_command.specs.declared.basis.Who.TheVariants.{Agent as WhoAgent}
use Rattle.pod_command.specs.declared.basis.Who.TheVariants.{Everyone as WhoEveryone}
use Rattle.pod_command.specs.declared.basis.Who.TheVariants.{Authenticated as WhoAuthenticated}
use Rattle.pod_command.specs.declared.basis.Who.TheVariants.{Group as WhoGroup}
use Rattle.acl_rules.specs.declared.rule.How.{How}
use Rattle.acl_rules.specs.declared.rule.How.TheVariants.{Own, Inherited}
use Rattle.acl_rules.specs.declared.rule.Rule.{Rule}
use Rattle.acl_rules.specs.declared.rule.Subject.{Subject}
use Rattle.acl_rules.specs.declared.rule.Subject.TheVariants.{Agent as AgentSubject}
use Rattle.acl_rules.specs.declared.rule.Subject.TheVariants.{Everyone, Authenticated, Group}
use Rattle.pod_access.specs.declared.granting_rules.Ground.{Ground}
use Rattle.pod_access.specs.Grants.{Membership}
use Rattle.pod_access.specs.Modes.{includes}

-- Does the subject cover the agent?
abbrev pub covers : Membership → Agent → Subject → Bool
covers member agent Everyone = true
covers member Public (AgentSubject iri) = false
covers member Public Authenticated = false
covers member Public (Group doc group) = false
covers member (Known agent) (AgentSubject iri) = bytes_eq iri agent
covers member (Known agent) Authenticated = true
covers member (Known agent) (Group (Some doc) group) = member doc group agent
covers member (Known agent) (Group None group) = false

-- The places that a rule names for a list of that kind.
abbrev pub places : How → Rule → List (List ℕ)
places Own rule = rule.access_to
places Inherited rule = rule.defaults

-- Is the rule about the path?
abbrev pub is_about : How → List ℕ → Rule → Bool
is_about how at rule = list_any (λ place. bytes_eq place at) (places how rule)

-- Does a mode of the rule include this one?
abbrev pub has_mode : Rule → Mode → Bool
has_mode rule mode = list_any (λ granted. includes granted mode) rule.modes

-- Does a subject of the rule cover the agent?
abbrev pub has_subject : Membership → Agent → Rule → Bool
has_subject member agent rule = list_any (covers member agent) rule.subjects

-- Does the rule grant the agent the mode at the path?
abbrev pub rule_grants : Membership → How → List ℕ → Agent → Mode → Rule → Bool
rule_grants member how at agent mode rule =
    is_about how at rule && (has_mode rule mode && has_subject member agent rule)

-- The subjects of the rule at a position.
abbrev pub subjects_of : Option Rule → List Subject
subjects_of None = []
subjects_of (Some rule) = rule.subjects

abbrev pub subjects_at : List Rule → ℕ → List Subject
subjects_at rules i = subjects_of (slice_get rules i)

-- In the rule at that position, the first subject that covers the agent.
abbrev pub ground_in : Membership → List Rule → Agent → ℕ → Option Ground
ground_in member rules agent i = option_map (λ j. record { rule = i; subject = j })
    (position (covers member agent) (subjects_at rules i))

-- The first rule that grants, and in it the first subject that covers the agent.
unfoldable pub first_ground : Membership → List Rule → How → List ℕ → Agent → Mode → Option Ground
first_ground member rules how at agent mode = option_and_then (ground_in member rules agent)
    (position (rule_grants member how at agent mode) rules)

-- The same, as a claim on the positions.
pub record IsFirstGround (member : Membership) (rules : List Rule) (how : How) (at : List ℕ)
    (agent : Agent) (mode : Mode) (ground : Ground) : Type 0 where
  pub rule : Rule
  pub is_rule : slice_get rules ground.rule ≡ Some rule
  pub grants : IsTrue (rule_grants member how at agent mode rule)
  pub first_rule : All (λ other. rule_grants member how at agent mode other ≡ false)
      (take ground.rule rules)
  pub subject : Subject
  pub is_subject : slice_get rule.subjects ground.subject ≡ Some subject
  pub covers_agent : IsTrue (covers member agent subject)
  pub first_subject : All (λ other. covers member agent other ≡ false)
      (take ground.subject rule.subjects)

-- The modes in the order of `WAC-Allow`.
abbrev pub allow_modes : List Mode
allow_modes = Read ∷ Write ∷ Append ∷ Control ∷ []

-- Which of them are granted.
abbrev pub granted_modes : Membership → List Rule → How → List ℕ → Agent → List Bool
granted_modes member rules how at agent =
    map (λ mode. is_some (first_ground member rules how at agent mode)) allow_modes

-- Whom a subject covers, as a basis has it.
abbrev pub who_of : Subject → Who
who_of (AgentSubject iri) = WhoAgent
who_of Everyone = WhoEveryone
who_of Authenticated = WhoAuthenticated
who_of (Group doc group) = WhoGroup group

-- The basis of a ground in the list at a path, if there are such a rule and such a subject.
abbrev pub basis_in : Rule → List ℕ → Option Subject → Option Basis
basis_in rule acl None = None
basis_in rule acl (Some subject) =
    Some (record { acl = acl; rule = rule.node; who = who_of subject })

abbrev pub basis_at : List Rule → Ground → List ℕ → Option Basis
basis_at rules ground acl = option_and_then
    (λ rule. basis_in rule acl (slice_get rule.subjects ground.subject))
    (slice_get rules ground.rule)
