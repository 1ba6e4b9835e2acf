-- The lines of the audit trail.
use Rattle.std.specs.Prelude.{ℕ, Bool, ◌&&◌, nat_le, if◌then◌else◌, List, [], ◌∷◌, ◌++◌, length}
use Rattle.std.specs.Prelude.{map, codes, decimal}
use Rattle.std.specs.List.{flat_map, join_with_byte}
use Rattle.percent_encoding.specs.Percent.{percent_encode_byte}
use Rattle.pod_base.specs.declared.agent.Agent.{Agent}
use Rattle.pod_base.specs.declared.agent.Agent.TheVariants as agents
use Rattle.pod_base.specs.declared.method.Method.{Method}
use Rattle.pod_base.specs.declared.method.Method.TheVariants as methods
use Rattle.pod_base.specs.declared.moment.Moment.{Moment}
use Rattle.pod_base.specs.declared.request.Request.{Request}
use Rattle.rdf_graph.specs.Term.{text}
use Rattle.pod_command.specs.declared.basis.Basis.{Basis}
use Rattle.pod_command.specs.declared.basis.Who.{Who}
use Rattle.pod_command.specs.declared.basis.Who.TheVariants as whos
use Rattle.pod_command.specs.declared.entry.Entry.{Entry}

-- words with one space between, and LF
abbrev pub line : List (List ℕ) → List ℕ
line words = join_with_byte 32 words ++ 10 ∷ []

-- the IRI of an agent; `-` for anybody
abbrev pub agent_word : Agent → List ℕ
agent_word agents.Public = codes "-"
agent_word (agents.Known iri) = iri

abbrev pub method_word : Method → List ℕ
method_word methods.Get = codes "GET"
method_word methods.Head = codes "HEAD"
method_word methods.Options = codes "OPTIONS"
method_word methods.Post = codes "POST"
method_word methods.Put = codes "PUT"
method_word methods.Patch = codes "PATCH"
method_word methods.Delete = codes "DELETE"
method_word methods.Other = codes "OTHER"

-- a visible character of ASCII
abbrev pub is_visible : ℕ → Bool
is_visible b = nat_le 33 b && nat_le b 126

-- a byte of a target: as it is where it is visible, and else `%` and two upper-case digits
abbrev pub target_byte : ℕ → List ℕ
target_byte b = if is_visible b then b ∷ [] else percent_encode_byte b

abbrev pub target_word : List ℕ → List ℕ
target_word target = flat_map target_byte target

-- what both lines begin with: a number, the moment, the agent and the method
abbrev pub first_words : ℕ → Moment → Agent → Method → List (List ℕ)
first_words number moment agent method =
    decimal number ∷ decimal moment.0 ∷ agent_word agent ∷ method_word method ∷ []

-- The line of an answered request: its place, moment, agent, method and target, and the status.
abbrev pub session_line : ℕ → Moment → Agent → Request → ℕ → List ℕ
session_line place moment agent request status =
    line (first_words place moment agent request.method
    ++ target_word request.target ∷ decimal status ∷ [])

-- whom the subject of a rule covers
abbrev pub who_word : Who → List ℕ
who_word whos.Agent = codes "agent"
who_word whos.Everyone = codes "everyone"
who_word whos.Authenticated = codes "authenticated"
who_word (whos.Group iri) = codes "group:" ++ iri

-- a basis: the path of the list, the node of the rule as a graph's text has it, and whom it covers
abbrev pub basis_text : Basis → List ℕ
basis_text b = b.acl ++ (codes "|" ++ (text b.rule ++ (codes "|" ++ who_word b.who)))

-- the words of the bases; `-` where there is none
abbrev pub bases_words : List Basis → List (List ℕ)
bases_words [] = codes "-" ∷ []
bases_words (b ∷ bases) = basis_text b ∷ map basis_text bases

-- The line of a change: its number, moment, agent, method and path, the connection, the request's
-- number in it, how many edits it has, and its bases.
abbrev pub entry_line : Entry → List ℕ
entry_line e =
    line (first_words e.seq e.moment e.agent e.method
    ++ e.path ∷ decimal e.conn ∷ decimal e.number ∷ decimal (length e.edits.items)
    ∷ bases_words e.bases.items)

-- internal: each word after a space
abbrev pub spaced : List (List ℕ) → List ℕ
spaced words = flat_map (λ word. 32 ∷ word) words

-- internal: what a line begins with, without the space after it
abbrev pub first_text : ℕ → Moment → Agent → Method → List ℕ
first_text number moment agent method =
    decimal number ++ spaced (decimal moment.0 ∷ agent_word agent ∷ method_word method ∷ [])
