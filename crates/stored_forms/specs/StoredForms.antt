-- The stored forms of entries and snapshots, as lists of bytes.
use Rattle.std.specs.Prelude.{ℕ, List, [], ◌∷◌, ◌++◌, length}
use Rattle.std.specs.List.{flat_map}
use Rattle.std.specs.Int.{to_be_bytes, w64}
use Rattle.pod_base.specs.declared.agent.Agent.{Agent}
use Rattle.pod_base.specs.declared.agent.Agent.TheVariants as agents
use Rattle.pod_base.specs.declared.method.Method.{Method}
use Rattle.pod_base.specs.declared.method.Method.TheVariants as methods
use Rattle.rdf_graph.specs.declared.term.Term.{Term}
use Rattle.rdf_graph.specs.declared.term.Term.TheVariants as terms
use Rattle.rdf_graph.specs.declared.triple.Triple.{Triple}
use Rattle.pod_command.specs.declared.basis.Basis.{Basis}
use Rattle.pod_command.specs.declared.basis.Who.{Who}
use Rattle.pod_command.specs.declared.basis.Who.TheVariants as whos
use Rattle.pod_command.specs.declared.edit.Edit.{Edit}
use Rattle.pod_command.specs.declared.edit.Edit.TheVariants as edits
use Rattle.pod_command.specs.declared.entry.Entry.{Entry}
use Rattle.pod_command.specs.declared.row.Content.{Content}
use Rattle.pod_command.specs.declared.row.Content.TheVariants as contents
use Rattle.pod_command.specs.declared.row.Kind.{Kind}
use Rattle.pod_command.specs.declared.row.Kind.TheVariants as kinds
use Rattle.pod_command.specs.declared.row.Row.{Row}
use Rattle.pod_command.specs.declared.snapshot.Snapshot.{Snapshot}

-- a number: eight bytes, the greatest first
unfoldable pub number_bytes : ℕ → List ℕ
number_bytes n = to_be_bytes w64 n

-- a text, or bytes: how many, and then they
unfoldable pub text_bytes : List ℕ → List ℕ
text_bytes text = number_bytes (length text) ++ text

-- a list: how many items, and then their forms
unfoldable pub list_bytes : {X : Type 0} → (X → List ℕ) → List X → List ℕ
list_bytes form items = number_bytes (length items) ++ flat_map form items

unfoldable pub term_bytes : Term → List ℕ
term_bytes (terms.Iri iri) = 0 ∷ text_bytes iri
term_bytes (terms.Blank label) = 1 ∷ text_bytes label
term_bytes (terms.Literal lexical datatype) = 2 ∷ (text_bytes lexical ++ text_bytes datatype)
term_bytes (terms.Tagged lexical lang) = 3 ∷ (text_bytes lexical ++ text_bytes lang)

unfoldable pub triple_bytes : Triple → List ℕ
triple_bytes t = term_bytes t.s ++ (term_bytes t.p ++ term_bytes t.o)

-- a graph: its triples, in their order
unfoldable pub graph_bytes : List Triple → List ℕ
graph_bytes triples = list_bytes triple_bytes triples

abbrev pub kind_byte : Kind → ℕ
kind_byte kinds.Container = 0
kind_byte kinds.Graph = 1
kind_byte kinds.Acl = 2
kind_byte kinds.Bytes = 3
kind_byte kinds.Meta = 4

unfoldable pub content_bytes : Content → List ℕ
content_bytes (contents.Graph triples) = graph_bytes triples
content_bytes (contents.Bytes ctype bytes) = text_bytes ctype ++ text_bytes bytes

unfoldable pub row_bytes : Row → List ℕ
row_bytes r =
    text_bytes r.path ++ (kind_byte r.kind ∷ (number_bytes r.modified.0 ++ content_bytes r.content))

unfoldable pub edit_bytes : Edit → List ℕ
edit_bytes (edits.Put row) = 0 ∷ row_bytes row
edit_bytes (edits.Change path change modified) =
    1 ∷ (text_bytes path
    ++ (number_bytes modified.0 ++ (graph_bytes change.removed ++ graph_bytes change.added)))
edit_bytes (edits.Touch path modified) = 2 ∷ (text_bytes path ++ number_bytes modified.0)
edit_bytes (edits.Remove path) = 3 ∷ text_bytes path

unfoldable pub agent_bytes : Agent → List ℕ
agent_bytes agents.Public = 0 ∷ []
agent_bytes (agents.Known iri) = 1 ∷ text_bytes iri

unfoldable pub who_bytes : Who → List ℕ
who_bytes whos.Agent = 0 ∷ []
who_bytes whos.Everyone = 1 ∷ []
who_bytes whos.Authenticated = 2 ∷ []
who_bytes (whos.Group iri) = 3 ∷ text_bytes iri

unfoldable pub basis_bytes : Basis → List ℕ
basis_bytes b = text_bytes b.acl ++ (term_bytes b.rule ++ who_bytes b.who)

-- the methods that change a pod; no entry that can be stored has another
abbrev pub method_byte : Method → ℕ
method_byte methods.Post = 0
method_byte methods.Put = 1
method_byte methods.Patch = 2
method_byte methods.Delete = 3
method_byte methods.Get = 4
method_byte methods.Head = 4
method_byte methods.Options = 4
method_byte methods.Other = 4

-- who made the change: its number, the connection, the request's number in it, and the agent
unfoldable pub origin_bytes : Entry → List ℕ
origin_bytes e =
    number_bytes e.seq ++ (number_bytes e.conn ++ (number_bytes e.number ++ agent_bytes e.agent))

-- what was requested: the moment, the method and the path
unfoldable pub request_bytes : Entry → List ℕ
request_bytes e = number_bytes e.moment.0 ++ (method_byte e.method ∷ text_bytes e.path)

-- an entry in format 1, which has no bases
unfoldable pub entry_1_bytes : Entry → List ℕ
entry_1_bytes e = 1 ∷ (origin_bytes e ++ (request_bytes e ++ list_bytes edit_bytes e.edits.items))

-- an entry in format 2
unfoldable pub entry_bytes : Entry → List ℕ
entry_bytes e =
    2 ∷ (origin_bytes e ++ (request_bytes e
    ++ (list_bytes edit_bytes e.edits.items ++ list_bytes basis_bytes e.bases.items)))

-- a snapshot, in both formats
unfoldable pub snapshot_bytes : Snapshot → List ℕ
snapshot_bytes s =
    0 ∷ (number_bytes s.seq
    ++ (text_bytes s.base ++ (text_bytes s.owner ++ list_bytes row_bytes s.rows.items)))
