-- What the values of the types are. Clauses see numbers, texts and lists of any kind; those of a
-- value are bounded, UTF-8, absolute, normal and so on.
use Rattle.std.specs.Prelude.{ℕ, List, length, ◌<◌, ◌^◌}
use Rattle.std.specs.List.{AllByRecursion}
use Rattle.std.specs.Str.{IsUtf8}
use Rattle.iri_ref.specs.Components.{IsAbsolute}
use Rattle.pod_path.specs.Norm.{IsPath}
use Rattle.pod_base.specs.declared.agent.Agent.{Agent}
use Rattle.pod_base.specs.declared.agent.Agent.TheVariants as agents
use Rattle.rdf_graph.specs.Graph.{IsGraph}
use Rattle.rdf_graph.specs.declared.term.Term.{Term}
use Rattle.rdf_graph.specs.declared.term.Term.TheVariants as terms
use Rattle.rdf_graph.specs.declared.triple.Triple.{Triple}
use Rattle.pod_command.specs.Encodable.{IsChanging, HasFittingContent, AreInOrder}
use Rattle.pod_command.specs.declared.basis.Basis.{Basis}
use Rattle.pod_command.specs.declared.basis.Who.{Who}
use Rattle.pod_command.specs.declared.basis.Who.TheVariants as whos
use Rattle.pod_command.specs.declared.edit.Edit.{Edit}
use Rattle.pod_command.specs.declared.edit.Edit.TheVariants as edits
use Rattle.pod_command.specs.declared.entry.Entry.{Entry}
use Rattle.pod_command.specs.declared.row.Content.{Content}
use Rattle.pod_command.specs.declared.row.Content.TheVariants as contents
use Rattle.pod_command.specs.declared.row.Row.{Row}
use Rattle.pod_command.specs.declared.snapshot.Snapshot.{Snapshot}

-- it is one of 64 bits
abbrev pub IsNumber : ℕ → Type 0
IsNumber n = n < 2 ^ 64

-- so many that their number is one of 64 bits
abbrev pub IsCounted : {X : Type 0} → List X → Type 0
IsCounted items = IsNumber (length items)

abbrev pub IsText : List ℕ → Type 0
IsText text = IsCounted text × IsUtf8 text

abbrev pub IsIriText : List ℕ → Type 0
IsIriText text = IsText text × IsAbsolute text

abbrev pub IsPathText : List ℕ → Type 0
IsPathText text = IsText text × IsPath text

abbrev pub IsListOf : {X : Type 0} → (X → Type 0) → List X → Type 0
IsListOf IsItem items = IsCounted items × AllByRecursion IsItem items

abbrev pub IsStorableTerm : Term → Type 0
IsStorableTerm (terms.Iri iri) = IsIriText iri
IsStorableTerm (terms.Blank label) = IsText label
IsStorableTerm (terms.Literal lexical datatype) = IsText lexical × IsIriText datatype
IsStorableTerm (terms.Tagged lexical lang) = IsText lexical × IsText lang

abbrev pub IsStorableTriple : Triple → Type 0
IsStorableTriple t = IsStorableTerm t.s × (IsStorableTerm t.p × IsStorableTerm t.o)

abbrev pub IsStorableGraph : List Triple → Type 0
IsStorableGraph triples = IsListOf IsStorableTriple triples × IsGraph triples

abbrev pub IsStorableContent : Content → Type 0
IsStorableContent (contents.Graph triples) = IsStorableGraph triples
IsStorableContent (contents.Bytes ctype bytes) = IsText ctype × IsCounted bytes

pub record IsStorableRow (r : Row) : Type 0 where
  pub path : IsPathText r.path
  pub modified : IsNumber r.modified.0
  pub content : IsStorableContent r.content
  pub fits : HasFittingContent r

abbrev pub IsStorableEdit : Edit → Type 0
IsStorableEdit (edits.Put row) = IsStorableRow row
IsStorableEdit (edits.Change path change modified) =
    IsPathText path
    × (IsNumber modified.0 × (IsStorableGraph change.removed × IsStorableGraph change.added))
IsStorableEdit (edits.Touch path modified) = IsPathText path × IsNumber modified.0
IsStorableEdit (edits.Remove path) = IsPathText path

abbrev pub IsStorableAgent : Agent → Type 0
IsStorableAgent agents.Public = Unit {0}
IsStorableAgent (agents.Known iri) = IsText iri

abbrev pub IsStorableWho : Who → Type 0
IsStorableWho whos.Agent = Unit {0}
IsStorableWho whos.Everyone = Unit {0}
IsStorableWho whos.Authenticated = Unit {0}
IsStorableWho (whos.Group iri) = IsText iri

pub record IsStorableBasis (b : Basis) : Type 0 where
  pub acl : IsPathText b.acl
  pub rule : IsStorableTerm b.rule
  pub who : IsStorableWho b.who

-- an entry that can be stored
pub record IsStorable (e : Entry) : Type 0 where
  pub seq : IsNumber e.seq
  pub conn : IsNumber e.conn
  pub number : IsNumber e.number
  pub agent : IsStorableAgent e.agent
  pub moment : IsNumber e.moment.0
  pub method : IsChanging e.method
  pub path : IsPathText e.path
  pub edits : IsListOf IsStorableEdit e.edits.items
  pub bases : IsListOf IsStorableBasis e.bases.items

-- a snapshot that can be stored
pub record IsStorableSnapshot (s : Snapshot) : Type 0 where
  pub seq : IsNumber s.seq
  pub base : IsIriText s.base
  pub owner : IsText s.owner
  pub rows : IsListOf IsStorableRow s.rows.items
  pub order : AreInOrder s.rows.items
