-- The readers of stored forms.
use Rattle.std.specs.Prelude.{ℕ, Bool, true, false, not, ◌&&◌, List, [], ◌∷◌, Option}
use Rattle.std.specs.Prelude.{Result, Ok, Err}
use Rattle.std.specs.Prelude.{bytes_eq, ◌==◌, if◌then◌else◌}
use Rattle.std.specs.List.{list_all}
use Rattle.std.specs.Str.{is_utf8}
use Rattle.std.specs.declared.cmp.Ordering.{Ordering}
use Rattle.std.specs.declared.cmp.Ordering.TheVariants as orders
use Rattle.iri_ref.specs.Characters.{colon, is_allowed, is_letter, is_scheme_character}
use Rattle.pod_base.specs.Listed.{Listed, listed}
use Rattle.pod_base.specs.declared.agent.Agent.{Agent}
use Rattle.pod_base.specs.declared.agent.Agent.TheVariants as agents
use Rattle.pod_base.specs.declared.method.Method.{Method}
use Rattle.pod_base.specs.declared.method.Method.TheVariants as methods
use Rattle.pod_path.specs.Norm.{path_text_of}
use Rattle.pod_path.specs.declared.fault.PathFault.{PathFault}
use Rattle.rdf_graph.specs.Triple.{triple_cmp}
use Rattle.rdf_graph.specs.declared.term.Term.{Term}
use Rattle.rdf_graph.specs.declared.term.Term.TheVariants as terms
use Rattle.rdf_graph.specs.declared.triple.Triple.{Triple}
use Rattle.pod_command.specs.Encodable.{path_cmp}
use Rattle.stored_forms.specs.Readers.{Reader, both, both_by, mapped, checked, just, tagged}
use Rattle.stored_forms.specs.Readers.{after_tag, no_tag, whole, number_at, piece_at, list_at}
use Rattle.pod_command.specs.declared.basis.Basis.{Basis}
use Rattle.pod_command.specs.declared.basis.Who.{Who}
use Rattle.pod_command.specs.declared.basis.Who.TheVariants as whos
use Rattle.pod_command.specs.declared.edit.Edit.{Edit}
use Rattle.pod_command.specs.declared.edit.Edit.TheVariants as edits
use Rattle.pod_command.specs.declared.entry.Entry.{Entry}
use Rattle.pod_command.specs.declared.row.Content.{Content}
use Rattle.pod_command.specs.declared.row.Content.TheVariants as contents
use Rattle.pod_command.specs.declared.row.Kind.{Kind}
use Rattle.pod_command.specs.declared.row.Kind.TheVariants as kinds
use Rattle.pod_command.specs.declared.row.Row.{Row}
use Rattle.pod_command.specs.declared.snapshot.Snapshot.{Snapshot}

-- whether what is left of a scheme comes next, and a colon
abbrev pub is_rest_of_scheme : List ℕ → Bool
is_rest_of_scheme [] = false
is_rest_of_scheme (c ∷ cs) =
    if c == colon then true else (is_scheme_character c && is_rest_of_scheme cs)

-- whether a text begins with a scheme and a colon
abbrev pub begins_with_scheme : List ℕ → Bool
begins_with_scheme [] = false
begins_with_scheme (c ∷ cs) = is_letter c && is_rest_of_scheme cs

-- whether a text is an absolute IRI
unfoldable pub is_absolute : List ℕ → Bool
is_absolute text = begins_with_scheme text && list_all is_allowed text

abbrev pub is_same_path : Result (List ℕ) PathFault → List ℕ → Bool
is_same_path (Ok path) text = bytes_eq path text
is_same_path (Err fault) text = false

-- whether a text is a path
unfoldable pub is_path : List ℕ → Bool
is_path text = is_same_path (path_text_of text) text

abbrev pub is_less : Ordering → Bool
is_less orders.Less = true
is_less orders.Equal = false
is_less orders.Greater = false

-- whether nothing follows, or something that is greater
abbrev pub is_below_next : {X : Type 0} → (X → X → Ordering) → X → List X → Bool
is_below_next cmp x [] = true
is_below_next cmp x (y ∷ ys) = is_less (cmp x y)

-- whether each but the last is less than the next
abbrev pub is_rising : {X : Type 0} → (X → X → Ordering) → List X → Bool
is_rising cmp [] = true
is_rising cmp (x ∷ xs) = is_below_next cmp x xs && is_rising cmp xs

abbrev pub is_iri : Term → Bool
is_iri (terms.Iri iri) = true
is_iri (terms.Blank label) = false
is_iri (terms.Literal lexical datatype) = false
is_iri (terms.Tagged lexical lang) = false

abbrev pub is_literal : Term → Bool
is_literal (terms.Iri iri) = false
is_literal (terms.Blank label) = false
is_literal (terms.Literal lexical datatype) = true
is_literal (terms.Tagged lexical lang) = true

abbrev pub is_rdf : Triple → Bool
is_rdf t = is_iri t.p && not (is_literal t.s)

-- whether triples are those of a graph, in its order
unfoldable pub is_graph : List Triple → Bool
is_graph triples = is_rising triple_cmp triples && list_all is_rdf triples

unfoldable pub text_at : Reader (List ℕ)
text_at bytes = checked is_utf8 piece_at bytes

unfoldable pub iri_at : Reader (List ℕ)
iri_at bytes = checked is_absolute text_at bytes

unfoldable pub path_at : Reader (List ℕ)
path_at bytes = checked is_path text_at bytes

abbrev pub literal_of : List ℕ × List ℕ → Term
literal_of p = terms.Literal p.0 p.1

abbrev pub tagged_of : List ℕ × List ℕ → Term
tagged_of p = terms.Tagged p.0 p.1

unfoldable pub term_after : ℕ → Reader Term
term_after =
    after_tag 0 (mapped terms.Iri iri_at)
    (after_tag 1 (mapped terms.Blank text_at)
    (after_tag 2 (mapped literal_of (both text_at iri_at))
    (after_tag 3 (mapped tagged_of (both text_at text_at)) no_tag)))

unfoldable pub term_at : Reader Term
term_at bytes = tagged term_after bytes

abbrev pub triple_of : Term × (Term × Term) → Triple
triple_of p = record { s = p.0; p = p.1.0; o = p.1.1 }

unfoldable pub triple_at : Reader Triple
triple_at bytes = mapped triple_of (both term_at (both term_at term_at)) bytes

unfoldable pub graph_at : Reader (List Triple)
graph_at bytes = checked is_graph (list_at triple_at) bytes

unfoldable pub kind_after : ℕ → Reader Kind
kind_after =
    after_tag 0 (just kinds.Container)
    (after_tag 1 (just kinds.Graph)
    (after_tag 2 (just kinds.Acl)
    (after_tag 3 (just kinds.Bytes)
    (after_tag 4 (just kinds.Meta) no_tag))))

unfoldable pub kind_at : Reader Kind
kind_at bytes = tagged kind_after bytes

unfoldable pub graph_content_at : Reader Content
graph_content_at bytes = mapped contents.Graph graph_at bytes

abbrev pub bytes_of : List ℕ × List ℕ → Content
bytes_of p = contents.Bytes p.0 p.1

unfoldable pub bytes_content_at : Reader Content
bytes_content_at bytes = mapped bytes_of (both text_at piece_at) bytes

-- content of this kind
abbrev pub content_at : Kind → Reader Content
content_at kinds.Container = graph_content_at
content_at kinds.Graph = graph_content_at
content_at kinds.Acl = graph_content_at
content_at kinds.Bytes = bytes_content_at
content_at kinds.Meta = graph_content_at

abbrev pub row_of : List ℕ × (Kind × (ℕ × Content)) → Row
row_of p = record { path = p.0; kind = p.1.0; modified = record { 0 = p.1.1.0 }; content = p.1.1.1 }

unfoldable pub row_at : Reader Row
row_at bytes =
    mapped row_of (both path_at (both_by kind_at (λ kind. both number_at (content_at kind)))) bytes

abbrev pub change_of : List ℕ × (ℕ × (List Triple × List Triple)) → Edit
change_of p =
    edits.Change p.0 (record { removed = p.1.1.0; added = p.1.1.1 }) (record { 0 = p.1.0 })

abbrev pub touch_of : List ℕ × ℕ → Edit
touch_of p = edits.Touch p.0 (record { 0 = p.1 })

unfoldable pub edit_after : ℕ → Reader Edit
edit_after =
    after_tag 0 (mapped edits.Put row_at)
    (after_tag 1 (mapped change_of (both path_at (both number_at (both graph_at graph_at))))
    (after_tag 2 (mapped touch_of (both path_at number_at))
    (after_tag 3 (mapped edits.Remove path_at) no_tag)))

unfoldable pub edit_at : Reader Edit
edit_at bytes = tagged edit_after bytes

unfoldable pub agent_after : ℕ → Reader Agent
agent_after = after_tag 0 (just agents.Public) (after_tag 1 (mapped agents.Known text_at) no_tag)

unfoldable pub agent_at : Reader Agent
agent_at bytes = tagged agent_after bytes

unfoldable pub who_after : ℕ → Reader Who
who_after =
    after_tag 0 (just whos.Agent)
    (after_tag 1 (just whos.Everyone)
    (after_tag 2 (just whos.Authenticated)
    (after_tag 3 (mapped whos.Group text_at) no_tag)))

unfoldable pub who_at : Reader Who
who_at bytes = tagged who_after bytes

abbrev pub basis_of : List ℕ × (Term × Who) → Basis
basis_of p = record { acl = p.0; rule = p.1.0; who = p.1.1 }

unfoldable pub basis_at : Reader Basis
basis_at bytes = mapped basis_of (both path_at (both term_at who_at)) bytes

unfoldable pub method_after : ℕ → Reader Method
method_after =
    after_tag 0 (just methods.Post)
    (after_tag 1 (just methods.Put)
    (after_tag 2 (just methods.Patch)
    (after_tag 3 (just methods.Delete) no_tag)))

unfoldable pub method_at : Reader Method
method_at bytes = tagged method_after bytes

-- number, connection, number of the request, and agent
abbrev pub Origin : Type 0
Origin = ℕ × (ℕ × (ℕ × Agent))

unfoldable pub origin_at : Reader Origin
origin_at bytes = both number_at (both number_at (both number_at agent_at)) bytes

-- moment, method and path
abbrev pub Requested : Type 0
Requested = ℕ × (Method × List ℕ)

unfoldable pub request_at : Reader Requested
request_at bytes = both number_at (both method_at path_at) bytes

-- the entry of these parts
abbrev pub made_entry : Origin → Requested → Listed Edit → Listed Basis → Entry
made_entry origin request edits bases = record {
  seq = origin.0;
  conn = origin.1.0;
  number = origin.1.1.0;
  agent = origin.1.1.1;
  moment = record { 0 = request.0 };
  method = request.1.0;
  path = request.1.1;
  edits = edits;
  bases = bases;
}

-- with no spare room in its lists
abbrev pub entry_of_1 : Origin × (Requested × List Edit) → Entry
entry_of_1 p = made_entry p.0 p.1.0 (listed p.1.1 0) (listed [] 0)

abbrev pub entry_of_2 : Origin × (Requested × (List Edit × List Basis)) → Entry
entry_of_2 p = made_entry p.0 p.1.0 (listed p.1.1.0 0) (listed p.1.1.1 0)

unfoldable pub old_entry_at : Reader Entry
old_entry_at bytes = mapped entry_of_1 (both origin_at (both request_at (list_at edit_at))) bytes

unfoldable pub new_entry_at : Reader Entry
new_entry_at bytes =
    mapped entry_of_2
    (both origin_at (both request_at (both (list_at edit_at) (list_at basis_at)))) bytes

-- all of the bytes, in format 1 and in format 2
unfoldable pub entry_1_in : List ℕ → Option Entry
entry_1_in bytes = whole (tagged (after_tag 1 old_entry_at no_tag)) bytes

unfoldable pub entry_in : List ℕ → Option Entry
entry_in bytes = whole (tagged (after_tag 2 new_entry_at no_tag)) bytes

unfoldable pub rows_at : Reader (List Row)
rows_at bytes = checked (is_rising path_cmp) (list_at row_at) bytes

abbrev pub snapshot_of : ℕ × (List ℕ × (List ℕ × List Row)) → Snapshot
snapshot_of p = record { seq = p.0; base = p.1.0; owner = p.1.1.0; rows = listed p.1.1.1 0 }

unfoldable pub snapshot_at : Reader Snapshot
snapshot_at bytes = mapped snapshot_of (both number_at (both iri_at (both text_at rows_at))) bytes

unfoldable pub snapshot_in : List ℕ → Option Snapshot
snapshot_in bytes = whole (tagged (after_tag 0 snapshot_at no_tag)) bytes
