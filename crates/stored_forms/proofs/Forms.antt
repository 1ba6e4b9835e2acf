-- Each type is read by its form.
use Rattle.std.proofs.Common.{◌≡◌, ℕ, List, [], ◌∷◌, ◌++◌, Some, refl}
use Rattle.pod_base.specs.declared.agent.Agent.{Agent}
use Rattle.pod_base.specs.declared.agent.Agent.TheVariants as agents
use Rattle.pod_base.specs.declared.method.Method.{Method}
use Rattle.pod_base.specs.declared.method.Method.TheVariants as methods
use Rattle.rdf_graph.specs.Graph.{IsGraph}
use Rattle.rdf_graph.specs.declared.term.Term.{Term}
use Rattle.rdf_graph.specs.declared.term.Term.TheVariants as terms
use Rattle.rdf_graph.specs.declared.triple.Triple.{Triple}
use Rattle.std.specs.Str.{IsUtf8, is_utf8}
use Rattle.iri_ref.specs.Components.{IsAbsolute}
use Rattle.pod_path.specs.Norm.{IsPath}
use Rattle.pod_command.specs.Encodable.{IsChanging, FitsKind, AreInOrder, path_cmp}
use Rattle.stored_forms.specs.Readers.{both, tagged, number_at}
use Rattle.stored_forms.specs.Reading.{is_absolute, is_path, is_graph, is_rising, text_at, iri_at, path_at, literal_of, tagged_of, term_after, term_at, triple_of, triple_at, graph_at, kind_after, kind_at, graph_content_at, bytes_of, bytes_content_at, content_at, row_of, row_at, change_of, touch_of, edit_after, edit_at, agent_after, agent_at, who_after, who_at, basis_of, basis_at, method_after, method_at, Origin, Requested, origin_at, request_at, rows_at}
use Rattle.stored_forms.specs.Storable.{IsNumber, IsText, IsIriText, IsPathText, IsListOf, IsStorableTerm, IsStorableTriple, IsStorableGraph, IsStorableContent, IsStorableRow, IsStorableEdit, IsStorableAgent, IsStorableWho, IsStorableBasis}
use Rattle.stored_forms.specs.StoredForms.{number_bytes, text_bytes, list_bytes, term_bytes, triple_bytes, graph_bytes, kind_byte, content_bytes, row_bytes, edit_bytes, agent_bytes, who_bytes, basis_bytes, method_byte}
use Rattle.pod_command.specs.declared.basis.Who.{Who}
use Rattle.pod_command.specs.declared.basis.Who.TheVariants as whos
use Rattle.pod_command.specs.declared.edit.Edit.{Edit}
use Rattle.pod_command.specs.declared.edit.Edit.TheVariants as edits
use Rattle.pod_command.specs.declared.row.Content.{Content}
use Rattle.pod_command.specs.declared.row.Content.TheVariants as contents
use Rattle.pod_command.specs.declared.row.Kind.{Kind}
use Rattle.pod_command.specs.declared.row.Kind.TheVariants as kinds
use Rattle.stored_forms.proofs.ReadLaws.{Reads, AfterTags, placed_takes, both_reads, both_by_reads, mapped_reads, mapped_again, same_reads, checked_reads, tag_case, no_tags, tagged_reads, just_reads, number_reads, piece_reads, list_reads}
use Rattle.stored_forms.proofs.Deciders.{utf8_decides, absolute_decides, path_decides, graph_decides, rows_decide}

pub text_reads : Reads IsText text_bytes text_at
unfolding text_at
text_reads = checked_reads is_utf8 IsUtf8 utf8_decides piece_reads

pub iri_reads : Reads IsIriText text_bytes iri_at
unfolding iri_at
iri_reads = checked_reads is_absolute IsAbsolute absolute_decides text_reads

pub path_reads : Reads IsPathText text_bytes path_at
unfolding path_at
path_reads = checked_reads is_path IsPath path_decides text_reads

-- ---- terms, triples, graphs

term_tags : AfterTags IsStorableTerm term_bytes term_after
unfolding term_after term_bytes
term_tags =
    tag_case 0 terms.Iri (λ _. refl) (λ _ h. h) iri_reads
    (tag_case 1 terms.Blank (λ _. refl) (λ _ h. h) text_reads
    (tag_case 2 literal_of (λ _. refl) (λ _ h. h) (both_reads text_reads iri_reads)
    (tag_case 3 tagged_of (λ _. refl) (λ _ h. h) (both_reads text_reads text_reads) (no_tags IsStorableTerm term_bytes))))

term_again : (x : Term) (rest : List ℕ) → IsStorableTerm x → tagged term_after (term_bytes x ++ rest) ≡ Some (x, rest)
unfolding term_after term_bytes
term_again (terms.Iri iri) rest is = mapped_again terms.Iri iri_reads iri rest is
term_again (terms.Blank label) rest is = mapped_again terms.Blank text_reads label rest is
term_again (terms.Literal lexical datatype) rest is = mapped_again literal_of (both_reads text_reads iri_reads) (lexical, datatype) rest is
term_again (terms.Tagged lexical lang) rest is = mapped_again tagged_of (both_reads text_reads text_reads) (lexical, lang) rest is

pub term_reads : Reads IsStorableTerm term_bytes term_at
unfolding term_at
term_reads = tagged_reads term_tags term_again

pub triple_reads : Reads IsStorableTriple triple_bytes triple_at
unfolding triple_at triple_bytes
triple_reads = mapped_reads triple_of (λ t. (t.s, (t.p, t.o))) (λ _. refl) (λ _. refl) (both_reads term_reads (both_reads term_reads term_reads))

pub graph_reads : Reads IsStorableGraph graph_bytes graph_at
unfolding graph_at graph_bytes
graph_reads = checked_reads is_graph IsGraph graph_decides (list_reads triple_reads)

-- ---- rows

abbrev one_byte : Kind → List ℕ
one_byte kind = kind_byte kind ∷ []

kind_tags : AfterTags (λ _. Unit {0}) one_byte kind_after
unfolding kind_after
kind_tags =
    tag_case 0 (λ (_ : Unit {0}). kinds.Container) (λ _. refl) (λ _ h. h) just_reads
    (tag_case 1 (λ (_ : Unit {0}). kinds.Graph) (λ _. refl) (λ _ h. h) just_reads
    (tag_case 2 (λ (_ : Unit {0}). kinds.Acl) (λ _. refl) (λ _ h. h) just_reads
    (tag_case 3 (λ (_ : Unit {0}). kinds.Bytes) (λ _. refl) (λ _ h. h) just_reads
    (tag_case 4 (λ (_ : Unit {0}). kinds.Meta) (λ _. refl) (λ _ h. h) just_reads (no_tags (λ _. Unit {0}) one_byte)))))

kind_again : (x : Kind) (rest : List ℕ) → Unit {0} → tagged kind_after (one_byte x ++ rest) ≡ Some (x, rest)
unfolding kind_after
kind_again kinds.Container rest is = refl
kind_again kinds.Graph rest is = refl
kind_again kinds.Acl rest is = refl
kind_again kinds.Bytes rest is = refl
kind_again kinds.Meta rest is = refl

kind_reads : Reads (λ _. Unit {0}) one_byte kind_at
unfolding kind_at
kind_reads = tagged_reads kind_tags kind_again

graph_content_form : (triples : List Triple) → content_bytes (contents.Graph triples) ≡ graph_bytes triples
unfolding content_bytes
graph_content_form triples = refl

graph_content_again : (kind : Kind) → ((ctype bytes : List ℕ) → FitsKind kind (contents.Bytes ctype bytes) → ⊥)
    → (c : Content) (rest : List ℕ) → IsStorableContent c × FitsKind kind c → graph_content_at (content_bytes c ++ rest) ≡ Some (c, rest)
unfolding graph_content_at content_bytes
graph_content_again kind never (contents.Graph triples) rest is = mapped_again contents.Graph graph_reads triples rest is.0
graph_content_again kind never (contents.Bytes ctype bytes) rest is = absurd (never ctype bytes is.1)

bytes_content_form : (p : List ℕ × List ℕ) → content_bytes (bytes_of p) ≡ text_bytes p.0 ++ text_bytes p.1
unfolding content_bytes
bytes_content_form p = refl

bytes_content_again : (c : Content) (rest : List ℕ) → IsStorableContent c × FitsKind kinds.Bytes c → bytes_content_at (content_bytes c ++ rest) ≡ Some (c, rest)
unfolding bytes_content_at content_bytes
bytes_content_again (contents.Graph triples) rest is = absurd is.1
bytes_content_again (contents.Bytes ctype bytes) rest is = mapped_again bytes_of (both_reads text_reads piece_reads) (ctype, bytes) rest is.0

bytes_content_reads : Reads (λ c. IsStorableContent c × FitsKind kinds.Bytes c) content_bytes bytes_content_at
unfolding bytes_content_at
bytes_content_reads = record {
  takes = placed_takes bytes_of bytes_content_form (λ p is. (is, tt)) (both_reads text_reads piece_reads);
  again = bytes_content_again;
}

-- content of a kind that has a graph
graph_content_reads : (kind : Kind) → ((triples : List Triple) → FitsKind kind (contents.Graph triples)) → ((ctype bytes : List ℕ) → FitsKind kind (contents.Bytes ctype bytes) → ⊥)
    → Reads (λ c. IsStorableContent c × FitsKind kind c) content_bytes graph_content_at
unfolding graph_content_at
graph_content_reads kind fits never = record {
  takes = placed_takes contents.Graph graph_content_form (λ triples is. (is, fits triples)) graph_reads;
  again = graph_content_again kind never;
}

content_reads : (kind : Kind) → Reads (λ c. IsStorableContent c × FitsKind kind c) content_bytes (content_at kind)
content_reads kinds.Container = graph_content_reads kinds.Container (λ _. tt) (λ _ _ h. h)
content_reads kinds.Graph = graph_content_reads kinds.Graph (λ _. tt) (λ _ _ h. h)
content_reads kinds.Acl = graph_content_reads kinds.Acl (λ _. tt) (λ _ _ h. h)
content_reads kinds.Bytes = bytes_content_reads
content_reads kinds.Meta = graph_content_reads kinds.Meta (λ _. tt) (λ _ _ h. h)

pub row_reads : Reads IsStorableRow row_bytes row_at
unfolding row_at row_bytes
row_reads =
    same_reads IsStorableRow
    (λ r is. record { path = is.0; modified = is.1.1.0; content = is.1.1.1.0; fits = is.1.1.1.1 })
    (λ r is. (is.path, (tt, (is.modified, (is.content, is.fits)))))
    (mapped_reads row_of (λ r. (r.path, (r.kind, (r.modified.0, r.content)))) (λ _. refl) (λ _. refl)
    (both_reads path_reads
    (both_by_reads
    (λ kind p. IsNumber p.0 × (IsStorableContent p.1 × FitsKind kind p.1))
    (λ kind p. number_bytes p.0 ++ content_bytes p.1)
    (λ kind. both number_at (content_at kind))
    kind_reads (λ kind. both_reads number_reads (content_reads kind)))))

pub rows_reads : Reads (λ rows. IsListOf IsStorableRow rows × AreInOrder rows) (list_bytes row_bytes) rows_at
unfolding rows_at
rows_reads = checked_reads (is_rising path_cmp) AreInOrder rows_decide (list_reads row_reads)

-- ---- edits

edit_tags : AfterTags IsStorableEdit edit_bytes edit_after
unfolding edit_after edit_bytes
edit_tags =
    tag_case 0 edits.Put (λ _. refl) (λ _ h. h) row_reads
    (tag_case 1 change_of (λ _. refl) (λ _ h. h) (both_reads path_reads (both_reads number_reads (both_reads graph_reads graph_reads)))
    (tag_case 2 touch_of (λ _. refl) (λ _ h. h) (both_reads path_reads number_reads)
    (tag_case 3 edits.Remove (λ _. refl) (λ _ h. h) path_reads (no_tags IsStorableEdit edit_bytes))))

edit_again : (x : Edit) (rest : List ℕ) → IsStorableEdit x → tagged edit_after (edit_bytes x ++ rest) ≡ Some (x, rest)
unfolding edit_after edit_bytes
edit_again (edits.Put row) rest is = mapped_again edits.Put row_reads row rest is
edit_again (edits.Change path change modified) rest is =
    mapped_again change_of (both_reads path_reads (both_reads number_reads (both_reads graph_reads graph_reads)))
    (path, (modified.0, (change.removed, change.added))) rest is
edit_again (edits.Touch path modified) rest is = mapped_again touch_of (both_reads path_reads number_reads) (path, modified.0) rest is
edit_again (edits.Remove path) rest is = mapped_again edits.Remove path_reads path rest is

pub edit_reads : Reads IsStorableEdit edit_bytes edit_at
unfolding edit_at
edit_reads = tagged_reads edit_tags edit_again

-- ---- agents, bases, methods

agent_tags : AfterTags IsStorableAgent agent_bytes agent_after
unfolding agent_after agent_bytes
agent_tags =
    tag_case 0 (λ (_ : Unit {0}). agents.Public) (λ _. refl) (λ _ h. h) just_reads
    (tag_case 1 agents.Known (λ _. refl) (λ _ h. h) text_reads (no_tags IsStorableAgent agent_bytes))

agent_again : (x : Agent) (rest : List ℕ) → IsStorableAgent x → tagged agent_after (agent_bytes x ++ rest) ≡ Some (x, rest)
unfolding agent_after agent_bytes
agent_again agents.Public rest is = refl
agent_again (agents.Known iri) rest is = mapped_again agents.Known text_reads iri rest is

pub agent_reads : Reads IsStorableAgent agent_bytes agent_at
unfolding agent_at
agent_reads = tagged_reads agent_tags agent_again

who_tags : AfterTags IsStorableWho who_bytes who_after
unfolding who_after who_bytes
who_tags =
    tag_case 0 (λ (_ : Unit {0}). whos.Agent) (λ _. refl) (λ _ h. h) just_reads
    (tag_case 1 (λ (_ : Unit {0}). whos.Everyone) (λ _. refl) (λ _ h. h) just_reads
    (tag_case 2 (λ (_ : Unit {0}). whos.Authenticated) (λ _. refl) (λ _ h. h) just_reads
    (tag_case 3 whos.Group (λ _. refl) (λ _ h. h) text_reads (no_tags IsStorableWho who_bytes))))

who_again : (x : Who) (rest : List ℕ) → IsStorableWho x → tagged who_after (who_bytes x ++ rest) ≡ Some (x, rest)
unfolding who_after who_bytes
who_again whos.Agent rest is = refl
who_again whos.Everyone rest is = refl
who_again whos.Authenticated rest is = refl
who_again (whos.Group iri) rest is = mapped_again whos.Group text_reads iri rest is

pub who_reads : Reads IsStorableWho who_bytes who_at
unfolding who_at
who_reads = tagged_reads who_tags who_again

pub basis_reads : Reads IsStorableBasis basis_bytes basis_at
unfolding basis_at basis_bytes
basis_reads =
    same_reads IsStorableBasis
    (λ b is. record { acl = is.0; rule = is.1.0; who = is.1.1 })
    (λ b is. (is.acl, (is.rule, is.who)))
    (mapped_reads basis_of (λ b. (b.acl, (b.rule, b.who))) (λ _. refl) (λ _. refl) (both_reads path_reads (both_reads term_reads who_reads)))

abbrev method_bytes : Method → List ℕ
method_bytes method = method_byte method ∷ []

method_tags : AfterTags IsChanging method_bytes method_after
unfolding method_after
method_tags =
    tag_case 0 (λ (_ : Unit {0}). methods.Post) (λ _. refl) (λ _ h. h) just_reads
    (tag_case 1 (λ (_ : Unit {0}). methods.Put) (λ _. refl) (λ _ h. h) just_reads
    (tag_case 2 (λ (_ : Unit {0}). methods.Patch) (λ _. refl) (λ _ h. h) just_reads
    (tag_case 3 (λ (_ : Unit {0}). methods.Delete) (λ _. refl) (λ _ h. h) just_reads (no_tags IsChanging method_bytes))))

method_again : (x : Method) (rest : List ℕ) → IsChanging x → tagged method_after (method_bytes x ++ rest) ≡ Some (x, rest)
unfolding method_after
method_again methods.Post rest is = refl
method_again methods.Put rest is = refl
method_again methods.Patch rest is = refl
method_again methods.Delete rest is = refl
method_again methods.Get rest is = absurd is
method_again methods.Head rest is = absurd is
method_again methods.Options rest is = absurd is
method_again methods.Other rest is = absurd is

method_reads : Reads IsChanging method_bytes method_at
unfolding method_at
method_reads = tagged_reads method_tags method_again

-- ---- the parts of entries

pub origin_reads : Reads {A = Origin} (λ o. IsNumber o.0 × (IsNumber o.1.0 × (IsNumber o.1.1.0 × IsStorableAgent o.1.1.1)))
    (λ o. number_bytes o.0 ++ (number_bytes o.1.0 ++ (number_bytes o.1.1.0 ++ agent_bytes o.1.1.1))) origin_at
unfolding origin_at
origin_reads = both_reads number_reads (both_reads number_reads (both_reads number_reads agent_reads))

pub request_reads : Reads {A = Requested} (λ q. IsNumber q.0 × (IsChanging q.1.0 × IsPathText q.1.1))
    (λ q. number_bytes q.0 ++ (method_byte q.1.0 ∷ text_bytes q.1.1)) request_at
unfolding request_at
request_reads = both_reads number_reads (both_reads method_reads path_reads)
