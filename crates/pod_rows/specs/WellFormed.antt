-- Which pods are well-formed.
use Rattle.std.specs.Prelude.{ℕ, Bool, true, false, not, ◌&&◌, ◌||◌, ◌≤◌, ◌^◌, IsTrue, nat_le, List}
use Rattle.std.specs.Prelude.{length}
use Rattle.std.specs.Prelude.{Option, Some, None, codes}
use Rattle.std.specs.List.{list_all}
use Rattle.acl_rules.specs.Documents.{is_parse}
use Rattle.pod_path.specs.Hierarchy.{root, is_root, is_container, is_acl, is_meta, parent_of}
use Rattle.pod_path.specs.Hierarchy.{twin_of, subject_of}
use Rattle.pod_path.specs.Norm.{norm}
use Rattle.pod_command.specs.Encodable.{AreInOrder}
use Rattle.pod_command.specs.declared.row.Content.{Content}
use Rattle.pod_command.specs.declared.row.Content.TheVariants as contents
use Rattle.pod_command.specs.declared.row.Kind.{Kind}
use Rattle.pod_command.specs.declared.row.Kind.TheVariants as kinds
use Rattle.pod_command.specs.declared.row.Row.{Row}
use Rattle.pod_command.specs.declared.snapshot.Snapshot.{Snapshot}
use Rattle.rdf_graph.specs.Term.{term_eq}
use Rattle.rdf_graph.specs.declared.term.Term.TheVariants as terms
use Rattle.rdf_graph.specs.declared.triple.Triple.{Triple}
use Rattle.pod_rows.specs.declared.limits.TheConstants.{ROWS_LIMIT, CONTENT_TYPE_BYTES_LIMIT}
use Rattle.pod_rows.specs.Base.{is_base}
use Rattle.pod_rows.specs.Guard.{guards}
use Rattle.pod_rows.specs.Pod.{Pod, row_at, is_row, is_row_of}
use Rattle.pod_rows.specs.Vocabulary.{ldp_contains}

-- A normal path is one that parses to itself: it is within the limits of paths.
unfoldable pub has_normal_path : Row → Bool
has_normal_path row = is_parse (norm row.path) row.path

-- A content type: at most 256 bytes from space to `~`.
abbrev pub is_printable : ℕ → Bool
is_printable byte = nat_le 32 byte && nat_le byte 126

abbrev pub is_content_type : List ℕ → Bool
is_content_type ctype = nat_le (length ctype) CONTENT_TYPE_BYTES_LIMIT
    && list_all is_printable ctype

-- Does the content hold a graph? By its type it is a set of triples of RDF.
abbrev pub is_graph_content : Content → Bool
is_graph_content (contents.Graph triples) = true
is_graph_content (contents.Bytes ctype bytes) = false

-- Does it hold bytes and their content type?
abbrev pub is_bytes_content : Content → Bool
is_bytes_content (contents.Graph triples) = false
is_bytes_content (contents.Bytes ctype bytes) = is_content_type ctype

-- Is the path that of no container, access list or description?
abbrev pub is_document : List ℕ → Bool
is_document path = not (is_container path || (is_acl path || is_meta path))

-- The end of a path decides which kinds it may have, and the kind which content.
abbrev pub fits_kind : List ℕ → Kind → Content → Bool
fits_kind path kinds.Container content = is_container path && is_graph_content content
fits_kind path kinds.Acl content = is_acl path && is_graph_content content
fits_kind path kinds.Meta content = is_meta path && is_graph_content content
fits_kind path kinds.Graph content = is_document path && is_graph_content content
fits_kind path kinds.Bytes content = is_document path && is_bytes_content content

abbrev pub has_right_kind : Row → Bool
has_right_kind row = fits_kind row.path row.kind row.content

-- The root is a container, and its access list passes the guard.
abbrev pub is_container_kind : Kind → Bool
is_container_kind kinds.Container = true
is_container_kind kinds.Graph = false
is_container_kind kinds.Acl = false
is_container_kind kinds.Bytes = false
is_container_kind kinds.Meta = false

abbrev pub is_container_row : Option Row → Bool
is_container_row None = false
is_container_row (Some row) = is_container_kind row.kind

abbrev pub guards_content : Pod → Content → Bool
guards_content pod (contents.Graph triples) = guards pod.base pod.owner triples
guards_content pod (contents.Bytes ctype bytes) = false

abbrev pub guards_row : Pod → Option Row → Bool
guards_row pod None = false
guards_row pod (Some row) = guards_content pod row.content

unfoldable pub has_first_rows : Pod → Bool
has_first_rows pod = is_container_row (row_at pod.rows root)
    && guards_row pod (row_at pod.rows (codes "/.acl"))

-- The parent of every row but the root is a row.
unfoldable pub has_parent : List Row → Row → Bool
has_parent rows row = is_root row.path || is_row_of rows (parent_of row.path)

-- No row has a twin that is a row.
unfoldable pub lacks_twin : List Row → Row → Bool
lacks_twin rows row = not (is_row_of rows (twin_of row.path))

-- The subject of an access list or a description is a row.
abbrev pub is_subject_row : List Row → Option (List ℕ) → Bool
is_subject_row rows None = true
is_subject_row rows (Some subject) = is_row rows subject

unfoldable pub has_subject : List Row → Row → Bool
has_subject rows row = is_subject_row rows (subject_of row.path)

-- No own triple of a container has the predicate `ldp:contains`.
abbrev pub lacks_containment : List Triple → Bool
lacks_containment triples = list_all (λ t. not (term_eq t.p (terms.Iri ldp_contains))) triples

abbrev pub lacks_contained : Content → Bool
lacks_contained (contents.Graph triples) = lacks_containment triples
lacks_contained (contents.Bytes ctype bytes) = true

abbrev pub lacks_stored_containment : Row → Bool
lacks_stored_containment row = not (is_container_kind row.kind) || lacks_contained row.content

-- A pod is well-formed.
pub record WellFormed (pod : Pod) : Type 0 where
  pub order : AreInOrder pod.rows
  pub paths : IsTrue (list_all has_normal_path pod.rows)
  pub first_rows : IsTrue (has_first_rows pod)
  pub kinds : IsTrue (list_all has_right_kind pod.rows)
  pub parents : IsTrue (list_all (has_parent pod.rows) pod.rows)
  pub twins : IsTrue (list_all (lacks_twin pod.rows) pod.rows)
  pub subjects : IsTrue (list_all (has_subject pod.rows) pod.rows)
  pub containment : IsTrue (list_all lacks_stored_containment pod.rows)
  pub number : length pod.rows ≤ ROWS_LIMIT
  pub base : IsTrue (is_base pod.base)

-- The pod of a snapshot.
abbrev pub pod_of : Snapshot → Pod
pod_of snapshot = record {
  base = snapshot.base;
  owner = snapshot.owner;
  rows = snapshot.rows.items;
}

-- A snapshot is well-formed: its pod is, and the number of its next change is at most 2^63.
pub record IsWellFormedSnapshot (snapshot : Snapshot) : Type 0 where
  pub number : snapshot.seq ≤ 2 ^ 63
  pub pod : WellFormed (pod_of snapshot)
