-- The kind of a row, by its path and its content.
use Rattle.std.specs.Prelude.{ℕ, Bool, ◌&&◌, ◌||◌, if◌then◌else◌, List}
use Rattle.pod_command.specs.declared.row.Content.{Content}
use Rattle.pod_command.specs.declared.row.Content.TheVariants as contents
use Rattle.pod_command.specs.declared.row.Kind.{Kind}
use Rattle.pod_command.specs.declared.row.Kind.TheVariants as kinds
use Rattle.pod_path.specs.Hierarchy.{is_acl, is_container, is_meta}
use Rattle.pod_rows.specs.WellFormed.{is_bytes_content, is_document, is_graph_content}

-- A document is of the kind of its content.
abbrev pub document_kind : Content → Kind
document_kind (contents.Graph triples) = kinds.Graph
document_kind (contents.Bytes ctype bytes) = kinds.Bytes

-- The end of a path decides the kind of containers, access lists and descriptions.
unfoldable pub kind_of : List ℕ → Content → Kind
kind_of path content = if is_container path then kinds.Container
    else (if is_acl path then kinds.Acl
    else (if is_meta path then kinds.Meta else document_kind content))

-- A graph may be at each path, and bytes with a content type in documents alone.
abbrev pub may_hold : List ℕ → Content → Bool
may_hold path content = is_graph_content content
    || (is_document path && is_bytes_content content)
