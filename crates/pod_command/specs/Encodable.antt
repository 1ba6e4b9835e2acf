-- Which entries and snapshots have a stored form.
use Rattle.std.specs.Prelude.{List}
use Rattle.std.specs.List.{AllByRecursion}
use Rattle.std.specs.List.Sorted.{IsStrictlySortedBy}
use Rattle.std.specs.Ordering.{on}
use Rattle.std.specs.declared.cmp.Ordering.{Ordering}
use Rattle.rdf_graph.specs.Triple.{bytes_cmp}
use Rattle.pod_base.specs.declared.method.Method.{Method}
use Rattle.pod_base.specs.declared.method.Method.TheVariants as methods
use Rattle.pod_command.specs.declared.edit.Edit.{Edit}
use Rattle.pod_command.specs.declared.edit.Edit.TheVariants as edits
use Rattle.pod_command.specs.declared.entry.Entry.{Entry}
use Rattle.pod_command.specs.declared.row.Content.{Content}
use Rattle.pod_command.specs.declared.row.Content.TheVariants as contents
use Rattle.pod_command.specs.declared.row.Kind.{Kind}
use Rattle.pod_command.specs.declared.row.Kind.TheVariants as kinds
use Rattle.pod_command.specs.declared.row.Row.{Row}
use Rattle.pod_command.specs.declared.snapshot.Snapshot.{Snapshot}

-- the method is one of those that change a pod
abbrev pub IsChanging : Method → Type 0
IsChanging methods.Post = Unit {0}
IsChanging methods.Put = Unit {0}
IsChanging methods.Patch = Unit {0}
IsChanging methods.Delete = Unit {0}
IsChanging methods.Get = ⊥
IsChanging methods.Head = ⊥
IsChanging methods.Options = ⊥
IsChanging methods.Other = ⊥

-- rows of kind Bytes hold bytes, and all others hold a graph
abbrev pub FitsKind : Kind → Content → Type 0
FitsKind kinds.Container (contents.Graph triples) = Unit {0}
FitsKind kinds.Container (contents.Bytes ctype bytes) = ⊥
FitsKind kinds.Graph (contents.Graph triples) = Unit {0}
FitsKind kinds.Graph (contents.Bytes ctype bytes) = ⊥
FitsKind kinds.Acl (contents.Graph triples) = Unit {0}
FitsKind kinds.Acl (contents.Bytes ctype bytes) = ⊥
FitsKind kinds.Bytes (contents.Graph triples) = ⊥
FitsKind kinds.Bytes (contents.Bytes ctype bytes) = Unit {0}
FitsKind kinds.Meta (contents.Graph triples) = Unit {0}
FitsKind kinds.Meta (contents.Bytes ctype bytes) = ⊥

-- the row's content is of its kind
abbrev pub HasFittingContent : Row → Type 0
HasFittingContent r = FitsKind r.kind r.content

-- so is that of a row that is put
abbrev pub IsFittingEdit : Edit → Type 0
IsFittingEdit (edits.Put row) = HasFittingContent row
IsFittingEdit (edits.Change path change modified) = Unit {0}
IsFittingEdit (edits.Touch path modified) = Unit {0}
IsFittingEdit (edits.Remove path) = Unit {0}

pub record IsEncodable (e : Entry) : Type 0 where
  pub method : IsChanging e.method
  pub edits : AllByRecursion IsFittingEdit e.edits.items

-- rows by the bytes of their paths
abbrev pub path_cmp : Row → Row → Ordering
path_cmp = on (λ r. r.path) bytes_cmp

-- the rows are in strict order of their paths
abbrev pub AreInOrder : List Row → Type 0
AreInOrder = IsStrictlySortedBy path_cmp

pub record IsEncodableSnapshot (s : Snapshot) : Type 0 where
  pub rows : AllByRecursion HasFittingContent s.rows.items
  pub order : AreInOrder s.rows.items
