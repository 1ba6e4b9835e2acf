-- Which paths of a pod IRIs name, under the pod's base.
use Rattle.std.specs.Prelude.{◌≡◌, ℕ, Bool, false, if◌then◌else◌, bytes_eq, nat_eq, List, ◌∷◌}
use Rattle.std.specs.Prelude.{length, drop, Option, Some, None, Result, Ok, Err}
use Rattle.std.specs.List.{starts_with, before_first, list_any}
use Rattle.iri_ref.specs.Characters.{slash, is_hash}
use Rattle.pod_path.specs.Norm.{norm}
use Rattle.pod_path.specs.declared.fault.PathFault.{PathFault}

-- Does a text parse to this path?
abbrev pub is_parse : Result (List ℕ) PathFault → List ℕ → Bool
is_parse (Ok path) text = bytes_eq path text
is_parse (Err fault) text = false

-- The text, where it is a normal path.
abbrev pub normal_path : List ℕ → Option (List ℕ)
normal_path text = if is_parse (norm text) text then Some text else None

-- The normal path after the base, if there is one.
abbrev pub path_after : List ℕ → List ℕ → Option (List ℕ)
path_after base iri =
    if starts_with nat_eq iri base then normal_path (slash ∷ drop (length base) iri) else None

-- The path of the document that an IRI names: the fragment doesn't count.
unfoldable pub document_of : List ℕ → List ℕ → Option (List ℕ)
document_of base iri = path_after base (before_first is_hash iri)

-- The path of the resource that an IRI names. One with a fragment names a part of a document.
unfoldable pub resource_of : List ℕ → List ℕ → Option (List ℕ)
resource_of base iri = if list_any is_hash iri then None else document_of base iri
