-- The links of a resource (RFC 8288; Solid Protocol, sections 4.1 and 4.3; Web Access Control,
-- section 3.2).
use Rattle.std.specs.Prelude.{ℕ, Bool, if◌then◌else◌, List, [], ◌∷◌, ◌++◌, Option, Some, None}
use Rattle.std.specs.Prelude.{codes}
use Rattle.pod_base.specs.declared.field.Field.{Field}
use Rattle.pod_path.specs.Hierarchy.{is_root, is_container, is_acl, acl_of, meta_of, subject_of}
use Rattle.pod_path.specs.Hierarchy.{uri_of}

abbrev pub field : List ℕ → List ℕ → Field
field name value = record { name = name; value = value }

-- `Link: <target>; rel="relation"`
abbrev pub link : List ℕ → List ℕ → Field
link target relation = field (codes "Link")
    (codes "<" ++ (target ++ (codes ">; rel=\"" ++ (relation ++ codes "\""))))

abbrev pub type_link : List ℕ → Field
type_link class = link class (codes "type")

-- Every resource is one of LDP, a container is a basic container, and the root is a storage.
unfoldable pub container_links : Bool → List Field
container_links container = if container
    then type_link (codes "http://www.w3.org/ns/ldp#Container")
    ∷ type_link (codes "http://www.w3.org/ns/ldp#BasicContainer") ∷ []
    else []

unfoldable pub storage_links : Bool → List Field
storage_links root = if root
    then type_link (codes "http://www.w3.org/ns/pim/space#Storage") ∷ [] else []

unfoldable pub type_links : List ℕ → List Field
type_links path = type_link (codes "http://www.w3.org/ns/ldp#Resource")
    ∷ (container_links (is_container path) ++ storage_links (is_root path))

-- a link to a path, where there is one
unfoldable pub link_to : List ℕ → List ℕ → Option (List ℕ) → List Field
link_to base relation None = []
link_to base relation (Some path) = link (uri_of base path) relation ∷ []

-- what a description is about, and every other path itself
abbrev pub described_by : List ℕ → Option (List ℕ) → List ℕ
described_by path None = path
described_by path (Some subject) = subject

-- The access list that is told: none for an access list, and for a description that of its subject.
unfoldable pub list_of : List ℕ → Option (List ℕ)
list_of path = if is_acl path then None else acl_of (described_by path (subject_of path))

-- where the access list and the description of a path stand
unfoldable pub about_links : List ℕ → List ℕ → List Field
about_links base path =
    link_to base (codes "acl") (list_of path) ++ link_to base (codes "describedby") (meta_of path)
