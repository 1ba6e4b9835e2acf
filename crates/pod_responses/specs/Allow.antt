-- Which methods a path takes, and what may be sent to it. Both are told by the text of the path.
use Rattle.std.specs.Prelude.{ℕ, Bool, true, false, not, ◌||◌, bytes_eq, if◌then◌else◌, List, []}
use Rattle.std.specs.Prelude.{◌∷◌, ◌++◌, filter, codes}
use Rattle.pod_base.specs.declared.method.Method.{Method}
use Rattle.pod_base.specs.declared.method.Method.TheVariants.{Get, Head, Options, Post, Put, Patch}
use Rattle.pod_base.specs.declared.method.Method.TheVariants.{Delete, Other}
use Rattle.pod_path.specs.Hierarchy.{is_root, is_container, is_auxiliary}

-- the access list of the root
abbrev pub is_root_list : List ℕ → Bool
is_root_list path = bytes_eq path (codes "/.acl")

-- The root and its access list stay.
abbrev pub is_removable : List ℕ → Bool
is_removable path = not (is_root path || is_root_list path)

-- Members are made in containers alone, and what stays isn't deleted.
abbrev pub takes : Bool → Bool → Method → Bool
takes container removable Post = container
takes container removable Delete = removable
takes container removable Other = false
takes container removable method = true

abbrev pub is_allowed : List ℕ → Method → Bool
is_allowed path method = takes (is_container path) (is_removable path) method

-- the methods of the server, in the order in which they are told
abbrev pub methods : List Method
methods = Get ∷ Head ∷ Options ∷ Post ∷ Put ∷ Patch ∷ Delete ∷ []

abbrev pub name_of : Method → List ℕ
name_of Get = codes "GET"
name_of Head = codes "HEAD"
name_of Options = codes "OPTIONS"
name_of Post = codes "POST"
name_of Put = codes "PUT"
name_of Patch = codes "PATCH"
name_of Delete = codes "DELETE"
name_of Other = []

-- names with a comma and a space between
abbrev pub names_of : List Method → List ℕ
names_of [] = []
names_of (method ∷ []) = name_of method
names_of (method ∷ more) = name_of method ++ (codes ", " ++ names_of more)

-- the names of the methods that a path takes
unfoldable pub taken_names : Bool → Bool → List ℕ
taken_names container removable = names_of (filter (takes container removable) methods)

unfoldable pub allow_text : List ℕ → List ℕ
allow_text path = taken_names (is_container path) (is_removable path)

-- the types that a PUT of the path may have: those of graphs where it holds a graph alone
unfoldable pub put_types : List ℕ → List ℕ
put_types path = if is_container path || is_auxiliary path
    then codes "text/turtle, application/ld+json" else codes "*/*"
