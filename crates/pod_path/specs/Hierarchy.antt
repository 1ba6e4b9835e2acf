-- The paths about a path, as functions of the text: parent, twin, auxiliaries, ancestors, members,
-- URI.
use Rattle.std.specs.Prelude.{◌≡◌, ℕ, ◌-◌, ◌<◌, Bool, false, IsTrue, ◌||◌, nat_eq, bytes_eq, codes}
use Rattle.std.specs.Prelude.{if◌then◌else◌, List, [], ◌∷◌, ◌++◌, length, take, drop, Option, Some}
use Rattle.std.specs.Prelude.{None, Ok}
use Rattle.std.specs.List.{ends_with, before_first, list_all}
use Rattle.iri_ref.specs.Characters.{slash, is_hash, is_question_mark, Lacks, is_slash}
use Rattle.iri_ref.specs.Resolution.{up_to_last_slash}
use Rattle.iri_ref.specs.Segments.{is_dot_segment}
use Rattle.pod_path.specs.Characters.{is_path_character}
use Rattle.pod_path.specs.Escapes.{normalize_escapes}
use Rattle.pod_path.specs.Norm.{norm, is_auxiliary_name, is_reserved_name}

-- "/"
abbrev pub root : List ℕ
root = slash ∷ []

abbrev pub is_root : List ℕ → Bool
is_root path = bytes_eq path root

-- Does the path end in a slash?
abbrev pub is_container : List ℕ → Bool
is_container path = ends_with nat_eq path (slash ∷ [])

abbrev pub is_acl : List ℕ → Bool
is_acl path = ends_with nat_eq path (codes ".acl")

abbrev pub is_meta : List ℕ → Bool
is_meta path = ends_with nat_eq path (codes ".meta")

abbrev pub is_auxiliary : List ℕ → Bool
is_auxiliary path = is_acl path || is_meta path

-- The text without its last n characters.
abbrev pub without_end : ℕ → List ℕ → List ℕ
without_end n text = take (length text - n) text

-- The text without one slash at its end.
abbrev pub without_last_slash : List ℕ → List ℕ
without_last_slash path = if is_container path then without_end 1 path else path

-- The container just above.
abbrev pub parent_of : List ℕ → Option (List ℕ)
parent_of path = if is_root path then None else Some (up_to_last_slash (without_last_slash path))

-- The same text with or without the last slash.
abbrev pub twin_of : List ℕ → Option (List ℕ)
twin_of path = if is_root path || is_auxiliary path then None
    else (if is_container path then Some (without_end 1 path) else Some (path ++ slash ∷ []))

abbrev pub acl_of : List ℕ → Option (List ℕ)
acl_of path = if is_auxiliary path then None else Some (path ++ codes ".acl")

abbrev pub meta_of : List ℕ → Option (List ℕ)
meta_of path = if is_auxiliary path then None else Some (path ++ codes ".meta")

-- The subject of an ACL or a description.
abbrev pub subject_of : List ℕ → Option (List ℕ)
subject_of path = if is_acl path then Some (without_end 4 path)
    else (if is_meta path then Some (without_end 5 path) else None)

-- These are parents, each of the one before, from the path up to the other.
abbrev pub IsParentChain : List ℕ → List (List ℕ) → List ℕ → Type 0
IsParentChain path [] other = parent_of path ≡ Some other
IsParentChain path (above ∷ chain) other = (parent_of path ≡ Some above)
    × IsParentChain above chain other

-- The other path is an ancestor of the path.
abbrev pub IsUnder : List ℕ → List ℕ → Type 0
IsUnder path other = (chain : List (List ℕ)) × IsParentChain path chain other

-- The other path is a container, and the path is its text and more.
pub record IsInside (path other : List ℕ) : Type 0 where
  pub container : IsTrue (is_container other)
  pub rest : List ℕ
  pub whole : path ≡ other ++ rest
  pub more : 0 < length rest

-- The text of a container, a name in it, and a slash where the member is a container.
abbrev pub member_text : List ℕ → List ℕ → Bool → List ℕ
member_text path name container = path ++ name ++ (if container then slash ∷ [] else [])

-- The base and the path without its first slash.
abbrev pub uri_of : List ℕ → List ℕ → List ℕ
uri_of base path = base ++ drop 1 path

-- The URI up to its fragment is that of a normal path.
pub record IsUriOf (base uri path : List ℕ) : Type 0 where
  pub normal : norm path ≡ Ok path
  pub whole : before_first is_hash uri ≡ uri_of base path

-- A name is one segment: it has a character, no slash and no question mark.
pub record IsName (name : List ℕ) : Type 0 where
  pub some : 0 < length name
  pub slashes : Lacks is_slash name
  pub queries : Lacks is_question_mark name

-- A name that is part of a path as it is: one segment of path characters whose escapes are normal.
-- It is no dot segment, no name of an auxiliary where it is a container's, and no reserved name
-- elsewhere.
pub record IsPlainName (name : List ℕ) (container : Bool) : Type 0 where
  pub segment : IsName name
  pub characters : IsTrue (list_all is_path_character name)
  pub escapes : normalize_escapes name ≡ Some name
  pub dots : is_dot_segment name ≡ false
  pub free : (if container then is_auxiliary_name name else is_reserved_name name) ≡ false
