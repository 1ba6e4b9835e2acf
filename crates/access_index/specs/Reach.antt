-- Which paths a change of access lists reaches.
use Rattle.std.specs.Prelude.{◌≡◌, ℕ, Bool, false, ◌&&◌, ◌||◌, List, bytes_eq, nat_eq}
use Rattle.std.specs.List.{list_any, starts_with}
use Rattle.pod_path.specs.Hierarchy.{is_container, subject_of}
use Rattle.pod_rows.specs.Access.{about}
use Rattle.access_index.specs.Listing.{is_listed}
use Rattle.access_index.specs.Governing.{has_list}

-- Is the path the other one, or below it?
abbrev pub is_within : List ℕ → List ℕ → Bool
is_within path other = bytes_eq path other || (is_container other && starts_with nat_eq path other)

-- Is the path, or what it is about, one of these subjects of access lists, or below one?
abbrev pub is_reached : List (List ℕ) → List ℕ → Bool
is_reached subjects path =
    list_any (λ subject. is_within (about path (subject_of path)) subject) subjects

-- Of two sets of rows the same paths have lists of their own, but for these subjects.
abbrev pub AgreeBeside : (List ℕ → Bool) → (List ℕ → Bool) → List (List ℕ) → Type 0
AgreeBeside before after subjects = (path : List ℕ) → is_listed subjects path ≡ false
    → has_list before path ≡ has_list after path
