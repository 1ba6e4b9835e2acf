-- Tables of paths, each with what is resolved for it, in byte order of the paths.
use Rattle.std.specs.Prelude.{◌≡◌, ℕ, zero, suc, Bool, not, List, [], ◌∷◌, Option, Some, None, map}
use Rattle.std.specs.Prelude.{filter, ◌||◌, bytes_eq, if◌then◌else◌, filter_map}
use Rattle.std.specs.List.{AllByRecursion, find}
use Rattle.acl_rules.specs.declared.rule.How.{How}
use Rattle.acl_rules.specs.declared.rule.How.TheVariants.{Own, Inherited}
use Rattle.pod_path.specs.Hierarchy.{is_acl, is_container, subject_of, without_end}
use Rattle.pod_rows.specs.Access.{about}
use Rattle.pod_rows.specs.Apply.{is_before}
use Rattle.pod_rows.specs.Tree.{ancestors}
use Rattle.access_index.specs.Listing.{AreOrdered}
use Rattle.access_index.specs.Reach.{is_reached}
use Rattle.access_index.specs.declared.resolved_list.Resolved.{Resolved}
use Rattle.access_index.specs.declared.path_table.Entry.{Entry}

abbrev pub resolved_at : List ℕ → How → Resolved
resolved_at at how = record { at = at; how = how }

abbrev pub entry_of : List ℕ → Resolved → Entry
entry_of path resolved = record { path = path; resolved = resolved }

-- The paths of a table.
abbrev pub keys : List Entry → List (List ℕ)
keys entries = map (λ entry. entry.path) entries

-- The entries are in byte order of their paths, each path once.
abbrev pub AreInOrder : List Entry → Type 0
AreInOrder entries = AreOrdered (keys entries)

abbrev pub is_at : List ℕ → Entry → Bool
is_at path entry = bytes_eq entry.path path

-- The entry at a path.
abbrev pub entry_at : List Entry → List ℕ → Option Entry
entry_at entries path = find (is_at path) entries

-- The entry, where it is at the path.
abbrev pub keep_at : List ℕ → Option Entry → Option Entry
keep_at path None = None
keep_at path (Some entry) = if is_at path entry then Some entry else None

-- How many entries are before a path.
abbrev pub rank : List ℕ → List Entry → ℕ
rank path [] = zero
rank path (entry ∷ entries) = if is_before entry.path path then suc (rank path entries) else zero

-- The entries with one more, before those that are not before it.
abbrev pub placed : Entry → List Entry → List Entry
placed entry [] = entry ∷ []
placed entry (other ∷ entries) = if is_before other.path entry.path
    then other ∷ placed entry entries else entry ∷ other ∷ entries

-- The entries without the one at a path.
abbrev pub without : List Entry → List ℕ → List Entry
without entries path = filter (λ entry. not (is_at path entry)) entries

abbrev pub without_all : List Entry → List (List ℕ) → List Entry
without_all entries [] = entries
without_all entries (path ∷ paths) = without_all (without entries path) paths

-- The subject of a path that is an access list.
abbrev pub list_subject : List ℕ → Option (List ℕ)
list_subject path = if is_acl path then Some (without_end 4 path) else None

-- The subjects of the access lists among paths.
abbrev pub list_subjects : List (List ℕ) → List (List ℕ)
list_subjects paths = filter_map list_subject paths

-- None of these is an access list or a description.
abbrev pub ArePlain : List (List ℕ) → Type 0
ArePlain paths = AllByRecursion (λ (path : List ℕ). subject_of path ≡ None) paths

-- The entry of the first of these paths that has one.
abbrev pub or_else : Option Entry → Option Entry → Option Entry
or_else None other = other
or_else (Some entry) other = Some entry

abbrev pub first_entry : List Entry → List (List ℕ) → Option Entry
first_entry entries [] = None
first_entry entries (path ∷ paths) = or_else (entry_at entries path) (first_entry entries paths)

-- The entry of a text that is a container.
abbrev pub container_entry : List Entry → List ℕ → Option Entry
container_entry entries path = if is_container path then entry_at entries path else None

-- What is resolved by the own list, or else by the one above. The table of the access lists has for
-- each subject what those below it inherit.
abbrev pub own_or_above : Option Entry → Option Entry → Option Resolved
own_or_above (Some list) above = Some (resolved_at list.path Own)
own_or_above None None = None
own_or_above None (Some list) = Some list.resolved

abbrev pub governing : List Entry → List ℕ → Option Resolved
governing lists text = own_or_above (entry_at lists text) (first_entry lists (ancestors text))

abbrev pub resolve : List Entry → List ℕ → Option Resolved
resolve lists path = governing lists (about path (subject_of path))

-- The entries with one more, where there is none at the path yet and something is resolved for it.
abbrev pub add_found : List Entry → List ℕ → Option Entry → Option Resolved → List Entry
add_found entries path (Some entry) resolved = entries
add_found entries path None None = entries
add_found entries path None (Some resolved) = placed (entry_of path resolved) entries

-- The table of the access lists with those of these subjects.
abbrev pub add_lists : List Entry → List (List ℕ) → List Entry
add_lists lists [] = lists
add_lists lists (subject ∷ subjects) = add_lists (add_found lists subject (entry_at lists subject)
    (Some (resolved_at subject Inherited))) subjects

-- The entries with these paths, resolved by the lists.
abbrev pub add_paths : List Entry → List Entry → List (List ℕ) → List Entry
add_paths lists entries [] = entries
add_paths lists entries (path ∷ paths) = add_paths lists
    (add_found entries path (entry_at entries path) (resolve lists path)) paths

abbrev pub resolved_or : Resolved → Option Resolved → Resolved
resolved_or old None = old
resolved_or old (Some resolved) = resolved

-- The entry, resolved anew where a list of one of these subjects was removed or added.
abbrev pub refreshed : List Entry → List (List ℕ) → List (List ℕ) → Entry → Entry
refreshed lists gone new entry = if is_reached gone entry.path || is_reached new entry.path
    then entry_of entry.path (resolved_or entry.resolved (resolve lists entry.path)) else entry

-- The table of the access lists after these are added and those removed.
abbrev pub lists_after : List Entry → List (List ℕ) → List (List ℕ) → List Entry
lists_after lists added removed =
    add_lists (without_all lists (list_subjects removed)) (list_subjects added)

-- The entries after these are added and those removed, resolved by the lists.
abbrev pub entries_after : List Entry → List Entry → List (List ℕ) → List (List ℕ) → List Entry
entries_after lists entries added removed =
    let fresh = map (refreshed lists (list_subjects removed) (list_subjects added)) entries in
    add_paths lists (without_all fresh removed) added
