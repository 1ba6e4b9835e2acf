-- How access lists are numbered, and which list governs which item.
use Rattle.std.specs.Prelude.{◌≡◌, ℕ, Bool, true, false, not, ◌&&◌, ◌==◌, ◌⊎◌, nat_eq, List, filter}
use Rattle.std.specs.Prelude.{Option, Some, None, is_some, length, ◌≤◌}
use Rattle.std.specs.List.{AllByRecursion, list_any, starts_with}
use Rattle.acl_rules.specs.declared.rule.Rule.{Rule}
use Rattle.acl_rules.specs.declared.rule.Rules.{Rules}
use Rattle.pod_path.specs.Hierarchy.{root, subject_of}
use Rattle.pod_path.specs.Norm.{IsPath}
use Rattle.pod_command.specs.declared.row.Row.{Row}
use Rattle.pod_rows.specs.Access.{effective_of, governed, has_own_list, list_path, rules_in}
use Rattle.pod_rows.specs.Access.{rules_of_row}
use Rattle.pod_rows.specs.Pod.{row_at, is_row}
use Rattle.access_index.specs.Listing.{is_listed}
use Rattle.access_index.specs.Reach.{is_reached}
use Rattle.access_index.specs.Tables.{list_subjects}
use Rattle.row_pages.specs.Items.{Placed, item_at, rows_of}
use Rattle.pod_pages.specs.Lists.{list_at}
use Rattle.pod_pages.specs.Marks.{how_of, mark, own_number, path_mark}
use Rattle.pod_pages.specs.declared.list_table.AccessList.{AccessList}

-- The rules of the access list of a path.
abbrev pub list_rules : List ℕ → List Row → List ℕ → List Rule
list_rules base rows path = rules_of_row base (row_at rows (list_path path))

abbrev pub rules_if : Option Rules → Option (List Rule)
rules_if None = None
rules_if (Some rules) = Some rules.list

abbrev pub rules_found : List ℕ → Option Row → Option (List Rule)
rules_found base None = None
rules_found base (Some row) = Some (rules_in base row.content)

-- What a well-formed pod has that matters here: what has a list is a row, and no access list or
-- description, and the root has one.
pub record IsTree (rows : List Row) : Type 0 where
  pub paths : (path : List ℕ) → is_row rows path ≡ true → IsPath path
  pub subjects : (path : List ℕ) → has_own_list rows path ≡ true → is_row rows path ≡ true
  pub plain : (path : List ℕ) → has_own_list rows path ≡ true → subject_of path ≡ None
  pub rooted : has_own_list rows root ≡ true

-- The table of the access lists, by their numbers.
abbrev pub Places : Type 0
Places = List (Option AccessList)

-- The number is that of the item's own list, or is free.
abbrev pub IsNumberFor : Placed → Places → ℕ → Type 0
IsNumberFor item places number = ((item.own ≡ true) × (item.list ≡ number))
    ⊎ ((item.own ≡ false) × (list_at places number ≡ None) × (number ≤ length places))

-- The number is that of the path's list.
pub record IsListOf (places : Places) (number : ℕ) (path : List ℕ) : Type 0 where
  pub list : AccessList
  pub found : list_at places number ≡ Some list
  pub is : list.at ≡ path

-- The item is marked with the list that governs its path.
pub record IsGoverned (items : List Placed) (places : Places) (path : List ℕ) (item : Placed)
    : Type 0 where
  pub list : AccessList
  pub found : list_at places item.list ≡ Some list
  pub governs : effective_of (rows_of items) path ≡ Some (governed list.at (how_of item.own))

-- Each item is marked with the list that governs it, and each list is that of a row, which has its
-- number and its rules.
pub record AreResolved (base : List ℕ) (items : List Placed) (places : Places) : Type 0 where
  pub governed : (path : List ℕ) (item : Placed) → item_at items path ≡ Some item
      → IsGoverned items places path item
  pub numbers : (number : ℕ) (list : AccessList) → list_at places number ≡ Some list
      → own_number items list.at ≡ Some number
  pub owners : (number : ℕ) (list : AccessList) → list_at places number ≡ Some list
      → has_own_list (rows_of items) list.at ≡ true
  pub rules : (number : ℕ) (list : AccessList) → list_at places number ≡ Some list
      → list.rules.list ≡ list_rules base (rows_of items) list.at

-- What is known of numbers while the lists of some subjects are pending.
pub record AreNumbered (base : List ℕ) (first : List Placed) (pending : List (List ℕ))
    (items : List Placed) (places : Places) : Type 0 where
  pub rows : rows_of items ≡ rows_of first
  pub has : (path : List ℕ) → subject_of path ≡ None → is_listed pending path ≡ false
      → has_own_list (rows_of first) path ≡ is_some (own_number items path)
  pub lists : (path : List ℕ) (number : ℕ) → subject_of path ≡ None
      → own_number items path ≡ Some number → has_own_list (rows_of first) path ≡ true
      → IsListOf places number path
  pub numbers : (number : ℕ) (list : AccessList) → list_at places number ≡ Some list
      → own_number items list.at ≡ Some number
  pub owners : (number : ℕ) (list : AccessList) → list_at places number ≡ Some list
      → has_own_list (rows_of first) list.at ≡ true
  pub rules : (number : ℕ) (list : AccessList) → list_at places number ≡ Some list
      → is_listed pending list.at ≡ false
      → list.rules.list ≡ list_rules base (rows_of first) list.at
  pub stable : (path : List ℕ) (number : ℕ) → own_number first path ≡ Some number
      → has_own_list (rows_of first) path ≡ true → own_number items path ≡ Some number

-- Is it that number?
abbrev pub is_number : ℕ → Option ℕ → Bool
is_number number None = false
is_number number (Some other) = number == other

-- Is it the number that a subject without a list had?
abbrev pub frees : List Row → List Placed → ℕ → List ℕ → Bool
frees rows old number subject =
    not (has_own_list rows subject) && is_number number (own_number old subject)

abbrev pub is_freed : List Row → List Placed → List (List ℕ) → ℕ → Bool
is_freed rows old subjects number = list_any (frees rows old number) subjects

-- Did the list of the path come or go?
abbrev pub differ : Bool → Bool → Bool
differ true other = not other
differ false other = other

abbrev pub is_changed : List Row → List Row → List ℕ → Bool
is_changed before after path = differ (has_own_list before path) (has_own_list after path)

abbrev pub changed_of : List Row → List Row → List (List ℕ) → List (List ℕ)
changed_of before after subjects = filter (is_changed before after) subjects

-- Does the path begin with one of these?
abbrev pub is_below : List (List ℕ) → List ℕ → Bool
is_below subjects path = list_any (λ subject. starts_with nat_eq path subject) subjects

-- The item is marked by numbers.
abbrev pub IsMarked : List Placed → List ℕ → Placed → Type 0
IsMarked numbers path item = path_mark numbers path ≡ Some (mark item.list item.own)

-- Each item that the test tells, at least, is marked by numbers, and each other one is as it was.
pub record AreMarked (numbers : List Placed) (done : List ℕ → Bool) (items : List Placed)
    : Type 0 where
  pub rows : rows_of items ≡ rows_of numbers
  pub marks : (path : List ℕ) (item : Placed) → item_at items path ≡ Some item
      → IsMarked numbers path item ⊎ ((done path ≡ false) × (item_at numbers path ≡ Some item))

-- Each row has a mark.
abbrev pub HaveMarks : List Placed → Type 0
HaveMarks numbers = (path : List ℕ) → is_row (rows_of numbers) path ≡ true
    → is_some (path_mark numbers path) ≡ true

-- The item is marked with the number of the list that governs its path.
pub record HasRightMark (first : List Placed) (path : List ℕ) (item : Placed) : Type 0 where
  pub at : List ℕ
  pub governs : effective_of (rows_of first) path ≡ Some (governed at (how_of item.own))
  pub number : own_number first at ≡ Some item.list

-- The subjects of access lists among paths whose lists came or went.
abbrev pub changed_among : List Placed → List Placed → List (List ℕ) → List (List ℕ)
changed_among old first touched =
    changed_of (rows_of old) (rows_of first) (list_subjects touched)

-- Rows after a change of those at some paths, and what is left of the old marks.
pub record AreReady (base : List ℕ) (old : List Placed) (places : Places) (first : List Placed)
    (touched : List (List ℕ)) : Type 0 where
  pub tree : IsTree (rows_of first)
  pub has : (path : List ℕ) → subject_of path ≡ None
      → is_listed touched (list_path path) ≡ false
      → has_own_list (rows_of first) path ≡ is_some (own_number first path)
  pub marks : (path : List ℕ) (number : ℕ) → own_number first path ≡ Some number
      → own_number old path ≡ Some number
  pub back : (path : List ℕ) (number : ℕ) → own_number old path ≡ Some number
      → is_row (rows_of first) path ≡ true → own_number first path ≡ Some number
  pub lists : (path : List ℕ) (number : ℕ) → subject_of path ≡ None
      → own_number old path ≡ Some number → IsListOf places number path
  pub numbers : (number : ℕ) (list : AccessList) → list_at places number ≡ Some list
      → own_number old list.at ≡ Some number
  pub owners : (number : ℕ) (list : AccessList) → list_at places number ≡ Some list
      → is_listed touched (list_path list.at) ≡ false
      → has_own_list (rows_of first) list.at ≡ true
  pub rules : (number : ℕ) (list : AccessList) → list_at places number ≡ Some list
      → is_listed touched (list_path list.at) ≡ false
      → list.rules.list ≡ list_rules base (rows_of first) list.at
  pub kept : (path : List ℕ) (item : Placed) → item_at first path ≡ Some item
      → is_listed touched path ≡ false
      → is_reached (changed_among old first touched) path ≡ false → HasRightMark first path item
