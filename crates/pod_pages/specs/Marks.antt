-- How the items of a version tell which list governs a path.
use Rattle.std.specs.Prelude.{ℕ, Bool, true, false, List, [], ◌∷◌, Option, Some, None}
use Rattle.std.specs.Prelude.{if◌then◌else◌}
use Rattle.acl_rules.specs.declared.rule.How.{How}
use Rattle.acl_rules.specs.declared.rule.How.TheVariants.{Own, Inherited}
use Rattle.iri_ref.specs.Resolution.{up_to_last_slash}
use Rattle.pod_path.specs.Hierarchy.{is_container, subject_of, without_last_slash}
use Rattle.pod_rows.specs.Access.{about}
use Rattle.pod_rows.specs.Tree.{ancestors}
use Rattle.row_pages.specs.Items.{Placed, item_at}
use Rattle.pod_pages.specs.declared.row_marks.Mark.{Mark}

abbrev pub how_of : Bool → How
how_of true = Own
how_of false = Inherited

abbrev pub mark : ℕ → Bool → Mark
mark list own = record { list = list; own = own }

abbrev pub own_if : Bool → ℕ → Option ℕ
own_if true number = Some number
own_if false number = None

abbrev pub own_of : Option Placed → Option ℕ
own_of None = None
own_of (Some item) = own_if item.own item.list

-- The number of the list of a path that has one of its own, by the item at the path.
abbrev pub own_number : List Placed → List ℕ → Option ℕ
own_number items path = own_of (item_at items path)

abbrev pub or_number : Option ℕ → Option ℕ → Option ℕ
or_number None other = other
or_number (Some number) other = Some number

-- The number of the first of these paths that has one.
abbrev pub first_number : List Placed → List (List ℕ) → Option ℕ
first_number items [] = None
first_number items (path ∷ paths) = or_number (own_number items path) (first_number items paths)

-- The number of the list of a container, or else that of its nearest ancestor that has one.
abbrev pub number_within : List Placed → List ℕ → Option ℕ
number_within items path = or_number (own_number items path) (first_number items (ancestors path))

-- The text of the container above a path.
abbrev pub text_above : List ℕ → List ℕ
text_above path = up_to_last_slash (without_last_slash path)

-- What the own number makes of a path, or else the one above.
abbrev pub mark_by : Option ℕ → Option ℕ → Option Mark
mark_by (Some number) above = Some (mark number true)
mark_by None None = None
mark_by None (Some number) = Some (mark number false)

-- The number of the list that governs a text, and whether it is the text's own.
abbrev pub text_mark : List Placed → List ℕ → Option Mark
text_mark items text = mark_by (own_number items text) (first_number items (ancestors text))

-- An access list and a description have that of their subject.
abbrev pub path_mark : List Placed → List ℕ → Option Mark
path_mark items path = text_mark items (about path (subject_of path))

-- The item with a mark, if there is one.
abbrev pub with_mark : Placed → Option Mark → Placed
with_mark item None = item
with_mark item (Some found) = record { row = item.row; list = found.list; own = found.own }

-- The item with the mark of its path.
abbrev pub marked_by : List Placed → Placed → Placed
marked_by items item = with_mark item (path_mark items item.row.path)

-- The number of a text that is a container.
abbrev pub container_number : List Placed → List ℕ → Option ℕ
container_number items path = if is_container path then own_number items path else None
