-- The table of the access lists of a version, by their numbers.
use Rattle.std.specs.Prelude.{ℕ, List, Option, None, slice_index_or}
use Rattle.pod_pages.specs.declared.list_table.AccessList.{AccessList}

-- The list with a number. A number without a list is free.
abbrev pub list_at : List (Option AccessList) → ℕ → Option AccessList
list_at lists number = slice_index_or lists number None
