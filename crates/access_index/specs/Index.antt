-- What an index keeps.
use Rattle.std.specs.Prelude.{◌≡◌, ℕ, Bool, List, IsTrue}
use Rattle.std.specs.List.{AllByRecursion}
use Rattle.acl_rules.specs.declared.rule.How.TheVariants.{Inherited}
use Rattle.pod_path.specs.Hierarchy.{root}
use Rattle.pod_path.specs.Norm.{IsPath}
use Rattle.access_index.specs.Governing.{has_list, IsEffective}
use Rattle.access_index.specs.Listing.{is_listed}
use Rattle.access_index.specs.Tables.{keys, AreInOrder, resolved_at}
use Rattle.access_index.specs.declared.path_table.Entry.{Entry}

-- What is resolved for the entry's path is the list that governs it.
abbrev pub IsResolved : (List ℕ → Bool) → Entry → Type 0
IsResolved is_row entry = IsEffective is_row entry.path entry.resolved

-- What those below inherit.
abbrev pub HandsDown : Entry → Type 0
HandsDown list = list.resolved ≡ resolved_at list.path Inherited

-- The table has the subjects of the rows that are access lists.
pub record AreListsOf (is_row : List ℕ → Bool) (lists : List Entry) : Type 0 where
  pub order : AreInOrder lists
  pub subjects : (path : List ℕ) → is_listed (keys lists) path ≡ has_list is_row path
  pub inherited : AllByRecursion HandsDown lists

-- The entries are resolved among their own paths, by the lists among these.
pub record AreTables (entries lists : List Entry) : Type 0 where
  pub order : AreInOrder entries
  pub are_lists : AreListsOf (is_listed (keys entries)) lists
  pub resolved : AllByRecursion (IsResolved (is_listed (keys entries))) entries
  pub paths : AllByRecursion IsPath (keys entries)

-- The root has a list.
pub record IsIndex (entries lists : List Entry) : Type 0 where
  pub tables : AreTables entries lists
  pub root : IsTrue (has_list (is_listed (keys entries)) root)
