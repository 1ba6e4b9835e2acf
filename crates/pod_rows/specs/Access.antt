-- Which access list governs a path (Web Access Control, effective ACL resource).
use Rattle.std.specs.Prelude.{ℕ, Bool, List, [], ◌++◌, Option, Some, None, codes}
use Rattle.std.specs.Prelude.{if◌then◌else◌}
use Rattle.std.specs.List.{find}
use Rattle.pod_path.specs.Hierarchy.{subject_of}
use Rattle.acl_rules.specs.Rules.{rules_of}
use Rattle.acl_rules.specs.declared.rule.How.{How}
use Rattle.acl_rules.specs.declared.rule.How.TheVariants.{Own, Inherited}
use Rattle.acl_rules.specs.declared.rule.Rule.{Rule}
use Rattle.pod_command.specs.declared.row.Content.{Content}
use Rattle.pod_command.specs.declared.row.Content.TheVariants as contents
use Rattle.pod_command.specs.declared.row.Row.{Row}
use Rattle.pod_rows.specs.Pod.{Pod, row_at, is_row}
use Rattle.pod_rows.specs.Tree.{ancestors}

-- The path of the access list of what is no auxiliary.
abbrev pub list_path : List ℕ → List ℕ
list_path path = path ++ codes ".acl"

-- Has the path an access list of its own?
abbrev pub has_own_list : List Row → List ℕ → Bool
has_own_list rows path = is_row rows (list_path path)

-- Whose access list governs a path, and whether that is the path itself.
pub record Governs : Type 0 where
  pub at : List ℕ
  pub how : How

abbrev pub governed : List ℕ → How → Governs
governed at how = record { at = at; how = how }

-- What an access list or a description is about, and every other path itself.
abbrev pub about : List ℕ → Option (List ℕ) → List ℕ
about path None = path
about path (Some subject) = subject

abbrev pub inherited : Option (List ℕ) → Option Governs
inherited None = None
inherited (Some at) = Some (governed at Inherited)

-- The own list of a path that is no auxiliary, or else that of its nearest ancestor with one.
abbrev pub governs : List Row → List ℕ → Option Governs
governs rows path = if has_own_list rows path then Some (governed path Own)
    else inherited (find (has_own_list rows) (ancestors path))

-- An auxiliary is governed as its subject is. In a well-formed pod every path is governed, since
-- the root has a list.
abbrev pub effective_of : List Row → List ℕ → Option Governs
effective_of rows path = governs rows (about path (subject_of path))

-- The rules of a content: none where it holds bytes.
abbrev pub rules_in : List ℕ → Content → List Rule
rules_in base (contents.Graph triples) = rules_of base triples
rules_in base (contents.Bytes ctype bytes) = []

-- The rules of a row: none where there is no row.
abbrev pub rules_of_row : List ℕ → Option Row → List Rule
rules_of_row base None = []
rules_of_row base (Some row) = rules_in base row.content

-- The rules of the access list of a path.
abbrev pub rules_at : Pod → List ℕ → List Rule
rules_at pod at = rules_of_row pod.base (row_at pod.rows (list_path at))
