-- Which access list governs a path, by a test of which paths are rows (Web Access Control,
-- effective ACL resource).
use Rattle.std.specs.Prelude.{◌≡◌, ℕ, Bool, List, Option, Some, None, if◌then◌else◌}
use Rattle.std.specs.List.{find}
use Rattle.acl_rules.specs.declared.rule.How.TheVariants.{Own, Inherited}
use Rattle.pod_path.specs.Hierarchy.{subject_of}
use Rattle.pod_rows.specs.Access.{Governs, governed, inherited, about, list_path}
use Rattle.pod_rows.specs.Tree.{ancestors}
use Rattle.access_index.specs.declared.resolved_list.Resolved.{Resolved}

-- Has the path an access list of its own?
abbrev pub has_list : (List ℕ → Bool) → List ℕ → Bool
has_list is_row path = is_row (list_path path)

-- The own list of a path that is no auxiliary, or else that of its nearest ancestor with one.
abbrev pub governs_among : (List ℕ → Bool) → List ℕ → Option Governs
governs_among is_row path = if has_list is_row path then Some (governed path Own)
    else inherited (find (has_list is_row) (ancestors path))

-- An auxiliary is governed as its subject is.
abbrev pub effective_among : (List ℕ → Bool) → List ℕ → Option Governs
effective_among is_row path = governs_among is_row (about path (subject_of path))

-- What a path without a list of its own takes from its parent.
abbrev pub handed_down : Option Governs → Option Governs
handed_down None = None
handed_down (Some above) = Some (governed above.at Inherited)

-- What is resolved for a path is the list that governs it.
abbrev pub IsEffective : (List ℕ → Bool) → List ℕ → Resolved → Type 0
IsEffective is_row path resolved =
    effective_among is_row path ≡ Some (governed resolved.at resolved.how)
