-- Which modes a request needs, and where. These rights are this project's own.
use Rattle.std.specs.Prelude.{ℕ, Bool, true, false, ◌&&◌, ◌||◌, not, bytes_eq, if◌then◌else◌}
use Rattle.std.specs.Prelude.{List, [], ◌∷◌, ◌++◌}
use Rattle.std.specs.Prelude.{map, fold, Option, Some, None, unwrap_or}
use Rattle.std.specs.List.{list_any}
use Rattle.pod_base.specs.declared.agent.Mode.{Mode}
use Rattle.pod_base.specs.declared.agent.Mode.TheVariants.{Read, Append, Write, Control}
use Rattle.pod_base.specs.declared.method.Method.{Method}
use Rattle.pod_base.specs.declared.method.Method.TheVariants.{Get, Head, Options, Post, Put, Patch}
use Rattle.pod_base.specs.declared.method.Method.TheVariants.{Delete, Other}
use Rattle.pod_path.specs.Hierarchy.{is_acl, is_meta, parent_of, subject_of}
use Rattle.pod_access.specs.declared.request_needs.Need.{Need}
use Rattle.pod_access.specs.declared.request_needs.Shape.{Shape}

-- These modes on a path.
abbrev pub on : List ℕ → List Mode → List Need
on path modes = map (λ mode. record { path = path; mode = mode }) modes

abbrev pub on_parent : Option (List ℕ) → List Mode → List Need
on_parent None modes = []
on_parent (Some parent) modes = on parent modes

-- PATCH: Read for conditions; Append for insertions, or where there are neither insertions nor
-- deletions; Read and Write for deletions.
abbrev pub patch_modes : Shape → List Mode
patch_modes s = (if s.conditions then Read ∷ [] else [])
    ++ ((if s.insertions || (not s.insertions && not s.deletions) then Append ∷ [] else [])
    ++ (if s.deletions then Read ∷ Write ∷ [] else []))

-- A new row at p: Append on p and on the nearest existing ancestor.
abbrev pub new_row_needs : Shape → List Need
new_row_needs s = on s.path (Append ∷ []) ++ on s.above (Append ∷ [])

-- A request for p, which is no ACL and no description.
abbrev pub resource_needs : Method → Shape → List Need
resource_needs Get s = on s.path (Read ∷ [])
resource_needs Head s = on s.path (Read ∷ [])
resource_needs Put s = if s.exists then on s.path (Write ∷ []) else new_row_needs s
resource_needs Post s = on s.path (Append ∷ [])
resource_needs Patch s =
    on s.path (patch_modes s) ++ (if s.exists then [] else new_row_needs s)
resource_needs Delete s = on s.path (Write ∷ []) ++ on_parent (parent_of s.path) (Write ∷ [])
resource_needs Options s = []
resource_needs Other s = []

-- A request for a description, judged on its subject. A POST of one is refused before access is
-- decided, and has the need of its row.
abbrev pub description_needs : Method → Shape → List ℕ → List Need
description_needs Get s subject = on subject (Read ∷ [])
description_needs Head s subject = on subject (Read ∷ [])
description_needs Put s subject = on subject ((if s.exists then Write else Append) ∷ [])
description_needs Post s subject = on subject (Append ∷ [])
description_needs Patch s subject = on subject (patch_modes s)
description_needs Delete s subject = on subject (Write ∷ [])
description_needs Options s subject = []
description_needs Other s subject = []

-- Preconditions compare with what exists.
abbrev pub tag_modes : Shape → List Mode
tag_modes s = if s.tags then Read ∷ [] else []

-- All that a request needs that isn't OPTIONS, with repeats.
abbrev pub all_needs : Shape → Option (List ℕ) → List Need
all_needs s None = resource_needs s.method s ++ on s.path (tag_modes s)
all_needs s (Some subject) = if is_acl s.path then on subject (Control ∷ [])
    else description_needs s.method s subject ++ on subject (tag_modes s)

abbrev pub is_options : Method → Bool
is_options Options = true
is_options _ = false

-- Are they one need?
abbrev pub mode_eq : Mode → Mode → Bool
mode_eq Read Read = true
mode_eq Append Append = true
mode_eq Write Write = true
mode_eq Control Control = true
mode_eq _ _ = false

abbrev pub need_eq : Need → Need → Bool
need_eq a b = mode_eq a.mode b.mode && bytes_eq a.path b.path

-- The needs and one more, unless it is among them.
abbrev pub with_need : List Need → Need → List Need
with_need needs need = if list_any (need_eq need) needs then needs else needs ++ need ∷ []

-- Each need once, at its first position.
abbrev pub each_once : List Need → List Need
each_once needs = fold with_need [] needs

-- What a request needs, in the order of the table.
abbrev pub needs_of : Shape → List Need
needs_of s = if is_options s.method then [] else each_once (all_needs s (subject_of s.path))
