-- What an agent may do in a pod, as a list of lines: who has which mode where, and by which rule.
use Rattle.std.specs.Prelude.{◌≡◌, ℕ, false, if◌then◌else◌, List, [], ◌∷◌, Option, Some, None}
use Rattle.std.specs.Prelude.{Contains, IsTrue}
use Rattle.std.specs.List.{flat_map}
use Rattle.pod_base.specs.declared.agent.Agent.{Agent}
use Rattle.pod_base.specs.declared.agent.Mode.{Mode}
use Rattle.pod_command.specs.declared.basis.Basis.{Basis}
use Rattle.pod_command.specs.declared.row.Row.{Row}
use Rattle.pod_path.specs.Hierarchy.{is_acl}
use Rattle.pod_access.specs.Decision.{allow_modes}
use Rattle.pod_access.specs.declared.request_needs.Need.{Need}
use Rattle.pod_access.specs.Bases.{basis_of}
use Rattle.pod_rows.specs.Pod.{Pod, is_row}
use Rattle.access_report.specs.declared.line.Line.{Line}

-- the line of a mode at a path, where it has a basis
abbrev pub line_at : List ℕ → Mode → Option Basis → List Line
line_at path mode None = []
line_at path mode (Some basis) = record { path = path; mode = mode; basis = basis } ∷ []

abbrev pub need : List ℕ → Mode → Need
need path mode = record { path = path; mode = mode }

-- the lines of a path, in the order read, write, append, control
abbrev pub lines_at : Pod → Agent → List ℕ → List Line
lines_at pod agent path =
    flat_map (λ mode. line_at path mode (basis_of pod agent (need path mode))) allow_modes

-- the lines of a row: an access list has none
abbrev pub lines_of : Pod → Agent → Row → List Line
lines_of pod agent row = if is_acl row.path then [] else lines_at pod agent row.path

-- The report of an agent: the lines of all rows, in byte order of their paths.
abbrev pub report_of : Pod → Agent → List Line
report_of pod agent = flat_map (lines_of pod agent) pod.rows

-- the path is a row, and no access list
pub record IsReported (pod : Pod) (path : List ℕ) : Type 0 where
  pub row : IsTrue (is_row pod.rows path)
  pub no_list : is_acl path ≡ false

-- there is a line of the mode at the path
pub record HasLine (lines : List Line) (path : List ℕ) (mode : Mode) : Type 0 where
  pub line : Line
  pub among : Contains lines line
  pub path_is : line.path ≡ path
  pub mode_is : line.mode ≡ mode
