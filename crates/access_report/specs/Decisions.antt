-- internal: why each mode is granted by one access list
use Rattle.std.specs.Prelude.{◌≡◌, ◌&&◌, ◌++◌, ℕ, Bool, true, false, List, bytes_eq, nat_eq}
use Rattle.std.specs.List.{starts_with}
use Rattle.acl_rules.specs.declared.rule.How.{How}
use Rattle.acl_rules.specs.declared.rule.How.TheVariants.{Own, Inherited}
use Rattle.pod_base.specs.declared.agent.Agent.{Agent}
use Rattle.pod_base.specs.declared.agent.Mode.TheVariants.{Read, Write, Append, Control}
use Rattle.pod_access.specs.Bases.{basis_by}
use Rattle.pod_rows.specs.Access.{governed}
use Rattle.pod_rows.specs.Pod.{Pod}
use Rattle.access_report.specs.Reports.{line_at}
use Rattle.access_report.specs.declared.decision.Decision.{Decision}
use Rattle.access_report.specs.declared.line.Line.{Line}

-- each basis is that of the list
pub record IsDecision (pod : Pod) (agent : Agent) (d : Decision) : Type 0 where
  pub read : d.read ≡ basis_by pod agent Read (governed d.at d.how)
  pub write : d.write ≡ basis_by pod agent Write (governed d.at d.how)
  pub append : d.append ≡ basis_by pod agent Append (governed d.at d.how)
  pub control : d.control ≡ basis_by pod agent Control (governed d.at d.how)

abbrev pub how_eq : How → How → Bool
how_eq Own Own = true
how_eq Inherited Inherited = true
how_eq _ _ = false

-- Is the decision that of this list?
abbrev pub is_of : List ℕ → How → Decision → Bool
is_of at how d = how_eq d.how how && bytes_eq d.at at

-- Does the path begin with that of the decision's list?
abbrev pub is_above : List ℕ → Decision → Bool
is_above path d = starts_with nat_eq path d.at

-- the lines of a path that the list of the decision governs
abbrev pub lines_by : List ℕ → Decision → List Line
lines_by path d = line_at path Read d.read ++ (line_at path Write d.write
    ++ (line_at path Append d.append ++ line_at path Control d.control))
