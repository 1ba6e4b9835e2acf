-- The lines of a report are those of what is granted, and each of them checks.
use Rattle.std.proofs.Common.{◌≡◌, ℕ, Bool, true, false, cond, List, [], ◌∷◌, Option, Some, None, inl, inr, refl, sym, ap, ◌∙◌, subst}
use Rattle.std.specs.Prelude.{◌↔◌, All, Contains, is_some, option_and_then, bytes_eq, slice_get}
use Rattle.std.proofs.lemmas.Option.{same_Some}
use Rattle.std.proofs.lemmas.Slice.Eq.{bytes_eq-Decides}
use Rattle.acl_rules.specs.Rules.{rules_of, rule_of}
use Rattle.acl_rules.specs.declared.rule.How.{How}
use Rattle.acl_rules.specs.declared.rule.Rule.{Rule}
use Rattle.acl_rules.specs.declared.rule.Subject.{Subject}
use Rattle.acl_rules.proofs.NodeRules.{rule_nodes, own_rule, image_contains}
use Rattle.pod_access.specs.Bases.{basis_by, basis_of}
use Rattle.pod_access.specs.PodGrants.{PodGrants, GrantsBy, list_graph, membership}
use Rattle.pod_access.proofs.BasisLemmas.{has_basis}
use Rattle.pod_access.proofs.GraphGrants.{rules_of_graph, uri_governs}
use Rattle.pod_base.specs.declared.agent.Agent.{Agent}
use Rattle.pod_base.specs.declared.agent.Mode.{Mode}
use Rattle.pod_base.specs.declared.agent.Mode.TheVariants.{Read, Write, Append, Control}
use Rattle.pod_command.specs.declared.basis.Basis.{Basis}
use Rattle.pod_command.specs.declared.row.Row.{Row}
use Rattle.pod_path.specs.Hierarchy.{is_acl}
use Rattle.pod_rows.specs.Access.{Governs, governed, effective_of, list_path, rules_at}
use Rattle.pod_rows.specs.Pod.{Pod, is_at, row_at}
use Rattle.pod_rows.specs.WellFormed.{WellFormed}
use Rattle.rdf_graph.proofs.Members.{contains_cases, contains_here, contains_there, contains_none, All-from_members}
use Rattle.pod_access.specs.Decision.{allow_modes, basis_at, basis_in, first_ground, IsFirstGround, rule_grants, who_of}
use Rattle.pod_access.specs.declared.granting_rules.Ground.{Ground}
use Rattle.pod_access.proofs.Granting.{rule_node, some_is_granted}
use Rattle.pod_access.proofs.Grounds.{if_ground, if_rule_within, if_subject_within}
use Rattle.pod_access.proofs.Positions.{slice_get_member}
use Rattle.access_report.specs.Checked.{ChecksIn, Checks}
use Rattle.access_report.specs.Reports.{line_at, need, lines_at, lines_of, report_of, IsReported, HasLine}
use Rattle.access_report.specs.declared.line.Line.{Line}
use Rattle.access_report.proofs.CheckedRules.{checks_by, checks_in, checked_granted, named, own_kind}
use Rattle.access_report.proofs.Members.{comes, joins, found, finds, some_found}

abbrev line_of : List ℕ → Mode → Basis → Line
line_of path mode basis = record { path = path; mode = mode; basis = basis }

-- the basis of a rule and a subject in it
abbrev made_basis : List ℕ → Rule → Subject → Basis
made_basis at rule subject = record { acl = list_path at; rule = rule.node; who = who_of subject }

-- ---- a line checks

module _ (pod : Pod) (agent : Agent) (path : List ℕ) (mode : Mode) (basis : Basis) (at : List ℕ) (how : How) (w : WellFormed pod) (governs : effective_of pod.rows path ≡ Some (governed at how)) where
  abbrev ground : Option Ground
  ground = first_ground (membership pod) (rules_at pod at) how at agent mode

  by_ground : (first : Ground) → IsFirstGround (membership pod) (rules_at pod at) how at agent mode first → basis_at (rules_at pod at) first (list_path at) ≡ Some basis
      → ChecksIn pod agent (line_of path mode basis) (effective_of pod.rows path)
  by_ground first is e =
      let by_graph = rules_of_graph pod at in
      let made : basis_at (rules_at pod at) first (list_path at) ≡ Some (made_basis at is.rule is.subject) =
      ap (λ (o : Option Rule). option_and_then (λ (r : Rule). basis_in r (list_path at) (slice_get r.subjects first.subject)) o) is.is_rule
      ∙ ap (λ (o : Option Subject). basis_in is.rule (list_path at) o) is.is_subject in
      let same : made_basis at is.rule is.subject ≡ basis = same_Some _ _ (sym made ∙ e) in
      let among : Contains (rules_of pod.base (list_graph pod at)) is.rule = subst (λ (rs : List Rule). Contains rs is.rule) by_graph (slice_get_member (rules_at pod at) first.rule is.rule is.is_rule) in
      let own : is.rule ≡ rule_of pod.base (list_graph pod at) is.rule.node = own_rule pod.base (list_graph pod at) is.rule among in
      let node_rule = (rule_nodes pod.base (list_graph pod at) is.rule.node).0 (image_contains (λ (r : Rule). r.node) (rules_of pod.base (list_graph pod at)) is.rule among) in
      let grants = rule_node (membership pod) pod.base (list_graph pod at) how at agent mode is.rule.node node_rule (subst (λ (r : Rule). rule_grants (membership pod) how at agent mode r ≡ true) own is.grants) in
      let subject = subst (λ (r : Rule). Contains r.subjects is.subject) own (slice_get_member is.rule.subjects first.subject is.subject is.is_subject) in
      let as_who = named (membership pod) pod.base (list_graph pod at) is.rule.node agent (who_of is.subject) is.subject subject (own_kind is.subject) is.covers_agent in
      subst (λ (b : Basis). ChecksIn pod agent (line_of path mode b) (effective_of pod.rows path)) same
      (checks_in pod agent (line_of path mode (made_basis at is.rule is.subject)) at how w governs
      (checks_by pod agent (line_of path mode (made_basis at is.rule is.subject)) at how w governs refl (record { node_grants = grants; as_who = as_who })))

  of_ground : (o : Option Ground) → ground ≡ o → option_and_then (λ (x : Ground). basis_at (rules_at pod at) x (list_path at)) o ≡ Some basis → ChecksIn pod agent (line_of path mode basis) (effective_of pod.rows path)
  of_ground None e h = absurd cc
  of_ground (Some first) e h = by_ground first (if_ground (membership pod) (rules_at pod at) how at agent mode (Some first) (sym e)) h

  pub basis_checks : basis_by pod agent mode (governed at how) ≡ Some basis → ChecksIn pod agent (line_of path mode basis) (effective_of pod.rows path)
  basis_checks h = of_ground ground refl h

pub line_checks : (pod : Pod) (agent : Agent) (path : List ℕ) (mode : Mode) (basis : Basis) → WellFormed pod → basis_of pod agent (need path mode) ≡ Some basis
    → ChecksIn pod agent (line_of path mode basis) (effective_of pod.rows path)
unfolding basis_of
line_checks pod agent path mode basis w h = by_list (effective_of pod.rows path) refl h
  where
    by_list : (o : Option Governs) → effective_of pod.rows path ≡ o → option_and_then (basis_by pod agent mode) o ≡ Some basis → ChecksIn pod agent (line_of path mode basis) (effective_of pod.rows path)
    by_list None e h = absurd cc
    by_list (Some list) e h = basis_checks pod agent path mode basis list.at list.how w e h

-- ---- what is granted has a basis

pub granted_basis : (pod : Pod) (agent : Agent) (path : List ℕ) (mode : Mode) → WellFormed pod → PodGrants pod agent path mode → is_some (basis_of pod agent (need path mode)) ≡ true
granted_basis pod agent path mode w h = by_list (effective_of pod.rows path) refl h
  where
    by_list : (o : Option Governs) → effective_of pod.rows path ≡ o → GrantsBy pod agent mode o → is_some (basis_of pod agent (need path mode)) ≡ true
    by_list None e h = absurd h
    by_list (Some list) e h =
        let graph = list_graph pod list.at in
        let own = uri_governs pod path list w e in
        let some = (some_is_granted (membership pod) pod.base graph list.how list.at agent mode own).1 h in
        let first = first_ground (membership pod) (rules_at pod list.at) list.how list.at agent mode in
        let is : is_some first ≡ true = ap (λ (rs : List Rule). is_some (first_ground (membership pod) rs list.how list.at agent mode)) (rules_of_graph pod list.at) ∙ some in
        sym (has_basis pod agent (need path mode) list.at list.how (rules_at pod list.at) first e refl refl
        (if_rule_within (membership pod) (rules_at pod list.at) list.how list.at agent mode first refl)
        (if_subject_within (membership pod) (rules_at pod list.at) list.how list.at agent mode first refl)) ∙ is

-- ---- the lines of a report

-- a line of a report, and of which row it is
pub record IsLineOf (pod : Pod) (agent : Agent) (line : Line) : Type 0 where
  pub row : Row
  pub among : Contains pod.rows row
  pub no_list : is_acl row.path ≡ false
  pub mode : Mode
  pub basis : Basis
  pub is : basis_of pod agent (need row.path mode) ≡ Some basis
  pub line_is : line_of row.path mode basis ≡ line

pub line_from : (pod : Pod) (agent : Agent) (line : Line) → Contains (report_of pod agent) line → IsLineOf pod agent line
line_from pod agent line h =
    let row = comes (lines_of pod agent) pod.rows line h in
    by_list row.of row.among (is_acl row.of.path) refl row.in_its
  where
    by_basis : (row : Row) → Contains pod.rows row → is_acl row.path ≡ false → (mode : Mode) (o : Option Basis) → basis_of pod agent (need row.path mode) ≡ o → Contains (line_at row.path mode o) line → IsLineOf pod agent line
    by_basis row among plain mode None e h = absurd (contains_none line h)
    by_basis row among plain mode (Some basis) e h =
        elim (contains_cases (line_of row.path mode basis) [] line h) [
          | inl same ↦ record { row = row; among = among; no_list = plain; mode = mode; basis = basis; is = e; line_is = same }
          | inr none ↦ absurd (contains_none line none)
        ]

    by_list : (row : Row) → Contains pod.rows row → (b : Bool) → is_acl row.path ≡ b → Contains (cond b [] (lines_at pod agent row.path)) line → IsLineOf pod agent line
    by_list row among true e h = absurd (contains_none line h)
    by_list row among false e h =
        let mode = comes (λ (m : Mode). line_at row.path m (basis_of pod agent (need row.path m))) allow_modes line h in
        by_basis row among e mode.of (basis_of pod agent (need row.path mode.of)) refl mode.in_its

-- each mode is among the four
all_modes : (mode : Mode) → Contains allow_modes mode
all_modes Read = contains_here Read (Write ∷ Append ∷ Control ∷ [])
all_modes Write = contains_there Read (Write ∷ Append ∷ Control ∷ []) Write (contains_here Write (Append ∷ Control ∷ []))
all_modes Append = contains_there Read (Write ∷ Append ∷ Control ∷ []) Append (contains_there Write (Append ∷ Control ∷ []) Append (contains_here Append (Control ∷ [])))
all_modes Control =
    contains_there Read (Write ∷ Append ∷ Control ∷ []) Control (contains_there Write (Append ∷ Control ∷ []) Control (contains_there Append (Control ∷ []) Control (contains_here Control [])))

pub line_in : (pod : Pod) (agent : Agent) (row : Row) (mode : Mode) (basis : Basis) → Contains pod.rows row → is_acl row.path ≡ false → basis_of pod agent (need row.path mode) ≡ Some basis
    → Contains (report_of pod agent) (line_of row.path mode basis)
line_in pod agent row mode basis among plain is =
    let here : Contains (line_at row.path mode (basis_of pod agent (need row.path mode))) (line_of row.path mode basis) =
    subst (λ (o : Option Basis). Contains (line_at row.path mode o) (line_of row.path mode basis)) (sym is) (contains_here (line_of row.path mode basis) []) in
    let at : Contains (lines_at pod agent row.path) (line_of row.path mode basis) = joins (λ (m : Mode). line_at row.path m (basis_of pod agent (need row.path m))) allow_modes mode (line_of row.path mode basis) (all_modes mode) here in
    let of : Contains (lines_of pod agent row) (line_of row.path mode basis) = subst (λ (b : Bool). Contains (cond b [] (lines_at pod agent row.path)) (line_of row.path mode basis)) (sym plain) at in
    joins (lines_of pod agent) pod.rows row (line_of row.path mode basis) among of

equal_bytes : (xs : List ℕ) → bytes_eq xs xs ≡ true
equal_bytes xs = (bytes_eq-Decides xs xs).1 refl

reported : (pod : Pod) (row : Row) → Contains pod.rows row → is_acl row.path ≡ false → IsReported pod row.path
reported pod row among plain = record { row = finds (is_at row.path) pod.rows row among (equal_bytes row.path); no_list = plain }

-- which lines there are
pub has_line : (pod : Pod) (agent : Agent) (path : List ℕ) (mode : Mode) → WellFormed pod → HasLine (report_of pod agent) path mode ↔ (IsReported pod path × PodGrants pod agent path mode)
has_line pod agent path mode w = (forth, back)
  where
    of_line : (line : Line) → IsLineOf pod agent line → IsReported pod line.path × PodGrants pod agent line.path line.mode
    of_line line l =
        subst (λ (x : Line). IsReported pod x.path × PodGrants pod agent x.path x.mode) l.line_is
        (let is = reported pod l.row l.among l.no_list in (
          is,
          checked_granted pod agent (line_of l.row.path l.mode l.basis) (record { reported = is; basis = line_checks pod agent l.row.path l.mode l.basis w l.is }),
        ))

    forth : HasLine (report_of pod agent) path mode → IsReported pod path × PodGrants pod agent path mode
    forth h =
        let both = of_line h.line (line_from pod agent h.line h.among) in (
          subst (IsReported pod) h.path_is both.0,
          subst (λ (p : List ℕ). PodGrants pod agent p mode) h.path_is (subst (PodGrants pod agent h.line.path) h.mode_is both.1),
        )

    of_row : (row : Row) → Contains pod.rows row → row.path ≡ path → is_acl path ≡ false → PodGrants pod agent path mode → HasLine (report_of pod agent) path mode
    of_row row among same plain grants =
        let some = some_found (basis_of pod agent (need path mode)) (granted_basis pod agent path mode w grants) in
        let plain_row : is_acl row.path ≡ false = ap is_acl same ∙ plain in
        let is : basis_of pod agent (need row.path mode) ≡ Some some.0 = ap (λ (p : List ℕ). basis_of pod agent (need p mode)) same ∙ some.1 in
        record { line = line_of row.path mode some.0; among = line_in pod agent row mode some.0 among plain_row is; path_is = same; mode_is = refl }

    back : IsReported pod path × PodGrants pod agent path mode → HasLine (report_of pod agent) path mode
    back (is, grants) =
        let row = some_found (row_at pod.rows path) is.row in
        let at = found (is_at path) pod.rows row.0 row.1 in
        of_row row.0 at.among ((bytes_eq-Decides row.0.path path).0 at.passes) is.no_list grants

-- and each of them checks
pub all_check : (pod : Pod) (agent : Agent) → WellFormed pod → All (Checks pod agent) (report_of pod agent)
all_check pod agent w = All-from_members (Checks pod agent) (report_of pod agent) (λ line h. of_line line (line_from pod agent line h))
  where
    of_line : (line : Line) → IsLineOf pod agent line → Checks pod agent line
    of_line line l =
        subst (Checks pod agent) l.line_is
        (record { reported = reported pod l.row l.among l.no_list; basis = line_checks pod agent l.row.path l.mode l.basis w l.is })
