use Rattle.std.proofs.Common.{rules, ◌≡◌, sym, subst, Some, None}
use Rattle.pod_rows.specs.Access.{effective_of, governed, rules_at}
use Rattle.pod_rows.specs.Pod.{row_at}
use Rattle.row_pages.specs.Items.{item_at}
use Rattle.pod_pages.specs.State.{VersionState}
use Rattle.pod_pages.proofs.Placing.{row_found, row_none}
use Rattle.pod_pages.proofs.VersionLaws.{access_found, some_found}
use Rattle.pod_pages.proofs.version.Version.find_counted.Goals as goal

pub access-requires : goal.access-requires
access-requires g c =
    let i = c.self.inside in
    let found : item_at i.rows (g.P.Sought.text c.args.path.now) ≡ Some c.in-Some.item.now = search rules in
    some_found i.base i.rows i.table (g.P.Sought.text c.args.path.now) c.in-Some.item.now c.list.result c.self.invariant.resolved found c.list.ensures

pub returns-in-Some-clause-some : goal.returns-in-Some-clause-some
returns-in-Some-clause-some g c =
    let i = c.self.inside in
    let found : item_at i.rows (g.P.Sought.text c.args.path.now) ≡ Some c.in-Some.item.now = search rules in
    subst (λ (s : VersionState). row_at s.pod.rows (g.P.Sought.text c.args.path.now) ≡ Some c.row.result.now) c.self.view_is (sym (row_found i.rows (g.P.Sought.text c.args.path.now) c.in-Some.item.now c.row.result.now found c.row.ensures))

pub returns-in-Some-clause-governs : goal.returns-in-Some-clause-governs
returns-in-Some-clause-governs g c =
    let i = c.self.inside in
    let found : item_at i.rows (g.P.Sought.text c.args.path.now) ≡ Some c.in-Some.item.now = search rules in
    let access = access_found i.base i.rows i.table (g.P.Sought.text c.args.path.now) c.in-Some.item.now c.list.result c.is_own.result c.access.result.at.now c.access.result.rules.now c.access.result.how c.self.invariant.resolved found c.list.ensures c.is_own.ensures c.access.ensures.list c.access.ensures.how in
    subst (λ (s : VersionState). effective_of s.pod.rows (g.P.Sought.text c.args.path.now) ≡ Some (governed c.access.result.at.now c.access.result.how)) c.self.view_is access.governs

pub returns-in-Some-clause-rules : goal.returns-in-Some-clause-rules
returns-in-Some-clause-rules g c =
    let i = c.self.inside in
    let found : item_at i.rows (g.P.Sought.text c.args.path.now) ≡ Some c.in-Some.item.now = search rules in
    let access = access_found i.base i.rows i.table (g.P.Sought.text c.args.path.now) c.in-Some.item.now c.list.result c.is_own.result c.access.result.at.now c.access.result.rules.now c.access.result.how c.self.invariant.resolved found c.list.ensures c.is_own.ensures c.access.ensures.list c.access.ensures.how in
    subst (λ (s : VersionState). c.access.result.rules.now.list ≡ rules_at s.pod c.access.result.at.now) c.self.view_is access.rules

pub returns-in-None-clause-none : goal.returns-in-None-clause-none
returns-in-None-clause-none g c =
    let i = c.self.inside in
    let none : item_at i.rows (g.P.Sought.text c.args.path.now) ≡ None = search rules in
    subst (λ (s : VersionState). row_at s.pod.rows (g.P.Sought.text c.args.path.now) ≡ None) c.self.view_is (sym (row_none i.rows (g.P.Sought.text c.args.path.now) none))
