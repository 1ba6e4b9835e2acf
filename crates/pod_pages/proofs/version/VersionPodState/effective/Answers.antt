use Rattle.std.proofs.Common.{rules, ◌≡◌, ◌∙◌, sym, subst, refl, Some}
use Rattle.pod_rows.specs.Access.{effective_of, governed, rules_at}
use Rattle.row_pages.specs.Items.{item_at}
use Rattle.pod_pages.specs.Marks.{path_mark}
use Rattle.pod_pages.specs.State.{VersionState}
use Rattle.pod_pages.specs.Versions.{state_of}
use Rattle.pod_pages.proofs.VersionLaws.{access_found, some_found, access_walked, some_walked, always_walked}
use Rattle.pod_pages.proofs.version.VersionPodState.effective.Goals as goal

pub access-requires : goal.access-requires
access-requires c =
    let i = c.self.inside in
    let found : item_at i.rows c.args.path.now ≡ Some c.in-Some.item.now = search rules in
    some_found i.base i.rows i.table c.args.path.now c.in-Some.item.now c.list.result c.self.invariant.resolved found c.list.ensures

pub returns-in-Some-clause-governs : goal.returns-in-Some-clause-governs
returns-in-Some-clause-governs c =
    let i = c.self.inside in
    let found : item_at i.rows c.args.path.now ≡ Some c.in-Some.item.now = search rules in
    let access = access_found i.base i.rows i.table c.args.path.now c.in-Some.item.now c.list.result c.is_own.result c.access.result.at.now c.access.result.rules.now c.access.result.how c.self.invariant.resolved found c.list.ensures c.is_own.ensures c.access.ensures.list c.access.ensures.how in
    subst (λ (s : VersionState). effective_of s.pod.rows c.args.path.now ≡ Some (governed c.access.result.at.now c.access.result.how)) c.self.view_is access.governs

pub returns-in-Some-clause-rules : goal.returns-in-Some-clause-rules
returns-in-Some-clause-rules c =
    let i = c.self.inside in
    let found : item_at i.rows c.args.path.now ≡ Some c.in-Some.item.now = search rules in
    let access = access_found i.base i.rows i.table c.args.path.now c.in-Some.item.now c.list.result c.is_own.result c.access.result.at.now c.access.result.rules.now c.access.result.how c.self.invariant.resolved found c.list.ensures c.is_own.ensures c.access.ensures.list c.access.ensures.how in
    subst (λ (s : VersionState). c.access.result.rules.now.list ≡ rules_at s.pod c.access.result.at.now) c.self.view_is access.rules

pub access-requires-in-Some-path_mark : goal.access-requires-in-Some-path_mark
access-requires-in-Some-path_mark c =
    let i = c.self.inside in
    let found : path_mark i.rows c.args.path.now ≡ Some c.in-Some-path_mark.mark = sym c.path_mark.ensures ∙ c.in-Some-path_mark.is in
    some_walked (state_of i.next i.base i.owner i.rows i.effects.items i.oldest).pod i.rows i.table c.args.path.now c.in-Some-path_mark.mark c.self.invariant.well_formed refl c.self.invariant.resolved c.as_str.ensures.path found

pub unreachable-requires : goal.unreachable-requires
unreachable-requires c =
    let i = c.self.inside in
    always_walked (state_of i.next i.base i.owner i.rows i.effects.items i.oldest).pod i.rows i.table c.args.path.now c.self.invariant.well_formed refl c.self.invariant.resolved c.as_str.ensures.path (sym c.path_mark.ensures ∙ c.in-None-path_mark.is)

pub returns-in-Some-path_mark-clause-governs : goal.returns-in-Some-path_mark-clause-governs
returns-in-Some-path_mark-clause-governs c =
    let i = c.self.inside in
    let found : path_mark i.rows c.args.path.now ≡ Some c.in-Some-path_mark.mark = sym c.path_mark.ensures ∙ c.in-Some-path_mark.is in
    let access = access_walked (state_of i.next i.base i.owner i.rows i.effects.items i.oldest).pod i.rows i.table c.args.path.now c.in-Some-path_mark.mark c.access-in-Some-path_mark.result.at.now c.access-in-Some-path_mark.result.rules.now c.access-in-Some-path_mark.result.how c.self.invariant.well_formed refl c.self.invariant.resolved c.as_str.ensures.path found c.access-in-Some-path_mark.ensures.list c.access-in-Some-path_mark.ensures.how in
    subst (λ (s : VersionState). effective_of s.pod.rows c.args.path.now ≡ Some (governed c.access-in-Some-path_mark.result.at.now c.access-in-Some-path_mark.result.how)) c.self.view_is access.governs

pub returns-in-Some-path_mark-clause-rules : goal.returns-in-Some-path_mark-clause-rules
returns-in-Some-path_mark-clause-rules c =
    let i = c.self.inside in
    let found : path_mark i.rows c.args.path.now ≡ Some c.in-Some-path_mark.mark = sym c.path_mark.ensures ∙ c.in-Some-path_mark.is in
    let access = access_walked (state_of i.next i.base i.owner i.rows i.effects.items i.oldest).pod i.rows i.table c.args.path.now c.in-Some-path_mark.mark c.access-in-Some-path_mark.result.at.now c.access-in-Some-path_mark.result.rules.now c.access-in-Some-path_mark.result.how c.self.invariant.well_formed refl c.self.invariant.resolved c.as_str.ensures.path found c.access-in-Some-path_mark.ensures.list c.access-in-Some-path_mark.ensures.how in
    subst (λ (s : VersionState). c.access-in-Some-path_mark.result.rules.now.list ≡ rules_at s.pod c.access-in-Some-path_mark.result.at.now) c.self.view_is access.rules
