use Rattle.std.proofs.Common.{rules, ◌≡◌, ◌∙◌, sym, ap, subst, Some, None, option_copied}
use Rattle.std.specs.List.{find}
use Rattle.pod_path.specs.Hierarchy.{subject_of}
use Rattle.pod_rows.specs.Access.{about}
use Rattle.pod_rows.specs.AclLists.{is_list_of, first_list, KeepsLists}
use Rattle.pod_rows.specs.State.{NumberedPod}
use Rattle.pod_rows.specs.Tree.{ancestors}
use Rattle.pod_rows.proofs.Governed.{kept_own, kept_above, kept_rules, always_governed, never_none}
use Rattle.pod_rows.proofs.plain_rows.PlainRowsPodState.effective.Goals as goal

pub unreachable-requires : goal.unreachable-requires
unreachable-requires c =
    let kept : KeepsLists c.args.self.now c.self.inside.lists.items = subst (λ (s : NumberedPod). KeepsLists s c.self.inside.lists.items) c.self.view_is c.self.invariant in
    let text : c.as_bytes-text.result.now ≡ about c.args.path.now (subject_of c.args.path.now) = search rules in
    let none : find (is_list_of c.as_bytes-text.result.now) c.as_slice-lists.result.now ≡ None = sym c.list_at.ensures ∙ ap option_copied c.in-None.is in
    let above : first_list c.as_slice-lists.result.now (ancestors c.as_bytes-text.result.now) ≡ None = sym c.inherited.ensures ∙ ap option_copied c.in-None-inherited.is in
    never_none _ (always_governed c.args.self.now.pod c.args.path.now kept.well_formed (search rules))
    (kept_above c.args.self.now c.self.inside.lists.items c.as_slice-lists.result.now c.args.path.now c.as_bytes-text.result.now None kept c.as_slice-lists.ensures.value text none above)

pub returns-in-Some-clause-governs : goal.returns-in-Some-clause-governs
returns-in-Some-clause-governs c =
    let kept : KeepsLists c.args.self.now c.self.inside.lists.items = subst (λ (s : NumberedPod). KeepsLists s c.self.inside.lists.items) c.self.view_is c.self.invariant in
    let text : c.as_bytes-text.result.now ≡ about c.args.path.now (subject_of c.args.path.now) = search rules in
    let found : find (is_list_of c.as_bytes-text.result.now) c.as_slice-lists.result.now ≡ Some c.in-Some.list.now = sym c.list_at.ensures ∙ ap option_copied c.in-Some.is in
    (kept_own c.args.self.now c.self.inside.lists.items c.as_slice-lists.result.now c.args.path.now c.as_bytes-text.result.now c.in-Some.list.now kept c.as_slice-lists.ensures.value text found).0

pub returns-in-Some-clause-rules : goal.returns-in-Some-clause-rules
returns-in-Some-clause-rules c =
    let kept : KeepsLists c.args.self.now c.self.inside.lists.items = subst (λ (s : NumberedPod). KeepsLists s c.self.inside.lists.items) c.self.view_is c.self.invariant in
    let text : c.as_bytes-text.result.now ≡ about c.args.path.now (subject_of c.args.path.now) = search rules in
    let found : find (is_list_of c.as_bytes-text.result.now) c.as_slice-lists.result.now ≡ Some c.in-Some.list.now = sym c.list_at.ensures ∙ ap option_copied c.in-Some.is in
    (kept_own c.args.self.now c.self.inside.lists.items c.as_slice-lists.result.now c.args.path.now c.as_bytes-text.result.now c.in-Some.list.now kept c.as_slice-lists.ensures.value text found).1

pub returns-in-Some-inherited-clause-governs : goal.returns-in-Some-inherited-clause-governs
returns-in-Some-inherited-clause-governs c =
    let kept : KeepsLists c.args.self.now c.self.inside.lists.items = subst (λ (s : NumberedPod). KeepsLists s c.self.inside.lists.items) c.self.view_is c.self.invariant in
    let text : c.as_bytes-text.result.now ≡ about c.args.path.now (subject_of c.args.path.now) = search rules in
    let none : find (is_list_of c.as_bytes-text.result.now) c.as_slice-lists.result.now ≡ None = sym c.list_at.ensures ∙ ap option_copied c.in-None.is in
    let above : first_list c.as_slice-lists.result.now (ancestors c.as_bytes-text.result.now) ≡ Some c.in-Some-inherited.list.now = sym c.inherited.ensures ∙ ap option_copied c.in-Some-inherited.is in
    kept_above c.args.self.now c.self.inside.lists.items c.as_slice-lists.result.now c.args.path.now c.as_bytes-text.result.now (Some c.in-Some-inherited.list.now) kept c.as_slice-lists.ensures.value text none above

pub returns-in-Some-inherited-clause-rules : goal.returns-in-Some-inherited-clause-rules
returns-in-Some-inherited-clause-rules c =
    let kept : KeepsLists c.args.self.now c.self.inside.lists.items = subst (λ (s : NumberedPod). KeepsLists s c.self.inside.lists.items) c.self.view_is c.self.invariant in
    let above : first_list c.as_slice-lists.result.now (ancestors c.as_bytes-text.result.now) ≡ Some c.in-Some-inherited.list.now = sym c.inherited.ensures ∙ ap option_copied c.in-Some-inherited.is in
    kept_rules c.args.self.now c.self.inside.lists.items c.as_slice-lists.result.now c.as_bytes-text.result.now c.in-Some-inherited.list.now kept c.as_slice-lists.ensures.value above
