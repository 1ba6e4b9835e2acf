use Rattle.std.proofs.Common.{◌≡◌, ◌++◌, ◌+◌, ◌<◌, ◌^◌, true, sym, ◌∙◌, ap, subst, arith, string_bytes}
use Rattle.std.proofs.lemmas.Result.{IfOk-weaker}
use Rattle.pod_path.specs.Hierarchy.{IsPlainName, member_text}
use Rattle.pod_path.specs.Norm.{norm, IsLimitFault}
use Rattle.pod_path.specs.Norm as norms
use Rattle.slug_naming.specs.Names.{IsFreeName, candidate}
use Rattle.slug_naming.proofs.CandidateLemmas.{base_open, found, candidate_plain, fails, both_faults}
use Rattle.slug_naming.proofs.name_candidates.choose.Goals as goal

pub first_free-requires-clause-base : goal.first_free-requires-clause-base
first_free-requires-clause-base g c =
    let whole : c.as_str-3.result.now ≡ c.args.container.now ++ string_bytes c.in_ok-name.name =
    c.as_str-3.ensures.value ∙ c.in_ok-base.ensures ∙ ap (λ t. t ++ c.as_str-2.result.now) c.as_str.ensures.text ∙ ap (λ t. c.args.container.now ++ t) c.as_str-2.ensures.value in
    base_open c.args.container.now (string_bytes c.in_ok-name.name) c.as_str-3.result.now whole (c.in_ok-name.ensures.plain true)

-- the member's path is that of the first free candidate
pub returns-clause-path : goal.returns-clause-path
returns-clause-path g c =
    let stem = string_bytes c.in_ok-name.name in
    let whole : c.as_str-3.result.now ≡ c.args.container.now ++ stem =
    c.as_str-3.ensures.value ∙ c.in_ok-base.ensures ∙ ap (λ t. t ++ c.as_str-2.result.now) c.as_str.ensures.text ∙ ap (λ t. c.args.container.now ++ t) c.as_str-2.ensures.value in
    let named : c.as_str-4.result.now ≡ candidate stem c.in_ok-number.number = c.as_str-4.ensures.value ∙ c.in_ok-push_end.ensures in
    let fits : c.in_ok-number.number + 1 < 2 ^ 64 = omega (arith, c.in_ok-number.ensures.limit) in
    let plain : IsPlainName c.as_str-4.result.now c.args.folder = subst (λ t. IsPlainName t c.args.folder) (sym named) (candidate_plain stem c.in_ok-number.number c.in_ok-name.ensures.plain fits c.args.folder) in
    IfOk-weaker c.child.result _ _ (λ path e. subst (λ s. IsFreeName (g.T.Taken.is_row c.args.taken.now) c.args.container.now s c.args.folder path) c.in_ok-name.ensures.text
    (found (g.T.Taken.is_row c.args.taken.now) c.args.container.now stem c.as_str-3.result.now path c.args.folder c.in_ok-number.number whole c.requires.container c.in_ok-name.ensures.plain fits
    c.in_ok-number.ensures.number (e ∙ ap (λ t. member_text c.args.container.now t c.args.folder) named)))
    (c.child.ensures.plain plain)

-- it is the one that passes a limit
pub returns-clause-fault : goal.returns-clause-fault
returns-clause-fault g c =
    let stem = string_bytes c.in_ok-name.name in
    let whole : c.as_str-3.result.now ≡ c.args.container.now ++ stem =
    c.as_str-3.ensures.value ∙ c.in_ok-base.ensures ∙ ap (λ t. t ++ c.as_str-2.result.now) c.as_str.ensures.text ∙ ap (λ t. c.args.container.now ++ t) c.as_str-2.ensures.value in
    let named : c.as_str-4.result.now ≡ candidate stem c.in_ok-number.number = c.as_str-4.ensures.value ∙ c.in_ok-push_end.ensures in
    let fits : c.in_ok-number.number + 1 < 2 ^ 64 = omega (arith, c.in_ok-number.ensures.limit) in
    let plain : IsPlainName c.as_str-4.result.now c.args.folder = subst (λ t. IsPlainName t c.args.folder) (sym named) (candidate_plain stem c.in_ok-number.number c.in_ok-name.ensures.plain fits c.args.folder) in
    let path = member_text c.args.container.now c.as_str-4.result.now c.args.folder in
    let is : IsFreeName (g.T.Taken.is_row c.args.taken.now) c.args.container.now _ c.args.folder path = subst (λ s. IsFreeName (g.T.Taken.is_row c.args.taken.now) c.args.container.now s c.args.folder path) c.in_ok-name.ensures.text
    (found (g.T.Taken.is_row c.args.taken.now) c.args.container.now stem c.as_str-3.result.now path c.args.folder c.in_ok-number.number whole c.requires.container c.in_ok-name.ensures.plain fits
    c.in_ok-number.ensures.number (ap (λ t. member_text c.args.container.now t c.args.folder) named)) in
    both_faults IsLimitFault (λ fault. norms.FailsAs fault (norm path)) _ c.child.result (c.child.ensures.limits plain) c.child.ensures.fault (λ fault l e. fails _ path is fault l e)
