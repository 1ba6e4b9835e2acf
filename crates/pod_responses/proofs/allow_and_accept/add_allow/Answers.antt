use Rattle.std.proofs.Common.{◌≡◌, ◌++◌, ◌∷◌, [], ℕ, List, OnOk, ap, ap₂, sym, ◌∙◌, subst}
use Rattle.pod_responses.specs.Allow.{allow_text, taken_names}
use Rattle.pod_responses.specs.Responses.{allow}
use Rattle.pod_responses.proofs.allow_and_accept.add_allow.Goals as goal

pub returns : goal.returns
unfolding allow_text
returns c = subst (λ (names : List ℕ). OnOk c.add_static.result (c.add_static.new.fields ≡ c.args.fields.now ++ allow names ∷ [])) (c.taken_names-names.ensures ∙ ap₂ taken_names c.is_container.ensures c.is_removable.ensures) c.add_static.ensures
