use Rattle.std.proofs.Common.{◌≡◌, ◌++◌, ◌∷◌, [], ℕ, List, OnOk, subst}
use Rattle.pod_responses.specs.Responses.{accept_put}
use Rattle.pod_responses.proofs.allow_and_accept.add_accept_put.Goals as goal

pub returns : goal.returns
returns c = subst (λ (types : List ℕ). OnOk c.add_static.result (c.add_static.new.fields ≡ c.args.fields.now ++ accept_put types ∷ [])) c.put_types.ensures c.add_static.ensures
