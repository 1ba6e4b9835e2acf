use Rattle.std.proofs.Common.{◌∙◌, sym}
use Rattle.std.proofs.lemmas.Map.Lookups.{exact_bytes}
use Rattle.std.proofs.lemmas.Result.{IfOk-weaker}
use Rattle.n3_patch.proofs.collected_triples.shared.Goals as goal

pub returns-in-Some : goal.returns-in-Some
returns-in-Some c =
    IfOk-weaker c.copy.result _ _ (λ t e. e ∙ sym (exact_bytes c.args.name c.in-Some.known.now c.in-Some.ensures.same_key)) c.copy.ensures
