use Rattle.std.proofs.Common.{Some, None, sym, ◌∙◌}
use Rattle.pod_pipe.proofs.StoredLemmas.{last_moment}
use Rattle.pod_pipe.proofs.stored_pod.StoredPod.change_moment.Goals as goal

pub returns-in-Some : goal.returns-in-Some
returns-in-Some g c = λ history doubt stands. c.moment_after.ensures ∙ last_moment history c.args.self.now.keeper.last (Some c.in-Some.last) c.args.moment.0 (sym c.in-Some.is ∙ c.last.ensures) stands.kept.last

pub returns-in-None : goal.returns-in-None
returns-in-None g c = λ history doubt stands. last_moment history c.args.self.now.keeper.last None c.args.moment.0 (sym c.in-None.is ∙ c.last.ensures) stands.kept.last
