use Rattle.std.proofs.Common.{◌∙◌, ◌++◌, ap}
use Rattle.pod_core.specs.World.{Connection}
use Rattle.request_history.proofs.world_connection.Connection.copy_output.Goals as goal

pub returns : goal.returns
returns c = c.in_ok-append.ensures.appended ∙ ap (λ t. t ++ c.as_slice.result.now) c.new-output.ensures ∙ c.as_slice.ensures ∙ ap (λ (k : Connection). k.output) c.self.view_is
