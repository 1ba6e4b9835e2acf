use Rattle.std.proofs.Common.{Some, None, ap, subst, ◌∙◌, arith}
use Rattle.load_generator.specs.declared.requests.TheConstants.{LOAD_MOMENT}
use Rattle.pod_pipe.specs.Memory.{memory_stands}
use Rattle.conn_talk.specs.declared.agents.Agents.TheVariants.{Owner}
use Rattle.pod_tool.specs.Fresh.{fresh_history}
use Rattle.pod_tool.specs.Loads.{load_history}
use Rattle.pod_tool.proofs.LoadLemmas.{loaded}
use Rattle.pod_tool.proofs.load_command.serve.Goals as goal

pub returns : goal.returns
returns c =
    let stands = subst (λ owner. memory_stands c.in_ok-pod.pod (fresh_history owner LOAD_MOMENT) None) c.in_ok-owner.ensures c.in_ok-pod.ensures.pod in
    loaded c.args.requests c.new-input.result.rest c.new-output.result.taken c.new-errors.result.taken c.pipe-piped.new.output.taken c.in_ok-pod.options (c.new-input.ensures.rest ∙ c.requires) c.new-output.ensures.taken c.new-errors.ensures.taken
    (c.in_ok-pod.ensures.owner ∙ ap Owner c.in_ok-owner.ensures) c.in_ok-pod.ensures.trail
    c.pipe-piped.result.end (c.is_served.ensures c.if-not-is_served.false) c.in_ok-pod.pod c.pipe-piped.result.holder c.count-rows.result (omega (arith, c.if-piped-ne0.false)) c.count-rows.ensures
    (Some c.pipe-piped.new.input.rest) (Some c.pipe-piped.new.errors.taken) _ _ (c.pipe-piped.ensures.pipes load_history None stands)
