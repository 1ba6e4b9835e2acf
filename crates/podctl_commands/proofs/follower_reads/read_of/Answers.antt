use Rattle.std.proofs.Common.{arith}
use Rattle.podctl_commands.proofs.ReadForms.{fault_is, handed, no_head, no_request, read_is}
use Rattle.podctl_commands.proofs.follower_reads.read_of.Goals as goal

pub returns-in_err-agent-clause-none : goal.returns-in_err-agent-clause-none
returns-in_err-agent-clause-none c = λ e agent moment request r. no_head c.args.body.now c.in_err-agent.field-0.0 c.in_err-agent.ensures (fault_is c.from_residual.result c.in_err-agent.field-0.0 _ c.from_residual.ensures.1 e) agent moment request r

pub returns-in_err-request-clause-none : goal.returns-in_err-request-clause-none
returns-in_err-request-clause-none c = λ e agent moment request r. no_request c.args.body.now c.in_ok-agent.bytes.now c.in_ok-agent.agent c.in_ok-agent.seconds c.in_ok-agent.ensures (c.in_err-request.ensures.none (handed c.from_residual-in_err-request.result c.in_err-request.field-0.0 _ c.from_residual-in_err-request.ensures.1 e)) agent moment request r

pub returns-clause-some : goal.returns-clause-some
returns-clause-some c = read_is c.args.body.now c.in_ok-agent.bytes.now c.in_ok-agent.agent c.in_ok-agent.seconds c.in_ok-request.request (λ i. omega (arith, c.type_inv.body i)) c.in_ok-agent.ensures c.in_ok-request.ensures.some
