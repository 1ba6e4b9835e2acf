use Rattle.std.proofs.lemmas.Result.{IfOk-weaker}
use Rattle.podctl_commands.proofs.OneFrame.{other_refused, read_answered, unfit_refused}
use Rattle.podctl_commands.proofs.one_frame.take_or_answer.Goals as goal

pub returns-in-Unfit-clause-none : goal.returns-in-Unfit-clause-none
returns-in-Unfit-clause-none c =
    let took = rw c.in-Unfit.is at c.in_ok-take.ensures.took in
    λ e text after reads. unfit_refused c.args.follower.now c.take.new.self c.args.body.now c.in-Unfit.seq took text after reads

pub returns-in-NotEntry-clause-none : goal.returns-in-NotEntry-clause-none
returns-in-NotEntry-clause-none c =
    let took = rw c.in-NotEntry.is at c.in_ok-take.ensures.took in
    IfOk-weaker c.answer_read.result _ _
    (λ found none e text after reads. other_refused c.args.follower.now c.take.new.self c.args.body.now took (λ state answer read. none e read.agent read.moment read.request read.is) text after reads)
    c.answer_read.ensures.none
