use Rattle.std.proofs.Common.{rules}
use Rattle.pod_serve.proofs.desk.serve_beside.Goals as goal

pub returns : goal.returns
returns g c = λ i d less.
    let at = (c.for_each_mut.ensures i d less).1 in
    search (at.call, at.argument_is, at.left, rules)
