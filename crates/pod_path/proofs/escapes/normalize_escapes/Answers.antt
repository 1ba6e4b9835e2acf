use Rattle.std.proofs.Common.{◌∙◌, ap, arith}
use Rattle.std.proofs.lemmas.List.{take_rest}
use Rattle.pod_path.specs.Escapes.{prepend, normalize_escapes}
use Rattle.pod_path.proofs.Escaping.{plain_step}
use Rattle.pod_path.proofs.escapes.normalize_escapes.Goals as goal

pub loop-rest-preserved-then-first-ne37 : goal.loop-rest-preserved-then-first-ne37
loop-rest-preserved-then-first-ne37 c =
    let rest = c.loop-rest.rest.now in
    ap (λ t. prepend c.push.new.self.items (normalize_escapes t)) (take_rest rest 1)
    ∙ plain_step c.loop-rest.bytes.items c.push.new.self.items rest (omega arith) c.if-first-ne37.true c.in_ok-push.ensures.items
    ∙ c.loop-rest.invariant
