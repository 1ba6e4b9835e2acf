use Rattle.std.proofs.Common.{◌≡◌, ◌<◌, true, length, rules, arith}
use Rattle.n3_patch.specs.declared.fault.TheConstants.{CONDITIONS_LIMIT}
use Rattle.n3_patch.proofs.RuleLemmas.{free_first, many_first}
use Rattle.n3_patch.proofs.judging.judge_patterns.Goals as goal

pub returns-then-not-bound-clause-fault : goal.returns-then-not-bound-clause-fault
returns-then-not-bound-clause-fault c =
    free_first c.args.triples.now c.args.typing.now c.requires.found c.in-Ok.patch c.in-Ok.ensures c.requires.before
    (λ bound. let is : c.in-Ok-is_bound.bound ≡ true = c.in-Ok-is_bound.ensures.1 bound in cc)

pub returns-then-len-gt-CONDITIONS_LIMIT-clause-fault : goal.returns-then-len-gt-CONDITIONS_LIMIT-clause-fault
returns-then-len-gt-CONDITIONS_LIMIT-clause-fault c =
    let many : CONDITIONS_LIMIT < length c.in-Ok.patch.conditions.items = omega arith in
    many_first c.args.triples.now c.args.typing.now c.requires.found c.in-Ok.patch c.in-Ok.ensures c.requires.before
    (c.in-Ok-is_bound.ensures.0 (search rules)) many
