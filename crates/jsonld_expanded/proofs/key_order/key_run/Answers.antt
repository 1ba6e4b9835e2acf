use Rattle.std.proofs.Common.{rules, arith}
use Rattle.jsonld_expanded.specs.Written.{same_key_by_ref}
use Rattle.jsonld_expanded.proofs.Runs.{ended_early, ended_last, one_more}
use Rattle.jsonld_expanded.proofs.key_order.key_run.Goals as goal

pub returns-then-not-has_same_key-clause-run : goal.returns-then-not-has_same_key-clause-run
returns-then-not-has_same_key-clause-run c =
    ended_early same_key_by_ref c.args.triples.now c.loop-len.len c.has_same_key.result c.loop-len.invariant c.has_same_key.ensures (search rules)

pub loop-len-preserved : goal.loop-len-preserved
loop-len-preserved c =
    one_more same_key_by_ref c.args.triples.now c.loop-len.len c.has_same_key.result c.loop-len.invariant (omega arith) c.has_same_key.ensures (search rules)

pub returns-clause-run : goal.returns-clause-run
returns-clause-run c = ended_last same_key_by_ref c.args.triples.now c.loop-len.len c.loop-len.invariant (omega arith)
