use Rattle.std.proofs.Common.{rules, arith}
use Rattle.jsonld_expanded.specs.Document.{same_subject}
use Rattle.jsonld_expanded.proofs.Runs.{ended_early, ended_last, one_more}
use Rattle.jsonld_expanded.proofs.node_writing.subject_run.Goals as goal

pub returns-then-not-has_same_subject-clause-run : goal.returns-then-not-has_same_subject-clause-run
returns-then-not-has_same_subject-clause-run c =
    ended_early same_subject c.args.triples.now c.loop-len.len c.has_same_subject.result c.loop-len.invariant c.has_same_subject.ensures (search rules)

pub loop-len-preserved : goal.loop-len-preserved
loop-len-preserved c =
    one_more same_subject c.args.triples.now c.loop-len.len c.has_same_subject.result c.loop-len.invariant (omega arith) c.has_same_subject.ensures (search rules)

pub returns-clause-run : goal.returns-clause-run
returns-clause-run c = ended_last same_subject c.args.triples.now c.loop-len.len c.loop-len.invariant (omega arith)
