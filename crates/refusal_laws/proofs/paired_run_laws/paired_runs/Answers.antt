use Rattle.refusal_laws.proofs.PairedTurns.{puts_change_one_path, stay_alike}
use Rattle.refusal_laws.proofs.paired_run_laws.paired_runs.Goals as goal

pub returns : goal.returns
returns c = record {
  runs = stay_alike c.applies.ensures.applies c.isolation_law.ensures.replies c.one_reply.ensures;
  puts = puts_change_one_path c.applies.ensures.applies c.isolation_law.ensures.replies c.one_reply.ensures;
}
