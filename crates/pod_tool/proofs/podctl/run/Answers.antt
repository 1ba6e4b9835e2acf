use Rattle.std.proofs.Common.{refl}
use Rattle.pod_pipe.proofs.CountedLemmas.{counted_at}
use Rattle.pod_tool.proofs.podctl.run.Goals as goal

-- `follow` reads no token table
pub returns-in-Follow-clause-counted : goal.returns-in-Follow-clause-counted
returns-in-Follow-clause-counted g c = counted_at _ _ _ _ refl c.follow_streams.ensures.counted
