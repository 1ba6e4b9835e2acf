use Rattle.pod_disk.proofs.OneMoreCall.{passes_made, content_made, content_missed, settles_made}
use Rattle.pod_disk.proofs.mem_disk.MemDisk.make.Goals as goal

pub returns-clause-passes : goal.returns-clause-passes
returns-clause-passes c = passes_made _ _ c.args.call _ c.attempt.ensures.makes

pub returns-clause-content : goal.returns-clause-content
returns-clause-content c = content_made _ _ c.args.call _ c.attempt.ensures.makes

pub returns-clause-kept : goal.returns-clause-kept
returns-clause-kept c = content_missed _ _ c.args.call _ c.attempt.ensures.makes

pub returns-clause-settles : goal.returns-clause-settles
returns-clause-settles c = settles_made _ _ c.args.call _ c.attempt.ensures.makes
