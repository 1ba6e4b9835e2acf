use Rattle.std.proofs.Common.{◌∙◌, sym, ap}
use Rattle.pod_disk.specs.NotedCalls.{done_by}
use Rattle.pod_disk.proofs.OneMoreCall.{replay_done, replay_failed}
use Rattle.pod_disk.proofs.mem_disk.MemDisk.attempt.Goals as goal

pub invariant_of-self : goal.invariant_of-self
invariant_of-self c = c.self.invariant ∙ sym (replay_failed c.self.inside.first.items c.self.inside.noted.items _ c.args.call c.note_failed.ensures)

pub invariant_of-self-in-Ok : goal.invariant_of-self-in-Ok
invariant_of-self-in-Ok c =
    c.in-Ok.ensures.done
    ∙ ap (done_by c.args.call) c.self.invariant
    ∙ sym (replay_done c.self.inside.first.items c.self.inside.noted.items _ c.args.call c.in-Ok.ensures.noted)
