use Rattle.token_table.specs.Credentials.{asked_view}
use Rattle.pod_keeper.proofs.Carried.{committed, commit_faulted, leaves_pods, leaves_none}
use Rattle.pod_keeper.proofs.EventRuns.{done_by_events, failed_by_events}
use Rattle.pod_keeper.proofs.keeper.Keeper.commit.Goals as goal

pub returns-in-Ok-carry_out-clause-done : goal.returns-in-Ok-carry_out-clause-done
returns-in-Ok-carry_out-clause-done g c = committed g.D.Disk.image g.D.Disk.moment g.D.Disk.left_since c.args.self.now c.args.request.now (asked_view c.args.asked.now) c.args.stamp c.in-Ok.plan c.in-Ok.ensures
    c.carry_out.new.self c.in-Ok-carry_out.ensures.follows

pub returns-in-Ok-carry_out-clause-pairs : goal.returns-in-Ok-carry_out-clause-pairs
returns-in-Ok-carry_out-clause-pairs g c = λ history place doubt kept sure long. leaves_pods g.D.Disk.image g.D.Disk.moment g.D.Disk.left_since c.args.self.now c.args.request.now (asked_view c.args.asked.now) c.args.stamp c.in-Ok.plan c.in-Ok.ensures
    c.carry_out.new.self history place doubt kept (c.in-Ok-carry_out.ensures.pairs history place doubt kept sure long)

pub returns-in-Err-carry_out-clause-fault : goal.returns-in-Err-carry_out-clause-fault
returns-in-Err-carry_out-clause-fault g c = λ _. commit_faulted g.D.Disk.image g.D.Disk.moment g.D.Disk.left_since c.args.self.now c.args.request.now (asked_view c.args.asked.now) c.args.stamp c.in-Ok.plan c.in-Ok.ensures
    c.carry_out.new.self c.in-Err-carry_out.ensures.fault

pub returns-in-Err-carry_out-clause-pairs : goal.returns-in-Err-carry_out-clause-pairs
returns-in-Err-carry_out-clause-pairs g c = λ history place doubt kept sure long. leaves_pods g.D.Disk.image g.D.Disk.moment g.D.Disk.left_since c.args.self.now c.args.request.now (asked_view c.args.asked.now) c.args.stamp c.in-Ok.plan c.in-Ok.ensures
    c.carry_out.new.self history place doubt kept (c.in-Err-carry_out.ensures.pairs history place doubt kept sure long)

pub returns-in-Err-clause-pairs : goal.returns-in-Err-clause-pairs
returns-in-Err-clause-pairs g c = λ history place doubt kept sure long. leaves_none g.D.Disk.image g.D.Disk.moment g.D.Disk.left_since c.args.self.now g.D.Disk.only_now c.args.request.now (asked_view c.args.asked.now) c.args.stamp history place doubt kept sure

pub returns-in-Ok-carry_out-clause-world_done : goal.returns-in-Ok-carry_out-clause-world_done
returns-in-Ok-carry_out-clause-world_done g c = λ history place doubt kept. done_by_events g.D.Disk.image c.args.self.now c.carry_out.new.self history place doubt kept c.args.request.now (asked_view c.args.asked.now) c.args.stamp c.requires.change
    c.in-Ok.plan.answer.response c.in-Ok.plan.answer.place
    (committed g.D.Disk.image g.D.Disk.moment g.D.Disk.left_since c.args.self.now c.args.request.now (asked_view c.args.asked.now) c.args.stamp c.in-Ok.plan c.in-Ok.ensures
    c.carry_out.new.self c.in-Ok-carry_out.ensures.follows history place doubt kept)

pub returns-in-Err-carry_out-clause-world_fault : goal.returns-in-Err-carry_out-clause-world_fault
returns-in-Err-carry_out-clause-world_fault g c = λ _ history place doubt kept. failed_by_events g.D.Disk.image c.args.self.now c.carry_out.new.self history place doubt kept c.args.request.now (asked_view c.args.asked.now) c.args.stamp c.requires.change
    (commit_faulted g.D.Disk.image g.D.Disk.moment g.D.Disk.left_since c.args.self.now c.args.request.now (asked_view c.args.asked.now) c.args.stamp c.in-Ok.plan c.in-Ok.ensures
    c.carry_out.new.self c.in-Err-carry_out.ensures.fault history place doubt kept)
