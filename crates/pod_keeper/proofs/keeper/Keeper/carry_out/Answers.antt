use Rattle.pod_keeper.proofs.Carried.{grown_follows, left_by_entry, leaves_planned, untouched}
use Rattle.pod_keeper.proofs.keeper.Keeper.carry_out.Goals as goal

pub returns-in-Ok-clause-follows : goal.returns-in-Ok-clause-follows
returns-in-Ok-clause-follows g c = λ history place doubt kept. grown_follows g.D.Disk.image c.args.self.now c.write_planned.new.self c.args.next c.in-Some.planned c.in-Some.is history place (c.in-Ok.ensures.grown history place doubt kept)

pub returns-in-Ok-clause-pairs : goal.returns-in-Ok-clause-pairs
returns-in-Ok-clause-pairs g c = λ history place doubt kept sure long. leaves_planned g.D.Disk.image c.args.self.now c.write_planned.new.self c.args.next c.in-Some.planned c.in-Some.is g.D.Disk.moment g.D.Disk.left_since history doubt
    (c.in-Ok.ensures.pairs history place doubt kept sure long)

pub returns-in-Err-clause-fault : goal.returns-in-Err-clause-fault
returns-in-Err-clause-fault g c = λ history place doubt kept. left_by_entry g.D.Disk.image c.args.self.now c.write_planned.new.self c.args.next c.in-Some.planned c.in-Some.is history place doubt (c.in-Err.ensures.fault history place doubt kept)

pub returns-in-Err-clause-pairs : goal.returns-in-Err-clause-pairs
returns-in-Err-clause-pairs g c = λ history place doubt kept sure long. leaves_planned g.D.Disk.image c.args.self.now c.write_planned.new.self c.args.next c.in-Some.planned c.in-Some.is g.D.Disk.moment g.D.Disk.left_since history doubt
    (c.in-Err.ensures.pairs history place doubt kept sure long)

pub returns-in-None-clause-pairs : goal.returns-in-None-clause-pairs
returns-in-None-clause-pairs g c = λ history place doubt kept sure long. untouched g.D.Disk.image g.D.Disk.moment g.D.Disk.left_since c.args.self.now g.D.Disk.only_now _ history place doubt kept sure

pub returns-in-Err-clause-counted : goal.returns-in-Err-clause-counted
returns-in-Err-clause-counted g c = c.in-Err.ensures.counted
