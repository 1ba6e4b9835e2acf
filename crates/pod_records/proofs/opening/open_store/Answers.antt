use Rattle.std.proofs.Common.{arith}
use Rattle.journal_pair.specs.Causes.{IfBothVisible}
use Rattle.journal_pair.specs.Stores.{StoreStands}
use Rattle.pod_records.proofs.OpenCauses.{gate_within, if_ok_has, of_frames}
use Rattle.pod_records.proofs.opening.open_store.Goals as goal

pub read_pair-requires-clause-room : goal.read_pair-requires-clause-room
read_pair-requires-clause-room g c = omega (arith, gate_within _ c.in-Ok.pair.journal c.in-Ok.records.items c.in-Ok.ensures.clean.journal, c.len-len.ensures, c.len-len.type_inv)

pub returns-in-Ok-clause-stands : goal.returns-in-Ok-clause-stands
returns-in-Ok-clause-stands g c = if_ok_has c.read_pair.result (λ o. o.pair) (λ o. o.records.items) c.in-Ok.pair c.in-Ok.records.items
    (λ p b. IfBothVisible (g.D.Disk.content c.args.first.now) (g.D.Disk.content c.args.second.now) (StoreStands p.active p.journal.format p.journal.epoch b))
    c.read_pair.ensures.pair c.read_pair.ensures.records c.in-Ok.ensures.records

pub returns-in-Err-clause-cause : goal.returns-in-Err-clause-cause
returns-in-Err-clause-cause g c = of_frames (g.D.Disk.content c.args.first.now) (g.D.Disk.content c.args.second.now) _ _ _ _ c.in-Err.fault c.in-Err.ensures.cause
