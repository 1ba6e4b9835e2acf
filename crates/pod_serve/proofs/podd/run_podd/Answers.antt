use Rattle.std.proofs.Common.{◌≡◌, Some, rules}
use Rattle.pod_serve.proofs.PoddLemmas.{disk_cause, run_causes}
use Rattle.pod_serve.proofs.podd.run_podd.Goals as goal

pub returns-clause-words : goal.returns-clause-words
returns-clause-words g c =
    let why = run_causes _ _ _ _ _ _ _ c.run_store-disks.ensures in
    (λ is. absurd (why.words is), λ none. absurd (cc (c.in-Some.ensures.reading, none)))

pub returns-clause-read_fault : goal.returns-clause-read_fault
returns-clause-read_fault g c = (run_causes _ _ _ _ _ _ _ c.run_store-disks.ensures).read

pub returns-clause-disk_fault : goal.returns-clause-disk_fault
returns-clause-disk_fault g c = λ is.
    let was : Some c.in-Some-take.disks ≡ c.args.place.now.disks = search (rules, c.in-Some-take.ensures.value) in
    disk_cause c.args.place.now.disks c.in-Some-take.disks c.run_store-disks.result.1 g.D.Disk.faults was ((run_causes _ _ _ _ _ _ _ c.run_store-disks.ensures).disk is)

pub returns-clause-view_fault : goal.returns-clause-view_fault
returns-clause-view_fault g c = (run_causes _ _ _ _ _ _ _ c.run_store-disks.ensures).view

pub returns-clause-listen_fault : goal.returns-clause-listen_fault
returns-clause-listen_fault g c = (run_causes _ _ _ _ _ _ _ c.run_store-disks.ensures).listen

pub returns-clause-no_output : goal.returns-clause-no_output
returns-clause-no_output g c = (run_causes _ _ _ _ _ _ _ c.run_store-disks.ensures).output
