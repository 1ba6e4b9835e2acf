use Rattle.std.proofs.Common.{[], ◌∷◌, Option, ℕ, subst}
use Rattle.std.specs.Option.{MatchOption}
use Rattle.std.proofs.lemmas.Result.{on_ok_weaker}
use Rattle.journal_log.specs.Frames.{framed_of}
use Rattle.journal_log.specs.Walking.{prefix_of, IsReadToEnd, HasTornGate}
use Rattle.journal_log.specs.Gates.{IsGated, IsOpening}
use Rattle.journal_log.proofs.GateWrites.{written_gate}
use Rattle.journal_log.proofs.WriteRuns.{over_run}
use Rattle.journal_log.proofs.OpenRuns.{gated, clean_normalized, normalizing}
use Rattle.journal_log.proofs.opening.normalize_gate.Goals as goal

pub returns-in-Some-clause-moments : goal.returns-in-Some-clause-moments
returns-in-Some-clause-moments g c =
    let content = g.D.Disk.content c.args.disk.now in
    let f = c.args.found.now in
    let found = subst (λ (m : Option ℕ). MatchOption m (IsReadToEnd content f.head f.records.items f.end) (HasTornGate content f.head f.records.items f.end)) c.in-Some.is c.requires.found.gates in
    normalizing g.D.Disk.image g.D.Disk.moment g.D.Disk.left_since content f.head f.records.items f.end c.in-Some.at _ _ c.requires.durable found c.write_through.ensures.torn

pub returns-in-Some-clause-clean : goal.returns-in-Some-clause-clean
returns-in-Some-clause-clean g c =
    let content = g.D.Disk.content c.args.disk.now in
    let f = c.args.found.now in
    let found = subst (λ (m : Option ℕ). MatchOption m (IsReadToEnd content f.head f.records.items f.end) (HasTornGate content f.head f.records.items f.end)) c.in-Some.is c.requires.found.gates in
    let prefix = prefix_of f.head found.before in
    let here = gated g.D.Disk.image g.D.Disk.moment g.D.Disk.left_since content f.head f.records.items f.end c.in-Some.at c.args.disk.now c.args.disk.now c.requires.durable found in
    on_ok_weaker c.write_through.result (λ written.
    clean_normalized g.D.Disk.image g.D.Disk.moment g.D.Disk.left_since content f.head f.records.items f.end c.in-Some.at c.args.disk.now _ c.requires.durable found
    (over_run g.D.Disk.content g.D.Disk.image c.args.disk.now c.write_through.new.disk c.in-Some.at (1 ∷ []) (IsOpening prefix (framed_of found.last)) (IsGated prefix 1 (framed_of found.last))
    (g.D.Disk.reads_image _) (λ b opening. written_gate prefix (framed_of found.last) b c.in-Some.at 1 found.is_prefix.ends opening) (λ c' now. (found.gate, here c' now)) written))
    c.write_through.ensures.written
