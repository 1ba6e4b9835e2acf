use Rattle.std.proofs.Common.{ℕ, ◌≤◌, ◌^◌, subst, sym}
use Rattle.pod_records.proofs.Snapshots.{encodable}
use Rattle.pod_rows.specs.WellFormed.{WellFormed}
use Rattle.pod_follow.proofs.follower.Follower.save.Goals as goal

pub encode_snapshot-requires : goal.encode_snapshot-requires
encode_snapshot-requires c =
    encodable c.in_ok-snapshot.snapshot (record {
      number = subst (λ (n : ℕ). n ≤ 2 ^ 63) (sym c.in_ok-snapshot.ensures.number) c.seq-next.ensures.most;
      pod = subst WellFormed (sym c.in_ok-snapshot.ensures.pod) c.is_well_formed.ensures;
    })
