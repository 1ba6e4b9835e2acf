-- Places of a history, and what is stored from there on.
use Rattle.std.proofs.Common.{◌≡◌, ℕ, ◌-◌, List, take, drop, refl, ap, subst, arith}
use Rattle.pod_command.specs.declared.entry.Entry.{Entry}
use Rattle.pod_command.specs.declared.snapshot.Snapshot.{Snapshot}
use Rattle.pod_core.specs.History.{IsHistory}
use Rattle.pod_keeper.specs.Stored.{IsStored, history_of}
use Rattle.pod_records.specs.Records.{Holds}
use Rattle.pod_rows.specs.Apply.{replayed}
use Rattle.pod_rows.specs.WellFormed.{pod_of}

-- what records hold is a history that begins with their snapshot
pub held_history : (format : ℕ) (bodies : List (List ℕ)) (snapshot : Snapshot) (entries : List Entry) → Holds format bodies snapshot entries → IsHistory (history_of snapshot entries)
held_history format bodies snapshot entries h = record { well_formed = h.well_formed.pod; apply = h.apply }

pub held_from_start : (format : ℕ) (bodies : List (List ℕ)) (snapshot : Snapshot) (entries : List Entry) → Holds format bodies snapshot entries → IsStored (history_of snapshot entries) format snapshot.seq bodies
held_from_start format bodies snapshot entries h =
    let zero_is : 0 ≡ snapshot.seq - snapshot.seq = omega arith in record {
      snapshot = snapshot;
      is_at = record {
        there = record { from = omega arith; to = omega arith };
        pod = ap (λ n. replayed (pod_of snapshot) (take n entries)) zero_is;
        number = refl;
      };
      holds = subst (λ n. Holds format bodies snapshot (drop n entries)) zero_is h;
    }
