-- Records that hold a history, as it grows and at its end.
use Rattle.std.proofs.Common.{◌≡◌, ℕ, ◌+◌, ◌-◌, ◌≤◌, List, [], ◌∷◌, ◌++◌, length, take, drop, refl, sym, ◌∙◌, ap, subst, arith}
use Rattle.std.proofs.lemmas.List.{drop-append-le, drop_all, take-append-drop, length-drop}
use Rattle.pod_command.specs.declared.entry.Entry.{Entry}
use Rattle.pod_command.specs.declared.snapshot.Snapshot.{Snapshot}
use Rattle.pod_core.specs.History.{History, IsHistory, end_of, pod_at, longer}
use Rattle.pod_core.proofs.Histories.{pod_at_end, place_grows, pod_grows, history_next}
use Rattle.pod_keeper.specs.Kept.{IsNextEntry, IsCheckpointText}
use Rattle.pod_keeper.specs.Stored.{IsSnapshotAt, IsStored}
use Rattle.pod_records.specs.Records.{Holds, entry_text}
use Rattle.pod_records.proofs.ReadSteps.{held_more}
use Rattle.pod_rows.specs.Apply.{Applies, applied, replayed}
use Rattle.pod_rows.specs.Pod.{Pod}
use Rattle.pod_rows.specs.WellFormed.{pod_of}

replayed-append : (pod : Pod) (xs ys : List Entry) → replayed pod (xs ++ ys) ≡ replayed (replayed pod xs) ys
replayed-append pod [] ys = refl
replayed-append pod (x ∷ xs) ys = replayed-append (applied pod x) xs ys

-- the pod after what is stored is the one at the end
stored_end : (history : History) (place : ℕ) (snapshot : Snapshot) → IsSnapshotAt history place snapshot → replayed (pod_of snapshot) (drop (place - history.start) history.entries) ≡ pod_at history (end_of history)
stored_end history place snapshot h =
    let k = place - history.start in
    ap (λ p. replayed p (drop k history.entries)) h.pod
    ∙ (sym (replayed-append history.first (take k history.entries) (drop k history.entries))
    ∙ (ap (replayed history.first) (take-append-drop k history.entries) ∙ sym (pod_at_end history)))

stored_number : (history : History) (place : ℕ) (snapshot : Snapshot) → IsSnapshotAt history place snapshot → snapshot.seq + length (drop (place - history.start) history.entries) ≡ end_of history
stored_number history place snapshot h = omega (arith, h.number, h.there.from, h.there.to, length-drop (place - history.start) history.entries)

-- with the next entry
pub stored_more : (history : History) (format place : ℕ) (bodies : List (List ℕ)) (entry : Entry) → IsStored history format place bodies → IsNextEntry history format entry → IsStored (longer history (entry ∷ [])) format place (bodies ++ entry_text format entry ∷ [])
stored_more history format place bodies entry h next =
    let k = place - history.start in
    let rest = drop k history.entries in
    let within : k ≤ length history.entries = omega (arith, h.is_at.there.from, h.is_at.there.to) in
    let at_end = subst (λ p. Applies p (end_of history) entry) (sym (stored_end history place h.snapshot h.is_at)) next.applies in
    let here = subst (λ n. Applies (replayed (pod_of h.snapshot) rest) n entry) (sym (stored_number history place h.snapshot h.is_at)) at_end in
    let held = held_more format bodies (entry_text format entry) h.snapshot rest entry h.holds (record { form = refl; stored = next.storable }) here in record {
      snapshot = h.snapshot;
      is_at = record {
        there = place_grows history (entry ∷ []) place h.is_at.there;
        pod = h.is_at.pod ∙ sym (pod_grows history (entry ∷ []) place h.is_at.there);
        number = h.is_at.number;
      };
      holds = subst (Holds format (bodies ++ entry_text format entry ∷ []) h.snapshot) (sym (drop-append-le k history.entries (entry ∷ []) within)) held;
    }

-- at the end, by a checkpoint
pub stored_at_end : (history : History) (text : List ℕ) → IsCheckpointText history text → IsStored history 2 (end_of history) (text ∷ [])
stored_at_end history text h =
    let none : drop (end_of history - history.start) history.entries ≡ [] = drop_all (end_of history - history.start) history.entries (omega arith) in record {
      snapshot = h.snapshot;
      is_at = record {
        there = record { from = omega arith; to = omega arith };
        pod = h.pod_is;
        number = h.number;
      };
      holds = subst (Holds 2 (text ∷ []) h.snapshot) (sym none) h.holds;
    }

pub history_grows : (history : History) (format : ℕ) (entry : Entry) → IsHistory history → IsNextEntry history format entry → IsHistory (longer history (entry ∷ []))
history_grows history format entry h next = history_next history entry h (subst (λ p. Applies p (end_of history) entry) (pod_at_end history) next.applies)
