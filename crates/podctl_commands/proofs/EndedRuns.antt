-- What was written and reported, by the end.
use Rattle.std.proofs.Common.{◌≡◌, inl, ℕ, List, Option, Result, Ok, Err, refl, sym, subst, rules}
use Rattle.std.specs.Prelude.{IsErr}
use Rattle.journal_log.specs.declared.fault.OpenFault.{OpenFault}
use Rattle.journal_log.specs.declared.fault.OpenFault.TheVariants as opening
use Rattle.pod_io.specs.Writing.{ExtendsBy, ExtendsByPart, Writes}
use Rattle.pod_command.specs.declared.entry.Entry.{Entry}
use Rattle.pod_command.specs.declared.snapshot.Snapshot.{Snapshot}
use Rattle.pod_follow.specs.Frames.{frames_of}
use Rattle.pod_io.specs.declared.source.Failed.{Failed}
use Rattle.pod_keeper.specs.KeeperState.{KeeperState}
use Rattle.pod_keeper.specs.OpenedPods.{IsOpened}
use Rattle.pod_records.specs.OpenedStores.{HasPodCause}
use Rattle.podctl_commands.specs.Ends.{refused_end}
use Rattle.podctl_commands.specs.Prints.{Prints, ReportsDamage}
use Rattle.podctl_commands.specs.declared.store_end.StoreEnd.{StoreEnd}
use Rattle.podctl_commands.specs.declared.store_end.StoreEnd.TheVariants as ends
use Rattle.podctl_commands.proofs.Refused.{store_of}
use Rattle.podctl_commands.specs.Endings.{AreStored, IsReportedSo, written_end}
use Rattle.podctl_commands.specs.Ships.{Ships}

-- ---- a store that wasn't opened

module _ (first second : Option (List ℕ)) (a a_new b b_new : ℕ) (old : Option (List ℕ)) where
  pub refused_ships : (fault : OpenFault) → HasPodCause first second a a_new b b_new fault → Ships first second old old (refused_end fault)
  refused_ships opening.Empty cause = (cause, refl)
  refused_ships (opening.Damaged side at) cause = (cause, refl)
  refused_ships opening.DiskFault cause = refl
  refused_ships opening.NoMemory cause = refl

-- ---- a store that was opened

pub are_stored : {D : Type 0} (image : D → List ℕ → Type 0) (first second : Option (List ℕ)) (bodies : List (List ℕ)) (keeper : KeeperState D) → IsOpened image first second bodies keeper → AreStored first second bodies
unfolding store_of
are_stored image first second bodies keeper h = record { snapshot = h.snapshot; entries = h.entries; opened = store_of image first second bodies keeper h; taken = refl }

-- the frames of its records were written
pub ships : (first second : Option (List ℕ)) (bodies : List (List ℕ)) → AreStored first second bodies → (old new : Option (List ℕ)) (written : Result (Unit {0}) Failed) → Writes written (frames_of bodies) old new
    → Ships first second old new (written_end written)
ships first second bodies s old new (Ok done) w = record {
  snapshot = s.snapshot;
  entries = s.entries;
  opened = s.opened;
  shipped = subst (λ (bs : List (List ℕ)). ExtendsBy (frames_of bs) old new) (sym s.taken) w.whole;
}
ships first second bodies s old new (Err failed) w = record {
  snapshot = s.snapshot;
  entries = s.entries;
  opened = s.opened;
  shipped = subst (λ (bs : List (List ℕ)). ExtendsByPart (frames_of bs) old new) (sym s.taken) w.part;
}

module _ {D : Type 0} (image : D → List ℕ → Type 0) (first second : Option (List ℕ)) (bodies : List (List ℕ)) (keeper : KeeperState D) (h : IsOpened image first second bodies keeper) (old new : Option (List ℕ)) where
  -- a text of it was written
  pub prints : (text : Snapshot → List Entry → List ℕ) (end : StoreEnd) → IsReportedSo (text h.snapshot h.entries) old new end → Prints text first second old new end
  prints text ends.Done w = record { snapshot = h.snapshot; entries = h.entries; opened = store_of image first second bodies keeper h; printed = w }
  prints text ends.WriteFault w = record { snapshot = h.snapshot; entries = h.entries; opened = store_of image first second bodies keeper h; count = w.0; printed = w.2 }
  prints text ends.NoMemory w = inl w
  prints text (ends.Damaged side at) w = absurd w
  prints text ends.DiskFault w = absurd w
  prints text ends.NotEmpty w = absurd w
  prints text ends.Empty w = absurd w

pub written_told : (written : Result (Unit {0}) Failed) (old : Option (List ℕ)) (before after : ℕ) → ReportsDamage (written_end written) old old before after
written_told (Ok done) old before after = refl
written_told (Err failed) old before after = refl

pub written_fails : (written : Result (Unit {0}) Failed) → written_end written ≡ ends.WriteFault → IsErr written
written_fails (Ok done) e = search (rules, e)
written_fails (Err failed) e = refl

-- ---- a text that was written

pub written_so : (written : Result (Unit {0}) Failed) (text : List ℕ) (old new : Option (List ℕ)) → Writes written text old new → IsReportedSo text old new (written_end written)
written_so (Ok done) text old new w = w.whole
written_so (Err failed) text old new w = w.part
