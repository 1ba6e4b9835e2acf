-- What a command prints and reports of a store that wasn't opened, and the store of one that was.
use Rattle.std.proofs.Common.{◌≡◌, inl, ℕ, List, Option, refl}
use Rattle.journal_log.specs.declared.fault.OpenFault.{OpenFault}
use Rattle.journal_log.specs.declared.fault.OpenFault.TheVariants as opening
use Rattle.pod_command.specs.declared.entry.Entry.{Entry}
use Rattle.pod_command.specs.declared.snapshot.Snapshot.{Snapshot}
use Rattle.pod_keeper.specs.KeeperState.{KeeperState}
use Rattle.pod_keeper.specs.OpenedPods.{IsOpened}
use Rattle.pod_records.specs.OpenedStores.{HasPodCause}
use Rattle.journal_log.specs.Refusals.{TellsRefusal}
use Rattle.podctl_commands.specs.Ends.{refused_end}
use Rattle.podctl_commands.specs.Prints.{IsStoreOf, Prints, ReportsDamage}

-- what is reported of it is what the command reports by its end
pub refused_tells : (fault : OpenFault) (old new : Option (List ℕ)) (before after : ℕ) → TellsRefusal fault old new before after → ReportsDamage (refused_end fault) old new before after
refused_tells opening.Empty old new before after told = told
refused_tells (opening.Damaged side at) old new before after told = told
refused_tells opening.DiskFault old new before after told = told
refused_tells opening.NoMemory old new before after told = told

-- a store that wasn't opened
module _ (text : Snapshot → List Entry → List ℕ) (first second : Option (List ℕ)) (a a_new b b_new : ℕ) where
  pub refused_prints : (old : Option (List ℕ)) (fault : OpenFault) → HasPodCause first second a a_new b b_new fault → Prints text first second old old (refused_end fault)
  refused_prints old opening.Empty cause = (cause, refl)
  refused_prints old (opening.Damaged side at) cause = (cause, refl)
  refused_prints old opening.DiskFault cause = refl
  refused_prints old opening.NoMemory cause = inl refl

-- a store that was opened
unfoldable pub store_of : {D : Type 0} (image : D → List ℕ → Type 0) (first second : Option (List ℕ)) (bodies : List (List ℕ)) (keeper : KeeperState D) (h : IsOpened image first second bodies keeper) → IsStoreOf first second h.snapshot h.entries
store_of image first second bodies keeper h = record {
  side = keeper.pair.active;
  format = keeper.pair.journal.format;
  epoch = keeper.pair.journal.epoch;
  bodies = bodies;
  holds = h.holds;
  stands = h.stands;
}
