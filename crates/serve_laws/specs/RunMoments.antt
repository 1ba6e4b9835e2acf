-- What a crash leaves at each moment of a run of `podd` whose gates were all served.
use Rattle.std.specs.Prelude.{ℕ, List, Option}
use Rattle.journal_pair.specs.Doubts.{IsSure, IsLong}
use Rattle.pod_command.specs.declared.entry.Entry.{Entry}
use Rattle.pod_core.specs.History.{History}
use Rattle.pod_keeper.specs.KeeperRuns.{StandsWith}
use Rattle.pod_keeper.specs.KeeperState.{KeeperState}
use Rattle.pod_live.specs.Takes.{AreOfChanges}
use Rattle.pod_serve.specs.PoddRuns.{IsServing}
use Rattle.pod_serve.specs.RunHosts.{Host, ListenView, listen_run}
use Rattle.token_table.specs.declared.table_line.TokenEntry.{TokenEntry}

-- For each history that the opened keeper represented: whatever a crash since an earlier moment
-- leaves of a disk might have been left before the run, or it is of one of the changes that were
-- carried to the disks. Of these it represents, with whatever is left of the other disk, the history
-- with the entries of the changes before, or that with the entry in doubt or the change's own.
abbrev pub MomentsOfRuns : {D G C : Type 0} → Host D G C → (List G → Type 0) → Type 0
MomentsOfRuns {D} {G} {C} host may_open = (keeper left : KeeperState D)
    (agents : List TokenEntry) (workers : ℕ) (old new : ListenView G)
    (old_places new_places status : ℕ)
    (run : IsServing host keeper left (listen_run may_open old new old_places new_places) agents
    workers status)
    (history : History) (doubt : Option Entry) (stands : StandsWith host.image keeper history doubt)
    → IsSure host.image keeper.first keeper.second keeper.pair
    → IsLong host.image keeper.first keeper.second keeper.pair
    → AreOfChanges host.image host.moment host.left_since keeper history doubt run.took.taken left
    (run.took.so history doubt stands).0 (run.took.so history doubt stands).1
