-- What a crash leaves of a world: each image that it may leave stands for the world's history, or
-- for that history with one entry more, which isn't published.
use Rattle.std.specs.Prelude.{◌≡◌, ◌⊎◌, ℕ, ◌≤◌, ◌^◌, Bool, true, false, List, [], ◌∷◌}
use Rattle.std.specs.List.{AllByRecursion}
use Rattle.journal_log.specs.CleanJournal.{IsShort}
use Rattle.journal_log.specs.Images.{Stands}
use Rattle.pod_base.specs.declared.request.Request.{Request}
use Rattle.stored_forms.specs.Storable.{IsStorable, IsStorableSnapshot}
use Rattle.stored_forms.specs.StoredForms.{entry_bytes, snapshot_bytes}
use Rattle.pod_command.specs.declared.entry.Entry.{Entry}
use Rattle.pod_command.specs.declared.snapshot.Snapshot.{Snapshot}
use Rattle.pod_core.specs.History.{History, IsHistory, end_of, longer}
use Rattle.pod_core.specs.World as world
use Rattle.pod_core.specs.World.{DoesEvent, Event, World, WorldRun, WorldStep, first_world}
use Rattle.pod_core.specs.WorldImages.{MayFollow, start_snapshot}
use Rattle.pod_records.specs.Records.{Holds}
use Rattle.pod_rows.specs.WellFormed.{pod_of}
use Rattle.token_table.specs.Credentials.{AskedAgent}

-- ---- what a journal can hold

-- The entry has a stored form, whose length is a number of 64 bits, as a journal has it before each
-- record.
pub record IsRecordable (entry : Entry) : Type 0 where
  pub storable : IsStorable entry
  pub short : IsShort (entry_bytes entry)

-- So has each entry of the history, and the snapshot of its first pod.
pub record IsRecordableHistory (history : History) : Type 0 where
  pub number : history.start ≤ 2 ^ 63
  pub storable : IsStorableSnapshot (start_snapshot history)
  pub short : IsShort (snapshot_bytes (start_snapshot history))
  pub entries : AllByRecursion IsRecordable history.entries

module _ (may_give : ℕ → Type 0) (asking : Request → AskedAgent) where
  -- Where a step writes the record of an entry, the entry has a stored form, as it has where it is a
  -- value of its type. How long that is follows from the reply that made it.
  abbrev pub WritesStorable : (old : World) (event : Event) (new : World)
      → DoesEvent may_give asking old event new → Type 0
  WritesStorable old (world.body true) new does = IsStorable does.step.holder.entry
  WritesStorable old (world.body false) new does = Unit {0}
  WritesStorable old (world.arrive conn piece) new does = Unit {0}
  WritesStorable old (world.look conn place moment) new does = Unit {0}
  WritesStorable old (world.take conn moment) new does = Unit {0}
  WritesStorable old (world.repair ok) new does = Unit {0}
  WritesStorable old (world.gate ok) new does = Unit {0}
  WritesStorable old world.publish new does = Unit {0}
  WritesStorable old (world.stop image) new does = Unit {0}

  -- Each step of the run that writes a record writes such a one.
  abbrev pub AppendsStorable : (old : World) (events : List Event) (new : World)
      → WorldRun may_give asking old events new → Type 0
  AppendsStorable old [] new run = Unit {0}
  AppendsStorable old (event ∷ events) new run =
      WritesStorable old event run.1.done run.1.does
      × AppendsStorable run.0 events new run.2

-- ---- what an image stands for

-- The records hold the history: a snapshot of its first pod, with the number of its first entry,
-- and all of its entries.
pub record HoldHistory (history : History) (bodies : List (List ℕ)) : Type 0 where
  pub snapshot : Snapshot
  pub pod_is : pod_of snapshot ≡ history.first
  pub number : snapshot.seq ≡ history.start
  pub holds : Holds 2 bodies snapshot history.entries

-- The image stands for the history: it is a journal of format 2 with epoch 1 whose records hold it.
pub record ImageStandsFor (history : History) (image : List ℕ) : Type 0 where
  pub bodies : List (List ℕ)
  pub stands : Stands 2 1 bodies image
  pub hold : HoldHistory history bodies

-- It stands for the world's history with one entry more: that in doubt or that under way. The entry
-- has the number after the end of the history, and isn't published.
pub record ImageStandsForMore (old : World) (image : List ℕ) : Type 0 where
  pub entry : Entry
  pub follows : MayFollow old.keeper entry
  pub place : entry.seq ≡ end_of old.keeper.history
  pub unpublished : old.published ≤ entry.seq
  pub stands : ImageStandsFor (longer old.keeper.history (entry ∷ [])) image

-- Whatever the events from a history on that a journal can hold, each image with which the world may
-- stop then stands for its history, or for that with one entry more, where each record that was
-- written is of an entry that has a stored form.
abbrev pub StopsStand : (ℕ → Type 0) → Type 0
StopsStand may_give = (asking : Request → AskedAgent) (history : History) (numbers : ℕ → Bool)
    (events : List Event) (new stopped : World) (image : List ℕ) → IsHistory history
    → IsRecordableHistory history
    → (run : WorldRun may_give asking (first_world history numbers) events new)
    → AppendsStorable may_give asking (first_world history numbers) events new run
    → WorldStep may_give asking new (world.stop image) stopped
    → ImageStandsFor new.keeper.history image ⊎ ImageStandsForMore new image

-- So it does where a journal can hold the history to which the events come, and what may follow it,
-- whatever was written before.
abbrev pub EndsStand : (ℕ → Type 0) → Type 0
EndsStand may_give = (asking : Request → AskedAgent) (history : History) (numbers : ℕ → Bool)
    (events : List Event) (new stopped : World) (image : List ℕ) → IsHistory history
    → WorldRun may_give asking (first_world history numbers) events new
    → IsRecordableHistory new.keeper.history
    → ((entry : Entry) → MayFollow new.keeper entry → IsRecordable entry)
    → WorldStep may_give asking new (world.stop image) stopped
    → ImageStandsFor new.keeper.history image ⊎ ImageStandsForMore new image
