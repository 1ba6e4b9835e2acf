-- Which entries of a world's history were acknowledged, each by the response of its item.
use Rattle.std.specs.Prelude.{◌≡◌, ◌⊎◌, ℕ, ◌+◌, ◌<◌, ◌≤◌, Bool, List, [], ◌∷◌, Some}
use Rattle.pod_base.specs.declared.request.Request.{Request}
use Rattle.pod_core.specs.History.{History, end_of, entry_at}
use Rattle.pod_core.specs.KeeperSteps as keeper
use Rattle.pod_core.specs.KeeperSteps.{Holder}
use Rattle.pod_core.specs.Session.{answered}
use Rattle.pod_core.specs.World as world
use Rattle.pod_core.specs.World.{Connection, Event, World, WorldRun, first_world, with_answer}
use Rattle.pod_reply.specs.Replies.{Reply}
use Rattle.token_table.specs.Credentials.{AskedAgent}

-- By this step the entry at the place is published, and the response of its item is written: the
-- item was answered at the place with that entry.
pub record Acknowledges (old : World) (event : Event) (done : World) (place : ℕ) : Type 0 where
  pub is_publish : event ≡ world.publish
  pub holder : Holder
  pub is_opened : old.keeper.phase ≡ keeper.opened holder
  pub reply : Reply
  pub outcome : holder.item.outcome ≡ answered place reply
  pub entry : reply.entry ≡ Some holder.entry
  pub is_at : entry_at old.keeper.history place ≡ Some holder.entry
  pub from : Connection
  pub is_there : old.connections holder.conn ≡ Some from
  pub written : done.connections holder.conn
      ≡ Some (with_answer from holder.item (end_of old.keeper.history))

module _ (may_give : ℕ → Type 0) (asking : Request → AskedAgent) where
  -- some step of the run does so
  abbrev pub IsAcknowledged : (old : World) (events : List Event) (new : World)
      → WorldRun may_give asking old events new → ℕ → Type 0
  IsAcknowledged old [] new run place = ⊥
  IsAcknowledged old (event ∷ events) new run place =
      Acknowledges old event run.1.done place ⊎ IsAcknowledged run.0 events new run.2 place

-- how many of the events publish an entry
abbrev pub publications : List Event → ℕ
publications [] = 0
publications (world.publish ∷ events) = publications events + 1
publications (world.arrive conn piece ∷ events) = publications events
publications (world.look conn place moment ∷ events) = publications events
publications (world.take conn moment ∷ events) = publications events
publications (world.repair ok ∷ events) = publications events
publications (world.body ok ∷ events) = publications events
publications (world.gate ok ∷ events) = publications events
publications (world.stop image ∷ events) = publications events

-- Whatever the events, each entry that was made since and is published was acknowledged by the
-- response of its item, at its place.
abbrev pub EntriesAreAcknowledged : (ℕ → Type 0) → Type 0
EntriesAreAcknowledged may_give = (asking : Request → AskedAgent) (history : History)
    (numbers : ℕ → Bool) (events : List Event) (new : World)
    (run : WorldRun may_give asking (first_world history numbers) events new) (place : ℕ)
    → end_of history ≤ place → place < new.published
    → IsAcknowledged may_give asking (first_world history numbers) events new run place

-- As many entries are published as there were publications: each once. All entries are but the last
-- at most.
pub record PublishesEachOnce (history : History) (events : List Event) (new : World)
    : Type 0 where
  pub once : new.published ≡ end_of history + publications events
  pub most : new.published ≤ end_of new.keeper.history
  pub all_but_last : end_of new.keeper.history ≤ new.published + 1

abbrev pub EntriesArePublishedOnce : (ℕ → Type 0) → Type 0
EntriesArePublishedOnce may_give = (asking : Request → AskedAgent) (history : History)
    (numbers : ℕ → Bool) (events : List Event) (new : World)
    → WorldRun may_give asking (first_world history numbers) events new
    → PublishesEachOnce history events new
