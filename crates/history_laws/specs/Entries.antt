-- The entries of a history: whose they are, and what they make.
use Rattle.std.specs.Prelude.{◌≡◌, ℕ, Bool, List, Some, slice_get}
use Rattle.pod_base.specs.declared.heard.Heard.{Heard}
use Rattle.pod_base.specs.declared.request.Request.{Request}
use Rattle.pod_command.specs.declared.entry.Entry.{Entry}
use Rattle.pod_core.specs.History.{History, IsHistory, pod_at}
use Rattle.pod_core.specs.Session.{IsSession, Item, Session, answered}
use Rattle.pod_core.specs.World.{Event, World, WorldRun, first_world}
use Rattle.pod_reply.specs.Replies.{Reply}
use Rattle.pod_rows.specs.WellFormed.{WellFormed}
use Rattle.token_table.specs.Credentials.{AskedAgent}

-- The item at that position of a session made the entry at that place.
pub record Makes (session : Session) (position place : ℕ) : Type 0 where
  pub item : Item
  pub is_item : slice_get session.items position ≡ Some item
  pub reply : Reply
  pub outcome : item.outcome ≡ answered place reply
  pub entry : Entry
  pub has_entry : reply.entry ≡ Some entry

-- An entry belongs to one item at most: items of two sessions over one history that made the entry
-- at one place are at one position of one connection.
abbrev pub EntryHasOneItem : (ℕ → Type 0) → Type 0
EntryHasOneItem may_give = (asking : Request → AskedAgent) (session other : Session)
    (events heard : List Heard) (before after start end : ℕ)
    → IsSession may_give asking events before session after
    → IsSession may_give asking heard start other end → session.history ≡ other.history
    → (position at place : ℕ) → Makes session position place → Makes other at place
    → (session.conn ≡ other.conn) × (position ≡ at)

-- Whatever the events of a world, its history is one: each entry applies after those before it.
abbrev pub WorldsHaveHistories : (ℕ → Type 0) → Type 0
WorldsHaveHistories may_give = (asking : Request → AskedAgent) (history : History)
    (numbers : ℕ → Bool) (events : List Event) (world : World) → IsHistory history
    → WorldRun may_give asking (first_world history numbers) events world
    → IsHistory world.keeper.history

-- The pod at each place is well-formed.
abbrev pub EachPodIsWellFormed : Type 0
EachPodIsWellFormed = (history : History) (place : ℕ) → IsHistory history
    → WellFormed (pod_at history place)
