-- What holds of a world after any list of events.
use Rattle.std.specs.Prelude.{◌≡◌, ℕ, ◌+◌, ◌≤◌, Bool, List, Some}
use Rattle.http_conn.specs.Messages.{Messages}
use Rattle.pod_base.specs.declared.heard.Heard.{Heard}
use Rattle.pod_base.specs.declared.request.Request.{Request}
use Rattle.pod_command.specs.declared.entry.Entry.{Entry}
use Rattle.pod_core.specs.History.{History, end_of, longer}
use Rattle.pod_core.specs.Output.{output}
use Rattle.pod_core.specs.Session.{Session, IsSession}
use Rattle.pod_core.specs.World.{Connection, Event, World, WorldRun, first_world}
use Rattle.token_table.specs.Credentials.{AskedAgent}

-- What the connection wrote is the output of a session of the world's history, from this place to
-- the last one that it saw.
pub record WroteSession (may_give : ℕ → Type 0) (asking : Request → AskedAgent) (start : ℕ)
    (history : History) (conn : ℕ) (connection : Connection) (events : List Heard) : Type 0 where
  pub session : Session
  pub conn_is : session.conn ≡ conn
  pub history_is : session.history ≡ history
  pub is_session : IsSession may_give asking events start session connection.seen
  pub written : connection.output ≡ output events session

-- Whatever the events, each connection of a world wrote the output of a session of its one history.
abbrev pub OneLegalHistory : (ℕ → Type 0) → Type 0
OneLegalHistory may_give = (asking : Request → AskedAgent) (history : History) (numbers : ℕ → Bool)
    (events : List Event) (world : World)
    → WorldRun may_give asking (first_world history numbers) events world
    → (conn : ℕ) (connection : Connection) → world.connections conn ≡ Some connection
    → (heard : List Heard) (rest : ℕ) → Messages connection.input heard rest
    → WroteSession may_give asking (end_of history) world.keeper.history conn connection heard

-- The history of a world begins with the first one. All of it is published but its last entry at
-- most, and no connection has seen more.
pub record KeepsHistory (history : History) (world : World) : Type 0 where
  pub more : List Entry
  pub history_is : world.keeper.history ≡ longer history more
  pub published : world.published ≤ end_of world.keeper.history
  pub all_but_last : end_of world.keeper.history ≤ world.published + 1
  pub seen : (conn : ℕ) (connection : Connection) → world.connections conn ≡ Some connection
      → connection.seen ≤ world.published

-- Whatever the events, a history only grows.
abbrev pub OnlyGrows : (ℕ → Type 0) → Type 0
OnlyGrows may_give = (asking : Request → AskedAgent) (history : History) (numbers : ℕ → Bool)
    (events : List Event) (world : World)
    → WorldRun may_give asking (first_world history numbers) events world
    → KeepsHistory history world
