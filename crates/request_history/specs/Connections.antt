-- What a connection keeps, and its next event.
use Rattle.std.specs.Prelude.{◌≡◌, ◌≤◌, ℕ, Bool, true, false, List, [], ◌∷◌, ◌++◌, length, take, drop}
use Rattle.std.specs.Prelude.{Option, Some, IfSome}
use Rattle.http_conn.specs.Messages.{Messages}
use Rattle.pod_base.specs.declared.heard.Heard.{Heard}
use Rattle.pod_core.specs.World.{Connection, IsNextEvent, IsSettled, first_interims}

-- the bytes that were read, and their events
pub record InputState : Type 0 where
  pub bytes : List ℕ
  pub events : List Heard

abbrev pub no_input : InputState
no_input = record { bytes = []; events = [] }

-- The events are those of the bytes.
abbrev pub IsParsed : InputState → Type 0
IsParsed input = (rest : ℕ) × Messages input.bytes input.events rest

-- Some of the events are done, and no interim is next.
pub record IsConnection (input : InputState) (done : ℕ) (switched : Bool) : Type 0 where
  pub parsed : IsParsed input
  pub within : done ≤ length input.events
  pub settled : switched ≡ false → first_interims (drop done input.events) ≡ []

-- the connection that has read this, so many of whose events are done
abbrev pub connection_of : InputState → ℕ → List ℕ → Bool → ℕ → Connection
connection_of input done output switched seen = record {
  input = input.bytes;
  output = output;
  done = take done input.events;
  switched = switched;
  seen = seen;
}

-- a connection of which nothing was read
abbrev pub fresh : ℕ → Connection
fresh seen = record { input = []; output = []; done = []; switched = false; seen = seen }

-- The connection has this next event, and no other.
pub record HasNext (connection : Connection) (next : Option Heard) : Type 0 where
  pub is : IfSome next (IsNextEvent connection)
  pub only : (event : Heard) → IsNextEvent connection event → next ≡ Some event

-- Its next event was answered by these bytes, and it has seen this place.
abbrev pub advanced : Connection → Heard → List ℕ → Bool → ℕ → Connection
advanced connection event text switched seen = record {
  input = connection.input;
  output = connection.output ++ text;
  done = connection.done ++ event ∷ [];
  switched = switched;
  seen = seen;
}

-- All interims that were next are written.
abbrev pub SettlesTo : Connection → Connection → Type 0
SettlesTo old new = IsSettled (Some old) (Some new)

-- No interim is next.
abbrev pub Rests : Connection → Type 0
Rests connection = SettlesTo connection connection
