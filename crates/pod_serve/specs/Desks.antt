-- The connections of a desk, one after the other.
use Rattle.std.specs.Prelude.{◌≡◌, ◌≢◌, ◌⊎◌, ℕ, ◌+◌, List, [], ◌∷◌, ◌++◌, length, map, sum_by}
use Rattle.std.specs.Prelude.{Option, Some}
use Rattle.std.specs.List.{AllByRecursion}
use Rattle.std.specs.Option.{option_map}
use mathlib.Core.List.{IsPrefix}
use Rattle.pod_base.specs.Counts.{CountIncreased}
use Rattle.pod_base.specs.EachTo.{EachTo}
use Rattle.pod_base.specs.declared.request.Request.{Request}
use Rattle.pod_command.specs.declared.entry.Entry.{Entry}
use Rattle.pod_core.specs.History.{History}
use Rattle.pod_io.specs.Counts.{next_count}
use Rattle.pod_live.specs.Takes.{TakenItem, Took}
use Rattle.pod_live.specs.Visits.{Meets, Visit}
use Rattle.token_table.specs.Credentials.{AskedAgent}
use Rattle.socket_wire.specs.Counted.{WireCounts}
use Rattle.pod_serve.specs.Connections.{ConnServed}
use Rattle.pod_serve.specs.Served.{LinkView}
use Rattle.pod_serve.specs.declared.connection_end.ConnEnd.{ConnEnd}
use Rattle.pod_serve.specs.declared.connection_end.ConnEnd.TheVariants as ends
use Rattle.pod_serve.specs.declared.desk.DeskEnd.{DeskEnd}
use Rattle.pod_serve.specs.declared.desk.DeskEnd.TheVariants.{GateEnded, GateFailed, NoMemory}
use Rattle.pod_serve.specs.declared.desk.TheConstants.{CONNECTION_LIMIT}

-- a connection that a gate gave: its link then, its link when it was given back, how it ended, and
-- the counts of its WebSocket before and after
pub record ServedLink (C : Type 0) : Type 0 where
  pub given : C
  pub back : C
  pub end : ConnEnd
  pub wires : WireCounts
  pub counted : WireCounts

-- What a gate shows: the connections that it is yet to give and those that were given back, where
-- it shows them, how many calls failed, how many connections it gave, and how many calls found
-- none.
pub record GateView (C : Type 0) : Type 0 where
  pub rest : Option (List C)
  pub back : Option (List C)
  pub faults : ℕ
  pub given : ℕ
  pub ends : ℕ

abbrev pub gate_view_of : {G C : Type 0} → (G → Option (List C)) → (G → Option (List C)) → (G → ℕ)
    → (G → ℕ) → (G → ℕ) → G → GateView C
gate_view_of rest back faults given ends gate = record {
  rest = rest gate;
  back = back gate;
  faults = faults gate;
  given = given gate;
  ends = ends gate;
}

-- no connection of a desk was out of memory
abbrev pub NoneOutOfMemory : {C : Type 0} → List (ServedLink C) → Type 0
NoneOutOfMemory {C} links = AllByRecursion (λ (one : ServedLink C). one.end ≢ ends.NoMemory) links

-- one of them was
abbrev pub SomeOutOfMemory : {C : Type 0} → List (ServedLink C) → Type 0
SomeOutOfMemory [] = ⊥
SomeOutOfMemory (one ∷ others) = (one.end ≡ ends.NoMemory) ⊎ SomeOutOfMemory others

-- Why a gate was asked for no more connections: it found none, or gave as many as a desk may have;
-- or a call failed.
abbrev pub IsGateLeft : {C : Type 0} → List (ServedLink C) → GateView C → GateView C → Type 0
IsGateLeft links old new = (new.ends ≡ next_count old.ends)
    ⊎ (((length links ≡ CONNECTION_LIMIT) × (new.ends ≡ old.ends))
    ⊎ ((new.ends ≡ old.ends) × CountIncreased old.faults new.faults))

-- How a desk ended: its gate found no more connections, or gave as many as a desk may have; or a
-- call of the gate failed; or so it was left, and a connection was out of memory.
abbrev pub IsDeskEnd : {C : Type 0} → DeskEnd → List (ServedLink C) → GateView C → GateView C
    → Type 0
IsDeskEnd GateEnded links old new = NoneOutOfMemory links
    × ((new.ends ≡ next_count old.ends)
    ⊎ ((length links ≡ CONNECTION_LIMIT) × (new.ends ≡ old.ends)))
IsDeskEnd GateFailed links old new = NoneOutOfMemory links × (new.ends ≡ old.ends)
    × CountIncreased old.faults new.faults
IsDeskEnd NoMemory links old new = SomeOutOfMemory links × IsGateLeft links old new

module _ (kept : History → Type 0) (first : ℕ) (may_give : ℕ → Type 0)
    (asking : Request → AskedAgent) {C : Type 0} (view : C → LinkView) (step : ℕ) where
  -- The connections, one after the other, by one session. The first has this number, and each has
  -- one greater by `step` than the one before.
  abbrev pub Conns : ℕ → Visit → List (ServedLink C) → Visit → Type 0
  Conns number before [] after = after ≡ before
  Conns number before (one ∷ others) after = (mid : Visit)
      × ConnServed kept first may_give asking number one.end before mid (view one.given)
      (view one.back) one.wires one.counted
      × Conns (number + step) mid others after

  -- A desk: the gate gave these connections, each was served, and each was given back, in order.
  pub record DeskServed (number : ℕ) (end : DeskEnd) (before after : Visit) (old new : GateView C)
      : Type 0 where
    pub links : List (ServedLink C)
    pub conns : Conns number before links after
    pub given : old.rest ≡ option_map (λ rest. map (λ one. one.given) links ++ rest) new.rest
    pub back : new.back ≡ option_map (λ back. back ++ map (λ one. one.back) links) old.back
    pub ended : IsDeskEnd end links old new

  -- A desk that was served knows how it ended.
  abbrev pub IsDeskServed : ℕ → Visit → Visit → Option DeskEnd → GateView C → GateView C → Type 0
  IsDeskServed number before after told old new = (end : DeskEnd) × (told ≡ Some end)
      × DeskServed number end before after old new

module _ (kept : History → Type 0) (first : ℕ) (may_give : ℕ → Type 0)
    (asking : Request → AskedAgent) {S G C : Type 0} (view : C → LinkView)
    (gate_view : G → GateView C) (session : S → Visit) (gate : S → G)
    (told : S → Option DeskEnd) where
  -- Each of these desks was served. The first has this number.
  abbrev pub EachDeskServed : ℕ → ℕ → List S → List S → Type 0
  EachDeskServed step number [] [] = Unit {0}
  EachDeskServed step number [] (now ∷ rest) = ⊥
  EachDeskServed step number (desk ∷ others) [] = ⊥
  EachDeskServed step number (desk ∷ others) (now ∷ rest) =
      IsDeskServed kept first may_give asking view step number (session desk) (session now)
      (told now) (gate_view (gate desk)) (gate_view (gate now))
      × EachDeskServed step (number + 1) others rest

  -- All desks were served, as those in `served` are, by the sessions of a store whose list began
  -- with `opening`; they have all sessions of it. Afterwards all sessions have seen one list, to
  -- which each added as many entries as it counts, and the desks are as they were. The changes that
  -- were carried to the disks added that list; as many met a disk fault as the sessions count; and
  -- `takes` holds of them.
  pub record AreDesksServed (takes : List TakenItem → Type 0) (opening : List Entry)
      (old new : List S) : Type 0 where
    pub served : List S
    pub desks : EachDeskServed (length old) 1 old served
    pub list : List Entry
    pub opening_is : IsPrefix opening list
    pub grown : length list ≡ length opening + sum_by (λ desk. (session desk).changes) served
    pub met : EachTo (λ one other. Meets list (session one) (session other)
        × (gate other ≡ gate one) × (told other ≡ told one)) served new
    pub took : Took takes list (sum_by (λ desk. (session desk).faults) served)
