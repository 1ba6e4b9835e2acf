-- One turn of a desk, and the requests of a connection with what is noted of the last one.
use Rattle.std.specs.Prelude.{◌≡◌, ℕ, ◌≤◌, List, [], ◌∷◌, ◌++◌, Option, Some, None}
use Rattle.std.specs.Option.{option_map}
use Rattle.pod_base.specs.Counts.{CountIncreased}
use Rattle.pod_base.specs.declared.request.Request.{Request}
use Rattle.pod_core.specs.History.{History}
use Rattle.pod_core.specs.Session.{Item}
use Rattle.pod_io.specs.Counts.{next_count}
use Rattle.pod_live.specs.Visits.{Visit}
use Rattle.token_table.specs.Credentials.{AskedAgent}
use Rattle.pod_serve.specs.Desks.{GateView, ServedLink}
use Rattle.pod_feed.specs.Feeds.{IsFed}
use Rattle.pod_feed.specs.declared.feed_end.FeedEnd.{FeedEnd}
use Rattle.pod_feed.specs.declared.feed_end.FeedEnd.TheVariants as feeds
use Rattle.pod_pages.specs.State.{VersionState}
use Rattle.socket_wire.specs.Counted.{WireCounts}
use Rattle.socket_wire.specs.Passing.{PassesLink}
use Rattle.pod_serve.specs.Connections.{ConnServed, wire_of}
use Rattle.pod_serve.specs.Served.{LinkView, RequestsServed}
use Rattle.pod_serve.specs.Upgrades.{IsAbout, last_item}
use Rattle.pod_serve.specs.declared.connection_end.ConnEnd.{ConnEnd}
use Rattle.pod_serve.specs.declared.desk.DeskEnd.TheVariants.{GateEnded, GateFailed, NoMemory}
use Rattle.pod_serve.specs.declared.desk.Next.{Next}
use Rattle.pod_serve.specs.declared.desk.Next.TheVariants.{Served, Over}
use Rattle.pod_serve.specs.declared.requests_end.RequestsEnd.{RequestsEnd}
use Rattle.pod_serve.specs.declared.requests_end.RequestsEnd.TheVariants as requests_ends
use Rattle.pod_serve.specs.declared.upgrade.Upgrade.{Upgrade}

-- no connection was given, and nothing was done
pub record IsNoneGiven {C : Type 0} (before after : Visit) (old new : GateView C) : Type 0 where
  pub session : after ≡ before
  pub given : old.rest ≡ new.rest
  pub back : new.back ≡ old.back

-- The requests of a connection were served, and what is noted after a switch of protocols, where
-- anything is, is what the last item is about.
pub record IsNoted (kept : History → Type 0) (first : ℕ) (may_give : ℕ → Type 0)
    (asking : Request → AskedAgent) (base : List ℕ) (conn : ℕ) (end : RequestsEnd)
    (before after : Visit) (old new : LinkView) (note : Option Upgrade) : Type 0 where
  pub requests : RequestsServed kept first may_give asking conn end before after old new
  pub noted : end ≡ requests_ends.Upgraded → (upgrade : Upgrade) → note ≡ Some upgrade
      → (item : Item) × (last_item requests.items.list ≡ Some item)
      × IsAbout base item upgrade.topic upgrade.agent upgrade.last

-- the feed of what was noted, over a link; or nothing, where memory had run out
abbrev pub IsFeedOf : VersionState → Option Upgrade → FeedEnd → Visit → Visit → LinkView → LinkView
    → WireCounts → WireCounts → Type 0
IsFeedOf opened None end before after old new wires counted =
    (end ≡ feeds.NoMemory) × (after ≡ before) × (new ≡ old) × (counted ≡ wires)
IsFeedOf opened (Some upgrade) end before after old new wires counted =
    IsFed opened upgrade.topic upgrade.agent upgrade.last end before after (wire_of wires)
    (wire_of counted)
    × PassesLink old.rest new.rest old.sent new.sent old.counts new.counts

module _ (kept : History → Type 0) (first : ℕ) (may_give : ℕ → Type 0)
    (asking : Request → AskedAgent) {C : Type 0} (view : C → LinkView) (number : ℕ) where
  -- A connection was given, served and given back.
  pub record IsOneServed (end : ConnEnd) (before after : Visit) (old new : GateView C)
      : Type 0 where
    pub one : ServedLink C
    pub end_is : one.end ≡ end
    pub served : ConnServed kept first may_give asking number end before after (view one.given)
        (view one.back) one.wires one.counted
    pub given : old.rest ≡ option_map (λ rest. one.given ∷ rest) new.rest
    pub back : new.back ≡ option_map (λ back. back ++ one.back ∷ []) old.back
    pub ended : new.ends ≡ old.ends
    pub faults : old.faults ≤ new.faults

  -- or the gate found none, or failed
  abbrev pub NextServed : Next → Visit → Visit → GateView C → GateView C → Type 0
  NextServed (Served end) before after old new = IsOneServed end before after old new
  NextServed (Over GateEnded) before after old new = IsNoneGiven before after old new
      × (new.ends ≡ next_count old.ends)
  NextServed (Over GateFailed) before after old new = IsNoneGiven before after old new
      × (new.ends ≡ old.ends) × CountIncreased old.faults new.faults
  NextServed (Over NoMemory) before after old new = ⊥
