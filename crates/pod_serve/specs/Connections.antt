-- One connection of many: its requests, and the notices after a switch of protocols.
use Rattle.std.specs.Prelude.{◌≡◌, ◌⊎◌, ℕ, ◌≤◌, List, Some, None}
use mathlib.Core.List.{IsPrefix}
use Rattle.pod_base.specs.declared.agent.Agent.{Agent}
use Rattle.pod_base.specs.declared.request.Request.{Request}
use Rattle.pod_core.specs.History.{History}
use Rattle.pod_core.specs.Session.{Item}
use Rattle.pod_feed.specs.Feeds.{CountsRefused, CountsWire, IsFed, WireView}
use Rattle.pod_feed.specs.declared.feed_end.FeedEnd.{FeedEnd}
use Rattle.pod_feed.specs.declared.feed_end.FeedEnd.TheVariants as feeds
use Rattle.pod_keeper.specs.Kept.{version_of}
use Rattle.pod_live.specs.Visits.{Visit}
use Rattle.socket_wire.specs.Counted.{WireCounts}
use Rattle.socket_wire.specs.Passing.{PassesLink}
use Rattle.token_table.specs.Credentials.{AskedAgent}
use Rattle.conn_talk.specs.Walks.{Walk}
use Rattle.pod_serve.specs.Served.{Items, LinkView, RequestsServed}
use Rattle.pod_serve.specs.Upgrades.{IsAbout, last_item}
use Rattle.pod_serve.specs.declared.connection_end.ConnEnd.{ConnEnd}
use Rattle.pod_serve.specs.declared.connection_end.ConnEnd.TheVariants as ends
use Rattle.pod_serve.specs.declared.requests_end.RequestsEnd.{RequestsEnd}
use Rattle.pod_serve.specs.declared.requests_end.RequestsEnd.TheVariants as requests_ends

-- how the requests of a connection ended
abbrev pub requests_end : ConnEnd → RequestsEnd
requests_end ends.PeerEnded = requests_ends.PeerEnded
requests_end (ends.CutShort rest) = requests_ends.CutShort rest
requests_end (ends.BadMessage status) = requests_ends.BadMessage status
requests_end ends.Quiet = requests_ends.Quiet
requests_end ends.LinkFault = requests_ends.LinkFault
requests_end ends.LimitReached = requests_ends.LimitReached
requests_end ends.Closed = requests_ends.Closed
requests_end (ends.Noticed feed) = requests_ends.Upgraded
requests_end ends.NoPlace = requests_ends.NoPlace
requests_end ends.NoMemory = requests_ends.NoMemory

-- an end without notices
abbrev pub IsPlainEnd : ConnEnd → Type 0
IsPlainEnd (ends.Noticed feed) = ⊥
IsPlainEnd _ = Unit {0}

-- what a WebSocket with these counts shows: its counts alone
abbrev pub wire_of : WireCounts → WireView
wire_of wires = record {
  sent = None;
  polls = None;
  faults = wires.refused;
  closed = wires.closed;
}

-- A feed was served after these items, the last of which was answered by the switch of protocols: on
-- its path and as its agent, from its place on, over the versions of each history that was kept.
pub record FeedServed (kept : History → Type 0) (items : List Item) (end : FeedEnd)
    (before after : Visit) (wires counted : WireCounts) : Type 0 where
  pub topic : List ℕ
  pub agent : Agent
  pub last : ℕ
  pub item : Item
  pub last_is : last_item items ≡ Some item
  pub is_about : (history : History) → kept history
      → IsAbout (version_of history).pod.base item topic agent last
  pub fed : (history : History) → kept history → IsFed (version_of history) topic agent last end
      before after (wire_of wires) (wire_of counted)
  pub seen : IsPrefix before.seen after.seen
  pub looks : before.looks ≤ after.looks
  pub changes : after.changes ≡ before.changes
  pub faults : after.faults ≡ before.faults
  pub wire : CountsWire end (wire_of wires) (wire_of counted)
  pub refused : CountsRefused end before.refused after.refused

-- A feed was served over the link; or memory ran out before its first look.
abbrev pub NoticesServed : (History → Type 0) → List Item → FeedEnd → Visit → Visit → LinkView
    → LinkView → WireCounts → WireCounts → Type 0
NoticesServed kept items end before after old new wires counted =
    ((end ≡ feeds.NoMemory) × (after ≡ before) × (new ≡ old) × (counted ≡ wires))
    ⊎ (FeedServed kept items end before after wires counted
    × PassesLink old.rest new.rest old.sent new.sent old.counts new.counts)

-- what follows the requests of a connection: notices after a switch of protocols, and else nothing
abbrev pub FollowsRequests : (History → Type 0) → List Item → ConnEnd → Visit → Visit → LinkView
    → LinkView → WireCounts → WireCounts → Type 0
FollowsRequests kept items (ends.Noticed end) before after old new wires counted =
    NoticesServed kept items end before after old new wires counted
FollowsRequests kept items end before after old new wires counted =
    (after ≡ before) × (new ≡ old) × (counted ≡ wires)

-- The connection of that number was served by a session, and ended so. Its requests were served, and
-- what a switch of protocols leads to follows them: what its feed reads and sends follows what the
-- requests did. The items of the requests lead from what the session had seen to what it has seen
-- afterwards.
pub record ConnServed (kept : History → Type 0) (first : ℕ) (may_give : ℕ → Type 0)
    (asking : Request → AskedAgent) (conn : ℕ) (end : ConnEnd) (before after : Visit)
    (old new : LinkView) (wires counted : WireCounts) : Type 0 where
  pub mid : Visit
  pub turned : LinkView
  pub requests : RequestsServed kept first may_give asking conn (requests_end end) before mid old
      turned
  pub items : Items
  pub items_are : items ≡ requests.items
  pub walk : Walk kept first conn may_give before.seen items.list after.seen
  pub follows : FollowsRequests kept items.list end mid after turned new wires counted
