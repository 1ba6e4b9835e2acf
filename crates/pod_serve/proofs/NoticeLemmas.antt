-- A connection whose requests were served, and what follows them.
use Rattle.std.proofs.Common.{◌≡◌, inl, inr, ℕ, List, Option, Some, None, refl, sym, subst, arith}
use Rattle.pod_base.specs.declared.request.Request.{Request}
use Rattle.pod_core.specs.History.{History, IsHistory}
use Rattle.pod_core.specs.Session.{Item}
use Rattle.pod_feed.specs.Feeds.{IsFed}
use Rattle.pod_feed.specs.declared.feed_end.FeedEnd.{FeedEnd}
use Rattle.conn_talk.proofs.WalkLemmas.{walk_on}
use Rattle.pod_base.proofs.Prefixes.{prefix_self}
use Rattle.pod_feed.proofs.FeedLemmas.{continues_prefix}
use mathlib.Core.List.{IsPrefix}
use Rattle.std.specs.Option.{option_to_list}
use Rattle.std.specs.Prelude.{◌++◌}
use Rattle.pod_keeper.specs.Kept.{version_of}
use Rattle.pod_live.specs.Visits.{Visit}
use Rattle.pod_pages.specs.State.{VersionState}
use Rattle.socket_wire.specs.Counted.{WireCounts}
use Rattle.token_table.specs.Credentials.{AskedAgent}
use Rattle.pod_serve.specs.Connections.{ConnServed, FollowsRequests, IsPlainEnd, NoticesServed, requests_end, wire_of}
use Rattle.pod_serve.specs.Served.{LinkView, RequestsServed}
use Rattle.pod_serve.specs.Turns.{IsFeedOf, IsNoted}
use Rattle.pod_serve.specs.Upgrades.{IsAbout, last_item}
use Rattle.pod_serve.specs.declared.connection_end.ConnEnd.{ConnEnd}
use Rattle.pod_serve.specs.declared.connection_end.ConnEnd.TheVariants as ends
use Rattle.pod_serve.specs.declared.requests_end.RequestsEnd.{RequestsEnd}
use Rattle.pod_serve.specs.declared.requests_end.RequestsEnd.TheVariants as requests_ends
use Rattle.pod_serve.specs.declared.upgrade.Upgrade.{Upgrade}

-- what was seen before the feed is a prefix of what is seen after it
feed_grows : (opened : VersionState) (note : Option Upgrade) (feed : FeedEnd) (mid after : Visit) (turned new : LinkView) (wires counted : WireCounts) → IsFeedOf opened note feed mid after turned new wires counted → IsPrefix mid.seen after.seen
feed_grows opened None feed mid after turned new wires counted f = subst (λ (v : Visit). IsPrefix mid.seen v.seen) (sym f.1) (prefix_self mid.seen)
feed_grows opened (Some u) feed mid after turned new wires counted f =
    let fed : IsFed opened u.topic u.agent u.last feed mid after (wire_of wires) (wire_of counted) = f.0 in
    continues_prefix mid.seen (fed.turns ++ option_to_list fed.final) after.seen fed.seen

plain_follows : (kept : History → Type 0) (items : List Item) (told : ConnEnd) → IsPlainEnd told → (after : Visit) (new : LinkView) (wires : WireCounts) → FollowsRequests kept items told after after new new wires wires
plain_follows kept items ends.PeerEnded plain after new wires = (refl, refl, refl)
plain_follows kept items (ends.CutShort rest) plain after new wires = (refl, refl, refl)
plain_follows kept items (ends.BadMessage status) plain after new wires = (refl, refl, refl)
plain_follows kept items ends.Quiet plain after new wires = (refl, refl, refl)
plain_follows kept items ends.LinkFault plain after new wires = (refl, refl, refl)
plain_follows kept items ends.LimitReached plain after new wires = (refl, refl, refl)
plain_follows kept items ends.Closed plain after new wires = (refl, refl, refl)
plain_follows kept items (ends.Noticed feed) plain after new wires = absurd plain
plain_follows kept items ends.NoPlace plain after new wires = (refl, refl, refl)
plain_follows kept items ends.NoMemory plain after new wires = (refl, refl, refl)

module _ (kept : History → Type 0) (first : ℕ) (may_give : ℕ → Type 0) (asking : Request → AskedAgent) (opened : VersionState) (conn : ℕ) where
  -- without a switch of protocols nothing follows
  pub plain_served : (told : ConnEnd) (end : RequestsEnd) (before after : Visit) (old new : LinkView) (note : Option Upgrade) (wires : WireCounts) → requests_end told ≡ end → IsPlainEnd told → IsNoted kept first may_give asking opened.pod.base conn end before after old new note
      → ConnServed kept first may_give asking conn told before after old new wires wires
  plain_served told end before after old new note wires is plain n =
      let served : RequestsServed kept first may_give asking conn (requests_end told) before after old new = subst (λ (e : RequestsEnd). RequestsServed kept first may_give asking conn e before after old new) (sym is) n.requests in record {
        mid = after;
        turned = new;
        requests = served;
        items = served.items;
        items_are = refl;
        walk = served.walk;
        follows = plain_follows kept served.items.list told plain after new wires;
      }

  module _ (holds : (history : History) → kept history → IsHistory history × (version_of history ≡ opened)) where
    -- what was noted is what the last item is about, and its feed was served
    notices_so : (items : List Item) (feed : FeedEnd) (mid after : Visit) (turned new : LinkView) (wires counted : WireCounts) (note : Option Upgrade)
        → ((u : Upgrade) → note ≡ Some u → (item : Item) × (last_item items ≡ Some item) × IsAbout opened.pod.base item u.topic u.agent u.last)
        → IsFeedOf opened note feed mid after turned new wires counted → NoticesServed kept items feed mid after turned new wires counted
    notices_so items feed mid after turned new wires counted None noted f = inl f
    notices_so items feed mid after turned new wires counted (Some u) noted f =
        let one = noted u refl in
        let fed : IsFed opened u.topic u.agent u.last feed mid after (wire_of wires) (wire_of counted) = f.0 in
        inr (
          record {
            topic = u.topic;
            agent = u.agent;
            last = u.last;
            item = one.0;
            last_is = one.1;
            is_about = λ history k. subst (λ (v : VersionState). IsAbout v.pod.base one.0 u.topic u.agent u.last) (sym (holds history k).1) one.2;
            fed = λ history k. subst (λ (v : VersionState). IsFed v u.topic u.agent u.last feed mid after (wire_of wires) (wire_of counted)) (sym (holds history k).1) fed;
            seen = continues_prefix mid.seen (fed.turns ++ option_to_list fed.final) after.seen fed.seen;
            looks = omega (arith, fed.looks);
            changes = fed.changes;
            faults = fed.faults;
            wire = fed.wire;
            refused = fed.refused;
          },
          f.1,
        )

    pub noticed_served : (end : RequestsEnd) (feed : FeedEnd) (before mid after : Visit) (old turned new : LinkView) (note : Option Upgrade) (wires counted : WireCounts) → end ≡ requests_ends.Upgraded → IsNoted kept first may_give asking opened.pod.base conn end before mid old turned note
        → IsFeedOf opened note feed mid after turned new wires counted → ConnServed kept first may_give asking conn (ends.Noticed feed) before after old new wires counted
    noticed_served end feed before mid after old turned new note wires counted is n f =
        let m : IsNoted kept first may_give asking opened.pod.base conn requests_ends.Upgraded before mid old turned note = subst (λ (e : RequestsEnd). IsNoted kept first may_give asking opened.pod.base conn e before mid old turned note) is n in record {
          mid = mid;
          turned = turned;
          requests = m.requests;
          items = m.requests.items;
          items_are = refl;
          walk = walk_on kept first conn may_give m.requests.items.list before.seen mid.seen after.seen m.requests.walk (feed_grows opened note feed mid after turned new wires counted f);
          follows = notices_so m.requests.items.list feed mid after turned new wires counted note (m.noted refl) f;
        }
