-- All connections of a run, as connections of one world.
use Rattle.std.proofs.Common.{◌≡◌, ◌≢◌, inl, inr, ℕ, suc, ◌+◌, ◌*◌, ◌<◌, ◌≤◌, ◌==◌, ◌||◌, Bool, true, false, List, [], ◌∷◌, ◌++◌, length, Option, Some, None, refl, sym, ap, subst, ◌∙◌, arith}
use Rattle.std.specs.List.{AllByRecursion}
use Rattle.std.proofs.lemmas.Bool.Decides.{eqb_tells}
use Rattle.std.proofs.lemmas.List.{append-nil}
use mathlib.Core.List.{IsPrefix}
use Rattle.conn_talk.specs.Agents.{asking_of}
use Rattle.conn_talk.specs.declared.agents.Agents.TheVariants.{Table}
use Rattle.http_conn.specs.Messages.{Messages, unfinished, in_head}
use Rattle.pod_base.proofs.Prefixes.{prefix_self, prefix_trans}
use Rattle.pod_base.specs.declared.heard.Heard.{Heard}
use Rattle.pod_base.specs.declared.request.Request.{Request}
use Rattle.pod_command.specs.declared.entry.Entry.{Entry}
use Rattle.pod_core.specs.History.{History, end_of, longer}
use Rattle.pod_core.specs.Session.{Item}
use Rattle.pod_core.specs.KeeperSteps.{KeeperView, free}
use Rattle.pod_core.specs.Output.{output_of}
use Rattle.pod_core.specs.World.{Connection, Event, IsSettled, World, WorldRun, first_connection, first_world}
use Rattle.pod_live.specs.Stores.{KeptSome}
use Rattle.pod_live.specs.Visits.{Visit}
use Rattle.pod_serve.specs.Connections.{ConnServed, FollowsRequests, requests_end}
use Rattle.pod_serve.specs.Desks.{Conns, GateView, IsDeskEnd, NoneOutOfMemory, ServedLink}
use Rattle.pod_serve.specs.PoddRuns.{AreServed, DeskRun}
use Rattle.pod_serve.specs.RunHosts.{Host}
use Rattle.pod_serve.specs.Served.{AreEventsRead, Items, LinkView}
use Rattle.pod_serve.specs.WorldRuns.{IsRun, fresh_connection}
use Rattle.pod_serve.specs.declared.connection_end.ConnEnd.{ConnEnd}
use Rattle.pod_serve.specs.declared.connection_end.ConnEnd.TheVariants as ends
use Rattle.pod_serve.specs.declared.desk.DeskEnd.{DeskEnd}
use Rattle.pod_serve.specs.declared.desk.DeskEnd.TheVariants.{GateEnded, GateFailed, NoMemory}
use Rattle.reply_laws.specs.Laws.{EntriesHaveBases, ReadsHaveNone}
use Rattle.serve_laws.specs.EachOnce.{conn_items, desk_items, times_added}
use Rattle.serve_laws.specs.Replied.{IsReplied}
use Rattle.serve_laws.specs.WholeWorld.{AllInWorld, AreInWorld, IsInWorld, IsOneWorld, RunsAreWorlds, conn_numbers, desk_numbers, is_among}
use Rattle.serve_laws.proofs.EachOnceLemmas.{all_append, apart, conns_later, each_once, times_append}
use Rattle.serve_laws.proofs.Schedule.{Apart, At, Climbs, IsDone, IsFine, IsOk, Scheduled, Track, all_scheduled, climbs_from, steps_items, total}
use Rattle.serve_laws.proofs.TrackLemmas.{track_items, track_of, walk_climbs, walk_fine}
use Rattle.socket_wire.specs.Counted.{WireCounts}
use Rattle.token_table.specs.Credentials.{AskedAgent}
use Rattle.world_laws.specs.OneHistory.{OnlyGrows}

-- ---- lists

all_split : {X : Type 0} (P : X → Type 0) (xs ys : List X) → AllByRecursion P (xs ++ ys) → AllByRecursion P xs × AllByRecursion P ys
all_split P [] ys h = (tt, h)
all_split P (x ∷ xs) ys h =
    let r = all_split P xs ys h.1 in ((h.0, r.0), r.1)

first_among : (n : ℕ) (ns : List ℕ) → is_among (n ∷ ns) n ≡ true
first_among n ns = elim (eqb_tells n n) [
  | inl w ↦ ap (λ b. b || is_among ns n) w.0
  | inr w ↦ absurd (w.1 refl)
]

more_among : (m k : ℕ) (ns : List ℕ) → is_among ns k ≡ true → is_among (m ∷ ns) k ≡ true
more_among m k ns e = elim (k == m) as (λ b. (b || is_among ns k) ≡ true) [
  | true ↦ refl
  | false ↦ e
]

all_among : (ns ms : List ℕ) → ((k : ℕ) → is_among ns k ≡ true → is_among ms k ≡ true) → AllByRecursion (λ (n : ℕ). is_among ms n ≡ true) ns
all_among [] ms f = tt
all_among (n ∷ ns) ms f = (f n (first_among n ns), all_among ns ms (λ k e. f k (more_among n k ns e)))

all_weaker : {X : Type 0} (P Q : X → Type 0) → ((x : X) → P x → Q x) → (xs : List X) → AllByRecursion P xs → AllByRecursion Q xs
all_weaker P Q f [] h = tt
all_weaker P Q f (x ∷ xs) h = (f x h.0, all_weaker P Q f xs h.1)

-- ---- one connection

-- what was read of a connection has a parse, unless it was out of memory
parse_of : (end : ConnEnd) → end ≢ ends.NoMemory → (read : List ℕ) (events : List Heard) (left : Option (List ℕ)) → AreEventsRead (requests_end end) read events left → (all : List Heard) × (rest : ℕ) × Messages read all rest
parse_of ends.PeerEnded ne read events left h = (events, 0, h.0)
parse_of (ends.CutShort cut) ne read events left h = (events, cut, h.0)
parse_of (ends.BadMessage status) ne read events left h = (events, 0, h.0)
parse_of ends.Quiet ne read events left h = (events, h.0, h.1)
parse_of ends.LinkFault ne read events left h = (h.0, h.1, h.2)
parse_of ends.LimitReached ne read events left h = (events, 0, h.0)
parse_of ends.Closed ne read events left h = (events, 0, h.0)
parse_of (ends.Noticed feed) ne read events left h = (events, h.0, h.1)
parse_of ends.NoPlace ne read events left h = (events, h.0, h.1)
parse_of ends.NoMemory ne read events left h = absurd (ne refl)

same_seen : (before after : Visit) → after ≡ before → IsPrefix before.seen after.seen
same_seen before after same = subst (λ (v : Visit). IsPrefix before.seen v.seen) (sym same) (prefix_self before.seen)

-- what follows the requests has seen all that they have
then_seen : (kept : History → Type 0) (items : List Item) (end : ConnEnd) (before after : Visit) (old new : LinkView) (wires counted : WireCounts) → FollowsRequests kept items end before after old new wires counted → IsPrefix before.seen after.seen
then_seen kept items (ends.Noticed end) before after old new wires counted f = elim f [
  | inl w ↦ same_seen before after w.1
  | inr w ↦ w.0.seen
]
then_seen kept items ends.PeerEnded before after old new wires counted f = same_seen before after f.0
then_seen kept items (ends.CutShort rest) before after old new wires counted f = same_seen before after f.0
then_seen kept items (ends.BadMessage status) before after old new wires counted f = same_seen before after f.0
then_seen kept items ends.Quiet before after old new wires counted f = same_seen before after f.0
then_seen kept items ends.LinkFault before after old new wires counted f = same_seen before after f.0
then_seen kept items ends.LimitReached before after old new wires counted f = same_seen before after f.0
then_seen kept items ends.Closed before after old new wires counted f = same_seen before after f.0
then_seen kept items ends.NoPlace before after old new wires counted f = same_seen before after f.0
then_seen kept items ends.NoMemory before after old new wires counted f = same_seen before after f.0

module _ {D G C : Type 0} (host : Host D G C) (kept : History → Type 0) (first : ℕ) (asking : Request → AskedAgent) (step : ℕ) (history : History) (held : kept history) (based : end_of history ≡ first) (list : List Entry) (no_entries : ReadsHaveNone) (start : World)
    (seen_shown : (events : List Event) (world : World) → WorldRun host.may_give asking start events world → (n : ℕ) (c : Connection) → world.connections n ≡ Some c → c.seen ≤ world.published) where
  abbrev Tracked : Type 0
  Tracked = Track kept host.may_give asking

  abbrev AreOk : List Tracked → Type 0
  AreOk ts = AllByRecursion (IsOk kept host.may_give asking history held list first based start seen_shown first start) ts

  abbrev AreApart : List Tracked → Type 0
  AreApart ts = Apart kept host.may_give asking history held list first based start seen_shown ts

  abbrev counts : ℕ → List Tracked → ℕ
  counts place ts = total kept host.may_give asking history held list first based start seen_shown place ts

  abbrev AreDone : World → List Tracked → Type 0
  AreDone world ts = IsDone kept host.may_give asking history held list first based start seen_shown world ts

  counts_both : (place : ℕ) (xs ys : List Tracked) → counts place (xs ++ ys) ≡ counts place xs + counts place ys
  counts_both place [] ys = omega arith
  counts_both place (x ∷ xs) ys = omega (arith, counts_both place xs ys)

  abbrev IsNotIn : List Tracked → Tracked → Type 0
  IsNotIn ys x = AllByRecursion (λ (t : Tracked). x.conn ≢ t.conn) ys

  apart_both : (xs ys : List Tracked) → AreApart xs → AreApart ys → AllByRecursion (IsNotIn ys) xs → AreApart (xs ++ ys)
  apart_both [] ys a b c = b
  apart_both (x ∷ xs) ys a b c = (all_append (λ (t : Tracked). x.conn ≢ t.conn) xs ys a.0 c.0, apart_both xs ys a.1 b c.1)

  abbrev HasNew : ℕ → Type 0
  HasNew n = start.connections n ≡ Some (fresh_connection first)

  module _ (number : ℕ) (end : ConnEnd) (before after : Visit) (old new : LinkView) (wires counted : WireCounts) (s : ConnServed kept first host.may_give asking number end before after old new wires counted) (ne : end ≢ ends.NoMemory) where
    abbrev its_parse : (all : List Heard) × (rest : ℕ) × Messages s.requests.read all rest
    its_parse = parse_of end ne s.requests.read s.requests.events s.turned.rest s.requests.hears

    abbrev its_run : IsRun kept host.may_give asking number s.mid.seen first s.requests.arrivals.pieces s.requests.items.list s.requests.items.refusal s.requests.read its_parse.0
    its_run = s.requests.run its_parse.0 its_parse.1 its_parse.2 first (omega arith)

    abbrev its_track : Tracked
    its_track = track_of kept host.may_give asking number s.mid.seen first s.requests.arrivals.pieces s.requests.items.list s.requests.items.refusal s.requests.read its_parse.0 its_run

    its_items : steps_items its_track.steps ≡ s.requests.items.list
    its_items = track_items kept host.may_give asking number s.mid.seen first s.requests.arrivals.pieces s.requests.items.list s.requests.items.refusal s.requests.read its_parse.0 its_run

    its_counts : (place : ℕ) → times_added place (steps_items its_track.steps) ≡ times_added place s.items.list
    its_counts place = ap (times_added place) its_items ∙ ap (λ (i : Items). times_added place i.list) (sym s.items_are)

    its_ok : IsPrefix after.seen list → HasNew number → AllByRecursion (λ (item : Item). IsReplied item.outcome) s.items.list → IsOk kept host.may_give asking history held list first based start seen_shown first start its_track
    its_ok p there replied =
        let answered : AllByRecursion (λ (item : Item). IsReplied item.outcome) s.requests.items.list = subst (λ (i : Items). AllByRecursion (λ (item : Item). IsReplied item.outcome) i.list) s.items_are replied in
        record {
          there = there;
          within = prefix_trans s.mid.seen after.seen list (then_seen kept s.items.list end s.mid after s.turned new wires counted s.follows) p;
          climbs = subst (Climbs first) (sym its_items)
              (climbs_from first (first + length before.seen) s.requests.items.list (omega arith) (walk_climbs kept first number host.may_give history held no_entries s.requests.items.list before.seen s.mid.seen s.requests.walk answered));
          fine = subst (AllByRecursion IsFine) (sym its_items) (walk_fine kept first number host.may_give history held no_entries s.requests.items.list before.seen s.mid.seen s.requests.walk answered);
        }

    its_world : (world : World) → world.connections number ≡ Some its_track.last → IsInWorld world s
    its_world world there = record {
      connection = its_run.last;
      is_there = there;
      input = its_run.input;
      all = its_parse.0;
      rest = its_parse.1;
      messages = its_parse.2;
      output = its_run.output ∙ ap (λ (i : Items). output_of its_parse.0 i.list i.refusal) (sym s.items_are);
    }

  -- ---- the connections of a desk

  abbrev AreConns : ℕ → Visit → List (ServedLink C) → Visit → Type 0
  AreConns number before links after = Conns kept first host.may_give asking host.link_view step number before links after

  abbrev conn_tracks : (number : ℕ) (before : Visit) (links : List (ServedLink C)) (after : Visit) → AreConns number before links after → NoneOutOfMemory links → List Tracked
  conn_tracks number before [] after c m = []
  conn_tracks number before (one ∷ others) after c m =
      its_track number one.end before c.0 (host.link_view one.given) (host.link_view one.back) one.wires one.counted c.1 m.0 ∷ conn_tracks (number + step) c.0 others after c.2 m.1

  conn_counts : (place number : ℕ) (before : Visit) (links : List (ServedLink C)) (after : Visit) (c : AreConns number before links after) (m : NoneOutOfMemory links)
      → counts place (conn_tracks number before links after c m) ≡ times_added place (conn_items kept first host.may_give asking host.link_view step number before links after c)
  conn_counts place number before [] after c m = refl
  conn_counts place number before (one ∷ others) after c m =
      omega (
        arith,
        its_counts number one.end before c.0 (host.link_view one.given) (host.link_view one.back) one.wires one.counted c.1 m.0 place,
        conn_counts place (number + step) c.0 others after c.2 m.1,
        times_append place c.1.items.list (conn_items kept first host.may_give asking host.link_view step (number + step) c.0 others after c.2),
      )

  conn_ok : (number : ℕ) (before : Visit) (links : List (ServedLink C)) (after : Visit) (c : AreConns number before links after) (m : NoneOutOfMemory links) → IsPrefix after.seen list → AllByRecursion HasNew (conn_numbers step number links)
      → AllByRecursion (λ (item : Item). IsReplied item.outcome) (conn_items kept first host.may_give asking host.link_view step number before links after c) → AreOk (conn_tracks number before links after c m)
  conn_ok number before [] after c m p there replied = tt
  conn_ok number before (one ∷ others) after c m p there replied =
      let both = all_split (λ (item : Item). IsReplied item.outcome) c.1.items.list (conn_items kept first host.may_give asking host.link_view step (number + step) c.0 others after c.2) replied in (
        its_ok number one.end before c.0 (host.link_view one.given) (host.link_view one.back) one.wires one.counted c.1 m.0 (prefix_trans c.0.seen after.seen list (conns_later kept first host.may_give asking host.link_view step (number + step) c.0 others after c.2) p) there.0 both.0,
        conn_ok (number + step) c.0 others after c.2 m.1 p there.1 both.1,
      )

  -- their numbers
  abbrev IsOn : ℕ → Tracked → Type 0
  IsOn number t = (j : ℕ) × (t.conn ≡ number + j * step)

  next_on : (number : ℕ) (t : Tracked) → IsOn (number + step) t → IsOn number t
  next_on number t o = (suc o.0, omega (arith, o.1))

  conn_on : (number : ℕ) (before : Visit) (links : List (ServedLink C)) (after : Visit) (c : AreConns number before links after) (m : NoneOutOfMemory links) → AllByRecursion (IsOn number) (conn_tracks number before links after c m)
  conn_on number before [] after c m = tt
  conn_on number before (one ∷ others) after c m = (
    (0, omega arith),
    all_weaker (IsOn (number + step)) (IsOn number) (next_on number) (conn_tracks (number + step) c.0 others after c.2 m.1) (conn_on (number + step) c.0 others after c.2 m.1),
  )

  past_on : 0 < step → (number : ℕ) (t : Tracked) → IsOn (number + step) t → number ≢ t.conn
  past_on some number t o = λ e. omega (arith, some, e, o.1)

  conn_apart : 0 < step → (number : ℕ) (before : Visit) (links : List (ServedLink C)) (after : Visit) (c : AreConns number before links after) (m : NoneOutOfMemory links) → AreApart (conn_tracks number before links after c m)
  conn_apart some number before [] after c m = tt
  conn_apart some number before (one ∷ others) after c m = (
    all_weaker (IsOn (number + step)) (λ (t : Tracked). number ≢ t.conn) (past_on some number) (conn_tracks (number + step) c.0 others after c.2 m.1) (conn_on (number + step) c.0 others after c.2 m.1),
    conn_apart some (number + step) c.0 others after c.2 m.1,
  )

  conn_done : (world : World) (number : ℕ) (before : Visit) (links : List (ServedLink C)) (after : Visit) (c : AreConns number before links after) (m : NoneOutOfMemory links) → AreDone world (conn_tracks number before links after c m)
      → AreInWorld kept first host.may_give asking host.link_view step world number before links after c
  conn_done world number before [] after c m d = tt
  conn_done world number before (one ∷ others) after c m d = (
    its_world number one.end before c.0 (host.link_view one.given) (host.link_view one.back) one.wires one.counted c.1 m.0 world d.0,
    conn_done world (number + step) c.0 others after c.2 m.1 d.1,
  )

  -- ---- all desks

  none_out : (end : DeskEnd) → end ≢ NoMemory → (links : List (ServedLink C)) (old new : GateView C) → IsDeskEnd end links old new → NoneOutOfMemory links
  none_out GateEnded ne links old new e = e.0
  none_out GateFailed ne links old new e = e.0
  none_out NoMemory ne links old new e = absurd (ne refl)

  abbrev AreDesks : ℕ → List (DeskRun G) → Type 0
  AreDesks number desks = AreServed host kept first asking list step number desks

  abbrev InMemory : List (DeskRun G) → Type 0
  InMemory desks = AllByRecursion (λ (desk : DeskRun G). desk.end ≢ NoMemory) desks

  abbrev its_none : (number : ℕ) (desk : DeskRun G) (others : List (DeskRun G)) (s : AreDesks number (desk ∷ others)) → desk.end ≢ NoMemory → NoneOutOfMemory s.1.links
  its_none number desk others s ne = none_out desk.end ne s.1.links (host.gate_view desk.opened) (host.gate_view desk.back) s.1.ended

  abbrev head_tracks : (number : ℕ) (desk : DeskRun G) (others : List (DeskRun G)) → AreDesks number (desk ∷ others) → desk.end ≢ NoMemory → List Tracked
  head_tracks number desk others s ne = conn_tracks number desk.before s.1.links desk.after s.1.conns (its_none number desk others s ne)

  abbrev all_tracks : (number : ℕ) (desks : List (DeskRun G)) → AreDesks number desks → InMemory desks → List Tracked
  all_tracks number [] s m = []
  all_tracks number (desk ∷ others) s m = head_tracks number desk others s m.0 ++ all_tracks (number + 1) others s.3 m.1

  abbrev its_head : (number : ℕ) (desk : DeskRun G) (others : List (DeskRun G)) → AreDesks number (desk ∷ others) → List Item
  its_head number desk others s = conn_items kept first host.may_give asking host.link_view step number desk.before s.1.links desk.after s.1.conns

  abbrev its_all : (number : ℕ) (desks : List (DeskRun G)) → AreDesks number desks → List Item
  its_all number desks s = desk_items host kept first asking list step number desks s

  abbrev its_numbers : (number : ℕ) (desks : List (DeskRun G)) → AreDesks number desks → List ℕ
  its_numbers number desks s = desk_numbers host kept first asking list step number desks s

  all_counts : (place number : ℕ) (desks : List (DeskRun G)) (s : AreDesks number desks) (m : InMemory desks) → counts place (all_tracks number desks s m) ≡ times_added place (its_all number desks s)
  all_counts place number [] s m = refl
  all_counts place number (desk ∷ others) s m =
      omega (
        arith,
        counts_both place (head_tracks number desk others s m.0) (all_tracks (number + 1) others s.3 m.1),
        conn_counts place number desk.before s.1.links desk.after s.1.conns (its_none number desk others s m.0),
        all_counts place (number + 1) others s.3 m.1,
        times_append place (its_head number desk others s) (its_all (number + 1) others s.3),
      )

  all_ok : (number : ℕ) (desks : List (DeskRun G)) (s : AreDesks number desks) (m : InMemory desks) → AllByRecursion HasNew (its_numbers number desks s) → AllByRecursion (λ (item : Item). IsReplied item.outcome) (its_all number desks s) → AreOk (all_tracks number desks s m)
  all_ok number [] s m there replied = tt
  all_ok number (desk ∷ others) s m there replied =
      let news = all_split HasNew (conn_numbers step number s.1.links) (its_numbers (number + 1) others s.3) there in
      let both = all_split (λ (item : Item). IsReplied item.outcome) (its_head number desk others s) (its_all (number + 1) others s.3) replied in
      all_append (IsOk kept host.may_give asking history held list first based start seen_shown first start) (head_tracks number desk others s m.0) (all_tracks (number + 1) others s.3 m.1)
      (conn_ok number desk.before s.1.links desk.after s.1.conns (its_none number desk others s m.0) s.2 news.0 both.0)
      (all_ok (number + 1) others s.3 m.1 news.1 both.1)

  -- the desk of a connection, by its number
  abbrev IsOnDesk : ℕ → ℕ → Tracked → Type 0
  IsOnDesk low high t = (d : ℕ) × (low ≤ d) × (d < high) × ((j : ℕ) × (t.conn ≡ d + j * step))

  all_on : (number high : ℕ) (desks : List (DeskRun G)) (s : AreDesks number desks) (m : InMemory desks) → number + length desks ≤ high → AllByRecursion (IsOnDesk number high) (all_tracks number desks s m)
  all_on number high [] s m within = tt
  all_on number high (desk ∷ others) s m within =
      all_append (IsOnDesk number high) (head_tracks number desk others s m.0) (all_tracks (number + 1) others s.3 m.1)
      (all_weaker (IsOn number) (IsOnDesk number high) (λ t o. (number, omega arith, omega (arith, within), o)) (head_tracks number desk others s m.0)
      (conn_on number desk.before s.1.links desk.after s.1.conns (its_none number desk others s m.0)))
      (all_weaker (IsOnDesk (number + 1) high) (IsOnDesk number high) (λ t o. (o.0, omega (arith, o.1), o.2, o.3)) (all_tracks (number + 1) others s.3 m.1) (all_on (number + 1) high others s.3 m.1 (omega (arith, within))))

  differs : (number high : ℕ) → high ≤ number + step → (x : Tracked) → IsOn number x → (u : Tracked) → IsOnDesk (number + 1) high u → x.conn ≢ u.conn
  differs number high few x o u p = λ e. apart number p.0 step o.0 p.3.0 (omega (arith, p.1)) (omega (arith, p.2, few)) (sym o.1 ∙ (e ∙ p.3.1))

  all_apart : 0 < step → (number high : ℕ) (desks : List (DeskRun G)) (s : AreDesks number desks) (m : InMemory desks) → number + length desks ≤ high → high ≤ number + step → AreApart (all_tracks number desks s m)
  all_apart some number high [] s m within few = tt
  all_apart some number high (desk ∷ others) s m within few =
      let heads = head_tracks number desk others s m.0 in
      let rest = all_tracks (number + 1) others s.3 m.1 in
      let on = all_on (number + 1) high others s.3 m.1 (omega (arith, within)) in
      apart_both heads rest (conn_apart some number desk.before s.1.links desk.after s.1.conns (its_none number desk others s m.0))
      (all_apart some (number + 1) high others s.3 m.1 (omega (arith, within)) (omega (arith, few)))
      (all_weaker (IsOn number) (IsNotIn rest) (λ x o. all_weaker (IsOnDesk (number + 1) high) (λ (t : Tracked). x.conn ≢ t.conn) (differs number high few x o) rest on) heads
      (conn_on number desk.before s.1.links desk.after s.1.conns (its_none number desk others s m.0)))

  apart_desks : (desks : List (DeskRun G)) (s : AreDesks 1 desks) (m : InMemory desks) → length desks ≡ step → AreApart (all_tracks 1 desks s m)
  apart_desks [] s m all = tt
  apart_desks (desk ∷ others) s m all = all_apart (omega (arith, all)) 1 (1 + step) (desk ∷ others) s m (omega (arith, all)) (omega arith)

  all_done : (world : World) (number : ℕ) (desks : List (DeskRun G)) (s : AreDesks number desks) (m : InMemory desks) → AreDone world (all_tracks number desks s m) → AllInWorld host kept first asking list step world number desks s
  all_done world number [] s m d = tt
  all_done world number (desk ∷ others) s m d =
      let both = all_split (λ (t : Tracked). world.connections t.conn ≡ Some t.last) (head_tracks number desk others s m.0) (all_tracks (number + 1) others s.3 m.1) d in (
        conn_done world number desk.before s.1.links desk.after s.1.conns (its_none number desk others s m.0) both.0,
        all_done world (number + 1) others s.3 m.1 both.1,
      )

-- ---- the first world

first_settled : (place : ℕ) (b : Bool) → IsSettled (first_connection place b) (first_connection place b)
first_settled place false = tt
first_settled place true = inr (record {
  later = [];
  rest = 0;
  events = unfinished [] [] [] refl (record { few = omega arith; stays = tt }) (in_head refl);
  not_switched = refl;
  new_is = refl;
})

none_yet : (history : History) → longer history [] ≡ history
none_yet history = λ i. record history { entries = append-nil history.entries i }

pub runs_are_worlds : {D G C : Type 0} (host : Host D G C) → EntriesHaveBases → ReadsHaveNone → OnlyGrows host.may_give → RunsAreWorlds host
runs_are_worlds host bases no_entries grows keeper left agents gates old new status run replied in_memory history held =
    let kept = KeptSome host.image keeper in
    let first = keeper.next in
    let asking = asking_of (Table agents) in
    let step = length run.desks in
    let based : end_of history ≡ first = sym held.2.next in
    let numbers = desk_numbers host kept first asking run.list step 1 run.desks run.served in
    let start : World = first_world history (is_among numbers) in
    let seen_shown : (events : List Event) (world : World) → WorldRun host.may_give asking start events world → (n : ℕ) (c : Connection) → world.connections n ≡ Some c → c.seen ≤ world.published =
    λ events world goes n c there. (grows asking history (is_among numbers) events world goes).seen n c there in
    let tracks = all_tracks host kept first asking step history held based run.list no_entries start seen_shown 1 run.desks run.served in_memory in
    let news : AllByRecursion (λ (n : ℕ). start.connections n ≡ Some (fresh_connection first)) numbers =
    all_weaker (λ (n : ℕ). is_among numbers n ≡ true) (λ (n : ℕ). start.connections n ≡ Some (fresh_connection first)) (λ n e. ap (first_connection (end_of history)) e ∙ ap (λ (p : ℕ). Some (fresh_connection p)) based) numbers (all_among numbers numbers (λ k e. e)) in
    let ok = all_ok host kept first asking step history held based run.list no_entries start seen_shown 1 run.desks run.served in_memory news replied in
    let once = each_once host kept first asking run.list step bases history held run.desks run.served refl run.grown in
    let apart_all = apart_desks host kept first asking step history held based run.list no_entries start seen_shown run.desks run.served in_memory refl in
    let at : At kept host.may_give asking history held run.list first based start seen_shown [] start = record {
      events = [];
      run = refl;
      runs = refl;
      keeper = λ i. record { history = sym (none_yet history) i; doubt = None; phase = free };
      published = ap end_of (sym (none_yet history));
      settled = λ n. first_settled (end_of history) (is_among numbers n);
    } in
    let done = all_scheduled kept host.may_give asking history held run.list first based start seen_shown tracks at ok apart_all
    (λ place from to. all_counts host kept first asking step history held based run.list no_entries start seen_shown place 1 run.desks run.served in_memory ∙ once.once place from to) in
    record {
      events = done.at.events;
      world = done.now;
      runs = done.at.run;
      history_is = ap (λ (k : KeeperView). k.history) done.at.keeper;
      published = done.at.published;
      connections = all_done host kept first asking step history held based run.list no_entries start seen_shown done.now 1 run.desks run.served in_memory done.done;
    }
