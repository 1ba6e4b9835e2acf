-- A link that a session served is a connection that was served.
use Rattle.std.proofs.Common.{◌≡◌, inl, inr, ℕ, ◌≤◌, true, false, List, [], ◌++◌, length, map, IfSome, Option, Some, None, sym, ap, subst, ◌∙◌, arith}
use Rattle.std.proofs.lemmas.List.{append-nil}
use mathlib.Core.List.{IsPrefix}
use Rattle.conn_talk.proofs.HeardLemmas.{requests_append}
use Rattle.conn_talk.specs.Turns.{Rules}
use Rattle.conn_talk.specs.Walks.{Walk}
use Rattle.conn_talk.proofs.WalkLemmas.{walk_is_session}
use Rattle.http_conn.specs.Messages.{Messages}
use Rattle.http_conn.proofs.EndLemmas.{ends_there as ends_after}
use Rattle.http_conn.proofs.Parses.{messages_one}
use Rattle.pod_base.specs.Counts.{CountIncreased}
use Rattle.pod_base.proofs.Prefixes.{prefix_trans}
use Rattle.pod_base.specs.declared.heard.Heard.{Heard}
use Rattle.pod_base.specs.declared.request.Request.{Request}
use Rattle.pod_command.specs.declared.entry.Entry.{Entry}
use Rattle.pod_core.specs.History.{History, IsHistory, end_of}
use Rattle.pod_io.specs.declared.link.LinkCounts.{LinkCounts}
use Rattle.pod_keeper.specs.Kept.{version_of}
use Rattle.pod_keeper.proofs.HistoryLaws.{version_next}
use Rattle.pod_live.specs.Visits.{IsTurnedAway, Visit}
use Rattle.pod_pages.specs.State.{VersionState}
use Rattle.published_view.specs.LookerState.{CountIncreasedByOne}
use Rattle.token_table.specs.Credentials.{AskedAgent}
use Rattle.pod_core.specs.Session.{IsRefused, Item, requests_of}
use Rattle.world_laws.proofs.WorldLists.{nothing_more}
use Rattle.pod_serve.specs.Served.{HasCause, IsAllWritten, AreEventsRead, IsWritten, Items, LinkView}
use Rattle.pod_serve.specs.Turns.{IsNoted}
use Rattle.pod_serve.specs.declared.upgrade.Upgrade.{Upgrade}
use Rattle.pod_serve.specs.Serving.{IsLeft, IsLinkServed, SeatPasses, SeatTurns}
use Rattle.pod_serve.specs.declared.requests_end.RequestsEnd.{RequestsEnd}
use Rattle.pod_serve.specs.declared.requests_end.RequestsEnd.TheVariants as ends
use Rattle.pod_serve.proofs.StoreAnswerLemmas.{chain_notes, chain_walks}
use Rattle.pod_serve.proofs.WorldRunLemmas.{is_run}

-- what a session has seen and counted stays
pub record IsSameVisit (old new : Visit) : Type 0 where
  pub seen : new.seen ≡ old.seen
  pub looks : new.looks ≡ old.looks
  pub changes : new.changes ≡ old.changes
  pub faults : new.faults ≡ old.faults

same_visit : (old new : Visit) → new ≡ old → IsSameVisit old new
same_visit old new e = record {
  seen = ap (λ (v : Visit). v.seen) e;
  looks = ap (λ (v : Visit). v.looks) e;
  changes = ap (λ (v : Visit). v.changes) e;
  faults = ap (λ (v : Visit). v.faults) e;
}

away_visit : (old new : Visit) → IsTurnedAway old new → IsSameVisit old new
away_visit old new away = record {
  seen = ap (λ (v : Visit). v.seen) away.rest;
  looks = ap (λ (v : Visit). v.looks) away.rest;
  changes = ap (λ (v : Visit). v.changes) away.rest;
  faults = ap (λ (v : Visit). v.faults) away.rest;
}

increased : (old new : ℕ) → CountIncreasedByOne old new → CountIncreased old new
increased old new c = λ below. omega (arith, c.1, below)

-- a text has one parse
same_heard : (read : List ℕ) (events all : List Heard) (left rest : ℕ) → Messages read events left → Messages read all rest → IsPrefix events all
same_heard read events all left rest h m = ([], append-nil events ∙ (messages_one read events all left rest h m).0)

-- what was heard comes first in all that there is to hear
heard_within : (end : RequestsEnd) (read : List ℕ) (events : List Heard) (left : Option (List ℕ)) → AreEventsRead end read events left → (all : List Heard) (rest : ℕ) → Messages read all rest → IsPrefix events all
heard_within ends.PeerEnded read events left h all rest m = same_heard read events all 0 rest h.0 m
heard_within (ends.CutShort cut) read events left h all rest m = same_heard read events all cut rest h.0 m
heard_within ends.Closed read events left h all rest m = same_heard read events all 0 rest h.0 m
heard_within ends.LimitReached read events left h all rest m = same_heard read events all 0 rest h.0 m
heard_within ends.Upgraded read events left h all rest m = same_heard read events all h.0 rest h.1 m
heard_within (ends.BadMessage status) read events left h all rest m = same_heard read events all 0 rest h.0 m
heard_within ends.Quiet read events left h all rest m = same_heard read events all h.0 rest h.1 m
heard_within ends.NoPlace read events left h all rest m = same_heard read events all h.0 rest h.1 m
heard_within ends.LinkFault read events left h all rest m = (h.3.0, sym h.3.1 ∙ (messages_one read h.0 all h.1 rest h.2 m).0)
heard_within ends.NoMemory read events left h all rest m =
    let w = h.whole all rest m in (w.0, sym w.1)

requests_within : (items : List Item) (events all : List Heard) → IsPrefix events all → IsPrefix (map (λ (item : Item). item.request) items) (requests_of events) → IsPrefix (map (λ (item : Item). item.request) items) (requests_of all)
requests_within items events all p q = prefix_trans (map (λ (item : Item). item.request) items) (requests_of events) (requests_of all) q (requests_of p.0, sym (requests_append events p.0) ∙ ap requests_of p.1)

refused_within : (may_give : ℕ → Type 0) (read : List ℕ) (events all : List Heard) (rest : ℕ) → Messages read all rest → IsPrefix events all → (items : List Item) (refusal : Option ℕ) → IfSome refusal (IsRefused may_give events items) → IfSome refusal (IsRefused may_give all items)
refused_within may_give read events all rest m p items None r = tt
refused_within may_give read events all rest m p items (Some moment) r =
    let none : p.0 ≡ [] = nothing_more 0 events p.0 r.bad (ends_after read (events ++ p.0) rest (subst (λ h. Messages read h rest) (sym p.1) m)) in
    let same : events ≡ all = sym (append-nil events) ∙ (ap (λ h. events ++ h) (sym none) ∙ p.1) in
    subst (λ h. IsRefused may_give h items moment) same r

module _ {A X Y : Type 0} (name : A → X) (mark : A → Y) (visit : A → Visit) (noted : A → Option Upgrade) (base : List ℕ) (kept : History → Type 0) (first conn : ℕ) (may_give : ℕ → Type 0) (asking : Request → AskedAgent) where
  abbrev seat_rules : Rules A
  seat_rules = record { conn = conn; may_give = may_give; asking = asking; trails = false; turns = SeatTurns name mark visit noted base kept first; passes = SeatPasses name mark visit noted base kept first }

  -- after the last item
  left_so : (end : RequestsEnd) (mid new : A) (events : List Heard) (items : Items) (written : List ℕ) → IsLeft seat_rules end mid new events items written → (name mid ≡ name new) × (mark mid ≡ mark new) × IsSameVisit (visit mid) (visit new)
  left_so ends.PeerEnded mid new events items written left = (ap name (sym left), ap mark (sym left), same_visit (visit mid) (visit new) (ap visit left))
  left_so (ends.CutShort rest) mid new events items written left = (ap name (sym left), ap mark (sym left), same_visit (visit mid) (visit new) (ap visit left))
  left_so (ends.BadMessage status) mid new events items written left = (ap name (sym left), ap mark (sym left), same_visit (visit mid) (visit new) (ap visit left))
  left_so ends.Quiet mid new events items written left = (ap name (sym left), ap mark (sym left), same_visit (visit mid) (visit new) (ap visit left))
  left_so ends.LinkFault mid new events items written (inl left) = (ap name (sym left), ap mark (sym left), same_visit (visit mid) (visit new) (ap visit left))
  left_so ends.LinkFault mid new events items written (inr left) = (left.1.0, left.1.1, away_visit (visit mid) (visit new) left.1.2.away)
  left_so ends.LimitReached mid new events items written left = (ap name (sym left), ap mark (sym left), same_visit (visit mid) (visit new) (ap visit left))
  left_so ends.Closed mid new events items written left = (ap name (sym left), ap mark (sym left), same_visit (visit mid) (visit new) (ap visit left))
  left_so ends.Upgraded mid new events items written left = (ap name (sym left), ap mark (sym left), same_visit (visit mid) (visit new) (ap visit left))
  left_so ends.NoPlace mid new events items written left = (left.1.0, left.1.1, away_visit (visit mid) (visit new) left.1.2.away)
  left_so ends.NoMemory mid new events items written left = (ap name (sym left), ap mark (sym left), same_visit (visit mid) (visit new) (ap visit left))

  serves_so : (end : RequestsEnd) (mid new : A) (read : List ℕ) (events : List Heard) (items : Items) (written : List ℕ) → IsLeft seat_rules end mid new events items written → (start now : LinkCounts) → ((end ≡ ends.NoPlace → ⊥) → IsWritten end start now read events items written) → IsWritten end start now read events items written
  serves_so ends.PeerEnded mid new read events items written left start now g = g (λ e. cc)
  serves_so (ends.CutShort rest) mid new read events items written left start now g = g (λ e. cc)
  serves_so (ends.BadMessage status) mid new read events items written left start now g = g (λ e. cc)
  serves_so ends.Quiet mid new read events items written left start now g = g (λ e. cc)
  serves_so ends.LinkFault mid new read events items written left start now g = g (λ e. cc)
  serves_so ends.LimitReached mid new read events items written left start now g = g (λ e. cc)
  serves_so ends.Closed mid new read events items written left start now g = g (λ e. cc)
  serves_so ends.Upgraded mid new read events items written left start now g = g (λ e. cc)
  serves_so ends.NoMemory mid new read events items written left start now g = g (λ e. cc)
  serves_so ends.NoPlace mid new read events items written left start now g = left.2 left.1.2.no_change

  cause_so : (end : RequestsEnd) (old mid new : A) (events : List Heard) (items : Items) (written : List ℕ) → IsLeft seat_rules end mid new events items written → (visit old).refused ≤ (visit mid).refused → (start now : LinkCounts) → ((end ≡ ends.NoPlace → ⊥) → (before after : Visit) → HasCause end start now before after)
      → HasCause end start now (visit old) (visit new)
  cause_so ends.PeerEnded old mid new events items written left refused start now g = g (λ e. cc) (visit old) (visit new)
  cause_so (ends.CutShort rest) old mid new events items written left refused start now g = g (λ e. cc) (visit old) (visit new)
  cause_so (ends.BadMessage status) old mid new events items written left refused start now g = g (λ e. cc) (visit old) (visit new)
  cause_so ends.Quiet old mid new events items written left refused start now g = g (λ e. cc) (visit old) (visit new)
  cause_so ends.LinkFault old mid new events items written left refused start now g = g (λ e. cc) (visit old) (visit new)
  cause_so ends.LimitReached old mid new events items written left refused start now g = g (λ e. cc) (visit old) (visit new)
  cause_so ends.Closed old mid new events items written left refused start now g = g (λ e. cc) (visit old) (visit new)
  cause_so ends.Upgraded old mid new events items written left refused start now g = g (λ e. cc) (visit old) (visit new)
  cause_so ends.NoMemory old mid new events items written left refused start now g = g (λ e. cc) (visit old) (visit new)
  cause_so ends.NoPlace old mid new events items written left refused start now g = λ below. omega (arith, refused, increased (visit mid).refused (visit new).refused left.1.2.away.refused below)

  module _ (opened : VersionState) (holds : (history : History) → kept history → IsHistory history × (version_of history ≡ opened)) (at : first ≡ opened.next) where
    ends_there : (history : History) → kept history → end_of history ≡ first
    ends_there history k = sym (version_next history) ∙ (ap (λ (v : VersionState). v.next) (holds history k).1 ∙ sym at)

    pub requests_served : (end : RequestsEnd) (old new : A) (start now : LinkView) → IsLinkServed seat_rules end old new start now → (name old ≡ name new) × (mark old ≡ mark new) × IsNoted kept first may_give asking base conn end (visit old) (visit new) start now (noted new)
    requests_served end old new start now s =
        let walked = chain_walks name mark visit noted base kept first conn may_give asking s.items.list old s.mid s.are_items.chain in
        let left = left_so end s.mid new s.events s.items s.written s.left in
        let walk : Walk kept first conn may_give (visit old).seen s.items.list (visit new).seen = subst (λ (xs : List Entry). Walk kept first conn may_give (visit old).seen s.items.list xs) (sym left.2.seen) walked.2.walk in (
          walked.0 ∙ left.0,
          walked.1 ∙ left.1,
          record {
            requests = record {
              read = s.read;
              events = s.events;
              written = s.written;
              items = s.items;
              reads = s.reads;
              arrivals = s.arrivals;
              run = λ all rest m place le.
                  let within = heard_within end s.read s.events now.rest s.hears all rest m in
                  is_run kept first may_give asking conn ends_there s.read all rest m (visit new).seen (length s.items.list) s.arrivals.pieces s.items.list s.items.refusal (visit old).seen s.arrivals.text s.arrivals.in_turn s.are_items.numbers s.are_items.asked walk s.last
                  (requests_within s.items.list s.events all within s.requests) (refused_within may_give s.read s.events all rest m within s.items.list s.items.refusal s.refused) place le;
              hears = s.hears;
              walk = walk;
              session = λ history k list p. walk_is_session seat_rules kept first s.events s.items.list s.items.refusal (visit old).seen (visit new).seen old s.mid s.are_items s.requests s.last s.refused walk history k (ends_there history k) list p;
              writes = s.writes;
              serves = serves_so end s.mid new s.read s.events s.items s.written s.left start.counts now.counts s.serves;
              looks = left.2.looks ∙ walked.2.looks;
              changes = left.2.changes ∙ walked.2.changes;
              faults = left.2.faults ∙ walked.2.faults;
              cause = cause_so end old s.mid new s.events s.items s.written s.left walked.2.refused start.counts now.counts s.cause;
              ended = s.ended;
            };
            noted = λ is u noting.
                let same : new ≡ s.mid = subst (λ (e : RequestsEnd). IsLeft seat_rules e s.mid new s.events s.items s.written) is s.left in
                let all : IsAllWritten true s.events s.items s.written = subst (λ (e : RequestsEnd). (e ≡ ends.NoPlace → ⊥) → IsWritten e start.counts now.counts s.read s.events s.items s.written) is s.serves (λ e. cc e) in
                chain_notes name mark visit noted base kept first conn may_give asking s.items.list old s.mid s.are_items.chain all.last u (ap noted (sym same) ∙ noting);
          },
        )
