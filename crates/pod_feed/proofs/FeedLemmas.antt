-- A feed, turn after turn.
use Rattle.std.proofs.Common.{◌≡◌, ◌<◌, ℕ, ◌+◌, List, [], ◌∷◌, ◌++◌, length, get_or, take, Option, Some, None, refl, sym, ap, subst, ◌∙◌, arith, append_assoc, length-append}
use Rattle.std.specs.Option.{option_map}
use Rattle.std.proofs.lemmas.List.{append-nil, take_more}
use mathlib.Core.List.{IsPrefix}
use Rattle.pod_base.specs.Counts.{CountIncreased}
use Rattle.pod_base.specs.declared.agent.Agent.{Agent}
use Rattle.pod_base.proofs.Prefixes.{prefix_self, prefix_trans}
use Rattle.pod_command.specs.declared.entry.Entry.{Entry}
use Rattle.pod_io.specs.Counts.{next_count}
use Rattle.pod_pages.specs.State.{VersionState, states_after}
use Rattle.pod_feed.specs.News.{IsNews, notices_of}
use Rattle.pod_feed.specs.declared.notices_due.News.{News}
use Rattle.pod_feed.specs.declared.notices_due.News.TheVariants as news
use Rattle.pod_live.specs.Visits.{IsTurnedAway, Looked, Visit}
use Rattle.published_view.specs.LookerState.{CountIncreasedByOne}
use Rattle.pod_feed.specs.Feeds.{AllReport, Continues, CountsRefused, CountsWire, EndsBy, IsFed, Reports, WireView, next_of, notices_from, polls_after}
use Rattle.pod_feed.specs.Turns.{FailsAfter, IsClosedAfter, IsFedThrough, IsLastTurn, IsFeedTurn}
use Rattle.pod_feed.specs.declared.feed_end.FeedEnd.{FeedEnd}
use Rattle.pod_feed.specs.declared.feed_end.FeedEnd.TheVariants as ends

maps_join : {A : Type 0} (f g h : A → A) (old mid new : Option A) → mid ≡ option_map f old → new ≡ option_map g mid → ((x : A) → g (f x) ≡ h x) → new ≡ option_map h old
maps_join f g h None mid new p q e = q ∙ ap (option_map g) p
maps_join f g h (Some x) mid new p q e = q ∙ (ap (option_map g) p ∙ ap (λ y. Some y) (e x))

maps_none : {A : Type 0} (f : A → A) (old : Option A) → ((x : A) → x ≡ f x) → old ≡ option_map f old
maps_none f None e = refl
maps_none f (Some x) e = ap (λ y. Some y) (e x)

-- one more text was sent
pub sends_more : (texts : List (List ℕ)) (i : ℕ) (x : List ℕ) (old mid new : Option (List (List ℕ))) → i < length texts → x ≡ get_or texts i x → mid ≡ option_map (λ told. told ++ take i texts) old → new ≡ option_map (λ told. told ++ x ∷ []) mid → new ≡ option_map (λ told. told ++ take (i + 1) texts) old
sends_more texts i x old mid new less at p q =
    maps_join (λ told. told ++ take i texts) (λ told. told ++ x ∷ []) (λ told. told ++ take (i + 1) texts) old mid new p q
    (λ told. append_assoc told (take i texts) (x ∷ []) ∙ ap (λ (ts : List (List ℕ)). told ++ ts) (sym (take_more texts i x less ∙ ap (λ (y : List ℕ). take i texts ++ y ∷ []) (sym at))))

continues_more : (before : List Entry) (turns : List (List Entry)) (mid after : List Entry) → Continues before turns mid → IsPrefix mid after → Continues before (turns ++ after ∷ []) after
continues_more before [] mid after c p = (subst (λ (b : List Entry). IsPrefix b after) (sym c) p, refl)
continues_more before (seen ∷ turns) mid after c p = (c.0, continues_more seen turns mid after c.1 p)

continues_same : (before : List Entry) (turns : List (List Entry)) (mid after : List Entry) → Continues before turns mid → mid ≡ after → Continues before turns after
continues_same before [] mid after c e = c ∙ e
continues_same before (seen ∷ turns) mid after c e = (c.0, continues_same seen turns mid after c.1 e)

-- what was seen at first is a prefix of what is seen in the end
pub continues_prefix : (before : List Entry) (looks : List (List Entry)) (after : List Entry) → Continues before looks after → IsPrefix before after
continues_prefix before [] after c = subst (λ (xs : List Entry). IsPrefix before xs) c (prefix_self before)
continues_prefix before (seen ∷ looks) after c = prefix_trans before seen after c.0 (continues_prefix seen looks after c.1)

length_more : (turns : List (List Entry)) (seen : List Entry) → length (turns ++ seen ∷ []) ≡ length turns + 1
length_more turns seen = length-append turns (seen ∷ [])

polls_more : (turns : List (List Entry)) (seen : List Entry) (count : ℕ) → next_count (polls_after (length turns) count) ≡ polls_after (length (turns ++ seen ∷ [])) count
polls_more [] seen count = refl
polls_more (turn ∷ turns) seen count = ap next_count (polls_more turns seen count)

module _ (opened : VersionState) (topic : List ℕ) (agent : Agent) where
  next_more : (last : ℕ) (turns : List (List Entry)) (seen : List Entry) → next_of opened last (turns ++ seen ∷ []) ≡ (states_after opened seen).next
  next_more last [] seen = refl
  next_more last (turn ∷ turns) seen = next_more (states_after opened turn).next turns seen

  reports_more : (last : ℕ) (turns : List (List Entry)) (seen : List Entry) → AllReport opened topic agent last turns → Reports opened topic agent (next_of opened last turns) seen → AllReport opened topic agent last (turns ++ seen ∷ [])
  reports_more last [] seen all r = (r, tt)
  reports_more last (turn ∷ turns) seen all r = (all.0, reports_more (states_after opened turn).next turns seen all.1 r)

  notices_more : (last : ℕ) (turns : List (List Entry)) (seen : List Entry) → notices_from opened topic last turns ++ notices_of (states_after opened seen) (next_of opened last turns) topic ≡ notices_from opened topic last (turns ++ seen ∷ [])
  notices_more last [] seen = sym (append-nil (notices_of (states_after opened seen) last topic))
  notices_more last (turn ∷ turns) seen =
      append_assoc (notices_of (states_after opened turn) last topic) (notices_from opened topic (states_after opened turn).next turns) (notices_of (states_after opened seen) (next_of opened (states_after opened turn).next turns) topic)
      ∙ ap (λ (ns : List (List ℕ)). notices_of (states_after opened turn) last topic ++ ns) (notices_more (states_after opened turn).next turns seen)

  pub begins : (first : ℕ) (now : Visit) (old : WireView) → IsFedThrough opened topic agent first first now now old old
  begins first now old = record {
    turns = [];
    seen = refl;
    looks = omega arith;
    reports = tt;
    last_is = refl;
    sent = maps_none (λ told. told ++ []) old.sent (λ told. sym (append-nil told));
    polls = maps_none (λ count. count) old.polls (λ count. refl);
    wire_faults = refl;
    closed = refl;
    refused = refl;
    changes = refl;
    faults = refl;
  }

  module _ (first last : ℕ) (before now after : Visit) (old mid new : WireView) (s : IsFedThrough opened topic agent first last before now old mid) where
    abbrev later : List (List Entry)
    later = s.turns ++ after.seen ∷ []

    abbrev told : List (List ℕ)
    told = notices_from opened topic first s.turns

    here : Reports opened topic agent last after.seen → Reports opened topic agent (next_of opened first s.turns) after.seen
    here r = subst (λ (n : ℕ). Reports opened topic agent n after.seen) s.last_is r

    looks_more : Looked now after → after.looks ≡ before.looks + length later
    looks_more l = omega (arith, l.looks, s.looks, length_more s.turns after.seen)

    sent_more : new.sent ≡ option_map (λ texts. texts ++ notices_of (states_after opened after.seen) last topic) mid.sent → new.sent ≡ option_map (λ texts. texts ++ notices_from opened topic first later) old.sent
    sent_more e = maps_join (λ texts. texts ++ told) (λ texts. texts ++ notices_of (states_after opened after.seen) last topic) (λ texts. texts ++ notices_from opened topic first later) old.sent mid.sent new.sent s.sent e
        (λ texts. append_assoc texts told (notices_of (states_after opened after.seen) last topic)
        ∙ (ap (λ (n : ℕ). texts ++ (told ++ notices_of (states_after opened after.seen) n topic)) s.last_is
        ∙ ap (λ (ns : List (List ℕ)). texts ++ ns) (notices_more first s.turns after.seen)))

    polled_more : new.polls ≡ option_map next_count mid.polls → new.polls ≡ option_map (polls_after (length later)) old.polls
    polled_more e = maps_join (polls_after (length s.turns)) next_count (polls_after (length later)) old.polls mid.polls new.polls s.polls e (λ count. polls_more s.turns after.seen count)

    pub goes_on : (next : ℕ) → IsFeedTurn opened topic agent last now after mid new next → IsFedThrough opened topic agent first next before after old new
    goes_on next t = record {
      turns = later;
      seen = continues_more before.seen s.turns now.seen after.seen s.seen t.looked.later;
      looks = looks_more t.looked;
      reports = reports_more first s.turns after.seen s.reports (here t.reports);
      last_is = t.next_is ∙ sym (next_more first s.turns after.seen);
      sent = sent_more t.wire.sent;
      polls = polled_more t.wire.polls;
      wire_faults = t.wire.faults ∙ s.wire_faults;
      closed = t.wire.closed ∙ s.closed;
      refused = t.looked.refused ∙ s.refused;
      changes = t.looked.changes ∙ s.changes;
      faults = t.looked.faults ∙ s.faults;
    }

    -- the poll found the wire closed
    closes : Looked now after → Reports opened topic agent last after.seen → IsClosedAfter (notices_of (states_after opened after.seen) last topic) mid new → IsFed opened topic agent first ends.PeerClosed before after old new
    closes l r w = record {
      turns = later;
      final = None;
      texts = [];
      seen = subst (λ (ts : List (List Entry)). Continues before.seen ts after.seen) (sym (append-nil later)) (continues_more before.seen s.turns now.seen after.seen s.seen l.later);
      looks = looks_more l ∙ ap (λ (ts : List (List Entry)). before.looks + length ts) (sym (append-nil later));
      reports = reports_more first s.turns after.seen s.reports (here r);
      sent = sent_more w.sent ∙ ap (λ (ns : List (List ℕ)). option_map (λ texts. texts ++ ns) old.sent) (sym (append-nil (notices_from opened topic first later)));
      polls = polled_more w.polls;
      ended = refl;
      polled = λ _. omega (arith, length_more s.turns after.seen);
      wire = (w.faults ∙ s.wire_faults, subst (λ (n : ℕ). CountIncreased n new.closed) s.closed w.closed);
      refused = l.refused ∙ s.refused;
      changes = l.changes ∙ s.changes;
      faults = l.faults ∙ s.faults;
    }

    -- a send or the poll failed
    fails : Looked now after → Reports opened topic agent last after.seen → FailsAfter (notices_of (states_after opened after.seen) last topic) mid new → IsFed opened topic agent first ends.WireFault before after old new
    fails l r w = record {
      turns = s.turns;
      final = Some after.seen;
      texts = w.some;
      seen = continues_more before.seen s.turns now.seen after.seen s.seen l.later;
      looks = looks_more l;
      reports = s.reports;
      sent = maps_join (λ texts. texts ++ told) (λ texts. texts ++ w.some) (λ texts. texts ++ (told ++ w.some)) old.sent mid.sent new.sent s.sent w.sent (λ texts. append_assoc texts told w.some);
      polls = w.polls ∙ s.polls;
      ended = (here r, subst (λ (n : ℕ). IsPrefix w.some (notices_of (states_after opened after.seen) n topic)) s.last_is w.part);
      polled = λ e. absurd (cc e);
      wire = (w.closed ∙ s.closed, subst (λ (n : ℕ). CountIncreased n new.faults) s.wire_faults w.faults);
      refused = l.refused ∙ s.refused;
      changes = l.changes ∙ s.changes;
      faults = l.faults ∙ s.faults;
    }

    same_sent : new ≡ mid → new.sent ≡ option_map (λ texts. texts ++ (told ++ [])) old.sent
    same_sent e = ap (λ (w : WireView). w.sent) e ∙ (s.sent ∙ ap (λ (ns : List (List ℕ)). option_map (λ texts. texts ++ ns) old.sent) (sym (append-nil told)))

    -- the look ended it
    ends_at_look : (end : FeedEnd) → Looked now after → new ≡ mid → EndsBy opened topic agent (next_of opened first s.turns) end (Some after.seen) [] → (end ≡ ends.PeerClosed → ⊥) → ((new.faults ≡ old.faults) × (new.closed ≡ old.closed) → CountsWire end old new)
        → (after.refused ≡ before.refused → CountsRefused end before.refused after.refused) → IsFed opened topic agent first end before after old new
    ends_at_look end l e by other counts refuses = record {
      turns = s.turns;
      final = Some after.seen;
      texts = [];
      seen = continues_more before.seen s.turns now.seen after.seen s.seen l.later;
      looks = looks_more l;
      reports = s.reports;
      sent = same_sent e;
      polls = ap (λ (w : WireView). w.polls) e ∙ s.polls;
      ended = by;
      polled = λ is. absurd (other is);
      wire = counts (ap (λ (w : WireView). w.faults) e ∙ s.wire_faults, ap (λ (w : WireView). w.closed) e ∙ s.closed);
      refused = refuses (l.refused ∙ s.refused);
      changes = l.changes ∙ s.changes;
      faults = l.faults ∙ s.faults;
    }

    -- a look was refused
    turned_away : IsTurnedAway now after → new ≡ mid → IsFed opened topic agent first ends.NoPlace before after old new
    turned_away t e =
        let kept : (P : Visit → ℕ) → P (record after { refused = now.refused }) ≡ P now = λ P. ap P t.rest in
        let seen : after.seen ≡ now.seen = ap (λ (v : Visit). v.seen) t.rest in
        record {
          turns = s.turns;
          final = None;
          texts = [];
          seen = subst (λ (ts : List (List Entry)). Continues before.seen ts after.seen) (sym (append-nil s.turns)) (continues_same before.seen s.turns now.seen after.seen s.seen (sym seen));
          looks = kept (λ v. v.looks) ∙ (s.looks ∙ ap (λ (ts : List (List Entry)). before.looks + length ts) (sym (append-nil s.turns)));
          reports = s.reports;
          sent = same_sent e;
          polls = ap (λ (w : WireView). w.polls) e ∙ s.polls;
          ended = refl;
          polled = λ is. absurd (cc is);
          wire = (ap (λ (w : WireView). w.faults) e ∙ s.wire_faults, ap (λ (w : WireView). w.closed) e ∙ s.closed);
          refused = subst (λ (n : ℕ). CountIncreasedByOne n after.refused) s.refused t.refused;
          changes = kept (λ v. v.changes) ∙ s.changes;
          faults = kept (λ v. v.faults) ∙ s.faults;
        }

    news_here : (told : News) → IsNews (states_after opened after.seen) last topic agent told → IsNews (states_after opened after.seen) (next_of opened first s.turns) topic agent told
    news_here told n = subst (λ (m : ℕ). IsNews (states_after opened after.seen) m topic agent told) s.last_is n

    pub ended : (end : FeedEnd) → IsLastTurn opened topic agent last now after mid new end → IsFed opened topic agent first end before after old new
    ended ends.PeerClosed t = closes t.0 t.1 t.2
    ended ends.WireFault t = fails t.0 t.1 t.2
    ended ends.NoPlace t = turned_away t.0 t.1
    ended ends.Revoked t = ends_at_look ends.Revoked t.0 t.2 (refl, news_here news.Revoked t.1) (λ e. cc e) (λ h. h) (λ h. h)
    ended (ends.Lagged from oldest) t = ends_at_look (ends.Lagged from oldest) t.0 t.2 (refl, news_here (news.Lagged from oldest) t.1) (λ e. cc e) (λ h. h) (λ h. h)
    ended ends.NoMemory t = ends_at_look ends.NoMemory t.0 t.2 refl (λ e. cc e) (λ h. h) (λ h. h)
