-- One turn of a feed.
use Rattle.std.proofs.Common.{◌≡◌, ℕ, List, ◌++◌, Result, Ok, Err, IfOk, IfErr, refl, sym, ap, subst, ◌∙◌}
use Rattle.std.specs.Option.{option_map}
use Rattle.pod_base.specs.Counts.{CountIncreased}
use Rattle.pod_base.specs.declared.agent.Agent.{Agent}
use Rattle.pod_base.proofs.Prefixes.{prefix_self}
use Rattle.pod_io.specs.Counts.{next_count}
use Rattle.pod_io.specs.Wires.{CountsClosed, CountsErrors, CountsPolls}
use Rattle.pod_io.specs.declared.wire.Polled.{Polled}
use Rattle.pod_io.specs.declared.wire.Polled.TheVariants.{Nothing, Closed}
use Rattle.pod_io.specs.declared.wire.WireFault.{WireFault}
use Rattle.pod_pages.specs.State.{VersionState, states_after}
use Rattle.pod_feed.specs.News.{IsNews}
use Rattle.pod_feed.specs.declared.notices_due.News.{News}
use Rattle.pod_feed.specs.declared.notices_due.News.TheVariants as news
use Rattle.pod_live.specs.Visits.{IsTurnedAway, Looked, Visit}
use Rattle.published_view.specs.LookerState.{NotNoPlace, OnNoPlace}
use Rattle.published_view.specs.declared.fault.ViewFault.{ViewFault}
use Rattle.published_view.specs.declared.fault.ViewFault.TheVariants as views
use Rattle.pod_feed.specs.Feeds.{WireView}
use Rattle.pod_feed.specs.Turns.{EndsAtLook, EndsAtWire, EndsByNews, IsLastTurn, IsPolled, IsReport, IsReportOf, ComesOfNews, IsSentAndPolled, IsTold, IsFeedTurn, end_of_fault, polled_so}
use Rattle.pod_feed.specs.declared.feed_end.FeedEnd.{FeedEnd}
use Rattle.pod_feed.specs.declared.feed_end.FeedEnd.TheVariants as ends
use Rattle.pod_feed.specs.declared.version_report.Report.{Report}

module _ (version : VersionState) (last : ℕ) (topic : List ℕ) (agent : Agent) where
  pub reports_so : (told : News) (next : ℕ) (result : Result Report FeedEnd) → IsNews version last topic agent told → next ≡ version.next → ComesOfNews told next result → IfOk result (IsReportOf version last topic agent)
  reports_so (news.Notices notices) next (Ok report) n e r = record {
    reads = n.0;
    kept = n.1;
    notices = ap (λ l. l.items) r.0 ∙ n.2;
    next = r.1 ∙ e;
  }
  reports_so (news.Notices notices) next (Err end) n e r = absurd r
  reports_so news.Revoked next (Ok report) n e r = absurd r
  reports_so news.Revoked next (Err end) n e r = tt
  reports_so (news.Lagged from oldest) next (Ok report) n e r = absurd r
  reports_so (news.Lagged from oldest) next (Err end) n e r = tt

  pub ends_so : (told : News) (next : ℕ) (result : Result Report FeedEnd) → IsNews version last topic agent told → ComesOfNews told next result → IfErr result (EndsByNews version last topic agent)
  ends_so (news.Notices notices) next (Ok report) n r = tt
  ends_so (news.Notices notices) next (Err end) n r = absurd r
  ends_so news.Revoked next (Ok report) n r = absurd r
  ends_so news.Revoked next (Err end) n r = subst (EndsByNews version last topic agent) (sym r) n
  ends_so (news.Lagged from oldest) next (Ok report) n r = absurd r
  ends_so (news.Lagged from oldest) next (Err end) n r = subst (EndsByNews version last topic agent) (sym r) n

module _ (opened : VersionState) (last : ℕ) (topic : List ℕ) (agent : Agent) (before after : Visit) where
  pub look_reports : (version : VersionState) (result : Result Report FeedEnd) → version ≡ states_after opened after.seen → Looked before after → IfOk result (IsReportOf version last topic agent) → IfOk result (IsReport opened last topic agent before after)
  look_reports version (Ok report) e l r = record {
    looked = l;
    report_is = subst (λ (v : VersionState). IsReportOf v last topic agent report) e r;
  }
  look_reports version (Err end) e l r = tt

  look_end : (version : VersionState) (end : FeedEnd) → version ≡ states_after opened after.seen → Looked before after → EndsByNews version last topic agent end → EndsAtLook opened last topic agent before after end
  look_end version ends.PeerClosed e l r = absurd r
  look_end version ends.WireFault e l r = absurd r
  look_end version ends.NoPlace e l r = absurd r
  look_end version ends.NoMemory e l r = (l, tt)
  look_end version ends.Revoked e l r = (l, subst (λ (v : VersionState). EndsByNews v last topic agent ends.Revoked) e r)
  look_end version (ends.Lagged from oldest) e l r = (l, subst (λ (v : VersionState). EndsByNews v last topic agent (ends.Lagged from oldest)) e r)

  pub look_ends : (version : VersionState) (result : Result Report FeedEnd) → version ≡ states_after opened after.seen → Looked before after → IfErr result (EndsByNews version last topic agent) → IfErr result (EndsAtLook opened last topic agent before after)
  look_ends version (Ok report) e l r = tt
  look_ends version (Err end) e l r = look_end version end e l r

  -- a look that gave no version
  pub look_fails : (X : Type 0) (fault : ViewFault) (end : FeedEnd) → end ≡ end_of_fault fault → NotNoPlace {X = X} (Err fault) (Looked before after) → OnNoPlace {X = X} (Err fault) (IsTurnedAway before after) → EndsAtLook opened last topic agent before after end
  look_fails X views.NoMemory end e looked away = subst (EndsAtLook opened last topic agent before after) (sym e) (looked, tt)
  look_fails X views.NoPlace end e looked away = subst (EndsAtLook opened last topic agent before after) (sym e) away

  module _ (old new : WireView) where
    -- the report was told
    pub turn_so : (report : Report) (result : Result ℕ FeedEnd) → IsReport opened last topic agent before after report → IfOk result (IsTold report old new) → IfOk result (IsFeedTurn opened topic agent last before after old new)
    turn_so report (Ok next) r t = record {
      looked = r.looked;
      reports = (r.report_is.reads, r.report_is.kept);
      wire = subst (λ (ns : List (List ℕ)). IsSentAndPolled ns old new) r.report_is.notices t.1;
      next_is = t.0 ∙ r.report_is.next;
    }
    turn_so report (Err end) r t = tt

    last_so : (report : Report) (end : FeedEnd) → IsReport opened last topic agent before after report → EndsAtWire report.notices.items old new end → IsLastTurn opened topic agent last before after old new end
    last_so report ends.PeerClosed r t = (r.looked, (r.report_is.reads, r.report_is.kept), subst (λ (ns : List (List ℕ)). EndsAtWire ns old new ends.PeerClosed) r.report_is.notices t)
    last_so report ends.WireFault r t = (r.looked, (r.report_is.reads, r.report_is.kept), subst (λ (ns : List (List ℕ)). EndsAtWire ns old new ends.WireFault) r.report_is.notices t)
    last_so report ends.NoPlace r t = absurd t
    last_so report ends.NoMemory r t = absurd t
    last_so report ends.Revoked r t = absurd t
    last_so report (ends.Lagged from oldest) r t = absurd t

    pub last_turn_so : (report : Report) (result : Result ℕ FeedEnd) → IsReport opened last topic agent before after report → IfErr result (EndsAtWire report.notices.items old new) → IfErr result (IsLastTurn opened topic agent last before after old new)
    last_turn_so report (Ok next) r t = tt
    last_turn_so report (Err end) r t = last_so report end r t

  -- the look ended the feed
  pub last_look : (wire : WireView) (end : FeedEnd) → EndsAtLook opened last topic agent before after end → IsLastTurn opened topic agent last before after wire wire end
  last_look wire ends.NoPlace t = (t, refl)
  last_look wire ends.PeerClosed t = absurd t.1
  last_look wire ends.WireFault t = absurd t.1
  last_look wire ends.NoMemory t = (t.0, t.1, refl)
  last_look wire ends.Revoked t = (t.0, t.1, refl)
  last_look wire (ends.Lagged from oldest) t = (t.0, t.1, refl)

-- a poll that succeeded
pub polls_so : (next : ℕ) (polled : Polled) (result : Result ℕ FeedEnd) (old new : WireView) → result ≡ polled_so polled next → new.sent ≡ old.sent → CountsPolls {E = WireFault} (Ok polled) old.polls new.polls → CountsErrors {E = WireFault} (Ok polled) old.faults new.faults → CountsClosed {E = WireFault} (Ok polled) old.closed new.closed
    → IsPolled next result old new
polls_so next Nothing result old new is sent polls faults closed = subst (λ (r : Result ℕ FeedEnd). IsPolled next r old new) (sym is) (refl, record { sent = sent; polls = polls.polled; faults = faults.kept }, closed)
polls_so next Closed result old new is sent polls faults closed = subst (λ (r : Result ℕ FeedEnd). IsPolled next r old new) (sym is) (record { sent = sent; polls = polls.polled; faults = faults.kept }, closed.1)

-- the notices were sent, and then came a poll
module _ (report : Report) (old mid new : WireView) (sent : mid.sent ≡ option_map (λ told. told ++ report.notices.items) old.sent) (polls : mid.polls ≡ old.polls) (faults : mid.faults ≡ old.faults) (closed : mid.closed ≡ old.closed) where
  pub told_so : (result : Result ℕ FeedEnd) → IsPolled report.next result mid new → IfOk result (IsTold report old new)
  told_so (Ok next) p = (
    p.0,
    record {
      sent = p.1.sent ∙ sent;
      polls = p.1.polls ∙ ap (option_map next_count) polls;
      faults = p.1.faults ∙ faults;
      closed = p.2 ∙ closed;
    },
  )
  told_so (Err end) p = tt

  end_so : (end : FeedEnd) → IsPolled report.next (Err end) mid new → EndsAtWire report.notices.items old new end
  end_so ends.PeerClosed p = record {
    sent = p.0.sent ∙ sent;
    polls = p.0.polls ∙ ap (option_map next_count) polls;
    faults = p.0.faults ∙ faults;
    closed = subst (λ (n : ℕ). CountIncreased n new.closed) closed p.1;
  }
  end_so ends.WireFault p = record {
    some = report.notices.items;
    part = prefix_self report.notices.items;
    sent = p.sent ∙ sent;
    polls = p.polls ∙ polls;
    faults = subst (λ (n : ℕ). CountIncreased n new.faults) faults p.faults;
    closed = p.closed ∙ closed;
  }
  end_so ends.NoPlace p = absurd p
  end_so ends.NoMemory p = absurd p
  end_so ends.Revoked p = absurd p
  end_so (ends.Lagged from oldest) p = absurd p

  pub ended_so : (result : Result ℕ FeedEnd) → IsPolled report.next result mid new → IfErr result (EndsAtWire report.notices.items old new)
  ended_so (Ok next) p = tt
  ended_so (Err end) p = end_so end p
