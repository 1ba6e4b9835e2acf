-- The turns of a feed.
use Rattle.std.specs.Prelude.{◌≡◌, ℕ, ◌+◌, ◌≤◌, List, ◌++◌, length, Option, Result, Ok, Err}
use Rattle.std.specs.Prelude.{OnOk, OnErr}
use Rattle.std.specs.Option.{option_map}
use mathlib.Core.List.{IsPrefix}
use Rattle.pod_base.specs.Counts.{CountIncreased}
use Rattle.pod_base.specs.declared.agent.Agent.{Agent}
use Rattle.pod_command.specs.declared.entry.Entry.{Entry}
use Rattle.pod_io.specs.Counts.{next_count}
use Rattle.pod_io.specs.declared.wire.Polled.{Polled}
use Rattle.pod_io.specs.declared.wire.Polled.TheVariants.{Nothing, Closed}
use Rattle.pod_pages.specs.State.{VersionState, states_after}
use Rattle.pod_feed.specs.News.{IsNews, MayRead, notices_of}
use Rattle.pod_feed.specs.declared.notices_due.News.{News}
use Rattle.pod_feed.specs.declared.notices_due.News.TheVariants as news
use Rattle.published_view.specs.declared.fault.ViewFault.{ViewFault}
use Rattle.published_view.specs.declared.fault.ViewFault.TheVariants as views
use Rattle.pod_live.specs.Visits.{IsTurnedAway, Looked, Visit}
use Rattle.pod_feed.specs.Feeds.{AllReport, Continues, Reports, WireView, next_of, notices_from}
use Rattle.pod_feed.specs.Feeds.{polls_after}
use Rattle.pod_feed.specs.declared.feed_end.FeedEnd.{FeedEnd}
use Rattle.pod_feed.specs.declared.feed_end.FeedEnd.TheVariants as ends
use Rattle.pod_feed.specs.declared.version_report.Report.{Report}

-- ---- a look

-- the report of a version, where it reports notices
pub record IsReportOf (version : VersionState) (last : ℕ) (topic : List ℕ) (agent : Agent)
    (report : Report) : Type 0 where
  pub reads : MayRead version.pod topic agent
  pub kept : version.oldest ≤ last
  pub notices : report.notices.items ≡ notices_of version last topic
  pub next : report.next ≡ version.next

-- the end of a feed by what a version reports, or out of memory
abbrev pub EndsByNews : VersionState → ℕ → List ℕ → Agent → FeedEnd → Type 0
EndsByNews version last topic agent ends.Revoked = IsNews version last topic agent news.Revoked
EndsByNews version last topic agent (ends.Lagged from oldest) =
    IsNews version last topic agent (news.Lagged from oldest)
EndsByNews version last topic agent ends.NoMemory = Unit {0}
EndsByNews version last topic agent _ = ⊥

-- what comes of news, at a version whose next change has that number
abbrev pub ComesOfNews : News → ℕ → Result Report FeedEnd → Type 0
ComesOfNews (news.Notices notices) next (Ok report) =
    (report.notices ≡ notices) × (report.next ≡ next)
ComesOfNews news.Revoked next (Err end) = end ≡ ends.Revoked
ComesOfNews (news.Lagged from oldest) next (Err end) = end ≡ ends.Lagged from oldest
ComesOfNews told next result = ⊥

-- the end by a look that gave no version
abbrev pub end_of_fault : ViewFault → FeedEnd
end_of_fault views.NoPlace = ends.NoPlace
end_of_fault views.NoMemory = ends.NoMemory

-- one look, and the report of the version that it gave
pub record IsReport (opened : VersionState) (last : ℕ) (topic : List ℕ) (agent : Agent)
    (before after : Visit) (report : Report) : Type 0 where
  pub looked : Looked before after
  pub report_is : IsReportOf (states_after opened after.seen) last topic agent report

-- one look that ended a feed
abbrev pub EndsAtLook : VersionState → ℕ → List ℕ → Agent → Visit → Visit → FeedEnd → Type 0
EndsAtLook opened last topic agent before after ends.NoPlace = IsTurnedAway before after
EndsAtLook opened last topic agent before after end = Looked before after
    × EndsByNews (states_after opened after.seen) last topic agent end

-- ---- the wire

-- texts were sent, or some of the first
pub record SendsTexts {T E : Type 0} (result : Result T E) (texts : List (List ℕ))
    (old new : Option (List (List ℕ))) : Type 0 where
  pub whole : OnOk result (new ≡ option_map (λ told. told ++ texts) old)
  pub part : OnErr result ((some : List (List ℕ)) × IsPrefix some texts
      × (new ≡ option_map (λ told. told ++ some) old))

-- the notices were sent, and a poll found the wire open
pub record IsSentAndPolled (notices : List (List ℕ)) (old new : WireView) : Type 0 where
  pub sent : new.sent ≡ option_map (λ told. told ++ notices) old.sent
  pub polls : new.polls ≡ option_map next_count old.polls
  pub faults : new.faults ≡ old.faults
  pub closed : new.closed ≡ old.closed

-- the notices were sent, and a poll found the wire closed
pub record IsClosedAfter (notices : List (List ℕ)) (old new : WireView) : Type 0 where
  pub sent : new.sent ≡ option_map (λ told. told ++ notices) old.sent
  pub polls : new.polls ≡ option_map next_count old.polls
  pub faults : new.faults ≡ old.faults
  pub closed : CountIncreased old.closed new.closed

-- some of the first notices were sent, and a send or the poll failed
pub record FailsAfter (notices : List (List ℕ)) (old new : WireView) : Type 0 where
  pub some : List (List ℕ)
  pub part : IsPrefix some notices
  pub sent : new.sent ≡ option_map (λ told. told ++ some) old.sent
  pub polls : new.polls ≡ old.polls
  pub faults : CountIncreased old.faults new.faults
  pub closed : new.closed ≡ old.closed

abbrev pub EndsAtWire : List (List ℕ) → WireView → WireView → FeedEnd → Type 0
EndsAtWire notices old new ends.PeerClosed = IsClosedAfter notices old new
EndsAtWire notices old new ends.WireFault = FailsAfter notices old new
EndsAtWire notices old new _ = ⊥

-- what a poll that found this leads to
abbrev pub polled_so : Polled → ℕ → Result ℕ FeedEnd
polled_so Nothing next = Ok next
polled_so Closed next = Err ends.PeerClosed

-- a poll
pub record IsOnePoll (old new : WireView) : Type 0 where
  pub sent : new.sent ≡ old.sent
  pub polls : new.polls ≡ option_map next_count old.polls
  pub faults : new.faults ≡ old.faults

pub record IsFailedPoll (old new : WireView) : Type 0 where
  pub sent : new.sent ≡ old.sent
  pub polls : new.polls ≡ old.polls
  pub faults : CountIncreased old.faults new.faults
  pub closed : new.closed ≡ old.closed

abbrev pub IsPolled : ℕ → Result ℕ FeedEnd → WireView → WireView → Type 0
IsPolled next (Ok told) old new =
    (told ≡ next) × IsOnePoll old new × (new.closed ≡ old.closed)
IsPolled next (Err ends.PeerClosed) old new =
    IsOnePoll old new × CountIncreased old.closed new.closed
IsPolled next (Err ends.WireFault) old new = IsFailedPoll old new
IsPolled next (Err other) old new = ⊥

-- the notices of a report were sent, and a poll found the wire open
abbrev pub IsTold : Report → WireView → WireView → ℕ → Type 0
IsTold report old new next = (next ≡ report.next) × IsSentAndPolled report.notices.items old new

-- ---- turns

-- a turn after which the feed goes on from `next`
pub record IsFeedTurn (opened : VersionState) (topic : List ℕ) (agent : Agent) (last : ℕ)
    (before after : Visit) (old new : WireView) (next : ℕ) : Type 0 where
  pub looked : Looked before after
  pub reports : Reports opened topic agent last after.seen
  pub wire : IsSentAndPolled (notices_of (states_after opened after.seen) last topic) old new
  pub next_is : next ≡ (states_after opened after.seen).next

-- a turn that ends the feed
abbrev pub IsLastTurn : VersionState → List ℕ → Agent → ℕ → Visit → Visit → WireView → WireView
    → FeedEnd → Type 0
IsLastTurn opened topic agent last before after old new ends.PeerClosed = Looked before after
    × Reports opened topic agent last after.seen
    × IsClosedAfter (notices_of (states_after opened after.seen) last topic) old new
IsLastTurn opened topic agent last before after old new ends.WireFault = Looked before after
    × Reports opened topic agent last after.seen
    × FailsAfter (notices_of (states_after opened after.seen) last topic) old new
IsLastTurn opened topic agent last before after old new ends.NoPlace =
    IsTurnedAway before after × (new ≡ old)
IsLastTurn opened topic agent last before after old new end = Looked before after
    × EndsByNews (states_after opened after.seen) last topic agent end × (new ≡ old)

-- A feed went through turns, and goes on from `last`.
pub record IsFedThrough (opened : VersionState) (topic : List ℕ) (agent : Agent) (first last : ℕ)
    (before now : Visit) (old new : WireView) : Type 0 where
  pub turns : List (List Entry)
  pub seen : Continues before.seen turns now.seen
  pub looks : now.looks ≡ before.looks + length turns
  pub reports : AllReport opened topic agent first turns
  pub last_is : last ≡ next_of opened first turns
  pub sent : new.sent ≡ option_map (λ told. told ++ notices_from opened topic first turns) old.sent
  pub polls : new.polls ≡ option_map (polls_after (length turns)) old.polls
  pub wire_faults : new.faults ≡ old.faults
  pub closed : new.closed ≡ old.closed
  pub refused : now.refused ≡ before.refused
  pub changes : now.changes ≡ before.changes
  pub faults : now.faults ≡ before.faults
