-- What a feed tells of a topic, and how it ends.
use Rattle.std.specs.Prelude.{◌≡◌, ℕ, zero, suc, ◌+◌, ◌<◌, ◌≤◌, List, [], ◌∷◌, ◌++◌, length, Option}
use Rattle.std.specs.Prelude.{Some, None}
use Rattle.std.specs.Option.{option_map, option_to_list}
use mathlib.Core.List.{IsPrefix}
use Rattle.pod_base.specs.Counts.{CountIncreased}
use Rattle.pod_base.specs.declared.agent.Agent.{Agent}
use Rattle.pod_command.specs.declared.entry.Entry.{Entry}
use Rattle.pod_io.specs.Counts.{next_count}
use Rattle.pod_pages.specs.State.{VersionState, states_after}
use Rattle.pod_feed.specs.News.{IsNews, MayRead, notices_of}
use Rattle.pod_feed.specs.declared.notices_due.News.TheVariants as news
use Rattle.published_view.specs.LookerState.{CountIncreasedByOne}
use Rattle.pod_live.specs.Visits.{Visit}
use Rattle.pod_feed.specs.declared.feed_end.FeedEnd.{FeedEnd}
use Rattle.pod_feed.specs.declared.feed_end.FeedEnd.TheVariants as ends

-- What a wire shows: the texts that it has sent and how many polls succeeded, where it shows them,
-- how many calls failed, and how many polls found it closed.
pub record WireView : Type 0 where
  pub sent : Option (List (List ℕ))
  pub polls : Option ℕ
  pub faults : ℕ
  pub closed : ℕ

abbrev pub wire_view_of : {W : Type 0} → (W → Option (List (List ℕ))) → (W → Option ℕ) → (W → ℕ)
    → (W → ℕ) → W → WireView
wire_view_of sent polls faults closed wire = record {
  sent = sent wire;
  polls = polls wire;
  faults = faults wire;
  closed = closed wire;
}

-- the count of polls after so many more
abbrev pub polls_after : ℕ → ℕ → ℕ
polls_after zero count = count
polls_after (suc more) count = next_count (polls_after more count)

-- ---- looks. A look is what its session has then seen: the entries made since the store was opened,
-- at the version `opened`.

-- Each look has seen what the one before it had, and the last one all that is seen in the end.
abbrev pub Continues : List Entry → List (List Entry) → List Entry → Type 0
Continues before [] after = before ≡ after
Continues before (seen ∷ looks) after = IsPrefix before seen × Continues seen looks after

-- the number of the first entry that is yet to be told after these looks
abbrev pub next_of : VersionState → ℕ → List (List Entry) → ℕ
next_of opened last [] = last
next_of opened last (seen ∷ looks) = next_of opened (states_after opened seen).next looks

-- The notices that these looks report: the first one from `last` on, each other from where the look
-- before it ended.
abbrev pub notices_from : VersionState → List ℕ → ℕ → List (List Entry) → List (List ℕ)
notices_from opened topic last [] = []
notices_from opened topic last (seen ∷ looks) = notices_of (states_after opened seen) last topic
    ++ notices_from opened topic (states_after opened seen).next looks

-- The look reports notices from `last` on: the agent may read the topic there, and the effects from
-- `last` on are kept.
abbrev pub Reports : VersionState → List ℕ → Agent → ℕ → List Entry → Type 0
Reports opened topic agent last seen = MayRead (states_after opened seen).pod topic agent
    × ((states_after opened seen).oldest ≤ last)

abbrev pub AllReport : VersionState → List ℕ → Agent → ℕ → List (List Entry) → Type 0
AllReport opened topic agent last [] = Unit {0}
AllReport opened topic agent last (seen ∷ looks) = Reports opened topic agent last seen
    × AllReport opened topic agent (states_after opened seen).next looks

-- ---- ends

-- Of a wire, faults are counted where it failed and nowhere else, and so are polls that found it
-- closed.
abbrev pub CountsWire : FeedEnd → WireView → WireView → Type 0
CountsWire ends.PeerClosed old new =
    (new.faults ≡ old.faults) × CountIncreased old.closed new.closed
CountsWire ends.WireFault old new =
    (new.closed ≡ old.closed) × CountIncreased old.faults new.faults
CountsWire _ old new = (new.faults ≡ old.faults) × (new.closed ≡ old.closed)

-- A refused look of the session is counted, where it ended the feed and nowhere else.
abbrev pub CountsRefused : FeedEnd → ℕ → ℕ → Type 0
CountsRefused ends.NoPlace old new = CountIncreasedByOne old new
CountsRefused _ old new = new ≡ old

-- How a feed ends after its turns: by a look or not, from which on `last` was yet to be told, and
-- with these texts of its notices sent.
abbrev pub EndsBy : VersionState → List ℕ → Agent → ℕ → FeedEnd → Option (List Entry)
    → List (List ℕ) → Type 0
EndsBy opened topic agent last ends.PeerClosed None texts = texts ≡ []
EndsBy opened topic agent last ends.NoPlace None texts = texts ≡ []
EndsBy opened topic agent last ends.NoMemory (Some seen) texts = texts ≡ []
EndsBy opened topic agent last ends.Revoked (Some seen) texts = (texts ≡ [])
    × IsNews (states_after opened seen) last topic agent news.Revoked
EndsBy opened topic agent last (ends.Lagged from oldest) (Some seen) texts = (texts ≡ [])
    × IsNews (states_after opened seen) last topic agent (news.Lagged from oldest)
EndsBy opened topic agent last ends.WireFault (Some seen) texts =
    Reports opened topic agent last seen
    × IsPrefix texts (notices_of (states_after opened seen) last topic)
EndsBy opened topic agent last end final texts = ⊥

-- A feed told of a topic, from the entry `first` on, and ended so. In each of its turns it made one
-- look, sent the notices that the look reports, and polled the wire. A last look that no poll
-- followed ended it, or else the poll or a refused look did.
pub record IsFed (opened : VersionState) (topic : List ℕ) (agent : Agent) (first : ℕ)
    (end : FeedEnd) (before after : Visit) (old new : WireView) : Type 0 where
  pub turns : List (List Entry)
  pub final : Option (List Entry)
  pub texts : List (List ℕ)
  pub seen : Continues before.seen (turns ++ option_to_list final) after.seen
  pub looks : after.looks ≡ before.looks + length (turns ++ option_to_list final)
  pub reports : AllReport opened topic agent first turns
  pub sent : new.sent ≡ option_map
      (λ told. told ++ (notices_from opened topic first turns ++ texts)) old.sent
  pub polls : new.polls ≡ option_map (polls_after (length turns)) old.polls
  pub ended : EndsBy opened topic agent (next_of opened first turns) end final texts
  pub polled : end ≡ ends.PeerClosed → 0 < length turns
  pub wire : CountsWire end old new
  pub refused : CountsRefused end before.refused after.refused
  pub changes : after.changes ≡ before.changes
  pub faults : after.faults ≡ before.faults
