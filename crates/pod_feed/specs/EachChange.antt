-- What a feed tells is each change to its topic once. It is the contract of a function of `laws`.
use Rattle.std.specs.Prelude.{◌≡◌, ℕ, ◌+◌, ◌<◌, ◌≤◌, List, ◌∷◌, ◌++◌, length, filter, map}
use Rattle.std.specs.List.{AllByRecursion}
use Rattle.pod_base.specs.declared.agent.Agent.{Agent}
use Rattle.pod_command.specs.declared.entry.Entry.{Entry}
use Rattle.pod_rows.specs.Apply.{AllApply}
use Rattle.pod_pages.specs.Effects.{history_effects}
use Rattle.pod_pages.specs.State.{VersionState}
use Rattle.pod_pages.specs.declared.entry_effects.Effect.{Effect}
use Rattle.pod_feed.specs.News.{is_news}
use Rattle.pod_feed.specs.Notices.{notice_of}
use Rattle.pod_feed.specs.Feeds.{AllReport, Continues, notices_from}

-- The effects that a version keeps, and those of these entries after it, all of them.
abbrev pub all_effects : VersionState → List Entry → List Effect
all_effects opened entries = opened.effects ++ history_effects opened.pod entries

-- The notices of the effects on the topic, of the entries from `last` on, among all effects.
abbrev pub all_notices : VersionState → List ℕ → ℕ → List Entry → List (List ℕ)
all_notices opened topic last entries =
    map (notice_of opened.pod.base) (filter (is_news last topic) (all_effects opened entries))

-- From `last` on, which is no later than what had been seen before, looks that report notices tell
-- all changes to the topic up to the last look. The entries apply to the version in order, and its
-- effects are of entries before it.
abbrev pub TellsEachChange : Type 0
TellsEachChange = (opened : VersionState) (topic : List ℕ) (agent : Agent) (last : ℕ)
    (before look : List Entry) (looks : List (List Entry)) (after : List Entry)
    → AllByRecursion (λ (effect : Effect). effect.seq < opened.next) opened.effects
    → AllApply opened.pod opened.next after
    → last ≤ opened.next + length before
    → Continues before (look ∷ looks) after
    → AllReport opened topic agent last (look ∷ looks)
    → notices_from opened topic last (look ∷ looks) ≡ all_notices opened topic last after
