-- What a version has to report of a topic to an agent.
use Rattle.std.specs.Prelude.{◌≡◌, ℕ, ◌<◌, ◌≤◌, Bool, ◌&&◌, nat_le, bytes_eq, if◌then◌else◌, List}
use Rattle.std.specs.Prelude.{filter, map, unwrap_or}
use Rattle.pod_base.specs.declared.agent.Agent.{Agent}
use Rattle.pod_base.specs.declared.agent.Mode.{Mode}
use Rattle.pod_base.specs.declared.agent.Mode.TheVariants.{Read, Control}
use Rattle.pod_path.specs.Hierarchy.{is_acl, subject_of}
use Rattle.pod_rows.specs.Pod.{Pod}
use Rattle.pod_access.specs.PodGrants.{PodGrants}
use Rattle.pod_pages.specs.State.{VersionState}
use Rattle.pod_pages.specs.declared.entry_effects.Effect.{Effect}
use Rattle.pod_feed.specs.Notices.{notice_of}
use Rattle.pod_feed.specs.declared.notices_due.News.{News}
use Rattle.pod_feed.specs.declared.notices_due.News.TheVariants.{Notices, Revoked, Lagged}

-- A topic is read by Read on its path; an access list by Control on its subject.
abbrev pub read_path : List ℕ → List ℕ
read_path topic = if is_acl topic then unwrap_or (subject_of topic) topic else topic

abbrev pub read_mode : List ℕ → Mode
read_mode topic = if is_acl topic then Control else Read

-- The pod grants the agent to read the topic.
abbrev pub MayRead : Pod → List ℕ → Agent → Type 0
MayRead pod topic agent = PodGrants pod agent (read_path topic) (read_mode topic)

-- Is the effect on the topic, and of an entry from that number on?
abbrev pub is_news : ℕ → List ℕ → Effect → Bool
is_news last topic effect = nat_le last effect.seq && bytes_eq effect.path topic

-- The notices of the effects that a version keeps, on the topic and from that number on, in order.
abbrev pub notices_of : VersionState → ℕ → List ℕ → List (List ℕ)
notices_of version last topic =
    map (notice_of version.pod.base) (filter (is_news last topic) version.effects)

-- The news of a version, of which the entries before `last` were reported. At most one of the three
-- cases holds.
abbrev pub IsNews : VersionState → ℕ → List ℕ → Agent → News → Type 0
IsNews version last topic agent Revoked = MayRead version.pod topic agent → ⊥
IsNews version last topic agent (Lagged from oldest) = MayRead version.pod topic agent
    × (last < version.oldest) × (from ≡ last) × (oldest ≡ version.oldest)
IsNews version last topic agent (Notices texts) = MayRead version.pod topic agent
    × (version.oldest ≤ last) × (texts.items ≡ notices_of version last topic)
