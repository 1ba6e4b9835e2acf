-- Sessions that make the same requests, with the same agents and at the same moments, are answered
-- alike.
use Rattle.std.specs.Prelude.{◌≡◌, ℕ, List}
use Rattle.std.specs.List.{flat_map}
use Rattle.pod_base.specs.declared.agent.Agent.{Agent}
use Rattle.pod_base.specs.declared.heard.Heard.{Heard}
use Rattle.pod_base.specs.declared.request.Request.{Request}
use Rattle.pod_core.specs.History.{History, IsHistory, end_of, pod_at}
use Rattle.pod_core.specs.Output.{output}
use Rattle.pod_core.specs.Session.{IsSession, Session, entries_of}
use Rattle.history_laws.specs.Isolated.{AreAlikeAtEnd, AreRequestsOf, KeepsHidden, grown}
use Rattle.history_laws.specs.SameItems.{AreAnswered, AskSame}
use Rattle.token_table.specs.Credentials.{AskedAgent}

-- A session from the end of a history on, whose entries are added to it and no others. Nothing
-- failed.
pub record IsSessionAfter (may_give : ℕ → Type 0) (asking : Request → AskedAgent)
    (events : List Heard) (begun : History) (session : Session) : Type 0 where
  pub history_is : session.history ≡ grown begun session.items
  pub is_session : IsSession may_give asking events (end_of begun) session (end_of session.history)
  pub answered : AreAnswered session.items

-- Both have the same number, make the same requests, and refuse a malformed message alike.
pub record AskSameInAll (session other : Session) : Type 0 where
  pub conn : session.conn ≡ other.conn
  pub items : AskSame session.items other.items
  pub refusal : session.refusal ≡ other.refusal

-- The items and the bytes are the same.
pub record AreSameSessions (events : List Heard) (session other : Session) : Type 0 where
  pub items : session.items ≡ other.items
  pub bytes : output events session ≡ output events other

-- Two such sessions after one history are the same, and write the same bytes.
abbrev pub SameSessions : (ℕ → Type 0) → Type 0
SameSessions may_give = (asking : Request → AskedAgent) (events : List Heard) (begun : History)
    (session other : Session) → IsSessionAfter may_give asking events begun session
    → IsSessionAfter may_give asking events begun other → AskSameInAll session other
    → AreSameSessions events session other

-- So are two sessions of one agent after two histories that end alike for the agent, where no entry
-- opens to the agent what differs.
abbrev pub SameSessionsOverAlike : (ℕ → Type 0) → Type 0
SameSessionsOverAlike may_give = (asking : Request → AskedAgent) (events : List Heard)
    (agent : Agent) (begun elsewhere : History) (session other : Session)
    → IsSessionAfter may_give asking events begun session
    → IsSessionAfter may_give asking events elsewhere other → AskSameInAll session other
    → IsHistory session.history → AreRequestsOf agent session.items
    → AreAlikeAtEnd agent begun elsewhere
    → KeepsHidden agent (pod_at begun (end_of begun)) (pod_at elsewhere (end_of elsewhere))
    (flat_map entries_of session.items)
    → AreSameSessions events session other
