-- One agent's session over two histories that the agent can't tell apart where they end.
use Rattle.std.specs.Prelude.{◌≡◌, ◌⊎◌, ℕ, List, [], ◌∷◌, map}
use Rattle.std.specs.List.{AllByRecursion, flat_map}
use Rattle.pod_base.specs.declared.agent.Agent.{Agent}
use Rattle.pod_base.specs.declared.heard.Heard.{Heard}
use Rattle.pod_base.specs.declared.request.Request.{Request}
use Rattle.pod_command.specs.declared.entry.Entry.{Entry}
use Rattle.pod_core.specs.History.{History, IsHistory, end_of, longer, moment_before, pod_at}
use Rattle.pod_core.specs.Output.{output}
use Rattle.pod_core.specs.Session.{IsItem, IsSession, Item, NeverFalls, Session, entries_of}
use Rattle.pod_core.specs.Session.{places_of}
use Rattle.pod_reply.specs.Reply.{agent_of}
use Rattle.pod_rows.specs.Apply.{applied}
use Rattle.pod_rows.specs.Pod.{Pod, row_at}
use Rattle.reply_laws.specs.Alike.{Alike, IsHidden}
use Rattle.history_laws.specs.SameItems.{AreAnswered, AreItemsAfter, AskSame}
use Rattle.token_table.specs.Credentials.{AskedAgent}

-- the history with the entries of these items
abbrev pub grown : History → List Item → History
grown begun items = longer begun (flat_map entries_of items)

-- the agent makes the requests of all items
abbrev pub AreRequestsOf : Agent → List Item → Type 0
AreRequestsOf agent items =
    AllByRecursion (λ (item : Item). agent_of item.asked ≡ agent) items

-- What differs between the pods at a path is hidden from the agent in both.
abbrev pub HidesDifferences : Agent → Pod → Pod → Type 0
HidesDifferences agent p q = (path : List ℕ) → (row_at p.rows path ≡ row_at q.rows path)
    ⊎ (IsHidden agent p path × IsHidden agent q path)

-- So it is after each of these entries: none of them opens to the agent what differs.
abbrev pub KeepsHidden : Agent → Pod → Pod → List Entry → Type 0
KeepsHidden agent p q [] = Unit {0}
KeepsHidden agent p q (entry ∷ entries) =
    HidesDifferences agent (applied p entry) (applied q entry)
    × KeepsHidden agent (applied p entry) (applied q entry) entries

-- The histories end alike for the agent: at one place, with the same moment of the last entry, and
-- with pods that are alike.
pub record AreAlikeAtEnd (agent : Agent) (history other : History) : Type 0 where
  pub is_history : IsHistory other
  pub place : end_of other ≡ end_of history
  pub moment : moment_before other (end_of other) ≡ moment_before history (end_of history)
  pub pods : Alike agent (pod_at history (end_of history)) (pod_at other (end_of other))

-- The items are ones of the history with their entries, from its end on.
pub record AreItemsFrom (may_give : ℕ → Type 0) (conn : ℕ) (begun : History) (items : List Item)
    : Type 0 where
  pub is_history : IsHistory (grown begun items)
  pub answers : AllByRecursion (IsItem may_give conn (grown begun items)) items
  pub places : NeverFalls (end_of begun) (flat_map places_of items) (end_of (grown begun items))

-- Where these were answered, there are no others after the history that make the same requests, with
-- the same agents and at the same moments, and were answered.
abbrev pub AreOnlyItems : (ℕ → Type 0) → ℕ → History → List Item → Type 0
AreOnlyItems may_give conn begun items = (others : List Item) → AreAnswered items
    → AreItemsAfter may_give conn begun others → AskSame items others → others ≡ items

-- The agent can't tell another history by these items: where all are the agent's, and no entry
-- opens what differs, they are items of each history that ends alike, and the only ones, and the two
-- end alike again.
abbrev pub AreIsolated : (ℕ → Type 0) → ℕ → History → List Item → Type 0
AreIsolated may_give conn begun items = (agent : Agent) (other : History)
    → AreRequestsOf agent items → AreAlikeAtEnd agent begun other
    → KeepsHidden agent (pod_at begun (end_of begun)) (pod_at other (end_of other))
    (flat_map entries_of items)
    → AreItemsFrom may_give conn other items
    × AreAlikeAtEnd agent (grown begun items) (grown other items)
    × AreOnlyItems may_give conn other items

-- the session with the same items over another history, from its end on
abbrev pub moved : Session → History → Session
moved session other = record session { history = grown other session.items }

-- the moments of items
abbrev pub moments_of : List Item → List ℕ
moments_of items = map (λ (item : Item). item.moment) items

-- A run over the other history that serves the same events: a session of the same connection, from
-- the history's end on and with its own entries alone. It took up its requests at the same moments,
-- and answered each.
pub record IsRunOver (may_give : ℕ → Type 0) (asking : Request → AskedAgent) (events : List Heard)
    (session : Session) (other : History) (run : Session) : Type 0 where
  pub conn : run.conn ≡ session.conn
  pub history : run.history ≡ grown other run.items
  pub is_session : IsSession may_give asking events (end_of other) run (end_of run.history)
  pub moments : moments_of run.items ≡ moments_of session.items
  pub refusal : run.refusal ≡ session.refusal
  pub answered : AreAnswered run.items

-- The session is one over another history too, from its end on, with the same items, places and
-- moments. The histories end alike for the agent again. Where nothing failed, each run over the
-- other history has these items and writes these bytes.
pub record IsSessionOver (may_give : ℕ → Type 0) (asking : Request → AskedAgent)
    (events : List Heard) (session : Session) (agent : Agent) (other : History) : Type 0 where
  pub is_session : IsSession may_give asking events (end_of other) (moved session other)
      (end_of (grown other session.items))
  pub alike : AreAlikeAtEnd agent session.history (grown other session.items)
  pub items : AreOnlyItems may_give session.conn other session.items
  pub bytes : (run : Session) → AreAnswered session.items
      → IsRunOver may_give asking events session other run
      → output events run ≡ output events session

-- What a session of one agent from the end of a history on writes is what each run of the same
-- requests at the same moments writes over a history that ends alike for the agent, where nothing
-- failed, while no entry of the session opens to the agent what differs.
abbrev pub IsIsolated : (ℕ → Type 0) → (Request → AskedAgent) → History → List Heard → Session
    → Type 0
IsIsolated may_give asking begun events session = (agent : Agent) (other : History)
    → AreRequestsOf agent session.items → AreAlikeAtEnd agent begun other
    → KeepsHidden agent (pod_at begun (end_of begun)) (pod_at other (end_of other))
    (flat_map entries_of session.items)
    → IsSessionOver may_give asking events session agent other

-- the laws
abbrev pub IsolatesItems : (ℕ → Type 0) → Type 0
IsolatesItems may_give = (conn : ℕ) (begun : History) (items : List Item)
    → AreItemsFrom may_give conn begun items → AreIsolated may_give conn begun items

abbrev pub IsolatesSessions : (ℕ → Type 0) → Type 0
IsolatesSessions may_give = (asking : Request → AskedAgent) (begun : History)
    (events : List Heard) (session : Session) → session.history ≡ grown begun session.items
    → IsHistory session.history
    → IsSession may_give asking events (end_of begun) session (end_of session.history)
    → IsIsolated may_give asking begun events session
