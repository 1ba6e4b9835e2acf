-- Sessions that ask the same write the same bytes.
use Rattle.std.proofs.Common.{◌≡◌, ℕ, List, sym, subst}
use Rattle.std.specs.List.{AllByRecursion, flat_map}
use Rattle.pod_base.specs.declared.agent.Agent.{Agent}
use Rattle.pod_base.specs.declared.heard.Heard.{Heard}
use Rattle.pod_base.specs.declared.request.Request.{Request}
use Rattle.pod_core.specs.History.{History, IsHistory, end_of, pod_at}
use Rattle.pod_core.specs.Output.{output_of}
use Rattle.pod_core.specs.Session.{IsItem, NeverFalls, Session, entries_of, places_of}
use Rattle.pod_reply.specs.Laws.{HasOneReply}
use Rattle.history_laws.specs.Isolated.{AreAlikeAtEnd, AreItemsFrom, AreRequestsOf, IsolatesItems, KeepsHidden}
use Rattle.token_table.specs.Credentials.{AskedAgent}
use Rattle.history_laws.specs.SameItems.{AreItemsAfter}
use Rattle.history_laws.proofs.SameItems.{one_list}
use Rattle.history_laws.specs.SameRequests.{AreSameSessions, AskSameInAll, IsSessionAfter}

module _ (may_give : ℕ → Type 0) (asking : Request → AskedAgent) (events : List Heard) where
  items_after : (begun : History) (session : Session) → IsSessionAfter may_give asking events begun session → AreItemsAfter may_give session.conn begun session.items
  items_after begun session s = record {
    answers = subst (λ (h : History). AllByRecursion (IsItem may_give session.conn h) session.items) s.history_is s.is_session.answers;
    places = subst (λ (h : History). NeverFalls (end_of begun) (flat_map places_of session.items) (end_of h)) s.history_is s.is_session.places;
    answered = s.answered;
  }

  same_bytes : (session other : Session) → session.items ≡ other.items → session.refusal ≡ other.refusal → AreSameSessions events session other
  same_bytes session other items refusal = record { items = items; bytes = λ i. output_of events (items i) (refusal i) }

  module _ (one : HasOneReply) (session other : Session) (same : AskSameInAll session other) where
    other_items : (begun : History) → IsSessionAfter may_give asking events begun other → AreItemsAfter may_give session.conn begun other.items
    other_items begun k = subst (λ conn. AreItemsAfter may_give conn begun other.items) (sym same.conn) (items_after begun other k)

    pub one_history : (begun : History) → IsSessionAfter may_give asking events begun session → IsSessionAfter may_give asking events begun other → AreSameSessions events session other
    one_history begun h k =
        same_bytes session other
        (one_list may_give session.conn one begun session.items other.items (items_after begun session h) (other_items begun k) same.items)
        same.refusal

    pub alike_histories : IsolatesItems may_give → (agent : Agent) (begun elsewhere : History) → IsSessionAfter may_give asking events begun session → IsSessionAfter may_give asking events elsewhere other
        → IsHistory session.history → AreRequestsOf agent session.items → AreAlikeAtEnd agent begun elsewhere
        → KeepsHidden agent (pod_at begun (end_of begun)) (pod_at elsewhere (end_of elsewhere)) (flat_map entries_of session.items) → AreSameSessions events session other
    alike_histories isolates agent begun elsewhere h k is_history mine alike hidden =
        let here = items_after begun session h in
        let from : AreItemsFrom may_give session.conn begun session.items = record {
          is_history = subst IsHistory h.history_is is_history;
          answers = here.answers;
          places = here.places;
        } in
        let there = (isolates session.conn begun session.items from agent elsewhere mine alike hidden).0 in
        let moved : AreItemsAfter may_give session.conn elsewhere session.items = record { answers = there.answers; places = there.places; answered = h.answered } in
        same_bytes session other (one_list may_give session.conn one elsewhere session.items other.items moved (other_items elsewhere k) same.items) same.refusal
