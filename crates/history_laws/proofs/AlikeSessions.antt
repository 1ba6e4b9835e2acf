-- A session of one agent over histories that end alike for the agent.
use Rattle.std.proofs.Common.{◌≡◌, ℕ, List, [], ◌∷◌, refl, sym, subst, length-append, arith}
use Rattle.std.specs.List.{AllByRecursion, flat_map}
use Rattle.pod_base.specs.declared.heard.Heard.{Heard}
use Rattle.pod_base.specs.declared.request.Request.{Request}
use Rattle.pod_command.specs.declared.entry.Entry.{Entry}
use Rattle.pod_core.proofs.Histories.{end_grows}
use Rattle.pod_core.specs.History.{History, IsHistory, end_of, longer}
use Rattle.pod_core.specs.Session.{IsItem, IsSession, Item, NeverFalls, Session, entries_of, places_of}
use Rattle.pod_reply.specs.Laws.{HasOneReply}
use Rattle.reply_laws.specs.Isolation.{RepliesAlike}
use Rattle.reply_laws.specs.Laws.{EntriesApply}
use Rattle.history_laws.specs.Isolated.{AreAlikeAtEnd, AreIsolated, IsIsolated, IsolatesItems, IsolatesSessions, grown}
use Rattle.history_laws.specs.SameItems.{AskSame}
use Rattle.history_laws.proofs.AlikeItems.{alike_items}
use Rattle.history_laws.proofs.PodsAtEnd.{same_history, shorter}
use Rattle.history_laws.proofs.SameItems.{one_list}
use Rattle.history_laws.proofs.SameRuns.{writes_same}
use Rattle.token_table.specs.Credentials.{AskedAgent}

-- the places of items, over another history with the same end
places_moved : (begun other : History) (places : List ℕ) (more : List Entry) → end_of other ≡ end_of begun → NeverFalls (end_of begun) places (end_of (longer begun more)) → NeverFalls (end_of other) places (end_of (longer other more))
places_moved begun other places more same h =
    let ends : end_of (longer other more) ≡ end_of (longer begun more) = omega (arith, end_grows other more, end_grows begun more, same) in
    subst (λ n. NeverFalls n places (end_of (longer other more))) (sym same) (subst (NeverFalls (end_of begun) places) (sym ends) h)

pub items_isolated : (may_give : ℕ → Type 0) → HasOneReply → EntriesApply → RepliesAlike → IsolatesItems may_give
items_isolated may_give one applies replies conn begun items from = λ agent other mine alike hidden.
    let next = alike_items may_give conn applies replies agent items begun other (shorter begun (flat_map entries_of items) from.is_history) from.answers from.places mine alike hidden in
    let places = places_moved begun other (flat_map places_of items) (flat_map entries_of items) alike.place from.places in (
      record {
        is_history = next.1.is_history;
        answers = next.0;
        places = places;
      },
      next.1,
      λ others answered after asks. sym (one_list may_give conn one other items others (record { answers = next.0; places = places; answered = answered }) after asks),
    )

-- no items ask the same as none
no_others : (others : List Item) → AskSame [] others → others ≡ []
no_others [] asks = refl
no_others (other ∷ others) asks = absurd asks

-- without items nothing is to be told
pub nothing_isolated : (may_give : ℕ → Type 0) (conn : ℕ) (begun : History) → AreIsolated may_give conn begun []
nothing_isolated may_give conn begun = λ agent other mine alike hidden. (
  record {
    is_history = subst IsHistory (sym (same_history other)) alike.is_history;
    answers = tt;
    places = omega (arith, length-append other.entries []);
  },
  subst (λ (h : History). AreAlikeAtEnd agent h (longer other [])) (sym (same_history begun)) (subst (AreAlikeAtEnd agent begun) (sym (same_history other)) alike),
  λ others answered after asks. no_others others asks,
)

module _ (may_give : ℕ → Type 0) (asking : Request → AskedAgent) (begun : History) (session : Session) where
  -- a session whose items are isolated is so
  pub session_isolated : (events : List Heard) → session.history ≡ grown begun session.items → IsSession may_give asking events (end_of begun) session (end_of session.history) → AreIsolated may_give session.conn begun session.items
      → IsIsolated may_give asking begun events session
  session_isolated events is s isolated = λ agent other mine alike hidden.
      let there = isolated agent other mine alike hidden in record {
        is_session = record {
          requests = s.requests;
          numbers = s.numbers;
          asked = s.asked;
          answers = there.0.answers;
          places = there.0.places;
          last = s.last;
          refused = s.refused;
        };
        alike = subst (λ (h : History). AreAlikeAtEnd agent h (grown other session.items)) (sym is) there.1;
        items = there.2;
        bytes = λ run answered r. writes_same asking may_give events session run other r (end_of begun) (end_of session.history) s there.2 answered;
      }

  -- the same over other events
  pub still_isolated : (events others : List Heard) → IsSession may_give asking others (end_of begun) session (end_of session.history) → IsIsolated may_give asking begun events session → IsIsolated may_give asking begun others session
  still_isolated events others s isolated = λ agent other mine alike hidden.
      let there = isolated agent other mine alike hidden in record {
        is_session = record {
          requests = s.requests;
          numbers = s.numbers;
          asked = s.asked;
          answers = there.is_session.answers;
          places = there.is_session.places;
          last = s.last;
          refused = s.refused;
        };
        alike = there.alike;
        items = there.items;
        bytes = λ run answered r. writes_same asking may_give others session run other r (end_of begun) (end_of session.history) s there.items answered;
      }

pub sessions_isolated : (may_give : ℕ → Type 0) → IsolatesItems may_give → IsolatesSessions may_give
sessions_isolated may_give law asking begun events session is h s =
    session_isolated may_give asking begun session events is s (law session.conn begun session.items (record {
      is_history = subst IsHistory is h;
      answers = subst (λ (history : History). AllByRecursion (IsItem may_give session.conn history) session.items) is s.answers;
      places = subst (λ (history : History). NeverFalls (end_of begun) (flat_map places_of session.items) (end_of history)) is s.places;
    }))
