-- A session stays one where its history grows.
use Rattle.std.proofs.Common.{◌≡◌, ℕ, if◌then◌else◌, List, [], ◌∷◌, max, Some, sym, ap, subst, ◌∙◌}
use Rattle.std.specs.List.{AllByRecursion}
use Rattle.pod_command.specs.declared.entry.Entry.{Entry}
use Rattle.pod_rows.specs.Pod.{Pod}
use Rattle.pod_reply.specs.Replies.{Reply}
use Rattle.pod_reply.specs.Reply.{IsReply}
use Rattle.reply_laws.specs.Granted.{is_change}
use Rattle.pod_core.specs.History.{History, IsPlace, entry_at, longer}
use Rattle.pod_core.specs.Laws.{StaysSession}
use Rattle.pod_core.specs.Session.{Outcome, answered, no_memory, disk_fault, Item, IsAnswered, IsTimely, Owes, IsItem, stamp_of}
use Rattle.pod_core.proofs.Histories.{if_some_weaker, place_grows, pod_grows, entry_grows, moment_grows}

module _ (may_give : ℕ → Type 0) (conn : ℕ) (history : History) (more : List Entry) where
  answered_grows : (item : Item) (n : ℕ) (reply : Reply) → IsAnswered may_give conn history item n reply → IsAnswered may_give conn (longer history more) item n reply
  answered_grows item n reply h = record {
    there = place_grows history more n h.there;
    reply_is = subst (λ (pod : Pod). IsReply pod item.request item.asked n (stamp_of conn item) reply) (sym (pod_grows history more n h.there)) h.reply_is;
    entry = if_some_weaker reply.entry (λ e. entry_at history n ≡ Some e) (λ e. entry_at (longer history more) n ≡ Some e) (λ e is. entry_grows history more n e is) h.entry;
  }

  timely_grows : (item : Item) (n : ℕ) → IsPlace history n → IsTimely may_give conn history item n → IsTimely may_give conn (longer history more) item n
  timely_grows item n h t =
      (t.0, t.1, t.2 ∙ ap (λ b. if is_change item.request.method then max t.0 b else t.0) (sym (moment_grows history more n h)))

  owes_grows : (item : Item) (o : Outcome) → Owes may_give conn history item o → Owes may_give conn (longer history more) item o
  owes_grows item (answered n reply) h = (answered_grows item n reply h.0, timely_grows item n h.0.there h.1)
  owes_grows item no_memory h = tt
  owes_grows item disk_fault h = h

  pub items_grow : (items : List Item) → AllByRecursion (IsItem may_give conn history) items → AllByRecursion (IsItem may_give conn (longer history more)) items
  items_grow [] h = tt
  items_grow (item ∷ items) h = (owes_grows item item.outcome h.0, items_grow items h.1)

pub session_grows : (may_give : ℕ → Type 0) → StaysSession may_give
session_grows may_give asking events before session after more s = record {
  requests = s.requests;
  numbers = s.numbers;
  asked = s.asked;
  answers = items_grow may_give session.conn session.history more session.items s.answers;
  places = s.places;
  last = s.last;
  refused = s.refused;
}
