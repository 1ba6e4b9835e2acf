-- An item that was answered at the end of a history.
use Rattle.std.proofs.Common.{◌≡◌, ℕ, ◌+◌, ◌≤◌, if◌then◌else◌, List, [], ◌∷◌, ◌++◌, length, max, Option, Some, None, is_some, sym, ap, subst, append_assoc, ◌∙◌, arith}
use Rattle.std.specs.Option.{option_to_list}
use Rattle.pod_command.specs.declared.entry.Entry.{Entry}
use Rattle.pod_core.specs.History.{History, IsPlace, end_of, longer}
use Rattle.pod_core.specs.Session.{IsAnswered, IsClockMoment, IsTimely, Item, NeverFalls, Outcome, Owes, answered, stamp_of}
use Rattle.pod_core.proofs.Histories.{moment_grows, place_grows, pod_grows, stands_at_end}
use Rattle.pod_core.proofs.LongerSessions.{items_grow}
use Rattle.pod_reply.specs.Replies.{Reply}
use Rattle.pod_reply.specs.Reply.{IsReply}
use Rattle.pod_rows.specs.Pod.{Pod}
use Rattle.reply_laws.specs.Granted.{is_change}
use Rattle.conn_talk.specs.Walks.{RepliesAtEnd}

-- the history with more entries, and then with others
pub longer_again : (history : History) (entries more : List Entry) → longer (longer history entries) more ≡ longer history (entries ++ more)
longer_again history entries more = ap (λ (all : List Entry). record history { entries = all }) (append_assoc history.entries entries more)

module _ (may_give : ℕ → Type 0) (conn : ℕ) where
  -- it is an item of the history with its entry
  pub owes_at_end : (clock : ℕ) → IsClockMoment may_give clock → (history : History) (item : Item) (place : ℕ) (reply : Reply) → place ≡ end_of history → RepliesAtEnd conn clock history item reply
      → Owes may_give conn (longer history (option_to_list reply.entry)) item (answered place reply)
  owes_at_end clock given history item place reply at r =
      let more = option_to_list reply.entry in
      let here : IsPlace history (end_of history) = record { from = omega arith; to = omega arith } in
      let is_answered : IsAnswered may_give conn (longer history more) item (end_of history) reply = record {
        there = place_grows history more (end_of history) here;
        reply_is = subst (λ (pod : Pod). IsReply pod item.request item.asked (end_of history) (stamp_of conn item) reply) (sym (pod_grows history more (end_of history) here)) r.reply_is;
        entry = stands_at_end history reply.entry;
      } in
      let timely : IsTimely may_give conn (longer history more) item (end_of history) =
      (clock, given, r.moment ∙ ap (λ b. if is_change item.request.method then max clock b else clock) (sym (moment_grows history more (end_of history) here))) in
      subst (λ n. Owes may_give conn (longer history more) item (answered n reply)) (sym at) (is_answered, timely)

  -- an item stays one of a longer history
  pub owes_longer : (history : History) (more : List Entry) (item : Item) (o : Outcome) → item.outcome ≡ o → Owes may_give conn history item o → Owes may_give conn (longer history more) item o
  owes_longer history more item o is owed =
      subst (Owes may_give conn (longer history more) item) is (items_grow may_give conn history more (item ∷ []) (subst (Owes may_give conn history item) (sym is) owed, tt)).0

-- ---- places

pub falls_from : (a b c : ℕ) (zs : List ℕ) → a ≤ b → NeverFalls b zs c → NeverFalls a zs c
falls_from a b c [] h k = omega (arith, h, k)
falls_from a b c (z ∷ zs) h k = (omega (arith, h, k.0), k.1)

-- the place of an answer, that after its entry, and others
pub falls_on : (before place after : ℕ) (o : Option Entry) (zs : List ℕ) → before ≤ place → NeverFalls (place + length (option_to_list o)) zs after
    → NeverFalls before ((place ∷ (if is_some o then (place + 1) ∷ [] else [])) ++ zs) after
falls_on before place after None zs h k = (h, falls_from place (place + 0) after zs (omega arith) k)
falls_on before place after (Some e) zs h k = (h, (omega arith, k))
