-- A walk is a session over each list that continues what was seen.
use Rattle.std.proofs.Common.{◌≡◌, ℕ, ◌+◌, List, [], ◌∷◌, ◌++◌, length, map, Option, IfSome, refl, subst, length-append, arith}
use Rattle.std.specs.List.{AllByRecursion, flat_map}
use Rattle.std.specs.Option.{option_to_list}
use mathlib.Core.List.{IsPrefix}
use Rattle.pod_base.proofs.Prefixes.{prefix_length, prefix_trans}
use Rattle.pod_base.specs.declared.heard.Heard.{Heard}
use Rattle.pod_command.specs.declared.entry.Entry.{Entry}
use Rattle.pod_core.specs.History.{History, end_of, longer}
use Rattle.pod_core.specs.Session.{IsClockMoment, IsItem, IsRefused, IsSession, Item, NeverFalls, Outcome, Owes, UpgradesLast, answered, disk_fault, no_memory, places_of, places_on, requests_of}
use Rattle.conn_talk.specs.Talks.{AreItems}
use Rattle.conn_talk.specs.Turns.{Rules}
use Rattle.conn_talk.specs.Walks.{Turn, Walk}
use Rattle.conn_talk.proofs.AtEndLemmas.{falls_from, falls_on, longer_again, owes_at_end, owes_longer}

module _ (kept : History → Type 0) (first conn : ℕ) where
  turn_later : (clock : ℕ) (before after : List Entry) (item : Item) (o : Outcome) → Turn kept first conn clock before item o after → IsPrefix before after
  turn_later clock before after item (answered place reply) t =
      prefix_trans before t.entries after t.seen_before (prefix_trans t.entries (t.entries ++ option_to_list reply.entry) after (option_to_list reply.entry, refl) t.seen_after)
  turn_later clock before after item no_memory t = t
  turn_later clock before after item disk_fault t = t.seen_after

  module _ (may_give : ℕ → Type 0) where
    -- what was seen is seen still
    pub walk_later : (items : List Item) (before after : List Entry) → Walk kept first conn may_give before items after → IsPrefix before after
    walk_later [] before after w = w
    walk_later (item ∷ items) before after w = prefix_trans before w.0 after (turn_later w.1.0 before w.0 item item.outcome w.1.2) (walk_later items w.0 after w.2)

    -- more may have been seen after a walk, and before it less
    pub walk_on : (items : List Item) (before mid after : List Entry) → Walk kept first conn may_give before items mid → IsPrefix mid after → Walk kept first conn may_give before items after
    walk_on [] before mid after w p = prefix_trans before mid after w p
    walk_on (item ∷ items) before mid after w p = (w.0, w.1, walk_on items w.0 mid after w.2 p)

    -- ---- over one history that was kept
    module _ (history : History) (held : kept history) (at : end_of history ≡ first) where
      -- an item is one of the history with each list that continues what was seen after it
      owed : (clock : ℕ) → IsClockMoment may_give clock → (before after list : List Entry) (item : Item) (o : Outcome) → item.outcome ≡ o → Turn kept first conn clock before item o after → IsPrefix after list → Owes may_give conn (longer history list) item o
      owed clock given before after list item (answered place reply) is t p =
          let own = option_to_list reply.entry in
          let all = prefix_trans (t.entries ++ own) after list t.seen_after p in
          let there : Owes may_give conn (longer (longer history t.entries) own) item (answered place reply) =
          owes_at_end may_give conn clock given (longer history t.entries) item place reply (omega (arith, t.place_is, at, length-append history.entries t.entries)) (t.replies history held) in
          let here : Owes may_give conn (longer history (t.entries ++ own)) item (answered place reply) =
          subst (λ (h : History). Owes may_give conn h item (answered place reply)) (longer_again history t.entries own) there in
          subst (λ (xs : List Entry). Owes may_give conn (longer history xs) item (answered place reply)) all.1
          (subst (λ (h : History). Owes may_give conn h item (answered place reply)) (longer_again history (t.entries ++ own) all.0)
          (owes_longer may_give conn (longer history (t.entries ++ own)) all.0 item (answered place reply) is here))
      owed clock given before after list item no_memory is t p = tt
      owed clock given before after list item disk_fault is t p = t.changes

      pub walk_answers : (items : List Item) (before after list : List Entry) → Walk kept first conn may_give before items after → IsPrefix after list → AllByRecursion (IsItem may_give conn (longer history list)) items
      walk_answers [] before after list w p = tt
      walk_answers (item ∷ items) before after list w p = (
        owed w.1.0 w.1.1 before w.0 list item item.outcome refl w.1.2 (prefix_trans w.0 after list (walk_later items w.0 after w.2) p),
        walk_answers items w.0 after list w.2 p,
      )

      climbs : (clock : ℕ) (before mid : List Entry) (item : Item) (o : Outcome) → Turn kept first conn clock before item o mid → (zs : List ℕ) (after : ℕ) → NeverFalls (end_of (longer history mid)) zs after → NeverFalls (end_of (longer history before)) (places_on o ++ zs) after
      climbs clock before mid item (answered place reply) t zs after k =
          let own = option_to_list reply.entry in
          let short = prefix_length before t.entries t.seen_before in
          let long = prefix_length (t.entries ++ own) mid t.seen_after in
          falls_on (end_of (longer history before)) place after reply.entry zs (omega (arith, t.place_is, at, short, length-append history.entries before))
          (falls_from (place + length own) (end_of (longer history mid)) after zs (omega (arith, t.place_is, at, long, length-append t.entries own, length-append history.entries mid)) k)
      climbs clock before mid item no_memory t zs after k =
          falls_from (end_of (longer history before)) (end_of (longer history mid)) after zs (omega (arith, prefix_length before mid t, length-append history.entries before, length-append history.entries mid)) k
      climbs clock before mid item disk_fault t zs after k =
          falls_from (end_of (longer history before)) (end_of (longer history mid)) after zs (omega (arith, prefix_length before mid t.seen_after, length-append history.entries before, length-append history.entries mid)) k

      pub walk_places : (items : List Item) (before after : List Entry) → Walk kept first conn may_give before items after → NeverFalls (end_of (longer history before)) (flat_map places_of items) (end_of (longer history after))
      walk_places [] before after w = omega (arith, prefix_length before after w, length-append history.entries before, length-append history.entries after)
      walk_places (item ∷ items) before after w =
          climbs w.1.0 before w.0 item item.outcome w.1.2 (flat_map places_of items) (end_of (longer history after)) (walk_places items w.0 after w.2)

-- the session of a walk, over each history that was kept and each list that continues what was seen
pub walk_is_session : {A : Type 0} (rules : Rules A) (kept : History → Type 0) (first : ℕ) (events : List Heard) (items : List Item) (refusal : Option ℕ) (before after : List Entry) (old new : A)
    → AreItems rules old new items → IsPrefix (map (λ (item : Item). item.request) items) (requests_of events) → UpgradesLast items → IfSome refusal (IsRefused rules.may_give events items)
    → Walk kept first rules.conn rules.may_give before items after
    → (history : History) → kept history → end_of history ≡ first → (list : List Entry) → IsPrefix after list
    → IsSession rules.may_give rules.asking events (end_of (longer history before)) (record { conn = rules.conn; items = items; refusal = refusal; history = longer history list }) (end_of (longer history after))
walk_is_session rules kept first events items refusal before after old new are requests last refused walk history held at list p = record {
  requests = requests;
  numbers = are.numbers;
  asked = are.asked;
  answers = walk_answers kept first rules.conn rules.may_give history held at items before after list walk p;
  places = walk_places kept first rules.conn rules.may_give history held at items before after walk;
  last = last;
  refused = refused;
}
