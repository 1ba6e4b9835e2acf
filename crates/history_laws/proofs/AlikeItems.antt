-- The requests of one agent are answered alike over histories that end alike for the agent.
use Rattle.std.proofs.Common.{◌≡◌, ℕ, ◌+◌, if◌then◌else◌, List, [], ◌∷◌, ◌++◌, length, max, Option, Some, None, IfSome, refl, sym, ap, subst, ◌∙◌}
use Rattle.std.specs.List.{AllByRecursion, flat_map}
use Rattle.std.specs.Option.{option_map_or, option_to_list}
use Rattle.pod_base.specs.declared.agent.Agent.{Agent}
use Rattle.pod_command.specs.declared.entry.Entry.{Entry}
use Rattle.pod_core.proofs.Histories.{end_grows, history_may_grow, moment_at_end, moment_grows, place_grows, pod_at_end, pod_grows, replayed_more}
use Rattle.pod_core.specs.History.{History, IsHistory, end_of, longer, moment_before, pod_at, seconds_of}
use Rattle.pod_core.specs.Session.{IsAnswered, IsItem, IsTimely, Item, NeverFalls, Outcome, Owes, answered, disk_fault, entries_of, entries_on, no_memory, places_of, places_on, stamp_of}
use Rattle.pod_reply.specs.Replies.{Reply}
use Rattle.pod_reply.specs.Reply.{IsReply, agent_of}
use Rattle.pod_rows.specs.Apply.{Applies, applied}
use Rattle.pod_rows.specs.Pod.{Pod}
use Rattle.pod_rows.specs.WellFormed.{WellFormed}
use Rattle.reply_laws.specs.Alike.{Alike}
use Rattle.reply_laws.specs.Granted.{is_change}
use Rattle.reply_laws.specs.Isolation.{RepliesAlike}
use Rattle.reply_laws.specs.Laws.{EntriesApply}
use Rattle.history_laws.specs.Isolated.{AreAlikeAtEnd, AreRequestsOf, KeepsHidden, grown}
use Rattle.history_laws.proofs.AlikeAfter.{alike_then}
use Rattle.history_laws.proofs.PodsAtEnd.{end_is_place, longer_again, place_is_first, places_then, same_history, stands_first, well_formed_at_end}

-- the pod at the end of a history
abbrev pub last_pod : History → Pod
last_pod history = pod_at history (end_of history)

-- with an entry that may be added
pod_then : (history : History) (o : Option Entry) → option_map_or (applied (last_pod history)) o (last_pod history) ≡ last_pod (longer history (option_to_list o))
pod_then history o =
    ap (λ (pod : Pod). option_map_or (applied pod) o pod) (pod_at_end history) ∙ replayed_more history.first history.entries o ∙ sym (pod_at_end (longer history (option_to_list o)))

module _ (may_give : ℕ → Type 0) (conn : ℕ) (applies : EntriesApply) (replies : RepliesAlike) (agent : Agent) where
  -- ---- an answer at the end of both
  module _ (now other : History) (is_now : IsHistory now) (alike : AreAlikeAtEnd agent now other) (item : Item) (reply : Reply) (mine : agent_of item.asked ≡ agent) (more : List Entry)
      (hidden : KeepsHidden agent (last_pod now) (last_pod other) (option_to_list reply.entry ++ more)) (given : IsAnswered may_give conn (longer now (option_to_list reply.entry ++ more)) item (end_of now) reply) where
    abbrev added : List Entry
    added = option_to_list reply.entry

    abbrev Replies : Pod → ℕ → Type 0
    Replies pod n = IsReply pod item.request item.asked n (stamp_of conn item) reply

    reply_now : Replies (last_pod now) (end_of now)
    reply_now = subst (λ (pod : Pod). Replies pod (end_of now)) (pod_grows now (added ++ more) (end_of now) (end_is_place now)) given.reply_is

    reply_other : Replies (last_pod other) (end_of other)
    reply_other = subst (Replies (last_pod other)) (sym alike.place)
        (replies (last_pod now) (last_pod other) item.request item.asked (end_of now) (stamp_of conn item) reply (well_formed_at_end now is_now) (subst (λ (a : Agent). Alike a (last_pod now) (last_pod other)) (sym mine) alike.pods) reply_now)

    may_apply : (pod : Pod) (n : ℕ) (o : Option Entry) → WellFormed pod → Replies pod n → reply.entry ≡ o → IfSome o (Applies pod n)
    may_apply pod n None w r e = tt
    may_apply pod n (Some entry) w r e = applies pod item.request item.asked n (stamp_of conn item) reply entry w r e

    applies_now : IfSome reply.entry (Applies (last_pod now) (end_of now))
    applies_now = may_apply (last_pod now) (end_of now) reply.entry (well_formed_at_end now is_now) reply_now refl

    applies_other : IfSome reply.entry (Applies (last_pod other) (end_of other))
    applies_other = may_apply (last_pod other) (end_of other) reply.entry (well_formed_at_end other alike.is_history) reply_other refl

    next_now : IsHistory (longer now added)
    next_now = history_may_grow now reply.entry is_now (subst (λ (pod : Pod). IfSome reply.entry (Applies pod (end_of now))) (pod_at_end now) applies_now)

    next_other : IsHistory (longer other added)
    next_other = history_may_grow other reply.entry alike.is_history (subst (λ (pod : Pod). IfSome reply.entry (Applies pod (end_of other))) (pod_at_end other) applies_other)

    abbrev after : Pod → Pod
    after pod = option_map_or (applied pod) reply.entry pod

    pods_then : Alike agent (after (last_pod now)) (after (last_pod other)) × KeepsHidden agent (after (last_pod now)) (after (last_pod other)) more
    pods_then = alike_then agent (last_pod now) (last_pod other) (end_of now) (end_of other) reply.entry more alike.pods applies_now applies_other hidden

    next_alike : AreAlikeAtEnd agent (longer now added) (longer other added)
    next_alike = record {
      is_history = next_other;
      place = end_grows other added ∙ ap (λ n. n + length added) alike.place ∙ sym (end_grows now added);
      moment = sym (moment_at_end other reply.entry (moment_before other (end_of other)) refl) ∙ ap (option_map_or seconds_of reply.entry) alike.moment
          ∙ moment_at_end now reply.entry (moment_before now (end_of now)) refl;
      pods = subst (Alike agent (last_pod (longer now added))) (pod_then other reply.entry)
          (subst (λ (pod : Pod). Alike agent pod (after (last_pod other))) (pod_then now reply.entry) pods_then.0);
    }

    next_hidden : KeepsHidden agent (last_pod (longer now added)) (last_pod (longer other added)) more
    next_hidden = subst (λ (pod : Pod). KeepsHidden agent (last_pod (longer now added)) pod more) (pod_then other reply.entry)
        (subst (λ (pod : Pod). KeepsHidden agent pod (after (last_pod other)) more) (pod_then now reply.entry) pods_then.1)

    answer_there : IsAnswered may_give conn (longer other (added ++ more)) item (end_of other) reply
    answer_there = record {
      there = place_grows other (added ++ more) (end_of other) (end_is_place other);
      reply_is = subst (λ (pod : Pod). Replies pod (end_of other)) (sym (pod_grows other (added ++ more) (end_of other) (end_is_place other))) reply_other;
      entry = stands_first other reply.entry more;
    }

    timely_there : IsTimely may_give conn (longer now (added ++ more)) item (end_of now) → IsTimely may_give conn (longer other (added ++ more)) item (end_of other)
    timely_there t = (
      t.0,
      t.1,
      t.2 ∙ ap (λ b. if is_change item.request.method then max t.0 b else t.0)
          (moment_grows now (added ++ more) (end_of now) (end_is_place now) ∙ sym alike.moment ∙ sym (moment_grows other (added ++ more) (end_of other) (end_is_place other))),
    )

  -- ---- one item after the other
  abbrev Isolates : List Item → Type 0
  Isolates items = (now other : History) → IsHistory now → AllByRecursion (IsItem may_give conn (grown now items)) items → NeverFalls (end_of now) (flat_map places_of items) (end_of (grown now items)) → AreRequestsOf agent items → AreAlikeAtEnd agent now other
      → KeepsHidden agent (last_pod now) (last_pod other) (flat_map entries_of items)
      → AllByRecursion (IsItem may_give conn (grown other items)) items × AreAlikeAtEnd agent (grown now items) (grown other items)

  by_outcome : (item : Item) (o : Outcome) (items : List Item) → Isolates items → (now other : History) → IsHistory now
      → Owes may_give conn (longer now (entries_on o ++ flat_map entries_of items)) item o → AllByRecursion (IsItem may_give conn (longer now (entries_on o ++ flat_map entries_of items))) items
      → NeverFalls (end_of now) (places_on o ++ flat_map places_of items) (end_of (longer now (entries_on o ++ flat_map entries_of items)))
      → agent_of item.asked ≡ agent → AreRequestsOf agent items → AreAlikeAtEnd agent now other → KeepsHidden agent (last_pod now) (last_pod other) (entries_on o ++ flat_map entries_of items)
      → (Owes may_give conn (longer other (entries_on o ++ flat_map entries_of items)) item o × AllByRecursion (IsItem may_give conn (longer other (entries_on o ++ flat_map entries_of items))) items)
      × AreAlikeAtEnd agent (longer now (entries_on o ++ flat_map entries_of items)) (longer other (entries_on o ++ flat_map entries_of items))
  by_outcome item (answered n reply) items rest now other is_now owes answers places mine others alike hidden =
      let more : List Entry = flat_map entries_of items in
      let added : List Entry = option_to_list reply.entry in
      let here : n ≡ end_of now = place_is_first n (end_of now) (end_of (longer now (added ++ more))) reply.entry items places.0 places.1 (end_grows now (added ++ more)) in
      let there : n ≡ end_of other = here ∙ sym alike.place in
      let given : IsAnswered may_give conn (longer now (added ++ more)) item (end_of now) reply = subst (λ m. IsAnswered may_give conn (longer now (added ++ more)) item m reply) here owes.0 in
      let timely : IsTimely may_give conn (longer now (added ++ more)) item (end_of now) = subst (IsTimely may_give conn (longer now (added ++ more)) item) here owes.1 in
      let falls : NeverFalls (n + length added) (flat_map places_of items) (end_of (longer now (added ++ more))) = places_then n (end_of (longer now (added ++ more))) reply.entry (flat_map places_of items) places.1 in
      let next = rest (longer now added) (longer other added) (next_now now other is_now alike item reply mine more hidden given)
      (subst (λ (h : History). AllByRecursion (IsItem may_give conn h) items) (sym (longer_again now added more)) answers)
      (subst (λ (h : History). NeverFalls (end_of (longer now added)) (flat_map places_of items) (end_of h)) (sym (longer_again now added more))
      (subst (λ m. NeverFalls m (flat_map places_of items) (end_of (longer now (added ++ more)))) (ap (λ m. m + length added) here ∙ sym (end_grows now added)) falls))
      others (next_alike now other is_now alike item reply mine more hidden given) (next_hidden now other is_now alike item reply mine more hidden given) in (
        (
          (
            subst (λ m. IsAnswered may_give conn (longer other (added ++ more)) item m reply) (sym there) (answer_there now other is_now alike item reply mine more hidden given),
            subst (IsTimely may_give conn (longer other (added ++ more)) item) (sym there) (timely_there now other is_now alike item reply mine more hidden given timely),
          ),
          subst (λ (h : History). AllByRecursion (IsItem may_give conn h) items) (longer_again other added more) next.0,
        ),
        subst (λ (h : History). AreAlikeAtEnd agent h (longer other (added ++ more))) (longer_again now added more)
            (subst (AreAlikeAtEnd agent (longer (longer now added) more)) (longer_again other added more) next.1),
      )
  by_outcome item no_memory items rest now other is_now owes answers places mine others alike hidden =
      let next = rest now other is_now answers places others alike hidden in
      ((tt, next.0), next.1)
  by_outcome item disk_fault items rest now other is_now owes answers places mine others alike hidden =
      let next = rest now other is_now answers places others alike hidden in
      ((owes, next.0), next.1)

  pub alike_items : (items : List Item) → Isolates items
  alike_items [] now other is_now answers places mine alike hidden = (
    tt,
    subst (λ (h : History). AreAlikeAtEnd agent h (longer other [])) (sym (same_history now)) (subst (AreAlikeAtEnd agent now) (sym (same_history other)) alike),
  )
  alike_items (item ∷ items) now other is_now answers places mine alike hidden =
      by_outcome item item.outcome items (alike_items items) now other is_now answers.0 answers.1 places mine.0 mine.1 alike hidden
