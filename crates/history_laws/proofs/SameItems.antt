-- Items after one history that ask the same are the same.
use Rattle.std.proofs.Common.{◌≡◌, ℕ, ◌+◌, List, [], ◌∷◌, ◌++◌, length, refl, sym, ap, subst, ◌∙◌}
use Rattle.std.specs.List.{AllByRecursion, flat_map}
use Rattle.std.specs.Option.{option_to_list}
use Rattle.pod_base.specs.declared.moment.Stamp.{Stamp}
use Rattle.pod_command.specs.declared.entry.Entry.{Entry}
use Rattle.pod_core.proofs.Histories.{end_grows, pod_grows}
use Rattle.pod_core.specs.History.{History, end_of, longer, pod_at}
use Rattle.pod_core.specs.Session.{IsAnswered, IsItem, Item, NeverFalls, Outcome, Owes, answered, disk_fault, entries_of, entries_on, no_memory, places_of, places_on, stamp_of}
use Rattle.pod_reply.specs.Laws.{HasOneReply}
use Rattle.pod_reply.specs.Replies.{Reply}
use Rattle.pod_reply.specs.Reply.{IsReply}
use Rattle.history_laws.specs.Isolated.{grown}
use Rattle.history_laws.proofs.PodsAtEnd.{end_is_place, longer_again, place_is_first, places_then}
use Rattle.history_laws.specs.SameItems.{AreAnswered, AreItemsAfter, AskSame, AsksSame, EndsAnswered}

module _ (may_give : ℕ → Type 0) (conn : ℕ) (one : HasOneReply) where
  abbrev Answers : History → List Item → Type 0
  Answers history items = AllByRecursion (IsItem may_give conn history) items

  abbrev Falls : History → ℕ → List Item → Type 0
  Falls history before items = NeverFalls before (flat_map places_of items) (end_of history)

  -- ---- one answer at the end of a history
  module _ (begun : History) (item : Item) (n : ℕ) (reply : Reply) (items : List Item) where
    abbrev more : List Entry
    more = flat_map entries_of items

    abbrev added : List Entry
    added = option_to_list reply.entry

    abbrev all : History
    all = longer begun (added ++ more)

    -- its place
    is_end : NeverFalls (end_of begun) (places_on (answered n reply) ++ flat_map places_of items) (end_of all) → n ≡ end_of begun
    is_end places = place_is_first n (end_of begun) (end_of all) reply.entry items places.0 places.1 (end_grows begun (added ++ more))

    -- its reply
    replies : n ≡ end_of begun → IsAnswered may_give conn all item n reply → IsReply (pod_at begun (end_of begun)) item.request item.asked (end_of begun) (stamp_of conn item) reply
    replies here a =
        let at_end : IsAnswered may_give conn all item (end_of begun) reply = subst (λ m. IsAnswered may_give conn all item m reply) here a in
        subst (λ pod. IsReply pod item.request item.asked (end_of begun) (stamp_of conn item) reply) (pod_grows begun (added ++ more) (end_of begun) (end_is_place begun)) at_end.reply_is

    -- the others, after its entry
    answers_then : Answers all items → Answers (grown (longer begun added) items) items
    answers_then h = subst (λ (x : History). Answers x items) (sym (longer_again begun added more)) h

    falls_then : n ≡ end_of begun → NeverFalls (end_of begun) (places_on (answered n reply) ++ flat_map places_of items) (end_of all) → Falls (grown (longer begun added) items) (end_of (longer begun added)) items
    falls_then here places =
        let next : Falls all (n + length added) items = places_then n (end_of all) reply.entry (flat_map places_of items) places.1 in
        let from : Falls all (end_of (longer begun added)) items = subst (λ m. Falls all m items) (ap (λ m. m + length added) here ∙ sym (end_grows begun added)) next in
        subst (λ (x : History). Falls x (end_of (longer begun added)) items) (sym (longer_again begun added more)) from

  -- ---- one item after the other
  abbrev Same : List Item → List Item → Type 0
  Same items others = (begun : History) → Answers (grown begun items) items → Falls (grown begun items) (end_of begun) items
      → Answers (grown begun others) others → Falls (grown begun others) (end_of begun) others → AskSame items others → AreAnswered items → AreAnswered others → items ≡ others

  by_outcome : (item other : Item) (o p : Outcome) (items others : List Item) → ((begun : History) → Answers (grown begun items) items → Falls (grown begun items) (end_of begun) items → Answers (grown begun others) others → Falls (grown begun others) (end_of begun) others → items ≡ others)
      → (begun : History) → AsksSame item other
      → Owes may_give conn (longer begun (entries_on o ++ flat_map entries_of items)) item o → Answers (longer begun (entries_on o ++ flat_map entries_of items)) items
      → NeverFalls (end_of begun) (places_on o ++ flat_map places_of items) (end_of (longer begun (entries_on o ++ flat_map entries_of items)))
      → Owes may_give conn (longer begun (entries_on p ++ flat_map entries_of others)) other p → Answers (longer begun (entries_on p ++ flat_map entries_of others)) others
      → NeverFalls (end_of begun) (places_on p ++ flat_map places_of others) (end_of (longer begun (entries_on p ++ flat_map entries_of others)))
      → EndsAnswered o → EndsAnswered p → (o ≡ p) × (items ≡ others)
  by_outcome item other (answered n reply) (answered m replied) items others rest begun asks owes answers places owed answered_others falls e f =
      let here : n ≡ end_of begun = is_end begun item n reply items places in
      let there : m ≡ end_of begun = is_end begun other m replied others falls in
      let mine = replies begun item n reply items here owes.0 in
      let yours = replies begun other m replied others there owed.0 in
      let stamps : stamp_of conn item ≡ stamp_of conn other = λ i. record { conn = conn; number = asks.number i; moment = record { 0 = asks.moment i } } in
      let pod = pod_at begun (end_of begun) in
      let alike : IsReply pod other.request other.asked (end_of begun) (stamp_of conn other) reply =
      subst (λ (s : Stamp). IsReply pod other.request other.asked (end_of begun) s reply) stamps
      (subst (λ a. IsReply pod other.request a (end_of begun) (stamp_of conn item) reply) asks.asked
      (subst (λ r. IsReply pod r item.asked (end_of begun) (stamp_of conn item) reply) asks.request mine)) in
      let same : reply ≡ replied = one pod other.request other.asked (end_of begun) (stamp_of conn other) reply replied alike yours in
      let next : History = longer begun (option_to_list reply.entry) in
      let others_answer : Answers (grown next others) others =
      subst (λ (r : Reply). Answers (grown (longer begun (option_to_list r.entry)) others) others) (sym same) (answers_then begun other m replied others answered_others) in
      let others_fall : Falls (grown next others) (end_of next) others =
      subst (λ (r : Reply). Falls (grown (longer begun (option_to_list r.entry)) others) (end_of (longer begun (option_to_list r.entry))) others) (sym same) (falls_then begun other m replied others there falls) in (
        (λ i. answered ((here ∙ sym there) i) (same i)),
        rest next (answers_then begun item n reply items answers) (falls_then begun item n reply items here places) others_answer others_fall,
      )
  by_outcome item other (answered n reply) no_memory items others rest begun asks owes answers places owed answered_others falls e f = absurd f
  by_outcome item other (answered n reply) disk_fault items others rest begun asks owes answers places owed answered_others falls e f = absurd f
  by_outcome item other no_memory p items others rest begun asks owes answers places owed answered_others falls e f = absurd e
  by_outcome item other disk_fault p items others rest begun asks owes answers places owed answered_others falls e f = absurd e

  same_items : (items others : List Item) → Same items others
  same_items [] [] begun answers places owed falls asks e f = refl
  same_items [] (other ∷ others) begun answers places owed falls asks e f = absurd asks
  same_items (item ∷ items) [] begun answers places owed falls asks e f = absurd asks
  same_items (item ∷ items) (other ∷ others) begun answers places owed falls asks e f =
      let both = by_outcome item other item.outcome other.outcome items others
      (λ next a b c d. same_items items others next a b c d asks.1 e.1 f.1)
      begun asks.0 answers.0 answers.1 places owed.0 owed.1 falls e.0 f.0 in
      let a = asks.0 in
      let first : item ≡ other = λ i. record { request = a.request i; number = a.number i; asked = a.asked i; moment = a.moment i; outcome = both.0 i } in
      λ i. first i ∷ both.1 i

  pub one_list : (begun : History) (items others : List Item) → AreItemsAfter may_give conn begun items → AreItemsAfter may_give conn begun others → AskSame items others → items ≡ others
  one_list begun items others h k asks = same_items items others begun h.answers h.places k.answers k.places asks h.answered k.answered
