-- What a commit, and a request that changes nothing, are as one item of a run.
use Rattle.std.proofs.Common.{◌≡◌, ◌⊎◌, inl, inr, ℕ, List, [], ◌∷◌, ◌++◌, Contains, All, Option, Some, None, refl, sym, ◌∙◌, ap, subst, rules}
use Rattle.std.specs.Option.{option_to_list}
use Rattle.std.proofs.lemmas.List.{append-nil}
use Rattle.std.proofs.lemmas.List.Elements.{All-contains, Contains-append_cases, Contains-append_left, Contains-push}
use Rattle.journal_pair.specs.Doubts.{IsSure, IsLong}
use Rattle.journal_pair.proofs.TogetherRuns.{together_weaker}
use Rattle.journal_pair.specs.PairMoments.{ThroughOpenings}
use Rattle.journal_pair.proofs.Reopening.{openings_weaker}
use Rattle.pod_base.specs.declared.moment.Stamp.{Stamp}
use Rattle.pod_base.specs.declared.request.Request.{Request}
use Rattle.pod_command.specs.declared.entry.Entry.{Entry}
use Rattle.pod_core.specs.History.{History, end_of, longer, pod_at}
use Rattle.pod_core.specs.KeeperSteps.{stamp_at_end}
use Rattle.pod_core.specs.Session.{Item, Outcome, answered, no_memory, disk_fault, entries_on}
use Rattle.pod_keeper.specs.CommitEvents.{entry_in_doubt}
use Rattle.pod_keeper.specs.Commits.{FollowsReply, IsEntryAtEnd, IsGrown, IsLeftFaulted, IsLeftInDoubt, LeavesPods, LeavesPodsOf}
use Rattle.pod_keeper.specs.CrashedPods.{StandsForOneOf}
use Rattle.pod_keeper.specs.KeeperRuns.{IsDoubtAfter, IsUnderWay, StandsWith, TakesItem, doubt_after}
use Rattle.pod_keeper.specs.Kept.{Doubt, certain, entered, checkpointed, entries_in, IsKept}
use Rattle.pod_keeper.specs.KeeperState.{KeeperState, IsCheckpointDue}
use Rattle.pod_keeper.proofs.Carried.{untouched_as}
use Rattle.pod_reply.proofs.OneReply.{one_reply}
use Rattle.pod_reply.specs.Replies.{Reply}
use Rattle.token_table.specs.Credentials.{AskedAgent}

pub same_history : (history : History) → longer history [] ≡ history
same_history history = ap (λ (entries : List Entry). record history { entries = entries }) (append-nil history.entries)

-- the entry in doubt, as a list
pub doubt_listed : (doubt : Doubt) → entries_in doubt ≡ option_to_list (entry_in_doubt doubt)
doubt_listed certain = refl
doubt_listed (entered entry) = refl
doubt_listed checkpointed = refl

some_is : {X : Type 0} {x y : X} → Some x ≡ Some y → x ≡ y
some_is is = search rules

-- there is one entry at the end
one_entry : (history : History) (request : Request) (asked : AskedAgent) (stamp : Stamp) (a b : Entry) → IsEntryAtEnd history request asked stamp a → IsEntryAtEnd history request asked stamp b → a ≡ b
one_entry history request asked stamp a b h k =
    let same : h.reply ≡ k.reply = one_reply (pod_at history (end_of history)) request asked (end_of history) (stamp_at_end history stamp) h.reply k.reply h.is k.is in
    some_is (sym h.has ∙ (ap (λ (r : Reply). r.entry) same ∙ k.has))

module _ {D : Type 0} (image : D → List ℕ → Type 0) (moment : D → ℕ) (left_since : D → ℕ → List ℕ → Type 0) (old new : KeeperState D) (history : History) where
  -- with other entries to choose from
  pub leaves_more : (some more : List Entry) → ((entry : Entry) → Contains some entry → Contains more entry) → LeavesPodsOf moment left_since old new history some → LeavesPodsOf moment left_since old new history more
  leaves_more some more leads = together_weaker image moment left_since old.first old.second new.first new.second (ThroughOpenings (StandsForOneOf history some)) (ThroughOpenings (StandsForOneOf history more))
      (openings_weaker (StandsForOneOf history some) (StandsForOneOf history more) of)
    where
      of : (c d : List ℕ) → StandsForOneOf history some c d → StandsForOneOf history more c d
      of c d (inl stands) = inl stands
      of c d (inr (entry, has, stands)) = inr (entry, leads entry has, stands)

  -- with this entry under way and no other
  pub leaves_entry : (doubt : Doubt) (request : Request) (asked : AskedAgent) (stamp : Stamp) (entry : Entry) → IsEntryAtEnd history request asked stamp entry → LeavesPods moment left_since old new history doubt request asked stamp
      → LeavesPodsOf moment left_since old new history (entries_in doubt ++ entry ∷ [])
  leaves_entry doubt request asked stamp entry is h = leaves_more (entries_in doubt ++ h.under_way) (entries_in doubt ++ entry ∷ []) leads h.leaves
    where
      under : (other : Entry) → Contains h.under_way other → Contains (entries_in doubt ++ entry ∷ []) other
      under other has =
          let same = one_entry history request asked stamp entry other is (All-contains (IsEntryAtEnd history request asked stamp) h.under_way other h.are has) in
          subst (Contains (entries_in doubt ++ entry ∷ [])) same (Contains-push (entries_in doubt) entry)

      either : (other : Entry) → Contains (entries_in doubt) other ⊎ Contains h.under_way other → Contains (entries_in doubt ++ entry ∷ []) other
      either other (inl before) = Contains-append_left (entries_in doubt) (entry ∷ []) other before
      either other (inr here) = under other here

      leads : (other : Entry) → Contains (entries_in doubt ++ h.under_way) other → Contains (entries_in doubt ++ entry ∷ []) other
      leads other has = either other (Contains-append_cases (entries_in doubt) h.under_way other has)

-- the item of a request with this stamp
abbrev pub item_with : Request → AskedAgent → Stamp → ℕ → Outcome → Item
item_with request asked stamp seconds outcome = record { request = request; number = stamp.number; asked = asked; moment = seconds; outcome = outcome }

module _ {D : Type 0} (image : D → List ℕ → Type 0) (moment : D → ℕ) (left_since : D → ℕ → List ℕ → Type 0) (old : KeeperState D) (history : History) (request : Request) (asked : AskedAgent) (stamp : Stamp) (seconds : ℕ) (in_doubt : Option Entry) (stands : StandsWith image old history in_doubt) where
  listed : entries_in stands.doubt ≡ option_to_list in_doubt
  listed = doubt_listed stands.doubt ∙ sym (ap option_to_list stands.doubt_is)

  abbrev pub Takes : Outcome → KeeperState D → Option Entry → Type 0
  Takes outcome new doubt_new = TakesItem image moment left_since stamp.conn stamp.moment.0 old history in_doubt (item_with request asked stamp seconds outcome) new doubt_new

  -- nothing was under way
  pub taken_still : ((d : D) (c : List ℕ) → left_since d (moment d) c → image d c) → (outcome : Outcome) → IsUnderWay stamp.conn stamp.moment.0 history (item_with request asked stamp seconds outcome) outcome None → entries_on outcome ≡ [] → IsDoubtAfter outcome in_doubt None in_doubt
      → Takes outcome old in_doubt
  taken_still only_now outcome is_under_way none after = record {
    under_way = None;
    is_under_way = is_under_way;
    stands = subst (λ (l : List Entry). StandsWith image old (longer history l) in_doubt) (sym none) (subst (λ (h : History). StandsWith image old h in_doubt) (sym (same_history history)) stands);
    in_doubt = after;
    same = λ _. refl;
    leaves = λ sure long. subst (λ (l : List Entry). LeavesPodsOf moment left_since old old history l) (listed ∙ sym (append-nil (option_to_list in_doubt)))
        (untouched_as image moment left_since old only_now history stands.place stands.doubt stands.kept sure);
    sure = λ sure long. sure;
    long = λ sure long. long;
  }

  pub taken_out_of_memory : ((d : D) (c : List ℕ) → left_since d (moment d) c → image d c) → (new : KeeperState D) → new ≡ old → Takes no_memory new in_doubt
  taken_out_of_memory only_now new same = subst (λ (k : KeeperState D). Takes no_memory k in_doubt) (sym same) (taken_still only_now no_memory refl refl refl)

  pub taken_without : ((d : D) (c : List ℕ) → left_since d (moment d) c → image d c) → (new : KeeperState D) → new ≡ old → (place : ℕ) (reply : Reply) → reply.entry ≡ None → Takes (answered place reply) new in_doubt
  taken_without only_now new same place reply none = subst (λ (k : KeeperState D). Takes (answered place reply) k in_doubt) (sym same)
      (taken_still only_now (answered place reply) (sym none) (ap option_to_list none) (sym (ap (doubt_after in_doubt) none)))

  module _ (new : KeeperState D)
      (sure : IsSure image old.first old.second old.pair → (IsCheckpointDue old.pair → IsLong image old.first old.second old.pair) → IsSure image new.first new.second new.pair)
      (long : IsSure image old.first old.second old.pair → IsLong image old.first old.second old.pair → IsLong image new.first new.second new.pair) where
    abbrev pub LeavesEntry : Entry → Type 0
    LeavesEntry entry = IsSure image old.first old.second old.pair → (IsCheckpointDue old.pair → IsLong image old.first old.second old.pair) → LeavesPodsOf moment left_since old new history (entries_in stands.doubt ++ entry ∷ [])

    leaves_so : (entry : Entry) → LeavesEntry entry → IsSure image old.first old.second old.pair → (IsCheckpointDue old.pair → IsLong image old.first old.second old.pair)
        → LeavesPodsOf moment left_since old new history (option_to_list in_doubt ++ option_to_list (Some entry))
    leaves_so entry leaves is_sure is_long = subst (λ (before : List Entry). LeavesPodsOf moment left_since old new history (before ++ entry ∷ [])) listed (leaves is_sure is_long)

    some_none : (entry : Entry) → Some entry ≡ None → new ≡ old
    some_none entry is = absurd cc

    -- an entry was added
    pub taken_grown : (place : ℕ) (reply : Reply) (entry : Entry) → reply.entry ≡ Some entry → IsGrown image old new history stands.place entry → LeavesEntry entry → Takes (answered place reply) new None
    taken_grown place reply entry has grown leaves = record {
      under_way = Some entry;
      is_under_way = sym has;
      stands = subst (λ (o : Option Entry). StandsWith image new (longer history (option_to_list o)) None) (sym has) (record { place = grown.new_place; doubt = certain; kept = grown.kept; doubt_is = refl });
      in_doubt = sym (ap (doubt_after in_doubt) has);
      same = some_none entry;
      leaves = leaves_so entry leaves;
      sure = sure;
      long = long;
    }

    -- a commit that succeeded
    pub taken_committed : ((d : D) (c : List ℕ) → left_since d (moment d) c → image d c) → (place : ℕ) (reply : Reply) (o : Option Entry) → reply.entry ≡ o → FollowsReply image old new history stands.place o → ((entry : Entry) → o ≡ Some entry → LeavesEntry entry)
        → (after : Option Entry) × Takes (answered place reply) new after
    taken_committed only_now place reply None is same leaves = (in_doubt, taken_without only_now new same place reply is)
    taken_committed only_now place reply (Some entry) is grown leaves = (None, taken_grown place reply entry is grown (leaves entry refl))

    -- one that met a disk fault
    left_after : (entry : Entry) (left : Doubt) → IsLeftInDoubt stands.doubt entry left → IsDoubtAfter disk_fault in_doubt (Some entry) (entry_in_doubt left)
    left_after entry left (inl same) = inl (ap entry_in_doubt same ∙ sym stands.doubt_is)
    left_after entry left (inr (inl same)) = inr (inl (ap entry_in_doubt same))
    left_after entry left (inr (inr (inl same))) = inr (inl (ap entry_in_doubt same))
    left_after entry left (inr (inr (inr same))) = inr (inr (ap entry_in_doubt same))

    pub taken_faulted : (entry : Entry) → IsEntryAtEnd history request asked stamp entry → (of : IsLeftFaulted image new history stands.place stands.doubt entry) → LeavesEntry entry → Takes disk_fault new (entry_in_doubt of.left)
    taken_faulted entry is of leaves = record {
      under_way = Some entry;
      is_under_way = (entry, refl, is);
      stands = subst (λ (h : History). StandsWith image new h (entry_in_doubt of.left)) (sym (same_history history)) (record { place = of.new_place; doubt = of.left; kept = of.kept; doubt_is = refl });
      in_doubt = left_after entry of.left of.in_doubt;
      same = some_none entry;
      leaves = leaves_so entry leaves;
      sure = sure;
      long = long;
    }
