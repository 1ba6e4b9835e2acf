-- What a commit makes of a keeper, from its plan and what was made of the planned entry.
use Rattle.std.proofs.Common.{◌≡◌, ℕ, zero, suc, List, [], ◌∷◌, ◌++◌, All, Option, Some, None, IfSome, refl, sym, ◌∙◌, ap, subst, arith}
use Rattle.std.specs.Option.{option_map, option_to_list}
use Rattle.journal_pair.specs.Doubts.{IsSure}
use Rattle.journal_pair.proofs.TogetherRuns.{together_still}
use Rattle.journal_pair.specs.PairMoments.{ThroughOpenings}
use Rattle.journal_pair.proofs.Reopening.{openings_weaker}
use Rattle.pod_base.specs.declared.moment.Stamp.{Stamp}
use Rattle.pod_base.specs.declared.request.Request.{Request}
use Rattle.pod_command.specs.Bare.{bare_entry}
use Rattle.pod_command.specs.declared.entry.Entry.{Entry}
use Rattle.pod_core.specs.History.{History, end_of}
use Rattle.pod_core.specs.KeeperSteps.{stamp_at_end, IsReplyAtEnd}
use Rattle.pod_keeper.specs.Commits.{later, IsEntryAtEnd, IsGrown, IsLeftFaulted, IsLeftByEntry, FollowsReply, IsCommitted, IsCommitFaulted, LeavesPodsOf, LeavesPods}
use Rattle.pod_keeper.specs.CrashedPods.{StandsForOneOf}
use Rattle.pod_keeper.specs.Kept.{Doubt, entries_in, IsKept}
use Rattle.pod_keeper.specs.KeeperState.{KeeperState}
use Rattle.pod_keeper.specs.Plans.{planned_entry, IsPlan, IsPlannedAt}
use Rattle.pod_keeper.specs.declared.plan.Plan.{Plan}
use Rattle.pod_keeper.specs.declared.plan.Planned.{Planned}
use Rattle.pod_keeper.proofs.Stamps.{later_at_end}
use Rattle.pod_keeper.proofs.Standing.{disks_stand, more_entries}
use Rattle.pod_reply.specs.Replies.{Reply, reply_of}
use Rattle.pod_reply.specs.Reply.{IsReply}
use Rattle.pod_reply.specs.declared.response_and_entry.Replied.{Replied}
use Rattle.reply_laws.specs.Laws.{IsNoFailure}
use Rattle.reply_laws.specs.Sent.{IsSent}
use Rattle.token_table.specs.Credentials.{AskedAgent}

module _ {D : Type 0} (image : D → List ℕ → Type 0) (moment : D → ℕ) (left_since : D → ℕ → List ℕ → Type 0) (old : KeeperState D) where
  -- where nothing was written
  pub untouched : (only_now : (d : D) (c : List ℕ) → left_since d (moment d) c → image d c) (more : List Entry) (history : History) (place : ℕ) (doubt : Doubt) → IsKept image old history place doubt → IsSure image old.first old.second old.pair
      → LeavesPodsOf moment left_since old old history (entries_in doubt ++ more)
  untouched only_now more history place doubt kept sure =
      together_still image moment left_since only_now old.first old.second (ThroughOpenings (StandsForOneOf history (entries_in doubt ++ more)))
      (λ c d now now_2. openings_weaker _ _ (more_entries history (entries_in doubt) more) c d (disks_stand image moment left_since old history place kept.bodies kept.stored doubt kept.disks sure c d now now_2))

  pub untouched_as : (only_now : (d : D) (c : List ℕ) → left_since d (moment d) c → image d c) (history : History) (place : ℕ) (doubt : Doubt) → IsKept image old history place doubt → IsSure image old.first old.second old.pair
      → LeavesPodsOf moment left_since old old history (entries_in doubt)
  untouched_as only_now history place doubt kept sure =
      together_still image moment left_since only_now old.first old.second (ThroughOpenings (StandsForOneOf history (entries_in doubt)))
      (disks_stand image moment left_since old history place kept.bodies kept.stored doubt kept.disks sure)

  -- the reply at the end of each history, and its moment
  module _ (request : Request) (asked : AskedAgent) (stamp : Stamp) where
    reply_at_end : (reply : Reply) → IsReply old.pod request asked old.next (later stamp old.last) reply → (history : History) (place : ℕ) (doubt : Doubt) → IsKept image old history place doubt → IsReplyAtEnd history request asked stamp reply
    reply_at_end reply is history place doubt kept =
        subst (λ p. IsReply p request asked (end_of history) (stamp_at_end history stamp) reply) kept.pod
        (subst (λ n. IsReply old.pod request asked n (stamp_at_end history stamp) reply) kept.next
        (subst (λ s. IsReply old.pod request asked old.next s reply) (later_at_end history old.last stamp kept.last) is))

    moment_at_end : (history : History) (place : ℕ) (doubt : Doubt) → IsKept image old history place doubt → (later stamp old.last).moment ≡ (stamp_at_end history stamp).moment
    moment_at_end history place doubt kept = ap (λ (s : Stamp). s.moment) (later_at_end history old.last stamp kept.last)

    pub is_plan : (replied : Replied) (place : ℕ) (at : Stamp) (next : Option Planned) → at ≡ later stamp old.last → place ≡ old.next → IsReply old.pod request asked old.next at (reply_of replied) → IsSent replied.response → IsNoFailure replied.response.status
        → planned_entry next ≡ option_map bare_entry replied.entry → IfSome next (IsPlannedAt old) → IsPlan image old request asked stamp (record { answer = record { response = replied.response; place = place; moment = at.moment }; next = next })
    is_plan replied place at next at_is place_is reply_is sent status entry_is planned =
        let given = subst (λ (s : Stamp). IsReply old.pod request asked old.next s (reply_of replied)) at_is reply_is in record {
          reply = reply_of replied;
          reply_is = given;
          at_end = reply_at_end (reply_of replied) given;
          response_is = refl;
          place_is = place_is;
          moment_is = ap (λ (s : Stamp). s.moment) at_is;
          moment_at_end = λ history place doubt kept. ap (λ (s : Stamp). s.moment) at_is ∙ moment_at_end history place doubt kept;
          entry_is = entry_is;
          planned = planned;
          sent = sent;
          status = status;
        }

    module _ (plan : Plan) (is : IsPlan image old request asked stamp plan) (new : KeeperState D) where
      abbrev planned : Option Entry
      planned = planned_entry plan.next

      pub committed : ((history : History) (place : ℕ) (doubt : Doubt) → IsKept image old history place doubt → FollowsReply image old new history place planned)
          → (history : History) (place : ℕ) (doubt : Doubt) → IsKept image old history place doubt → IsCommitted image old new history place request asked stamp plan.answer.response plan.answer.place
      committed follows history place doubt kept = record {
        reply = is.reply;
        is = is.at_end history place doubt kept;
        response_is = is.response_is;
        told_is = is.place_is ∙ kept.next;
        follows = subst (FollowsReply image old new history place) is.entry_is (follows history place doubt kept);
      }

      entry_at_end : (history : History) (place : ℕ) (doubt : Doubt) → IsKept image old history place doubt → (entry : Entry) → planned ≡ Some entry → IsEntryAtEnd history request asked stamp entry
      entry_at_end history place doubt kept entry has = record { reply = is.reply; is = is.at_end history place doubt kept; has = sym is.entry_is ∙ has }

      pub commit_faulted : ((history : History) (place : ℕ) (doubt : Doubt) → IsKept image old history place doubt → IsLeftByEntry image new history place doubt planned)
          → (history : History) (place : ℕ) (doubt : Doubt) → IsKept image old history place doubt → IsCommitFaulted image old new history place doubt request asked stamp
      commit_faulted fault history place doubt kept =
          let of = fault history place doubt kept in record {
            entry = of.0;
            is = entry_at_end history place doubt kept of.0 of.1;
            left = of.2;
          }

      under_way_are : (history : History) (place : ℕ) (doubt : Doubt) → IsKept image old history place doubt → (o : Option Entry) → planned ≡ o → All (IsEntryAtEnd history request asked stamp) (option_to_list o)
      under_way_are history place doubt kept None has k d lt = absurd (omega (arith, lt))
      under_way_are history place doubt kept (Some entry) has zero d lt = entry_at_end history place doubt kept entry has
      under_way_are history place doubt kept (Some entry) has (suc k) d lt = absurd (omega (arith, lt))

      pub leaves_pods : (history : History) (place : ℕ) (doubt : Doubt) → IsKept image old history place doubt → LeavesPodsOf moment left_since old new history (entries_in doubt ++ option_to_list planned)
          → LeavesPods moment left_since old new history doubt request asked stamp
      leaves_pods history place doubt kept leaves = record {
        under_way = option_to_list planned;
        are = under_way_are history place doubt kept planned refl;
        leaves = leaves;
      }

  -- where no answer was made
  pub leaves_none : (only_now : (d : D) (c : List ℕ) → left_since d (moment d) c → image d c) (request : Request) (asked : AskedAgent) (stamp : Stamp) (history : History) (place : ℕ) (doubt : Doubt) → IsKept image old history place doubt → IsSure image old.first old.second old.pair
      → LeavesPods moment left_since old old history doubt request asked stamp
  leaves_none only_now request asked stamp history place doubt kept sure = record {
    under_way = [];
    are = λ k d lt. absurd (omega (arith, lt));
    leaves = untouched only_now [] history place doubt kept sure;
  }

-- of what was planned
module _ {D : Type 0} (image : D → List ℕ → Type 0) (old new : KeeperState D) (next : Option Planned) (planned : Planned) (is : next ≡ Some planned) where
  pub grown_follows : (history : History) (place : ℕ) → IsGrown image old new history place (bare_entry planned.entry) → FollowsReply image old new history place (planned_entry next)
  grown_follows history place grown = subst (λ (o : Option Planned). FollowsReply image old new history place (planned_entry o)) (sym is) grown

  pub left_by_entry : (history : History) (place : ℕ) (doubt : Doubt) → IsLeftFaulted image new history place doubt (bare_entry planned.entry) → IsLeftByEntry image new history place doubt (planned_entry next)
  left_by_entry history place doubt left = (bare_entry planned.entry, ap planned_entry is, left)

  pub leaves_planned : (moment : D → ℕ) (left_since : D → ℕ → List ℕ → Type 0) (history : History) (doubt : Doubt) → LeavesPodsOf moment left_since old new history (entries_in doubt ++ bare_entry planned.entry ∷ [])
      → LeavesPodsOf moment left_since old new history (entries_in doubt ++ option_to_list (planned_entry next))
  leaves_planned moment left_since history doubt leaves = subst (λ (o : Option Planned). LeavesPodsOf moment left_since old new history (entries_in doubt ++ option_to_list (planned_entry o))) (sym is) leaves
