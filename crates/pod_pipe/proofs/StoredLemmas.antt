-- One request of a keeper.
use Rattle.std.proofs.Common.{◌≡◌, ◌⊎◌, inl, inr, ℕ, ◌≤◌, Bool, true, false, ◌&&◌, if◌then◌else◌, is_some, max, IsTrue, List, [], ◌∷◌, ◌++◌, Option, Some, None, refl, sym, ap, subst, ◌∙◌, arith}
use Rattle.journal_pair.specs.Doubts.{IsSure, IsLong}
use Rattle.pod_base.specs.Counts.{CountIncreased}
use Rattle.pod_base.specs.declared.moment.Moment.{Moment}
use Rattle.pod_base.specs.declared.moment.Stamp.{Stamp}
use Rattle.pod_base.specs.declared.request.Request.{Request}
use Rattle.pod_command.specs.declared.entry.Entry.{Entry}
use Rattle.pod_core.specs.History.{History, end_of, moment_before, pod_at}
use Rattle.pod_core.specs.Session.{Item, disk_fault, no_memory}
use Rattle.pod_core.specs.Answers.{IsComplete}
use Rattle.pod_keeper.proofs.Stamps.{later_at_end}
use Rattle.pod_core.specs.KeeperSteps.{IsReplyAtEnd, stamp_at_end}
use Rattle.pod_keeper.specs.CommitEvents.{entry_in_doubt}
use Rattle.pod_keeper.specs.Commits.{IsCommitted, IsCommitFaulted, IsEntryAtEnd, LeavesPods, LeavesPodsOf, later}
use Rattle.pod_keeper.specs.KeeperRuns.{StandsWith, TakesItem}
use Rattle.pod_keeper.proofs.TakenItems.{leaves_entry, taken_committed, taken_faulted, taken_out_of_memory, taken_without}
use Rattle.pod_keeper.specs.Kept.{Doubt, entries_in, IsKept}
use Rattle.pod_keeper.specs.KeeperState.{KeeperState, IsCheckpointDue}
use Rattle.pod_reply.specs.Reply.{IsReply}
use Rattle.pod_records.specs.Records.{last_after}
use Rattle.pod_reply.specs.Replies.{Reply, reply_of}
use Rattle.pod_reply.proofs.OneReply.{one_reply}
use Rattle.pod_reply.specs.declared.response_and_entry.Replied.{Replied}
use Rattle.pod_rows.specs.Pod.{Pod}
use Rattle.reply_laws.specs.Granted.{is_change}
use Rattle.token_table.specs.Credentials.{AskedAgent}
use Rattle.pod_pipe.specs.Holders.{Advances, CountsDiskFaults, IsAnswerAtEnd, item_answered, item_of, moment_of_request, stamp_of_request}
use Rattle.pod_core.specs.declared.request_answer.Answer.{Answer}

-- the moment of a change there
pub change_moment_is : (history : History) (request : Request) (seconds : ℕ) → IsTrue (is_change request.method) → moment_of_request history request seconds ≡ max seconds (moment_before history (end_of history))
change_moment_is history request seconds change = ap (λ (b : Bool). if b then max seconds (moment_before history (end_of history)) else seconds) change

pub change_stamp_is : (history : History) (request : Request) (stamp : Stamp) → IsTrue (is_change request.method) → stamp_at_end history stamp ≡ stamp_of_request history request stamp
change_stamp_is history request stamp change = λ i. record stamp { moment = record { 0 = sym (change_moment_is history request stamp.moment.0 change) i } }

-- the moment of another request
pub read_stamp_is : (history : History) (request : Request) (stamp : Stamp) → is_change request.method ≡ false → stamp ≡ stamp_of_request history request stamp
read_stamp_is history request stamp reads = λ i. record stamp { moment = record { 0 = sym (ap (λ (b : Bool). if b then max stamp.moment.0 (moment_before history (end_of history)) else stamp.moment.0) reads) i } }

-- the moment of a change, by the keeper's last one
pub last_moment : (history : History) (last found : Option Moment) (seconds : ℕ) → found ≡ last → last ≡ last_after None history.entries → (later (record { conn = 1; number = 1; moment = record { 0 = seconds } }) found).moment.0 ≡ max seconds (moment_before history (end_of history))
last_moment history last found seconds same is = ap (λ (s : Stamp). s.moment.0) (later_at_end history found (record { conn = 1; number = 1; moment = record { 0 = seconds } }) (same ∙ is))

-- the counts of two disks, of which one rose
pub one_fault : (a a_new b b_new : ℕ) → a ≤ a_new → b ≤ b_new → CountIncreased a a_new ⊎ CountIncreased b b_new → CountsDiskFaults 1 (record { first = a; second = b }) (record { first = a_new; second = b_new })
one_fault a a_new b b_new le le_2 (inl rose) = record { first = le; second = le_2; counted = λ below below_2. omega (arith, rose below, le_2) }
one_fault a a_new b b_new le le_2 (inr rose) = record { first = le; second = le_2; counted = λ below below_2. omega (arith, rose below_2, le) }

pub no_fault : (a a_new b b_new : ℕ) → a ≤ a_new → b ≤ b_new → CountsDiskFaults 0 (record { first = a; second = b }) (record { first = a_new; second = b_new })
no_fault a a_new b b_new le le_2 = record { first = le; second = le_2; counted = λ below below_2. omega (arith, le, le_2) }

-- what an answer is at the end of a history, and the keeper's advance by it
module _ {D : Type 0} (image : D → List ℕ → Type 0) (moment : D → ℕ) (left_since : D → ℕ → List ℕ → Type 0) (old new : KeeperState D) (history : History) (doubt : Option Entry) (request : Request) (asked : AskedAgent) (stamp : Stamp) where
  abbrev pub AdvancesBy : Item → Type 0
  AdvancesBy item = Advances (StandsWith image) (TakesItem image moment left_since) stamp.conn stamp.moment.0 old history doubt item new

  abbrev pub IsAnsweredBy : Answer → Reply → Type 0
  IsAnsweredBy answer reply = IsAnswerAtEnd history request asked stamp answer reply × AdvancesBy (item_answered request asked stamp answer reply)

  module _ (only_now : (d : D) (c : List ℕ) → left_since d (moment d) c → image d c) (stands : StandsWith image old history doubt) where
    -- out of memory the keeper is as it was
    pub out_of_memory : new ≡ old → AdvancesBy (item_of request asked stamp stamp.moment.0 no_memory)
    out_of_memory same =
        let taken = taken_out_of_memory image moment left_since old history request asked stamp stamp.moment.0 doubt stands only_now new same in
        (doubt, taken.stands, taken)

    module _
        (leaves : (place : ℕ) (d : Doubt) → IsKept image old history place d → IsSure image old.first old.second old.pair → (IsCheckpointDue old.pair → IsLong image old.first old.second old.pair) → LeavesPods moment left_since old new history d request asked stamp)
        (sure : IsSure image old.first old.second old.pair → (IsCheckpointDue old.pair → IsLong image old.first old.second old.pair) → IsSure image new.first new.second new.pair)
        (long : IsSure image old.first old.second old.pair → IsLong image old.first old.second old.pair → IsLong image new.first new.second new.pair) where
      leaves_one : (entry : Entry) → IsEntryAtEnd history request asked stamp entry → IsSure image old.first old.second old.pair → (IsCheckpointDue old.pair → IsLong image old.first old.second old.pair)
          → LeavesPodsOf moment left_since old new history (entries_in stands.doubt ++ entry ∷ [])
      leaves_one entry is is_sure is_long = leaves_entry image moment left_since old new history stands.doubt request asked stamp entry is (leaves stands.place stands.doubt stands.kept is_sure is_long)

      -- a commit that succeeded
      pub committed : (change : IsTrue (is_change request.method)) (answer : Answer) (seconds : ℕ) → answer.moment.0 ≡ seconds → seconds ≡ max stamp.moment.0 (moment_before history (end_of history))
          → (done : IsCommitted image old new history stands.place request asked stamp answer.response answer.place) → IsAnsweredBy answer done.reply
      committed change answer seconds same later done =
          let taken = taken_committed image moment left_since old history request asked stamp answer.moment.0 doubt stands new sure long only_now answer.place done.reply done.reply.entry refl done.follows
          (λ entry has. leaves_one entry (record { reply = done.reply; is = done.is; has = has })) in (
            record {
              reply_is = subst (λ (s : Stamp). IsReply (pod_at history (end_of history)) request asked (end_of history) s done.reply) (change_stamp_is history request stamp change) done.is;
              place = done.told_is;
              moment = same ∙ later ∙ sym (change_moment_is history request stamp.moment.0 change);
            },
            (taken.0, taken.1.stands, taken.1),
          )

      -- a commit that met a disk fault
      pub faulted : IsCommitFaulted image old new history stands.place stands.doubt request asked stamp → AdvancesBy (item_of request asked stamp stamp.moment.0 disk_fault)
      faulted met =
          let taken = taken_faulted image moment left_since old history request asked stamp stamp.moment.0 doubt stands new sure long met.entry met.is met.left (leaves_one met.entry met.is) in
          (entry_in_doubt met.left.left, taken.stands, taken)

-- The replies at the end of two histories that a keeper represents are one.
module _ {D : Type 0} (image : D → List ℕ → Type 0) (keeper : KeeperState D) (request : Request) (asked : AskedAgent) (stamp : Stamp) where
  reply_now : (history : History) (doubt : Option Entry) → StandsWith image keeper history doubt → (reply : Reply) → IsReplyAtEnd history request asked stamp reply → IsReply keeper.pod request asked keeper.next (later stamp keeper.last) reply
  reply_now history doubt stands reply r =
      subst (λ (s : Stamp). IsReply keeper.pod request asked keeper.next s reply) (sym (later_at_end history keeper.last stamp stands.kept.last))
      (subst (λ (n : ℕ). IsReply keeper.pod request asked n (stamp_at_end history stamp) reply) (sym stands.kept.next)
      (subst (λ (p : Pod). IsReply p request asked (end_of history) (stamp_at_end history stamp) reply) (sym stands.kept.pod) r))

  pub same_reply : (history other : History) (doubt doubt_too : Option Entry) → StandsWith image keeper history doubt → StandsWith image keeper other doubt_too → (a b : Reply) → IsReplyAtEnd history request asked stamp a → IsReplyAtEnd other request asked stamp b → a ≡ b
  same_reply history other doubt doubt_too stands stands_too a b h k =
      one_reply keeper.pod request asked keeper.next (later stamp keeper.last) a b (reply_now history doubt stands a h) (reply_now other doubt_too stands_too b k)

-- what isn't a change has no entry
no_entry : (entry : Option Entry) (change success : Bool) → change ≡ false → is_some entry ≡ (change && success) → entry ≡ None
no_entry None change success reads is = refl
no_entry (Some entry) change success reads is = let never : true ≡ false = is ∙ ap (λ (b : Bool). b && success) reads in absurd cc

-- a request that is no change
module _ {D : Type 0} (image : D → List ℕ → Type 0) (moment : D → ℕ) (left_since : D → ℕ → List ℕ → Type 0) (only_now : (d : D) (c : List ℕ) → left_since d (moment d) c → image d c) (keeper : KeeperState D) (history : History) (doubt : Option Entry) (stands : StandsWith image keeper history doubt) where
  pub read_there : (request : Request) (asked : AskedAgent) (stamp : Stamp) (pod : Pod) (place : ℕ) (replied : Replied) → is_change request.method ≡ false → pod ≡ keeper.pod → place ≡ keeper.next
      → IsReply pod request asked place stamp (reply_of replied) → IsComplete request.method (reply_of replied)
      → IsAnsweredBy image moment left_since keeper keeper history doubt request asked stamp (record { response = replied.response; place = place; moment = stamp.moment }) (reply_of replied)
  read_there request asked stamp pod place replied reads is here given complete =
      let none : (reply_of replied).entry ≡ None = no_entry (reply_of replied).entry (is_change request.method) _ reads complete in
      let taken = taken_without image moment left_since keeper history request asked stamp stamp.moment.0 doubt stands only_now keeper refl place (reply_of replied) none in (
        record {
          reply_is = subst (λ (s : Stamp). IsReply (pod_at history (end_of history)) request asked (end_of history) s (reply_of replied)) (read_stamp_is history request stamp reads)
              (subst (λ (n : ℕ). IsReply (pod_at history (end_of history)) request asked n stamp (reply_of replied)) (here ∙ stands.kept.next)
              (subst (λ (p : Pod). IsReply p request asked place stamp (reply_of replied)) (is ∙ stands.kept.pod) given));
          place = here ∙ stands.kept.next;
          moment = ap (λ (s : Stamp). s.moment.0) (read_stamp_is history request stamp reads);
        },
        (doubt, taken.stands, taken),
      )
