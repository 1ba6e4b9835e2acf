-- One request that a holder answered, and what its item is over one history.
use Rattle.std.proofs.Common.{◌≡◌, ℕ, ◌+◌, if◌then◌else◌, List, [], ◌∷◌, ◌++◌, length, Option, Some, None, is_some, IsTrue, Ok, Err, refl, sym, subst, length-append, arith}
use Rattle.std.specs.Option.{option_to_list}
use Rattle.conn_talk.proofs.AtEndLemmas.{owes_at_end}
use Rattle.conn_talk.specs.Turns.{CameTo}
use Rattle.pod_core.specs.declared.request_answer.Answer.{Answer}
use Rattle.conn_talk.specs.declared.answers.AnswerFault.TheVariants.{NoMemory, DiskFault}
use Rattle.pod_base.specs.declared.moment.Stamp.{Stamp}
use Rattle.pod_base.specs.declared.request.Request.{Request}
use Rattle.pod_command.specs.declared.entry.Entry.{Entry}
use Rattle.pod_core.specs.History.{History, end_of, longer, pod_at}
use Rattle.pod_core.specs.Session.{IsClockMoment, Item, NeverFalls, Outcome, Owes, answered, disk_fault, entries_on, no_memory, places_on}
use Rattle.pod_reply.specs.Reply.{IsReply}
use Rattle.reply_laws.specs.Granted.{is_change}
use Rattle.token_table.specs.Credentials.{AskedAgent}
use Rattle.pod_pipe.specs.Held.{HolderTurns, StepAtEnd}
use Rattle.pod_pipe.specs.Holders.{AdvancesUnanswered, AnswersAtEnd, CountsUnanswered, Faults, item_answered, item_of}
use Rattle.pod_pipe.specs.declared.holder.HolderFault.TheVariants as holder

module _ {H : Type 0} (stands : H → History → Option Entry → Type 0) (faults : H → Faults) (takes : ℕ → ℕ → H → History → Option Entry → Item → H → Option Entry → Type 0) (old new : H) (request : Request) (asked : AskedAgent) (stamp : Stamp) where
  abbrev Turned : Item → Type 0
  Turned item = HolderTurns stands faults takes stamp.conn stamp.moment.0 old item new

  -- it was answered
  pub came_answered : (answer : Answer) → AnswersAtEnd stands takes old new request asked stamp answer → CountsUnanswered 0 0 (faults old) (faults new) → CameTo Turned ⊥ request asked stamp (Ok answer)
  came_answered answer a counted = (
    item_answered request asked stamp answer a.0,
    record { request_is = refl; number_is = refl; asked_is = refl },
    record { reply = a.0; outcome_is = refl; response_is = a.1; moment_is = refl },
    record {
      steps = λ history doubt held.
          let at = (a.2 history doubt held).0 in
          record {
            replies = record {
              reply_is = subst (λ n. IsReply (pod_at history (end_of history)) request asked (end_of history) (record stamp { moment = record { 0 = n } }) a.0) (sym at.moment) at.reply_is;
              moment = at.moment;
            };
            place_is = at.place;
          };
      advances = λ history doubt held. (a.2 history doubt held).1;
      counted = counted;
    },
  )

  -- no memory was left for it
  pub came_out_of_memory : AdvancesUnanswered stands takes old new request asked stamp holder.NoMemory → CountsUnanswered 0 1 (faults old) (faults new) → CameTo Turned ⊥ request asked stamp (Err NoMemory)
  came_out_of_memory kept counted = (
    item_of request asked stamp stamp.moment.0 no_memory,
    record { request_is = refl; number_is = refl; asked_is = refl },
    refl,
    record { steps = λ history doubt held. tt; advances = kept; counted = counted },
  )

  -- a disk failed at a change
  pub came_faulted : AdvancesUnanswered stands takes old new request asked stamp holder.DiskFault → IsTrue (is_change request.method) → CountsUnanswered 1 0 (faults old) (faults new) → CameTo Turned ⊥ request asked stamp (Err DiskFault)
  came_faulted kept change counted = (
    item_of request asked stamp stamp.moment.0 disk_fault,
    record { request_is = refl; number_is = refl; asked_is = refl },
    refl,
    record { steps = λ history doubt held. change; advances = kept; counted = counted },
  )

-- ---- an item over the history with its entries

-- the end is a place, and after an entry that is added the end is the next one
end_and_next : {A : Type 0} (start : ℕ) (xs : List A) (o : Option A)
    → NeverFalls (start + length xs) ((start + length xs) ∷ (if is_some o then (start + length xs + 1) ∷ [] else [])) (start + length (xs ++ option_to_list o))
end_and_next start xs None = (omega arith, omega (arith, length-append xs []))
end_and_next start xs (Some x) = (omega arith, (omega arith, omega (arith, length-append xs (x ∷ []))))

module _ (may_give : ℕ → Type 0) (conn clock : ℕ) (given : IsClockMoment may_give clock) (history : History) (item : Item) where
  pub step_places : (o : Outcome) → StepAtEnd conn clock history item o → NeverFalls (end_of history) (places_on o) (end_of (longer history (entries_on o)))
  step_places (answered place reply) s =
      subst (λ n. NeverFalls (end_of history) (n ∷ (if is_some reply.entry then (n + 1) ∷ [] else [])) (end_of (longer history (option_to_list reply.entry)))) (sym s.place_is)
      (end_and_next history.start history.entries reply.entry)
  step_places no_memory s = omega (arith, length-append history.entries [])
  step_places disk_fault s = omega (arith, length-append history.entries [])

  pub step_owes : (o : Outcome) → StepAtEnd conn clock history item o → Owes may_give conn (longer history (entries_on o)) item o
  step_owes (answered place reply) s = owes_at_end may_give conn clock given history item place reply s.place_is s.replies
  step_owes no_memory s = tt
  step_owes disk_fault s = s
