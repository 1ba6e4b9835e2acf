-- A commit as steps of a world.
use Rattle.std.proofs.Common.{◌≡◌, inl, inr, ℕ, true, false, IsTrue, List, [], ◌∷◌, ◌++◌, Option, Some, None, refl, sym, ap, subst}
use Rattle.pod_base.specs.declared.moment.Stamp.{Stamp}
use Rattle.pod_base.specs.declared.request.Request.{Request}
use Rattle.pod_base.specs.declared.response.Response.{Response}
use Rattle.pod_command.specs.declared.entry.Entry.{Entry}
use Rattle.pod_core.specs.History.{History, longer}
use Rattle.pod_core.specs.KeeperSteps.{Holder, Phase, KeeperView, KeeperEvent, KeeperRun, TakesChange, IsReplyAtEnd, item_at_end, held_by, free, taken, written, opened, take, repair, body, gate}
use Rattle.pod_keeper.specs.Commits.{FollowsReply, IsCommitted, IsCommitFaulted, IsLeftInDoubt}
use Rattle.pod_keeper.specs.CommitEvents.{entry_in_doubt, view_of, StandsForView, events_done, events_failed, repair_events, at_repair, at_body, at_gate, IsDoneByEvents, IsFailedByEvents}
use Rattle.pod_keeper.specs.Kept.{Doubt, certain, entered, checkpointed, IsKept}
use Rattle.pod_keeper.specs.KeeperState.{KeeperState}
use Rattle.pod_reply.specs.Replies.{Reply}
use Rattle.reply_laws.specs.Granted.{is_change}
use Rattle.token_table.specs.Credentials.{AskedAgent}

-- what a keeper sees in a phase, with that in doubt
abbrev seen : History → Option Entry → Phase → KeeperView
seen history in_doubt phase = record { history = history; doubt = in_doubt; phase = phase }

module _ (history : History) (request : Request) (asked : AskedAgent) (stamp : Stamp) (reply : Reply) where
  -- the holder of the lock, with that entry
  abbrev holding : Entry → Holder
  holding entry = record { conn = stamp.conn; item = item_at_end history request asked stamp reply; entry = entry }

  module _ (changes : IsTrue (is_change request.method)) (is : IsReplyAtEnd history request asked stamp reply) (doubt : Doubt) where
    -- the change is taken
    takes : (o : Option Entry) → reply.entry ≡ o → TakesChange (view_of history doubt) request asked stamp reply (seen history (entry_in_doubt doubt) (held_by stamp (item_at_end history request asked stamp reply) o))
    takes o has = record {
      is_free = refl;
      changes = changes;
      is_reply = is;
      new_is = ap (λ p. seen history (entry_in_doubt doubt) (held_by stamp (item_at_end history request asked stamp reply) p)) (sym has);
    }

    module _ (entry : Entry) (has : reply.entry ≡ Some entry) where
      abbrev holder : Holder
      holder = holding entry

      -- with nothing in doubt, the steps after the change is taken
      writes : (events : List KeeperEvent) (after : KeeperView) → KeeperRun (seen history None (written holder)) events after → KeeperRun (seen history None (taken holder)) (body true ∷ events) after
      writes events after run = (
        seen history None (written holder),
        record { holder = holder; is_taken = refl; is_sure = refl; new_is = refl },
        run,
      )

      write_fails : KeeperRun (seen history None (taken holder)) (body false ∷ []) (seen history None free)
      write_fails = (
        seen history None free,
        record { holder = holder; is_taken = refl; is_sure = refl; new_is = refl },
        refl,
      )

      gate_opens : KeeperRun (seen history None (written holder)) (gate true ∷ []) (seen (longer history (entry ∷ [])) None (opened holder))
      gate_opens = (
        seen (longer history (entry ∷ [])) None (opened holder),
        record { holder = holder; is_written = refl; new_is = refl },
        refl,
      )

      gate_fails : KeeperRun (seen history None (written holder)) (gate false ∷ []) (seen history (Some entry) free)
      gate_fails = (
        seen history (Some entry) free,
        record { holder = holder; is_written = refl; new_is = refl },
        refl,
      )

      repair_fails : (other : Entry) → KeeperRun (seen history (Some other) (taken holder)) (repair false ∷ []) (seen history (Some other) free)
      repair_fails other = (
        seen history (Some other) free,
        record { holder = holder; is_taken = refl; entry = other; in_doubt = refl; new_is = refl },
        refl,
      )

      -- the repair, where an entry is in doubt, and what follows it
      repaired : (d : Doubt) (events : List KeeperEvent) (after : KeeperView) → KeeperRun (seen history None (taken holder)) events after → KeeperRun (seen history (entry_in_doubt d) (taken holder)) (repair_events d ++ events) after
      repaired certain events after run = run
      repaired (entered other) events after run = (
        seen history None (taken holder),
        record { holder = holder; is_taken = refl; entry = other; in_doubt = refl; new_is = refl },
        run,
      )
      repaired checkpointed events after run = run

      -- what follows the taking of the change
      after_take : (events : List KeeperEvent) (after : KeeperView) → KeeperRun (seen history (entry_in_doubt doubt) (taken holder)) events after → KeeperRun (view_of history doubt) (take request asked stamp reply ∷ events) after
      after_take events after run = (seen history (entry_in_doubt doubt) (taken holder), takes (Some entry) has, run)

      done_run : KeeperRun (view_of history doubt) (events_done doubt (take request asked stamp reply) (Some entry)) (seen (longer history (entry ∷ [])) None (opened holder))
      done_run = after_take _ _ (repaired doubt _ _ (writes (gate true ∷ []) (seen (longer history (entry ∷ [])) None (opened holder)) gate_opens))

      body_failed_run : KeeperRun (view_of history doubt) (events_failed doubt (take request asked stamp reply) at_body) (seen history None free)
      body_failed_run = after_take _ _ (repaired doubt _ _ write_fails)

      gate_failed_run : KeeperRun (view_of history doubt) (events_failed doubt (take request asked stamp reply) at_gate) (seen history (Some entry) free)
      gate_failed_run = after_take _ _ (repaired doubt _ _ (writes (gate false ∷ []) (seen history (Some entry) free) gate_fails))

module _ {D : Type 0} (image : D → List ℕ → Type 0) (old new : KeeperState D) (history : History) (place : ℕ) (doubt : Doubt) (kept : IsKept image old history place doubt) (request : Request) (asked : AskedAgent) (stamp : Stamp) (changes : IsTrue (is_change request.method)) where
  -- a commit that succeeded
  module _ (reply : Reply) (is : IsReplyAtEnd history request asked stamp reply) where
    abbrev EndsDone : Option Entry → Type 0
    EndsDone o = (after : KeeperView) × KeeperRun (view_of history doubt) (events_done doubt (take request asked stamp reply) o) after × StandsForView image new after

    ends_done : (o : Option Entry) → reply.entry ≡ o → FollowsReply image old new history place o → EndsDone o
    ends_done None has same = (
      view_of history doubt,
      (view_of history doubt, takes history request asked stamp reply changes is doubt None has, refl),
      record { place = place; doubt = doubt; kept = subst (λ k. IsKept image k history place doubt) (sym same) kept; doubt_is = refl },
    )
    ends_done (Some entry) has grown = (
      seen (longer history (entry ∷ [])) None (opened (holding history request asked stamp reply entry)),
      done_run history request asked stamp reply changes is doubt entry has,
      record { place = grown.new_place; doubt = certain; kept = grown.kept; doubt_is = refl },
    )

  pub done_by_events : (response : Response) (told : ℕ) → IsCommitted image old new history place request asked stamp response told → IsDoneByEvents image new history doubt request asked stamp response
  done_by_events response told h =
      let end = ends_done h.reply h.is h.reply.entry refl h.follows in record {
        reply = h.reply;
        response_is = h.response_is;
        after = end.0;
        run = end.1;
        stands = end.2;
      }

  -- a commit that met a disk fault
  module _ (entry : Entry) (reply : Reply) (is : IsReplyAtEnd history request asked stamp reply) (has : reply.entry ≡ Some entry) (left_place : ℕ) where
    by_body : (left : Doubt) → None ≡ entry_in_doubt left → IsKept image new history left_place left → IsFailedByEvents image new history doubt request asked stamp
    by_body left none now = record {
      reply = reply;
      step = at_body;
      after = seen history None free;
      run = body_failed_run history request asked stamp reply changes is doubt entry has;
      stands = record { place = left_place; doubt = left; kept = now; doubt_is = none };
    }

    by_gate : IsKept image new history left_place (entered entry) → IsFailedByEvents image new history doubt request asked stamp
    by_gate now = record {
      reply = reply;
      step = at_gate;
      after = seen history (Some entry) free;
      run = gate_failed_run history request asked stamp reply changes is doubt entry has;
      stands = record { place = left_place; doubt = entered entry; kept = now; doubt_is = refl };
    }

  module _ (entry : Entry) (reply : Reply) (is : IsReplyAtEnd history request asked stamp reply) (has : reply.entry ≡ Some entry) (left_place : ℕ) where
    -- what was in doubt still is
    still : (d : Doubt) → doubt ≡ d → IsKept image new history left_place d → IsFailedByEvents image new history doubt request asked stamp
    still certain same now = by_body entry reply is has left_place certain refl now
    still (entered other) same now = record {
      reply = reply;
      step = at_repair;
      after = seen history (Some other) free;
      run = after_take history request asked stamp reply changes is doubt entry has (repair false ∷ []) (seen history (Some other) free)
          (subst (λ d. KeeperRun (seen history (entry_in_doubt d) (taken (holding history request asked stamp reply entry))) (repair false ∷ []) (seen history (Some other) free)) (sym same)
          (repair_fails history request asked stamp reply changes is doubt entry has other));
      stands = record { place = left_place; doubt = entered other; kept = now; doubt_is = refl };
    }
    still checkpointed same now = by_body entry reply is has left_place checkpointed refl now

    left_so : (left : Doubt) → IsLeftInDoubt doubt entry left → IsKept image new history left_place left → IsFailedByEvents image new history doubt request asked stamp
    left_so left (inl same) now = still left (sym same) now
    left_so left (inr (inl same)) now = by_body entry reply is has left_place left (ap entry_in_doubt (sym same)) now
    left_so left (inr (inr (inl same))) now = by_body entry reply is has left_place left (ap entry_in_doubt (sym same)) now
    left_so left (inr (inr (inr same))) now = by_gate entry reply is has left_place (subst (IsKept image new history left_place) same now)

  pub failed_by_events : IsCommitFaulted image old new history place doubt request asked stamp → IsFailedByEvents image new history doubt request asked stamp
  failed_by_events h = left_so h.entry h.is.reply h.is.is h.is.has h.left.new_place h.left.left h.left.in_doubt h.left.kept
