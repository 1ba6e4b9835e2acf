-- A chain of a holder's turns is the items of a session over each history that it represented.
use Rattle.std.proofs.Common.{◌≡◌, ℕ, ◌+◌, Bool, List, [], ◌∷◌, ◌++◌, Option, refl, sym, ap, subst, length-append, ◌∙◌, arith}
use Rattle.std.specs.List.{AllByRecursion, flat_map}
use Rattle.conn_talk.proofs.AtEndLemmas.{longer_again}
use Rattle.conn_talk.specs.Talks.{Chain}
use Rattle.pod_base.specs.declared.request.Request.{Request}
use Rattle.pod_command.specs.declared.entry.Entry.{Entry}
use Rattle.pod_core.specs.History.{History, end_of, longer}
use Rattle.pod_core.specs.Session.{IsClockMoment, IsItem, Item, NeverFalls, entries_of, places_of}
use Rattle.pod_core.proofs.LongerSessions.{items_grow}
use Rattle.history_laws.proofs.PodsAtEnd.{same_history}
use Rattle.history_laws.specs.Isolated.{grown}
use Rattle.token_table.specs.Credentials.{AskedAgent}
use Rattle.pod_pipe.specs.Held.{HolderTurns, holder_rules}
use Rattle.pod_pipe.specs.Holders.{Advances, CountsDiskFaults, CountsOutOfMemory, CountsUnanswered, DiskFaults, Faults}
use Rattle.pod_pipe.specs.Served.{Leaves, disk_faults, fault_on, out_of_memory_items, out_of_memory_on}
use Rattle.pod_pipe.proofs.HolderLemmas.{step_owes, step_places}
use Rattle.pod_pipe.proofs.SessionLemmas.{falls_append}

-- faults that were counted, and more
faults_more : (many more : ℕ) (a b c : DiskFaults) → CountsDiskFaults many a b → CountsDiskFaults more b c → CountsDiskFaults (many + more) a c
faults_more many more a b c h k = record {
  first = omega (arith, h.first, k.first);
  second = omega (arith, h.second, k.second);
  counted = λ below below_2.
      let first = h.counted (omega (arith, k.first, below)) (omega (arith, k.second, below_2)) in
      omega (arith, first, k.counted below below_2);
}

out_of_memory_more : (many more a b c : ℕ) → CountsOutOfMemory many a b → CountsOutOfMemory more b c → CountsOutOfMemory (many + more) a c
out_of_memory_more many more a b c h k = record {
  no_fewer = omega (arith, h.no_fewer, k.no_fewer);
  counted = λ below.
      let first = h.counted (omega (arith, k.no_fewer, below)) in
      omega (arith, first, k.counted below);
}

pub counts_more : (faults more_faults out_of_memory more_out_of_memory : ℕ) (a b c : Faults) → CountsUnanswered faults out_of_memory a b → CountsUnanswered more_faults more_out_of_memory b c → CountsUnanswered (faults + more_faults) (out_of_memory + more_out_of_memory) a c
counts_more faults more_faults out_of_memory more_out_of_memory a b c h k = record {
  disks = faults_more faults more_faults a.disks b.disks c.disks h.disks k.disks;
  out_of_memory = out_of_memory_more out_of_memory more_out_of_memory a.out_of_memory b.out_of_memory c.out_of_memory h.out_of_memory k.out_of_memory;
}

nothing_counted : (faults : Faults) → CountsUnanswered 0 0 faults faults
nothing_counted faults = record {
  disks = record { first = omega arith; second = omega arith; counted = λ a b. omega arith };
  out_of_memory = record { no_fewer = omega arith; counted = λ a. omega arith };
}

-- the items over the history with their entries
pub record SoFar (may_give : ℕ → Type 0) (begun : History) (items : List Item) : Type 0 where
  pub answers : AllByRecursion (IsItem may_give 1 (grown begun items)) items
  pub places : NeverFalls (end_of begun) (flat_map places_of items) (end_of (grown begun items))

module _ {A H : Type 0} (stands : H → History → Option Entry → Type 0) (faults : H → Faults) (takes : ℕ → ℕ → H → History → Option Entry → Item → H → Option Entry → Type 0) (holder_of : A → H) (may_give : ℕ → Type 0) (asking : Request → AskedAgent) (trails : Bool) where
  -- what a chain says of one history
  pub record Chained (begun : History) (doubt : Option Entry) (old new : A) (items : List Item) : Type 0 where
    pub so_far : SoFar may_give begun items
    pub left : Leaves stands takes may_give faults begun doubt (holder_of old) (holder_of new) items

  none_chained : (old : A) (begun : History) (doubt : Option Entry) → stands (holder_of old) begun doubt → Chained begun doubt old old []
  none_chained old begun doubt held = record {
    so_far = record { answers = tt; places = omega (arith, length-append begun.entries []) };
    left = record {
      after = doubt;
      represents = subst (λ (h : History). stands (holder_of old) h doubt) (sym (same_history begun)) held;
      taken = (refl, refl);
      counted = nothing_counted (faults (holder_of old));
    };
  }

  module _ (begun : History) (doubt : Option Entry) (old mid new : A) (item : Item) (items : List Item) (clock : ℕ) (given : IsClockMoment may_give clock) (held : stands (holder_of old) begun doubt) (turn : HolderTurns stands faults takes 1 clock (holder_of old) item (holder_of mid)) where
    abbrev next : History
    next = longer begun (entries_of item)

    same : grown next items ≡ grown begun (item ∷ items)
    same = longer_again begun (entries_of item) (flat_map entries_of items)

    pub first_advance : Advances stands takes 1 clock (holder_of old) begun doubt item (holder_of mid)
    first_advance = turn.advances begun doubt held

    pub one_more : Chained next first_advance.0 mid new items → Chained begun doubt old new (item ∷ items)
    one_more c =
        let step = turn.steps begun doubt held in
        let owed : IsItem may_give 1 next item = step_owes may_give 1 clock given begun item item.outcome step in
        let places : NeverFalls (end_of begun) (places_of item) (end_of next) = step_places may_give 1 clock given begun item item.outcome step in
        record {
          so_far = record {
            answers = (
              subst (λ (h : History). IsItem may_give 1 h item) same (items_grow may_give 1 next (flat_map entries_of items) (item ∷ []) (owed, tt)).0,
              subst (λ (h : History). AllByRecursion (IsItem may_give 1 h) items) same c.so_far.answers,
            );
            places = subst (λ (h : History). NeverFalls (end_of begun) (places_of item ++ flat_map places_of items) (end_of h)) same
                (falls_append (end_of begun) (end_of next) (end_of (grown next items)) (places_of item) (flat_map places_of items) places c.so_far.places);
          };
          left = record {
            after = c.left.after;
            represents = subst (λ (h : History). stands (holder_of new) h c.left.after) same c.left.represents;
            taken = (holder_of mid, first_advance.0, first_advance.1, (clock, given, first_advance.2), c.left.taken);
            counted = counts_more (fault_on item.outcome) (disk_faults items) (out_of_memory_on item.outcome) (out_of_memory_items items) (faults (holder_of old)) (faults (holder_of mid)) (faults (holder_of new)) turn.counted c.left.counted;
          };
        }

  pub chain_is_session : (items : List Item) (old new : A) (begun : History) (doubt : Option Entry) → stands (holder_of old) begun doubt → Chain (holder_rules stands faults takes holder_of may_give asking trails) old items new → Chained begun doubt old new items
  chain_is_session [] old new begun doubt held c = subst (λ a. Chained begun doubt old a []) (sym c) (none_chained old begun doubt held)
  chain_is_session (item ∷ items) old new begun doubt held c =
      let first = first_advance begun doubt old c.0 new item items c.1.0 c.1.1 held c.1.2 in
      one_more begun doubt old c.0 new item items c.1.0 c.1.1 held c.1.2
      (chain_is_session items c.0 new (longer begun (entries_of item)) first.0 first.1 c.2)
