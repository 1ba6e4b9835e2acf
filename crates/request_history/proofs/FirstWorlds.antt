-- A new world.
use Rattle.std.proofs.Common.{◌≡◌, ℕ, zero, suc, ◌<◌, ◌≤◌, Bool, true, false, List, [], ◌∷◌, length, get_or, replicate, slice_get, Some, None, IfSome, refl, sym, ap, subst, ◌∙◌, arith}
use Rattle.std.specs.List.{AllByRecursion}
use Rattle.std.proofs.lemmas.Bool.Decides.{nat_tests}
use Rattle.pod_command.specs.declared.snapshot.Snapshot.{Snapshot}
use Rattle.pod_core.specs.History.{end_of}
use Rattle.pod_core.specs.KeeperSteps.{KeeperView}
use Rattle.pod_core.specs.World as world
use Rattle.pod_core.specs.World.{Connection, first_connection, first_world, holder_in}
use Rattle.request_history.specs.Connections.{Rests, fresh}
use Rattle.request_history.specs.Keepers.{first_history, first_view}
use Rattle.request_history.specs.Parts.{HasSeen, HoldsNext, IsWorld}
use Rattle.request_history.specs.Worlds.{numbered, numbers_to, world_of}
use Rattle.request_history.specs.declared.parts_and_events.Parts.{Parts}

-- ---- its connections

all_same : {A : Type 0} (P : A → Type 0) (n : ℕ) (x : A) → P x → AllByRecursion P (replicate n x)
all_same P zero x p = tt
all_same P (suc n) x p = (p, all_same P n x p)

some_at : (count k : ℕ) (x : Connection) → k < count → slice_get (replicate count x) k ≡ Some x
some_at zero k x h = absurd (omega arith)
some_at (suc count) zero x h = refl
some_at (suc count) (suc k) x h = some_at count k x (omega arith)

none_at : (count k : ℕ) (x : Connection) → count ≤ k → slice_get (replicate count x) k ≡ None
none_at zero k x h = refl
none_at (suc count) zero x h = absurd (omega arith)
none_at (suc count) (suc k) x h = none_at count k x (omega arith)

by_number : (count seen n : ℕ) (b : Bool) → numbers_to count n ≡ b → numbered (replicate count (fresh seen)) n ≡ first_connection seen b
by_number count seen zero true e = absurd (cc e)
by_number count seen zero false e = refl
by_number count seen (suc k) true e = some_at count k (fresh seen) (grind (arith, nat_tests))
by_number count seen (suc k) false e = none_at count k (fresh seen) (grind (arith, nat_tests))

-- ---- it as a whole

module _ (first : Snapshot) (count : ℕ) (parts : Parts) (view : parts.keeper ≡ first_view first) (published : parts.published ≡ first.seq) (connections : parts.connections.items ≡ replicate count (fresh first.seq)) (runs : parts.stopped ≡ false) where
  end : end_of (first_history first) ≡ first.seq
  end = omega arith

  each : (n : ℕ) → numbered parts.connections.items n ≡ first_connection (end_of (first_history first)) (numbers_to count n)
  each n =
      ap (λ (l : List Connection). numbered l n) connections ∙ by_number count first.seq n (numbers_to count n) refl
      ∙ ap (λ k. first_connection k (numbers_to count n)) (sym end)

  pub first_is : world_of parts ≡ first_world (first_history first) (numbers_to count)
  first_is = λ i. record {
    keeper = view i;
    published = (published ∙ sym end) i;
    connections = λ n. each n i;
    stopped = runs i;
  }

  pub first_fine : AllByRecursion Rests parts.connections.items → IsWorld parts
  first_fine rests =
      let start : parts.keeper.history.start ≡ first.seq = ap (λ (v : KeeperView). v.history.start) view in
      let last : end_of parts.keeper.history ≡ end_of (first_history first) = ap (λ (v : KeeperView). end_of v.history) view in
      record {
        published = omega (arith, published, last, end);
        seen = subst (λ (l : List Connection). AllByRecursion (HasSeen parts.keeper.history.start) l) (sym connections) (all_same (HasSeen parts.keeper.history.start) count (fresh first.seq) (omega (arith, start)));
        rests = rests;
        holds = subst (λ (v : KeeperView). IfSome (holder_in v.phase) (HoldsNext parts.connections.items)) (sym view) tt;
      }

-- ---- what a connection wrote

item_at : (xs : List Connection) (n : ℕ) (d : Connection) → n < length xs → d ≡ get_or xs n d → slice_get xs n ≡ Some d
item_at [] n d lt e = absurd (omega (arith, lt))
item_at (x ∷ xs) zero d lt e = ap Some (sym e)
item_at (x ∷ xs) (suc n) d lt e = item_at xs n d (omega (arith, lt)) e
