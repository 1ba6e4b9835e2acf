-- Desks that were served, as those of a run.
use Rattle.std.proofs.Common.{◌≡◌, ℕ, ◌+◌, ◌∙◌, List, [], ◌∷◌, ◌++◌, All, length, sum_by, Option, refl, sym, ap, subst, arith}
use Rattle.std.proofs.lemmas.List.Elements.{All-head, All-tail}
use Rattle.std.proofs.lemmas.List.Recursion.{is_sum_by}
use mathlib.Core.List.{IsPrefix}
use Rattle.pod_base.specs.EachTo.{EachTo}
use Rattle.pod_base.specs.declared.request.Request.{Request}
use Rattle.pod_command.specs.declared.entry.Entry.{Entry}
use Rattle.pod_core.specs.History.{History}
use Rattle.pod_core.specs.Session.{Item}
use Rattle.pod_live.specs.Takes.{TakenItem}
use Rattle.pod_live.specs.Visits.{IsNewVisit, Meets, Visit}
use Rattle.pod_serve.specs.Desks.{EachDeskServed, GateView}
use Rattle.pod_serve.specs.PoddRuns.{AreServed, DeskRun}
use Rattle.pod_serve.specs.RunHosts.{Host}
use Rattle.pod_serve.specs.Served.{LinkView}
use Rattle.pod_serve.specs.declared.desk.DeskEnd.{DeskEnd}
use Rattle.reply_laws.specs.Laws.{EntriesHaveBases}
use Rattle.serve_laws.specs.DesksOnce.{EachChangeOfDesksOnce, served_items}
use Rattle.serve_laws.specs.EachOnce.{IsEachOnce, conn_items, desk_items}
use Rattle.serve_laws.proofs.EachOnceLemmas.{each_once}
use Rattle.token_table.specs.Credentials.{AskedAgent}

abbrev total : {X : Type 0} → (X → ℕ) → List X → ℕ
total f [] = 0
total f (x ∷ xs) = f x + total f xs

total_is : {X : Type 0} (f : X → ℕ) (xs : List X) → total f xs ≡ sum_by f xs
total_is f xs = is_sum_by (total f) f refl (λ _ _. refl) xs

-- disks of which nothing is said
abbrev on_no_disks : {G C : Type 0} → (ℕ → Type 0) → (C → LinkView) → (G → GateView C) → Host ℕ G C
on_no_disks may_give view gate_view = record {
  image = λ disk image. Unit {0};
  moment = λ disk. 0;
  left_since = λ disk moment image. Unit {0};
  faults = λ disk. 0;
  may_give = may_give;
  link_view = view;
  gate_view = gate_view;
}

module _ (kept : History → Type 0) (first : ℕ) (may_give : ℕ → Type 0) (asking : Request → AskedAgent) {S G C : Type 0} (view : C → LinkView) (gate_view : G → GateView C) (session : S → Visit) (gate : S → G) (told : S → Option DeskEnd) (list : List Entry) (step : ℕ) where
  abbrev Each : ℕ → List S → List S → Type 0
  Each = EachDeskServed kept first may_give asking view gate_view session gate told step

  abbrev items : (number : ℕ) (old served : List S) → Each number old served → List Item
  items number old served each = served_items kept first may_give asking view gate_view session gate told step number old served each

  abbrev Are : ℕ → List (DeskRun G) → Type 0
  Are = AreServed (on_no_disks may_give view gate_view) kept first asking list step

  record Run (number : ℕ) (old served : List S) (each : Each number old served) : Type 0 where
    pub desks : List (DeskRun G)
    pub count : length desks ≡ length old
    pub are : Are number desks
    pub items_are : desk_items (on_no_disks may_give view gate_view) kept first asking list step number desks are ≡ items number old served each
    pub changes : total (λ (desk : DeskRun G). desk.after.changes) desks ≡ total (λ (desk : S). (session desk).changes) served

  abbrev AllSeen : List S → List S → Type 0
  AllSeen = EachTo (λ one other. Meets list (session one) (session other) × (gate other ≡ gate one) × (told other ≡ told one))

  run_of : (number : ℕ) (old served new : List S) (each : Each number old served) → AllSeen served new → All (λ desk. IsNewVisit [] (session desk)) old → Run number old served each
  run_of number [] [] new each seen fresh = record { desks = []; count = refl; are = tt; items_are = refl; changes = refl }
  run_of number [] (m ∷ ms) new each seen fresh = absurd each
  run_of number (o ∷ os) [] new each seen fresh = absurd each
  run_of number (o ∷ os) (m ∷ ms) [] each seen fresh = absurd seen
  run_of number (o ∷ os) (m ∷ ms) (n ∷ ns) each seen fresh =
      let others = run_of (number + 1) os ms ns each.1 seen.1 (All-tail (λ desk. IsNewVisit [] (session desk)) o os fresh) in
      let one : DeskRun G = record { opened = gate o; back = gate m; end = each.0.0; before = session o; after = session m } in
      let here : List Item = conn_items kept first may_give asking view step number (session o) each.0.2.links (session m) each.0.2.conns in
      record {
        desks = one ∷ others.desks;
        count = omega (arith, others.count);
        are = (All-head (λ desk. IsNewVisit [] (session desk)) o os fresh, each.0.2, subst (λ (xs : List Entry). IsPrefix (session m).seen xs) seen.0.0.1 seen.0.0.0, others.are);
        items_are = ap (λ (xs : List Item). here ++ xs) others.items_are;
        changes = omega (arith, others.changes);
      }

pub each_change_of_desks_once : (kept : History → Type 0) (first : ℕ) (may_give : ℕ → Type 0) (asking : Request → AskedAgent) {S G C : Type 0} (view : C → LinkView) (gate_view : G → GateView C) (session : S → Visit) (gate : S → G) (told : S → Option DeskEnd) (takes : List TakenItem → Type 0) (opening : List Entry) (old : List S)
    → EntriesHaveBases → EachChangeOfDesksOnce kept first may_give asking view gate_view session gate told takes opening old
each_change_of_desks_once kept first may_give asking view gate_view session gate told takes opening old bases new run empty fresh history held =
    let of = run_of kept first may_give asking view gate_view session gate told run.list (length old) 1 old run.served new run.desks run.met fresh in
    let added : length run.list ≡ sum_by (λ (desk : DeskRun _). desk.after.changes) of.desks = omega (arith, run.grown, ap length empty, total_is (λ desk. (session desk).changes) run.served, of.changes, total_is (λ (desk : DeskRun _). desk.after.changes) of.desks) in
    subst (λ (xs : List Item). IsEachOnce first run.list xs) of.items_are
    (each_once (on_no_disks may_give view gate_view) kept first asking run.list (length old) bases history held of.desks of.are of.count added)
