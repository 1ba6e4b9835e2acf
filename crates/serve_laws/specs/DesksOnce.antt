-- Each change once, of desks that were served by new sessions: the clause of `serve`.
use Rattle.std.specs.Prelude.{◌≡◌, ℕ, ◌+◌, List, [], ◌∷◌, ◌++◌, length, All, Option}
use Rattle.pod_base.specs.declared.request.Request.{Request}
use Rattle.pod_command.specs.declared.entry.Entry.{Entry}
use Rattle.pod_core.specs.History.{History}
use Rattle.pod_core.specs.Session.{Item}
use Rattle.pod_live.specs.Takes.{TakenItem}
use Rattle.pod_live.specs.Visits.{IsNewVisit, Visit}
use Rattle.pod_serve.specs.Desks.{AreDesksServed, EachDeskServed, GateView}
use Rattle.pod_serve.specs.Served.{LinkView}
use Rattle.pod_serve.specs.declared.desk.DeskEnd.{DeskEnd}
use Rattle.serve_laws.specs.EachOnce.{IsEachOnce, conn_items}
use Rattle.token_table.specs.Credentials.{AskedAgent}

module _ (kept : History → Type 0) (first : ℕ) (may_give : ℕ → Type 0)
    (asking : Request → AskedAgent) {S G C : Type 0} (view : C → LinkView)
    (gate_view : G → GateView C) (session : S → Visit) (gate : S → G)
    (told : S → Option DeskEnd) where
  -- the items of all connections of these desks
  abbrev pub served_items : (step number : ℕ) (old served : List S) → EachDeskServed kept first
      may_give asking view gate_view session gate told step number old served → List Item
  served_items step number [] [] each = []
  served_items step number [] (now ∷ rest) each = []
  served_items step number (desk ∷ others) [] each = []
  served_items step number (desk ∷ others) (now ∷ rest) each = conn_items kept first may_give asking
      view step number (session desk) each.0.2.links (session now) each.0.2.conns
      ++ served_items step (number + 1) others rest each.1

  -- Of the list that desks leave which were served by new sessions each entry is that of exactly one
  -- item of one connection.
  abbrev pub EachChangeOfDesksOnce : (List TakenItem → Type 0) → List Entry → List S → Type 0
  EachChangeOfDesksOnce takes opening old = (new : List S) (run : AreDesksServed kept first may_give
      asking view gate_view session gate told takes opening old new)
      → opening ≡ [] → All (λ desk. IsNewVisit [] (session desk)) old
      → (history : History) → kept history
      → IsEachOnce first run.list (served_items (length old) 1 old run.served run.desks)
