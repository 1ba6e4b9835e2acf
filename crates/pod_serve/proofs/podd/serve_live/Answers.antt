use Rattle.std.proofs.Common.{◌≡◌, ◌∙◌, [], All, List, ap, length, map, refl, subst, sym}
use Rattle.pod_command.specs.declared.entry.Entry.{Entry}
use Rattle.pod_live.specs.Visits.{IsNewVisit}
use Rattle.pod_serve.proofs.PoddLemmas.{refilled, served_as}
use Rattle.pod_serve.proofs.podd.serve_live.Goals as goal

pub returns : goal.returns
returns g c =
    let seated = c.as_mut_slice.ensures.items in
    let fresh = subst (λ ds. All (λ desk. IsNewVisit [] desk.session) ds) (sym seated) (subst (λ (opening : List Entry). All (λ desk. IsNewVisit opening desk.session) c.make_desks-desks.result.items) c.requires.opening c.make_desks-desks.ensures.new) in
    let long : length c.serve_desks-keeper.new.desks ≡ length c.make_desks-desks.result.items = c.serve_desks-keeper.auto.desks ∙ ap length seated in
    let same = refilled (length c.make_desks-desks.result.items) c.serve_desks-keeper.new.desks c.make_desks-desks.result.items long refl in
    served_as c.as_mut_slice.result.now c.serve_desks-keeper.new.desks _ c.as_slice.result.now (λ desk. desk.session) (λ desk. desk.rest.gate) (λ desk. desk.rest.end) _ _ _ _ _ _ _ _ c.serve_desks-keeper.ensures fresh
    (ap (map (λ desk. desk.rest.gate)) seated ∙ c.make_desks-desks.ensures.gates) same c.as_slice.ensures c.close_desks.ensures.back c.status_of_desks-status.ensures
