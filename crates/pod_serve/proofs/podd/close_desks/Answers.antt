use Rattle.std.proofs.Common.{◌≡◌, ◌++◌, [], ◌∷◌, None, ap, arith, length, length-append, rules}
use Rattle.pod_serve.proofs.PoddLemmas.{desks_back_all, desks_back_more, emptied}
use Rattle.pod_serve.proofs.podd.close_desks.Goals as goal

pub loop-desk-preserved : goal.loop-desk-preserved
loop-desk-preserved g c =
    let shrunk : c.loop-desk.desks.items ≡ c.pop.new.self.items ++ c.in-Some.desk ∷ [] = c.in-Some.ensures.items in
    record {
      room = omega (arith, ap length shrunk, length-append c.pop.new.self.items (c.in-Some.desk ∷ []), c.close.ensures.room, c.loop-desk.invariant.room);
      back = desks_back_more c.loop-desk.desks.items c.pop.new.self.items c.in-Some.desk (λ desk. desk.rest.gate) _ (g.O.Listen.back c.loop-desk.listen) (g.O.Listen.back c.close.new.self) shrunk c.loop-desk.invariant.back c.close.ensures.back;
    }

pub returns : goal.returns
returns g c =
    let ended : c.pop.result ≡ None = search (rules, c.in_default.is) in
    let none = emptied c.loop-desk.desks.items c.pop.new.self.items c.pop.result c.pop.ensures.items c.pop.ensures.some ended in
    record { back = desks_back_all c.loop-desk.desks.items (λ desk. desk.rest.gate) _ (g.O.Listen.back c.loop-desk.listen) none c.loop-desk.invariant.back }
