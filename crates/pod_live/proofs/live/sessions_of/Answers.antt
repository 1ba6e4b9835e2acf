use Rattle.std.proofs.Common.{◌≡◌, ◌++◌, [], ◌∷◌, All, List, ap, arith, length, length-append, rules, subst, sym, Some}
use Rattle.std.proofs.lemmas.List.Elements.{All-pop, All-push}
use Rattle.published_view.specs.LookerState.{IsNewLooker}
use Rattle.pod_live.specs.Visits.{Visit, IsNewVisit}
use Rattle.pod_live.proofs.live.sessions_of.Goals as goal

pub loop-looker-preserved : goal.loop-looker-preserved
loop-looker-preserved g c =
    let opening = g.N.ViewName.opening in
    let session : Visit = c.of-session.result in
    let grown : c.push.new.self.items ≡ c.loop-looker.sessions.items ++ session ∷ [] = search (c.push.ensures.items, c.is_err.ensures.negation, c.if-is_err.false, rules) in
    let shrunk : c.loop-looker.lookers.items ≡ c.pop.new.self.items ++ c.in-Some.looker ∷ [] = search (c.pop.ensures.items, c.in-Some.is, rules) in
    let more = length-append c.loop-looker.sessions.items (session ∷ []) in
    let less = length-append c.pop.new.self.items (c.in-Some.looker ∷ []) in
    let popped = All-pop (IsNewLooker opening) c.loop-looker.lookers.items c.pop.new.self.items (Some c.in-Some.looker) shrunk c.loop-looker.invariant.lookers in
    let all = All-push (IsNewVisit opening) c.loop-looker.sessions.items session c.loop-looker.invariant.sessions (c.of-session.ensures popped.1) in
    record {
      parts = (omega (arith, ap length shrunk, less, c.split_off.ensures.parts_left, c.loop-looker.invariant.parts.0), omega (arith, ap length shrunk, less, c.split_off-in-Some.ensures.parts_left, c.loop-looker.invariant.parts.1));
      amounts = (omega (arith, c.split_off.ensures.amount_left, c.loop-looker.invariant.amounts.0), omega (arith, c.split_off-in-Some.ensures.amount_left, c.loop-looker.invariant.amounts.1));
      counted = omega (arith, ap length grown, ap length shrunk, more, less, c.loop-looker.invariant.counted);
      lookers = popped.0;
      sessions = subst (λ (ss : List Visit). All (IsNewVisit opening) ss) (sym grown) all;
    }
