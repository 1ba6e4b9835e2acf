use Rattle.std.proofs.Common.{◌≡◌, ◌<◌, ◌++◌, ◌∙◌, [], ◌∷◌, All, List, None, Some, ap, arith, length, length-append, map, reverse, rules, subst, sym}
use Rattle.std.proofs.lemmas.List.{length-reverse, reverse-reverse}
use Rattle.std.proofs.lemmas.List.Elements.{All-pop, All-push}
use Rattle.pod_live.specs.Visits.{IsNewVisit}
use Rattle.pod_live.specs.declared.session.Seat.{Seat}
use Rattle.pod_serve.specs.declared.desk.Post.{Post}
use Rattle.pod_serve.proofs.PoddLemmas.{begun, emptied, none_new, seated_all, seated_more}
use Rattle.pod_serve.proofs.podd.make_desks.Goals as goal

pub loop-gate-init : goal.loop-gate-init
loop-gate-init g c =
    let many = ap length c.turned-gates.ensures ∙ length-reverse c.args.gates.items in
    record {
      count = c.requires.count ∙ sym many;
      fits = omega (arith, many, c.requires.room);
      sessions = c.requires.new;
      gates = begun c.args.desks.items (λ desk. desk.rest.gate) c.turned-gates.result.items c.requires.empty;
      desks = none_new c.args.desks.items (λ desk. IsNewVisit g.N.ViewName.opening desk.session) c.requires.empty;
    }

pub loop-gate-preserved : goal.loop-gate-preserved
loop-gate-preserved g c =
    let desk : Seat (Post g.row.G.Denot g.row.G-Conn.Denot) g.row.N.Denot = record { session = c.in-Some-pop.session; rest = record { gate = c.in-Some.gate; end = None } } in
    let fewer : c.loop-gate.gates.items ≡ c.pop.new.self.items ++ c.in-Some.gate ∷ [] = c.in-Some.ensures.items in
    let shrunk : c.loop-gate.sessions.items ≡ c.pop-in-Some.new.self.items ++ c.in-Some-pop.session ∷ [] = c.in-Some-pop.ensures.items in
    let gates = ap length fewer ∙ length-append c.pop.new.self.items (c.in-Some.gate ∷ []) in
    let sessions = ap length shrunk ∙ length-append c.pop-in-Some.new.self.items (c.in-Some-pop.session ∷ []) in
    let has_room : 0 < c.loop-gate.desks.room = omega (arith, gates, c.loop-gate.invariant.fits) in
    let grown : c.push.new.self.items ≡ c.loop-gate.desks.items ++ desk ∷ [] = search (rules, has_room) in
    record {
      count = omega (arith, gates, sessions, c.loop-gate.invariant.count);
      fits = omega (arith, gates, c.push.ensures.room, c.loop-gate.invariant.fits);
      sessions = (All-pop (IsNewVisit g.N.ViewName.opening) c.loop-gate.sessions.items c.pop-in-Some.new.self.items (Some c.in-Some-pop.session) shrunk c.loop-gate.invariant.sessions).0;
      gates = subst (λ (ds : List (Seat (Post g.row.G.Denot g.row.G-Conn.Denot) g.row.N.Denot)). map (λ d. d.rest.gate) ds ++ reverse c.pop.new.self.items ≡ reverse c.turned-gates.result.items) (sym grown)
          (seated_more c.loop-gate.desks.items desk (λ d. d.rest.gate) c.loop-gate.gates.items c.pop.new.self.items (reverse c.turned-gates.result.items) fewer c.loop-gate.invariant.gates);
      desks = subst (λ (ds : List (Seat (Post g.row.G.Denot g.row.G-Conn.Denot) g.row.N.Denot)). All (λ d. IsNewVisit g.N.ViewName.opening d.session) ds) (sym grown)
          (All-push (λ (d : Seat (Post g.row.G.Denot g.row.G-Conn.Denot) g.row.N.Denot). IsNewVisit g.N.ViewName.opening d.session) c.loop-gate.desks.items desk c.loop-gate.invariant.desks
          (All-pop (IsNewVisit g.N.ViewName.opening) c.loop-gate.sessions.items c.pop-in-Some.new.self.items (Some c.in-Some-pop.session) shrunk c.loop-gate.invariant.sessions).1);
    }

pub returns-clause-gates : goal.returns-clause-gates
returns-clause-gates g c =
    let ended : c.pop.result ≡ None = search (rules, c.in_default.is) in
    let none = emptied c.loop-gate.gates.items c.pop.new.self.items c.pop.result c.pop.ensures.items c.pop.ensures.some ended in
    seated_all c.loop-gate.desks.items (λ desk. desk.rest.gate) c.loop-gate.gates.items (reverse c.turned-gates.result.items) none c.loop-gate.invariant.gates
    ∙ (ap reverse c.turned-gates.ensures ∙ reverse-reverse c.args.gates.items)
