use Rattle.std.proofs.Common.{◌≡◌, refl, subst, rules}
use Rattle.conn_talk.specs.Agents.{asking_of}
use Rattle.pod_serve.specs.Served.{link_view_of}
use Rattle.pod_serve.specs.Turns.{IsNoted}
use Rattle.pod_serve.proofs.ConnLemmas.{requests_served}
use Rattle.pod_serve.proofs.connection.serve_requests.Goals as goal

pub returns : goal.returns
returns g c =
    let view = link_view_of g.K.Link.rest g.K.Link.sent g.K.Link.counts in
    let may_give = g.C.Clock.may_give c.args.clock.now in
    let asking = asking_of c.args.agents.now in
    let base = g.N.StoreName.opened.pod.base in
    let old = c.new-seated.result in
    let new = c.serve_link.new.answers in
    let before = c.new-output.result.link.now in
    let after = c.serve_link.new.output.link.now in
    let all = requests_served (λ seated. seated.session.ghost_name) (λ seated. seated.upgrade.ghost_name) (λ seated. seated.session.now) (λ seated. seated.upgrade.now) base g.N.StoreName.kept g.N.StoreName.opened.next c.args.conn may_give asking g.N.StoreName.opened g.N.StoreName.ends refl c.serve_link.result old new (view before) (view after) c.serve_link.ensures.served in
    let same_name : old.session.ghost_name ≡ new.session.ghost_name = all.0 in
    let same_mark : old.upgrade.ghost_name ≡ new.upgrade.ghost_name = all.1 in
    let session : new.session.now ≡ c.session-1.given.0 = search rules in
    let upgrade : new.upgrade.now ≡ c.upgrade-1.given.0 = search rules in
    let link : after ≡ c.link-1.given.0 = search rules in
    subst (λ u. IsNoted g.N.StoreName.kept g.N.StoreName.opened.next may_give asking base c.args.conn c.serve_link.result c.args.session.now c.session-1.given.0 (view c.args.link.now) (view c.link-1.given.0) u) upgrade
    (subst (λ v. IsNoted g.N.StoreName.kept g.N.StoreName.opened.next may_give asking base c.args.conn c.serve_link.result v c.session-1.given.0 (view c.args.link.now) (view c.link-1.given.0) new.upgrade.now) c.new-seated.ensures.session
    (subst (λ v. IsNoted g.N.StoreName.kept g.N.StoreName.opened.next may_give asking base c.args.conn c.serve_link.result old.session.now v (view c.args.link.now) (view c.link-1.given.0) new.upgrade.now) session
    (subst (λ l. IsNoted g.N.StoreName.kept g.N.StoreName.opened.next may_give asking base c.args.conn c.serve_link.result old.session.now new.session.now (view l) (view c.link-1.given.0) new.upgrade.now) c.new-output.ensures.link
    (subst (λ l. IsNoted g.N.StoreName.kept g.N.StoreName.opened.next may_give asking base c.args.conn c.serve_link.result old.session.now new.session.now (view before) (view l) new.upgrade.now) link all.2))))
