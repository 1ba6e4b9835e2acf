use Rattle.std.proofs.Common.{◌≡◌, ℕ, List, IfSome, refl, subst}
use Rattle.token_table.specs.Credentials.{asked_view}
use Rattle.pod_core.specs.Session.{Item}
use Rattle.pod_serve.specs.Serving.{FoundNoPlace, SessionTurn}
use Rattle.pod_serve.specs.Upgrades.{Notes, NotesAnswer}
use Rattle.pod_serve.proofs.StoreAnswerLemmas.{came_noted}
use Rattle.pod_serve.proofs.store_answers.StoreAnswersAnswers.answer.Goals as goal

pub returns-clause-turned : goal.returns-clause-turned
returns-clause-turned g c =
    let N = g.N.StoreName in
    let told = c.answer_request-answer in
    let stamp = c.args.stamp in
    let old = c.args.self.now in
    let request = c.args.request.now in
    let asked = asked_view c.args.asked.now in
    let noted = c.upgrade_in.result in
    came_noted (λ (item : Item). SessionTurn N.kept N.opened.next stamp.conn stamp.moment.0 old.session.now item told.new.session)
    (λ (item : Item). (old.session.ghost_name ≡ old.session.ghost_name) × (old.upgrade.ghost_name ≡ old.upgrade.ghost_name) × SessionTurn N.kept N.opened.next stamp.conn stamp.moment.0 old.session.now item told.new.session × Notes N.opened.pod.base item noted)
    (FoundNoPlace request old.session.now told.new.session)
    ((old.session.ghost_name ≡ old.session.ghost_name) × (old.upgrade.ghost_name ≡ old.upgrade.ghost_name) × FoundNoPlace request old.session.now told.new.session)
    N.opened.pod.base request asked stamp told.result noted
    (subst (λ (b : List ℕ). IfSome noted (NotesAnswer b request asked told.result)) c.base.ensures c.upgrade_in.ensures)
    (λ item p n. (refl, refl, p, n)) (λ p. (refl, refl, p)) told.ensures.turned
