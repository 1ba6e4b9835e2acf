use Rattle.std.proofs.Common.{◌∙◌, ◌++◌, ap}
use Rattle.access_report.specs.Decisions.{IsDecision}
use Rattle.access_report.proofs.Decided.{found_decision, governs_found, lines_decided}
use Rattle.access_report.proofs.reporting.add_path.Goals as goal

pub returns-in_ok-add_lines-in-Some-clause-lines : goal.returns-in_ok-add_lines-in-Some-clause-lines
returns-in_ok-add_lines-in-Some-clause-lines g c =
    let pod = g.S.PodState.pod c.args.state.now in
    let e = c.effective-effective.result in
    let d = c.in-Some.decision.now in
    let is = rw c.in-Some.is at c.find_decision.ensures in
    let found = found_decision (IsDecision pod c.args.agent.now) e.at.now e.how c.args.decided.now d c.requires is in
    c.in_ok-add_lines-in-Some.ensures
    ∙ ap (λ l. c.args.lines.now.items ++ l) (lines_decided pod c.args.agent.now c.args.path.now d found.holds (governs_found pod c.args.path.now e.at.now d.at e.how d.how c.effective-effective.ensures.governs found.at_is found.how_is))

pub returns-in_ok-add_lines-in-None-clause-lines : goal.returns-in_ok-add_lines-in-None-clause-lines
returns-in_ok-add_lines-in-None-clause-lines g c =
    let pod = g.S.PodState.pod c.args.state.now in
    let d = c.in_ok-decision-in-None in
    c.in_ok-add_lines-in-None.ensures
    ∙ ap (λ l. c.args.lines.now.items ++ l) (lines_decided pod c.args.agent.now c.args.path.now d.decision d.ensures.decision d.ensures.governs)
