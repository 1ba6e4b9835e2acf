use Rattle.std.proofs.Common.{rules, ◌∙◌, sym}
use Rattle.std.proofs.lemmas.Result.{IfOk-weaker}
use Rattle.pod_records.proofs.Replacements.{replaced_from, replaced_to}
use Rattle.pod_records.proofs.Whole.{no_number, applies_from, fit_from}
use Rattle.pod_records.proofs.fitting.fits.Goals as goal

pub returns-then-lacks_number-clause-complete : goal.returns-then-lacks_number-clause-complete
returns-then-lacks_number-clause-complete g c =
    λ a. absurd (no_number (g.S.PodState.next_number c.args.state.now) a.numbered (sym c.lacks_number.ensures ∙ c.if-lacks_number.true))

pub returns-in-Some-clause-sound : goal.returns-in-Some-clause-sound
returns-in-Some-clause-sound g c =
    λ t. applies_from (g.S.PodState.pod c.args.state.now) (g.S.PodState.next_number c.args.state.now) c.args.entry.now
    (search rules) (sym c.lacks_number.ensures ∙ c.if-lacks_number.false)
    (replaced_from (g.S.PodState.pod c.args.state.now) c.args.entry.now.edits.items c.in-Some.row.now c.is_well_formed.ensures
    (sym c.as_slice.ensures ∙ (rw c.in-Some.is at c.replacement.ensures.only)) (rw c.in-Some.is at c.replacement.ensures.there) (sym c.may_replace.ensures ∙ t))

pub returns-in-Some-clause-complete : goal.returns-in-Some-clause-complete
returns-in-Some-clause-complete g c =
    λ a. c.may_replace.ensures ∙ replaced_to (g.S.PodState.pod c.args.state.now) c.args.entry.now.edits.items c.in-Some.row.now
    (sym c.as_slice.ensures ∙ (rw c.in-Some.is at c.replacement.ensures.only)) (fit_from (g.S.PodState.pod c.args.state.now) (g.S.PodState.next_number c.args.state.now) c.args.entry.now a)

pub returns-in-None-clause-sound : goal.returns-in-None-clause-sound
returns-in-None-clause-sound g c =
    IfOk-weaker c.edits_fit.result _ _
    (λ r s t. applies_from (g.S.PodState.pod c.args.state.now) (g.S.PodState.next_number c.args.state.now) c.args.entry.now
    (search rules) (sym c.lacks_number.ensures ∙ c.if-lacks_number.false) (s t))
    c.edits_fit.ensures.sound

pub returns-in-None-clause-complete : goal.returns-in-None-clause-complete
returns-in-None-clause-complete g c =
    IfOk-weaker c.edits_fit.result _ _ (λ r s a. s (fit_from (g.S.PodState.pod c.args.state.now) (g.S.PodState.next_number c.args.state.now) c.args.entry.now a)) c.edits_fit.ensures.complete
