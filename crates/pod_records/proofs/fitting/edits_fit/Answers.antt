use Rattle.std.proofs.Common.{sym, subst, ◌∙◌, ap}
use Rattle.pod_records.specs.LoneChanges.{fits_alone}
use Rattle.pod_records.proofs.LoneChanges.{fits_alone_is}
use Rattle.pod_records.proofs.fitting.edits_fit.Goals as goal

pub returns-in-Some-clause-sound : goal.returns-in-Some-clause-sound
returns-in-Some-clause-sound g c =
    (fits_alone_is (g.S.PodState.pod c.args.state.now) c.args.entry.now.edits.items c.in-Some.fits c.is_well_formed.ensures
    (ap (fits_alone (g.S.PodState.pod c.args.state.now).rows) (sym c.as_slice.ensures) ∙ sym c.fits_alone.ensures ∙ c.in-Some.is)).0

pub returns-in-Some-clause-complete : goal.returns-in-Some-clause-complete
returns-in-Some-clause-complete g c =
    (fits_alone_is (g.S.PodState.pod c.args.state.now) c.args.entry.now.edits.items c.in-Some.fits c.is_well_formed.ensures
    (ap (fits_alone (g.S.PodState.pod c.args.state.now).rows) (sym c.as_slice.ensures) ∙ sym c.fits_alone.ensures ∙ c.in-Some.is)).1
