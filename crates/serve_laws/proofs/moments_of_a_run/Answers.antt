use Rattle.serve_laws.proofs.moments_of_a_run.Goals as goal

pub returns : goal.returns
returns g c = λ keeper left agents workers old new old_places new_places status run history doubt stands sure long.
    let led = run.took.so history doubt stands in
    c.moments_are_of_changes.ensures keeper history doubt run.took.taken left led.0 led.1 sure long
