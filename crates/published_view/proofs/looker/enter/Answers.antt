use Rattle.std.proofs.Common.{refl, ◌+◌}
use Rattle.published_view.specs.LookSteps.{looks_of}
use Rattle.published_view.proofs.looker.enter.Goals as goal

pub enter_as-requires : goal.enter_as-requires
enter_as-requires g c = λ x views kept mine. (record { count = looks_of c.args.reader.place + 1; given = x.list }, tt, (refl, refl))
