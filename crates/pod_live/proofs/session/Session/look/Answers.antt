use Rattle.std.proofs.Common.{refl, subst}
use Rattle.pod_live.specs.Visits.{Visit, Looked}
use Rattle.pod_live.proofs.session.Session.look.Goals as goal

pub returns-in-Ok-try_clone-clause-looked : goal.returns-in-Ok-try_clone-clause-looked
returns-in-Ok-try_clone-clause-looked g c =
    let looker = c.look.new.self in
    let new : Visit = record { seen = looker.seen; told = looker.told; looks = looker.looks; refused = looker.refused; given = looker.given; changes = c.self.inside.changes; faults = c.self.inside.faults } in
    subst (λ (old : Visit). Looked old new) c.self.view_is (record {
      later = c.in-Ok.ensures.later;
      told = c.in-Ok.ensures.told;
      looks = c.in-Ok.ensures.made.0;
      refused = c.in-Ok.ensures.made.1;
      changes = refl;
      faults = refl;
    })

pub returns-in-Ok-clause-looked : goal.returns-in-Ok-clause-looked
returns-in-Ok-clause-looked g c =
    let looker = c.look.new.self in
    let new : Visit = record { seen = looker.seen; told = looker.told; looks = looker.looks; refused = looker.refused; given = looker.given; changes = c.self.inside.changes; faults = c.self.inside.faults } in
    subst (λ (old : Visit). Looked old new) c.self.view_is (record {
      later = c.in-Ok.ensures.later;
      told = c.in-Ok.ensures.told;
      looks = c.in-Ok.ensures.made.0;
      refused = c.in-Ok.ensures.made.1;
      changes = refl;
      faults = refl;
    })
