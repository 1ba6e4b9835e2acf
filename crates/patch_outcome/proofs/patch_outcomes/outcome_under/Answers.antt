use Rattle.std.proofs.Common.{sym, ◌∙◌}
use Rattle.std.proofs.lemmas.Bool.{false≢true}
use Rattle.patch_outcome.proofs.Containment.{solved_touches, kept, refused_under}
use Rattle.patch_outcome.proofs.patch_outcomes.outcome_under.Goals as goal

pub returns-then-names_under : goal.returns-then-names_under
returns-then-names_under c =
    let found = c.names_under.ensures.sound c.if-names_under.true in
    (found.0, solved_touches c.args.graph.now c.args.patch.now c.args.mapping.now.pairs.items c.requires.only found.1)

pub returns-in-Ok : goal.returns-in-Ok
returns-in-Ok c = (
  kept c.args.container c.args.graph.now c.args.patch.now c.args.mapping.now.pairs.items c.requires.only c.requires.fixed
      (λ is h. false≢true (sym c.if-names_under.false ∙ c.names_under.ensures.complete is h)),
  c.in-Ok.ensures.change,
)

pub returns-in_ok-refusal_of-in-Err : goal.returns-in_ok-refusal_of-in-Err
returns-in_ok-refusal_of-in-Err c =
    refused_under c.args.container c.args.graph.now c.args.patch.now c.in_ok-refusal_of-in-Err.field-0 c.in-Err.fault
    c.in_ok-refusal_of-in-Err.ensures
    (kept c.args.container c.args.graph.now c.args.patch.now c.args.mapping.now.pairs.items c.requires.only c.requires.fixed
    (λ is h. false≢true (sym c.if-names_under.false ∙ c.names_under.ensures.complete is h)))
    c.in-Err.ensures.fault
