use Rattle.std.proofs.Common.{sym, ◌∙◌}
use Rattle.std.proofs.lemmas.Bool.{false≢true}
use Rattle.patch_outcome.proofs.Containment.{refused_unmatched}
use Rattle.patch_outcome.proofs.patch_outcomes.outcome.Goals as goal

pub returns-in_ok-refusal_of-in-Err : goal.returns-in_ok-refusal_of-in-Err
returns-in_ok-refusal_of-in-Err c =
    record {
      outcome = refused_unmatched c.args.container c.args.graph.now c.args.patch.now c.in_ok-refusal_of-in-Err.field-0 c.in-Err.fault
          c.in_ok-refusal_of-in-Err.ensures
          (λ is h. false≢true (sym c.if-names_fixed.false ∙ c.names_fixed.ensures.complete is h))
          c.in-Err.ensures.fault;
    }
