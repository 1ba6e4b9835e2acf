use Rattle.std.proofs.Common.{◌≡◌, true, false, sym, ◌∙◌}
use Rattle.std.proofs.lemmas.Bool.{OnTrue_from, OnFalse_from}
use Rattle.turtle_grammar.proofs.Theorem.{complete, unfinished}
use Rattle.turtle_grammar.proofs.NamingSteps.{none_name}
use Rattle.turtle_grammar.proofs.machine.Machine.is_complete.Goals as goal

pub returns-clause-complete : goal.returns-clause-complete
returns-clause-complete c =
    OnTrue_from c.is_empty.result _ (λ e start ts ps h. complete start ts _ h.reached h.allowed (c.is_empty.ensures.0 e))

pub returns-clause-unfinished : goal.returns-clause-unfinished
returns-clause-unfinished c =
    OnFalse_from c.is_empty.result _ (λ e start ts ps others h d. unfinished start ts _ h.reached
    (λ none. let bad : true ≡ false = sym (c.is_empty.ensures.1 none) ∙ e in cc) others d)

pub returns-clause-names : goal.returns-clause-names
returns-clause-names c = OnTrue_from c.is_empty.result _ (λ e. none_name c.args.self.now (c.is_empty.ensures.0 e))
