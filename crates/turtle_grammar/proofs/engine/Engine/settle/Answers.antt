use Rattle.std.proofs.Common.{sym, ap, ◌∙◌}
use Rattle.std.proofs.lemmas.Result.{on_ok_weaker}
use Rattle.turtle_grammar.specs.Stacks.{take_of}
use Rattle.turtle_grammar.proofs.Settling.{ends}
use Rattle.turtle_grammar.proofs.engine.Engine.settle.Goals as goal

pub returns : goal.returns
returns c =
    on_ok_weaker c.end_string.result
    (λ e. ends c.args.self.now.goals c.args.self.now.rest c.args.self.now.point c.args.symbol (sym c.adds_to_string.ensures ∙ c.if-adds_to_string.false)
    ∙ ap (λ x. take_of x c.args.symbol) (sym e))
    c.end_string.ensures
