use Rattle.std.proofs.Common.{Bool, cond, Some, None, refl, sym, ap, ◌∙◌}
use Rattle.turtle_grammar.proofs.Steps.{not_allowed, not_taken, too_deep, reads_on}
use Rattle.turtle_grammar.proofs.NamingSteps.{names_on}
use Rattle.turtle_grammar.proofs.Strings.{string_waits}
use Rattle.turtle_grammar.proofs.machine.Machine.step.Goals as goal

pub returns-then-not-is_allowed-clause-refused : goal.returns-then-not-is_allowed-clause-refused
returns-then-not-is_allowed-clause-refused c start ts ps h =
    not_allowed start ts ps c.args.self.now c.args.symbol h (sym c.is_allowed.ensures ∙ c.if-not-is_allowed.true)

pub returns-in-Ok-true-clause-refused : goal.returns-in-Ok-true-clause-refused
returns-in-Ok-true-clause-refused c start ts ps h =
    too_deep start ts ps c.args.self.now c.args.symbol h (sym c.is_allowed.ensures ∙ c.if-not-is_allowed.false) c.take.new.self.engine
    (c.in-Ok-true.ensures.engine ∙ ap (λ (v : Bool). cond v (Some c.take.new.self.engine) None) c.in-Ok-true.field-0-test)
    c.depth_after-depth.result c.depth_after-depth.ensures c.if-depth-gt-DEPTH_LIMIT.true

pub returns-in-Ok-true-2-clause-read : goal.returns-in-Ok-true-2-clause-read
returns-in-Ok-true-2-clause-read c start ts ps h =
    reads_on start ts ps c.args.self.now c.args.symbol h (sym c.is_allowed.ensures ∙ c.if-not-is_allowed.false) c.take.new.self.engine
    (c.in-Ok-true.ensures.engine ∙ ap (λ (v : Bool). cond v (Some c.take.new.self.engine) None) c.in-Ok-true.field-0-test)
    _ refl c.in-Ok-true.ensures.start c.in-Ok-true.ensures.braces c.depth_after-depth.ensures c.if-depth-gt-DEPTH_LIMIT.false

pub returns-in-Ok-false-clause-refused : goal.returns-in-Ok-false-clause-refused
returns-in-Ok-false-clause-refused c start ts ps h =
    not_taken start ts ps c.args.self.now c.args.symbol h
    (c.in-Ok-false.ensures.engine ∙ ap (λ (v : Bool). cond v (Some c.take.new.self.engine) None) c.in-Ok-false.field-0-test)

pub returns-in-Ok-true-2-clause-names : goal.returns-in-Ok-true-2-clause-names
returns-in-Ok-true-2-clause-names c index start ts ps h other avoids =
    names_on index start ts ps c.args.self.now c.args.symbol h other avoids c.take.new.self.engine
    (c.in-Ok-true.ensures.engine ∙ ap (λ (v : Bool). cond v (Some c.take.new.self.engine) None) c.in-Ok-true.field-0-test)

pub returns-in-Ok-true-2-clause-string : goal.returns-in-Ok-true-2-clause-string
returns-in-Ok-true-2-clause-string c quoted =
    string_waits c.args.symbol c.args.self.now c.take.new.self
    (c.in-Ok-true.ensures.engine ∙ ap (λ (v : Bool). cond v (Some c.take.new.self.engine) None) c.in-Ok-true.field-0-test) quoted
