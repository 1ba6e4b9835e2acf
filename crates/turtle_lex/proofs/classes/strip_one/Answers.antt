use Rattle.std.proofs.Common.{sym, ◌∙◌}
use Rattle.turtle_lex.specs.ClassOf.{in_class}
use Rattle.turtle_lex.proofs.Matching.{one_found, one_refused, char_shorter}
use Rattle.turtle_lex.proofs.classes.strip_one.Goals as goal

pub returns-then-contains-clause-matches : goal.returns-then-contains-clause-matches
returns-then-contains-clause-matches c =
    let found = c.in-Some.ensures.found in
    one_found (in_class c.args.class) c.args.text.now c.in-Some.c c.in-Some.rest.now found.0 found.1 (sym c.contains.ensures ∙ c.if-contains.true)

pub returns-then-contains-clause-shorter : goal.returns-then-contains-clause-shorter
returns-then-contains-clause-shorter c = char_shorter c.args.text.now c.in-Some.c c.in-Some.rest.now c.in-Some.ensures.found.1

pub returns-else-contains-clause-matches : goal.returns-else-contains-clause-matches
returns-else-contains-clause-matches c = one_refused (in_class c.args.class) c.args.text.now c.in-Some.c c.in-Some.rest.now c.in-Some.ensures.found.1 (sym c.contains.ensures ∙ c.if-contains.false)
