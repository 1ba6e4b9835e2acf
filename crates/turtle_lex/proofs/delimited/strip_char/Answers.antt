use Rattle.turtle_lex.specs.ClassOf.{in_class}
use Rattle.turtle_lex.specs.Pattern.{one, ◌∣◌}
use Rattle.turtle_lex.specs.Terminals.{uchar, echar}
use Rattle.turtle_lex.proofs.Matching.{or_left, or_right}
use Rattle.turtle_lex.proofs.EscapeLemmas.{escape_head, char_no_escape}
use Rattle.turtle_lex.proofs.delimited.strip_char.Goals as goal

pub returns-in-Some-clause-matches : goal.returns-in-Some-clause-matches
returns-in-Some-clause-matches c =
    or_left (one (in_class c.args.class)) (echar ∣ uchar) _ _ c.in-Some.ensures.matches
    (char_no_escape (in_class c.args.class) (echar ∣ uchar) _ _ c.requires (λ r. escape_head _ r) c.in-Some.ensures.matches.found)

pub returns-in-None-clause-matches : goal.returns-in-None-clause-matches
returns-in-None-clause-matches c = or_right (one (in_class c.args.class)) (echar ∣ uchar) _ _ c.in-None.ensures.matches c.strip_escape.ensures.matches
