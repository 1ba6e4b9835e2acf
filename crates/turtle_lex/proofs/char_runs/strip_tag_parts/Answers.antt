use lib.Chars.{codes}
use Rattle.std.specs.Char.{is_ascii_alphanumeric}
use Rattle.turtle_lex.specs.Pattern.{word, one, many, some}
use Rattle.turtle_lex.proofs.Matching.{then_only, then_refused}
use Rattle.turtle_lex.proofs.RunLemmas.{tag_start, tag_step, tag_end}
use Rattle.turtle_lex.proofs.char_runs.strip_tag_parts.Goals as goal

pub loop-part-init : goal.loop-part-init
loop-part-init c = tag_start c.args.text.now

pub loop-part-preserved : goal.loop-part-preserved
loop-part-preserved c = tag_step c.args.text.now c.loop-part.rest.now c.in-Some.part.now c.in-Some-strip_some.after.now c.loop-part.invariant c.in-Some.ensures.matches c.in-Some-strip_some.ensures.found

pub returns-in-None-strip_some : goal.returns-in-None-strip_some
returns-in-None-strip_some c = tag_end c.args.text.now c.loop-part.rest.now c.loop-part.invariant (then_only (word (codes "-")) (some (one is_ascii_alphanumeric)) _ _ _ c.in-Some.ensures.matches (then_refused (one is_ascii_alphanumeric) (many (one is_ascii_alphanumeric)) _ c.in-None-strip_some.ensures.none))

pub returns-in-None : goal.returns-in-None
returns-in-None c = tag_end c.args.text.now c.loop-part.rest.now c.loop-part.invariant (then_refused (word (codes "-")) (some (one is_ascii_alphanumeric)) _ c.in-None.ensures.matches)
