use lib.Chars.{codes}
use Rattle.turtle_lex.specs.Classes.{is_blank}
use Rattle.turtle_lex.specs.Pattern.{word, one}
use Rattle.turtle_lex.proofs.Matching.{or_left}
use Rattle.turtle_lex.proofs.BlankLemmas.{gap_none, gap_blank, gap_comment, gap_open, no_line_char}
use Rattle.turtle_lex.proofs.blanks_and_comments.strip_gap.Goals as goal

pub loop-after-init : goal.loop-after-init
loop-after-init c = gap_none c.args.text.now

pub loop-after-preserved-in-Some : goal.loop-after-preserved-in-Some
loop-after-preserved-in-Some c = gap_blank _ _ _ c.loop-after.invariant c.in-Some.ensures.matches.found

pub loop-after-preserved : goal.loop-after-preserved
loop-after-preserved c = gap_comment _ _ c.in-Some-strip_word.line.now c.strip_run-end.result.now _ c.loop-after.invariant c.in-Some-strip_word.ensures.matches.found c.strip_run-end.ensures.run c.in-Some-strip_one.ensures.matches.found

pub returns-in-None-strip_one-clause-open : goal.returns-in-None-strip_one-clause-open
returns-in-None-strip_one-clause-open c = (
  gap_open _ _ c.in-Some-strip_word.line.now c.strip_run-end.result.now c.loop-after.invariant c.in-Some-strip_word.ensures.matches.found c.strip_run-end.ensures.run,
  no_line_char _ c.strip_run-end.ensures.run.stops c.in-None-strip_one.ensures.matches,
)

pub returns-in-None-strip_word-clause-closed : goal.returns-in-None-strip_word-clause-closed
returns-in-None-strip_word-clause-closed c =
    (c.loop-after.invariant, or_left (one is_blank) (word (codes "#")) _ _ c.in-None.ensures.matches c.in-None-strip_word.ensures.matches)
