use Rattle.std.proofs.Common.{None, subst}
use Rattle.turtle_lex.specs.declared.names.Parts.{Parts}
use Rattle.turtle_lex.specs.declared.names.Parts.TheVariants.{Plain}
use Rattle.turtle_lex.specs.Pattern.{MatchesOnly}
use Rattle.turtle_lex.specs.Names.{name_part}
use Rattle.turtle_lex.proofs.NameLemmas.{reach_start, reach_part, reach_dot, reach_run, run_end, inside_end}
use Rattle.turtle_lex.proofs.names.strip_tail.Goals as goal

pub loop-parts-init : goal.loop-parts-init
loop-parts-init c =
    reach_run c.args.parts c.args.text.now c.args.text.now c.strip_name_bytes-end.result.now (reach_start c.args.parts c.args.text.now) c.strip_name_bytes-end.ensures.run

pub loop-parts-preserved-in-Some : goal.loop-parts-preserved-in-Some
loop-parts-preserved-in-Some c =
    reach_run c.args.parts c.args.text.now c.in-Some.after.now c.strip_name_bytes-rest.result.now
    (reach_part c.args.parts c.args.text.now c.loop-parts.end.now c.loop-parts.rest.now c.in-Some.after.now c.loop-parts.invariant c.in-Some.ensures.matches)
    c.strip_name_bytes-rest.ensures.run

pub loop-parts-preserved : goal.loop-parts-preserved
loop-parts-preserved c =
    reach_dot c.args.parts c.args.text.now c.loop-parts.end.now c.loop-parts.rest.now c.in-Some-strip_word.after.now c.loop-parts.invariant
    c.in-None.ensures.matches c.in-Some-strip_word.ensures.matches

pub returns-in-None-strip_word-clause-name : goal.returns-in-None-strip_word-clause-name
returns-in-None-strip_word-clause-name c = run_end (name_part c.args.parts) c.args.text.now c.loop-parts.end.now c.loop-parts.rest.now
    c.loop-parts.invariant.run c.in-None.ensures.matches c.in-None-strip_word.ensures.matches

pub returns-in-None-strip_word-clause-prefixes : goal.returns-in-None-strip_word-clause-prefixes
returns-in-None-strip_word-clause-prefixes c = λ plain. inside_end c.args.text.now c.loop-parts.end.now c.loop-parts.rest.now (c.loop-parts.invariant.inside plain)
    (subst (λ (p : Parts). MatchesOnly (name_part p) c.loop-parts.rest.now None) plain c.in-None.ensures.matches) c.in-None-strip_word.ensures.matches

pub returns-then-ends_names-clause-name : goal.returns-then-ends_names-clause-name
returns-then-ends_names-clause-name c =
    let ended = c.ends_names.ensures c.if-ends_names.true c.args.parts in
    run_end (name_part c.args.parts) c.args.text.now c.loop-parts.end.now c.loop-parts.rest.now c.loop-parts.invariant.run ended.0 ended.1

pub returns-then-ends_names-clause-prefixes : goal.returns-then-ends_names-clause-prefixes
returns-then-ends_names-clause-prefixes c = λ plain.
    let ended = c.ends_names.ensures c.if-ends_names.true Plain in
    inside_end c.args.text.now c.loop-parts.end.now c.loop-parts.rest.now (c.loop-parts.invariant.inside plain) ended.0 ended.1
