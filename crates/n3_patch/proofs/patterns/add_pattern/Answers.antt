use Rattle.std.proofs.Common.{◌∙◌, rules, sym}
use Rattle.std.proofs.lemmas.Result.{on_ok_weaker}
use Rattle.n3_patch.proofs.PatternLemmas.{added}
use Rattle.n3_patch.proofs.patterns.add_pattern.Goals as goal

pub returns : goal.returns
returns c =
    on_ok_weaker c.push_new.result
    (added c.args.index c.args.triple.now c.args.seen.now c.insert.new.self c.args.patterns.now.items c.push_new.new.patterns.items c.in-Some.pattern
    c.in_ok-new.new (sym c.stands_in.ensures ∙ search rules) (sym c.in_ok-pattern.ensures ∙ c.in-Some.is) c.in_ok-new.ensures.added
    c.in_ok-new.ensures.updates.0) c.push_new.ensures
