use Rattle.std.proofs.Common.{rules, ◌≡◌, ◌==◌, false}
use Rattle.row_pages.proofs.Around.{cost_low, cost_high}
use Rattle.row_pages.proofs.part_list.+place_between.Goals as goal

pub returns-then-is_before_part-clause-cost : goal.returns-then-is_before_part-clause-cost
returns-then-is_before_part-clause-cost g t c b h =
    let other : (c.args.low == c.args.high) ≡ false = search rules in
    cost_low b c.args.low c.args.high c.args.steps.now c.is_before_part.new.steps c.place_between.new.steps c.requires.range other c.is_before_part.ensures.cost c.place_between.ensures.cost h

pub returns-else-is_before_part-clause-cost : goal.returns-else-is_before_part-clause-cost
returns-else-is_before_part-clause-cost g t c b h =
    let other : (c.args.low == c.args.high) ≡ false = search rules in
    cost_high b c.args.low c.args.high c.args.steps.now c.is_before_part.new.steps c.place_between-else-is_before_part.new.steps c.requires.range other c.is_before_part.ensures.cost c.place_between-else-is_before_part.ensures.cost h
