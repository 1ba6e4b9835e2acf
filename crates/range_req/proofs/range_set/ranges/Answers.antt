use Rattle.field_list.specs.Elements.{elements}
use Rattle.field_list.specs.declared.quoting.Quoting.TheVariants.{Strings}
use Rattle.range_req.proofs.RangeLemmas.{parts-inside}
use Rattle.range_req.proofs.range_set.ranges.Goals as goal

-- the parts are inside of the body
pub returns-then-is_well_formed-clause-within : goal.returns-then-is_well_formed-clause-within
returns-then-is_well_formed-clause-within c =
    rw (c.from_vec.ensures.items, c.in_ok-parts-in-Some.ensures) (parts-inside c.args.size (elements Strings c.in-Some.list.now))
