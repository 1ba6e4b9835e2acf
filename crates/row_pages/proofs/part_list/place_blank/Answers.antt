use Rattle.std.proofs.Common.{rules, ◌≡◌, ◌-◌, ◌<◌, length}
use Rattle.row_pages.proofs.Taken.{before_taken, after_taken}
use Rattle.row_pages.proofs.part_list.place_blank.Goals as goal

pub returns-clause-before : goal.returns-clause-before
returns-clause-before g c =
    let place : c.saturating_sub.result ≡ c.place_between-place.result - 1 = search rules in
    let within : c.saturating_sub.result < length c.args.parts.now = search rules in
    before_taken g.T.Part.items c.args.parts.now c.place_between-place.result c.saturating_sub.result c.args.path.now place within c.requires.order c.place_between-place.ensures.before

pub returns-clause-after : goal.returns-clause-after
returns-clause-after g c =
    let place : c.saturating_sub.result ≡ c.place_between-place.result - 1 = search rules in
    let within : c.saturating_sub.result < length c.args.parts.now = search rules in
    after_taken g.T.Part.items c.args.parts.now c.place_between-place.result c.saturating_sub.result c.args.path.now place within c.requires.order c.place_between-place.ensures.after
