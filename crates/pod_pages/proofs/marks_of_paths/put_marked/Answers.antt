use Rattle.std.proofs.Common.{rules, ◌∙◌, ap}
use Rattle.row_pages.specs.Items.{put_item}
use Rattle.pod_pages.proofs.Marking.{put_has}
use Rattle.pod_pages.proofs.marks_of_paths.put_marked.Goals as goal

pub returns-then-is_marked : goal.returns-then-is_marked
returns-then-is_marked c = λ found. c.in_ok-same.ensures ∙ put_has c.args.rows.now c.args.item.now c.args.by c.are_in_order.ensures found (search rules)

pub returns : goal.returns
returns c = λ found. c.in_ok-next.ensures ∙ ap (put_item c.args.rows.now) c.in_ok-marked.ensures
