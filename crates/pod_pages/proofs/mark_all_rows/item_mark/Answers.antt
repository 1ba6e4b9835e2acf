use Rattle.std.proofs.Common.{rules, ◌≡◌, ◌∙◌, ap, false, None, Option, ℕ}
use Rattle.pod_path.specs.Hierarchy.{is_root, subject_of}
use Rattle.pod_path.specs.Norm.{IsPath}
use Rattle.pod_pages.specs.Marks.{mark_by}
use Rattle.pod_pages.proofs.Walking.{mark_below}
use Rattle.pod_pages.proofs.mark_all_rows.item_mark.Goals as goal

pub returns : goal.returns
returns c =
    let normal : IsPath c.args.item.now.row.path = search rules in
    let below : is_root c.args.item.now.row.path ≡ false = search rules in
    let plain : subject_of c.args.item.now.row.path ≡ None = search rules in
    c.mark_by.ensures
    ∙ ap (λ (o : Option ℕ). mark_by o c.args.above) c.own_of.ensures
    ∙ mark_below c.args.numbers.now c.args.item.now.row.path c.args.item.now c.args.above normal below plain c.requires.found c.requires.above
