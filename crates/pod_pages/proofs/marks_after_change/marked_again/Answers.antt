use Rattle.std.proofs.Common.{rules, ◌≡◌, length, sym, subst}
use Rattle.pod_pages.specs.Numbering.{AreResolved, Places}
use Rattle.pod_pages.proofs.Assembled.{kept_all, nil_of}
use Rattle.pod_pages.proofs.marks_after_change.marked_again.Goals as goal

pub returns-then-is_empty-clause-rows : goal.returns-then-is_empty-clause-rows
returns-then-is_empty-clause-rows c = λ a.
    let none : length c.in_ok-subjects.subjects.items ≡ 0 = search rules in
    (kept_all c.args.base.now c.args.old.now c.args.table.now c.args.rows.now c.args.touched.now c.in_ok-rows.rows c.in_ok-rows.ensures (nil_of c.in_ok-subjects.subjects.items _ none c.in_ok-subjects.ensures.subjects) a).0

pub returns-then-is_empty-clause-resolved : goal.returns-then-is_empty-clause-resolved
returns-then-is_empty-clause-resolved c = λ a.
    let none : length c.in_ok-subjects.subjects.items ≡ 0 = search rules in
    subst (λ (ps : Places). AreResolved c.args.base.now c.in_ok-rows.rows ps) (sym c.in_ok-table.ensures)
    (kept_all c.args.base.now c.args.old.now c.args.table.now c.args.rows.now c.args.touched.now c.in_ok-rows.rows c.in_ok-rows.ensures (nil_of c.in_ok-subjects.subjects.items _ none c.in_ok-subjects.ensures.subjects) a).1
