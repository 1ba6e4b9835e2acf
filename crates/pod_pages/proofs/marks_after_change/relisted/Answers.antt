use Rattle.std.proofs.Common.{◌||◌, ℕ, None, false, cond, sym, ap, ◌∙◌, subst, List}
use Rattle.access_index.specs.Listing.{is_listed}
use Rattle.row_pages.specs.Items.{rows_of}
use Rattle.pod_pages.specs.Lists.{list_at}
use Rattle.pod_pages.specs.Numbering.{AreMarked, AreResolved, Places, is_below, is_freed}
use Rattle.pod_pages.proofs.Assembled.{relisted_all}
use Rattle.pod_pages.proofs.marks_after_change.relisted.Goals as goal

pub returns-clause-rows : goal.returns-clause-rows
returns-clause-rows c = λ a is plain.
    (relisted_all c.args.base.now c.args.old.now c.args.table.now c.args.rows.now c.args.touched.now c.args.subjects.now c.in_ok-changed.changed.items c.free_gone.new.places.items c.numbered.new.places.items c.in_ok-numbers.numbers c.in_ok-rows.rows
    (λ k. c.in_ok-free_gone.ensures k ∙ ap (λ (ps : Places). cond (is_freed (rows_of c.args.rows.now) c.args.old.now c.args.subjects.now k) None (list_at ps k)) c.in_ok-places.ensures)
    c.in_ok-numbers.ensures.numbered c.in_ok-numbers.ensures.others c.in_ok-changed.ensures
    (λ have. subst (λ (xs : List (List ℕ)). AreMarked c.in_ok-numbers.numbers (λ p. is_below xs p || (is_listed c.args.subjects.now p || (is_listed c.args.touched.now p || false))) c.in_ok-rows.rows) c.as_slice.ensures.value (c.in_ok-rows.ensures have))
    a is plain).0

pub returns-clause-resolved : goal.returns-clause-resolved
returns-clause-resolved c = λ a is plain.
    subst (λ (ps : Places). AreResolved c.args.base.now c.in_ok-rows.rows ps) (sym c.in_ok-table.ensures)
    (relisted_all c.args.base.now c.args.old.now c.args.table.now c.args.rows.now c.args.touched.now c.args.subjects.now c.in_ok-changed.changed.items c.free_gone.new.places.items c.numbered.new.places.items c.in_ok-numbers.numbers c.in_ok-rows.rows
    (λ k. c.in_ok-free_gone.ensures k ∙ ap (λ (ps : Places). cond (is_freed (rows_of c.args.rows.now) c.args.old.now c.args.subjects.now k) None (list_at ps k)) c.in_ok-places.ensures)
    c.in_ok-numbers.ensures.numbered c.in_ok-numbers.ensures.others c.in_ok-changed.ensures
    (λ have. subst (λ (xs : List (List ℕ)). AreMarked c.in_ok-numbers.numbers (λ p. is_below xs p || (is_listed c.args.subjects.now p || (is_listed c.args.touched.now p || false))) c.in_ok-rows.rows) c.as_slice.ensures.value (c.in_ok-rows.ensures have))
    a is plain).1
