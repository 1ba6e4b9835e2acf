use Rattle.std.proofs.Common.{◌≡◌, ℕ, List, take, drop, false}
use Rattle.access_index.specs.Listing.{is_listed}
use Rattle.row_pages.specs.Items.{item_at, rows_of}
use Rattle.pod_pages.specs.Numbering.{AreNumbered, IsTree}
use Rattle.pod_pages.proofs.list_numbers.numbered.Given as goal

abbrev pub invariant-loop-subject : goal.invariant-loop-subject
invariant-loop-subject l = record {
  numbered : IsTree (rows_of l.rows) → AreNumbered l.base l.rows l.subjects l.rows l.fn.places.items → AreNumbered l.base l.rows (drop l.subject-index l.subjects) l.now l.places.items;
  others : (q : List ℕ) → is_listed (take l.subject-index l.subjects) q ≡ false → item_at l.now q ≡ item_at l.rows q;
}
