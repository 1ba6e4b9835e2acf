-- An entry applies where its edits can be carried out and the pod is well-formed after them.
use Rattle.std.proofs.Common.{◌≡◌, ◌≤◌, ◌<◌, ◌^◌, ℕ, true, false, List, Some, sym, ap, ◌∙◌, subst, arith, ⊎_elim}
use Rattle.std.proofs.lemmas.Bool.{true≢false, le-leb, leb-true, cases_lt}
use Rattle.pod_command.specs.declared.edit.Edit.{Edit}
use Rattle.pod_command.specs.declared.entry.Entry.{Entry}
use Rattle.pod_rows.specs.Apply.{Applies, after_edits, with_rows_if}
use Rattle.pod_rows.specs.Pod.{Pod}
use Rattle.pod_rows.specs.WellFormed.{WellFormed}
use Rattle.pod_edits.specs.Refusals.{lacks_number}
use Rattle.pod_records.specs.Made.{HasMade, EditsFit}
use Rattle.pod_records.specs.declared.edited_rows.Made.{Made}

pub no_number : (next : ℕ) → next < 2 ^ 63 → lacks_number next ≡ true → ⊥
unfolding lacks_number
no_number next low h = absurd (omega (arith, low, leb-true (2 ^ 63) next h))

number_left : (next : ℕ) → lacks_number next ≡ false → next < 2 ^ 63
unfolding lacks_number
number_left next h = ⊎_elim (λ (l : next < 2 ^ 63). l) (λ (l : 2 ^ 63 ≤ next). absurd (true≢false (sym (le-leb (2 ^ 63) next l) ∙ h))) (cases_lt next (2 ^ 63))

pub edits_from : (p : Pod) (steps : List Edit) (made : List Made) → HasMade p.rows steps made → ((edits : List Edit) → HasMade p.rows edits made → WellFormed (with_rows_if p (after_edits (Some p.rows) edits))) → EditsFit p steps
edits_from p steps made h w = record {
  rows = h.rows;
  after = h.after;
  well_formed = subst WellFormed (ap (with_rows_if p) h.after) (w steps h);
}

pub applies_from : (p : Pod) (next : ℕ) (entry : Entry) → entry.seq ≡ next → lacks_number next ≡ false → EditsFit p entry.edits.items → Applies p next entry
applies_from p next entry seq number e = record {
  number = seq;
  numbered = number_left next number;
  rows = e.rows;
  edits = e.after;
  well_formed = e.well_formed;
}

pub fit_from : (p : Pod) (next : ℕ) (entry : Entry) → Applies p next entry → EditsFit p entry.edits.items
fit_from p next entry a = record { rows = a.rows; after = a.edits; well_formed = a.well_formed }
