use Rattle.std.proofs.Common.{◌≡◌, ℕ, List, [], ◌∷◌, refl, sym, ap, ◌∙◌, arith}
use Rattle.std.proofs.lemmas.Option.{same_Some}
use Rattle.pod_command.specs.Bare.{bare_entry, without_bases, bare_snapshot}
use Rattle.stored_forms.specs.StoredForms.{entry_bytes, entry_1_bytes, snapshot_bytes}
use Rattle.pod_command.specs.declared.entry.Entry.{Entry}
use Rattle.pod_command.specs.declared.snapshot.Snapshot.{Snapshot}
use Rattle.stored_forms.proofs.Whole.{entry_found, old_found, snapshot_found}
use Rattle.stored_forms.proofs.laws.one_form.Goals as goal

first : List ℕ → ℕ
first [] = 9
first (b ∷ bs) = b

entry_first : (e : Entry) → first (entry_bytes e) ≡ 2
unfolding entry_bytes first
entry_first e = refl

old_first : (e : Entry) → first (entry_1_bytes e) ≡ 1
unfolding entry_1_bytes first
old_first e = refl

snapshot_first : (s : Snapshot) → first (snapshot_bytes s) ≡ 0
unfolding snapshot_bytes first
snapshot_first s = refl

pub returns-clause-entry : goal.returns-clause-entry
returns-clause-entry c a b a-is b-is same = same_Some (bare_entry a) (bare_entry b) (sym (entry_found (entry_bytes a) a a-is refl) ∙ entry_found (entry_bytes a) b b-is same)

pub returns-clause-entry_1 : goal.returns-clause-entry_1
returns-clause-entry_1 c a b a-is b-is same = same_Some (without_bases a) (without_bases b) (sym (old_found (entry_1_bytes a) a a-is refl) ∙ old_found (entry_1_bytes a) b b-is same)

pub returns-clause-snapshot : goal.returns-clause-snapshot
returns-clause-snapshot c a b a-is b-is same =
    same_Some (bare_snapshot a) (bare_snapshot b) (sym (snapshot_found (snapshot_bytes a) a a-is refl) ∙ snapshot_found (snapshot_bytes a) b b-is same)

pub returns-clause-formats : goal.returns-clause-formats
returns-clause-formats c a b same = omega (arith, entry_first a, old_first b, ap first same)

pub returns-clause-records : goal.returns-clause-records
returns-clause-records c a s same = omega (arith, entry_first a, snapshot_first s, ap first same)

pub returns-clause-old_records : goal.returns-clause-old_records
returns-clause-old_records c a s same = omega (arith, old_first a, snapshot_first s, ap first same)
