use Rattle.std.proofs.Common.{◌≡◌, ◌++◌, length, take}
use Rattle.std.specs.List.{flat_map, AllByRecursion}
use Rattle.stored_forms.specs.StoredForms.{number_bytes}
use Rattle.stored_forms.proofs.list_form.put_list.Given as goal

abbrev pub invariant-loop-item : goal.invariant-loop-item
invariant-loop-item g l = record {
  form : l.out.items ≡ l.fn.out.items ++ (number_bytes (length l.items) ++ flat_map g.T.Stored.form (take l.item-index l.items));
  storable : AllByRecursion g.T.Stored.is_storable (take l.item-index l.items);
}
