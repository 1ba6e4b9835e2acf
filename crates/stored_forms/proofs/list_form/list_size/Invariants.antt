use Rattle.std.proofs.Common.{◌≡◌, ◌++◌, length, take}
use Rattle.std.specs.List.{flat_map}
use Rattle.rdf_graph.specs.Size.{saturated}
use Rattle.stored_forms.specs.StoredForms.{number_bytes}
use Rattle.stored_forms.proofs.list_form.list_size.Given as goal

abbrev pub invariant-loop-item : goal.invariant-loop-item
invariant-loop-item g l = l.size ≡ saturated (length (number_bytes (length l.items) ++ flat_map g.T.Stored.form (take l.item-index l.items)))
