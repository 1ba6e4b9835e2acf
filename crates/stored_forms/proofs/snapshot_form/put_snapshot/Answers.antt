use Rattle.std.proofs.Common.{List, subst}
use Rattle.std.proofs.lemmas.Result.{on_ok_weaker}
use Rattle.stored_forms.specs.Storable.{IsListOf, IsStorableRow}
use Rattle.pod_command.specs.declared.row.Row.{Row}
use Rattle.stored_forms.proofs.snapshot_form.put_snapshot.Goals as goal

pub returns-clause-storable : goal.returns-clause-storable
returns-clause-storable c =
    on_ok_weaker c.put_list.result
    (λ rows. record {
      seq = c.put_number.ensures.storable;
      base = c.put_iri.ensures.storable;
      owner = c.put_text.ensures.storable;
      rows = subst (λ (xs : List Row). IsListOf (λ r. IsStorableRow r) xs) c.as_slice.ensures rows;
      order = c.requires.order;
    })
    c.put_list.ensures.storable
