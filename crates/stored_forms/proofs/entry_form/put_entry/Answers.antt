use Rattle.std.proofs.Common.{List, subst}
use Rattle.std.proofs.lemmas.Result.{on_ok_weaker}
use Rattle.stored_forms.specs.Storable.{IsListOf, IsStorableEdit, IsStorableBasis}
use Rattle.pod_command.specs.declared.basis.Basis.{Basis}
use Rattle.pod_command.specs.declared.edit.Edit.{Edit}
use Rattle.stored_forms.proofs.entry_form.put_entry.Goals as goal

pub returns-clause-storable : goal.returns-clause-storable
returns-clause-storable c =
    on_ok_weaker c.put_list-2.result
    (λ bases. record {
      seq = c.in_ok-put_origin.ensures.seq;
      conn = c.in_ok-put_origin.ensures.conn;
      number = c.in_ok-put_origin.ensures.number;
      agent = c.in_ok-put_origin.ensures.agent;
      moment = c.in_ok-put_request.ensures.moment;
      method = c.requires.method;
      path = c.in_ok-put_request.ensures.path;
      edits = subst (λ (xs : List Edit). IsListOf IsStorableEdit xs) c.as_slice.ensures c.in_ok-put_list.ensures.storable;
      bases = subst (λ (xs : List Basis). IsListOf (λ b. IsStorableBasis b) xs) c.as_slice-2.ensures bases;
    })
    c.put_list-2.ensures.storable
