use Rattle.std.proofs.Common.{sym, ◌∙◌, arith}
use Rattle.std.proofs.lemmas.Option.{same_Some}
use Rattle.stored_forms.specs.Reading.{snapshot_in}
use Rattle.stored_forms.proofs.Whole.{snapshot_taken, snapshot_found, encodable_snapshot, if_given, not_given}
use Rattle.stored_forms.proofs.snapshot_form.decode_snapshot.Goals as goal

pub returns-clause-form : goal.returns-clause-form
returns-clause-form c = if_given c.snapshot_in.result (snapshot_in c.args.bytes.now) _ c.snapshot_in.ensures (λ x e. (snapshot_taken c.args.bytes.now x (λ i. omega (arith, c.type_inv.bytes i)) e).0)

pub returns-clause-storable : goal.returns-clause-storable
returns-clause-storable c = if_given c.snapshot_in.result (snapshot_in c.args.bytes.now) _ c.snapshot_in.ensures (λ x e. (snapshot_taken c.args.bytes.now x (λ i. omega (arith, c.type_inv.bytes i)) e).1)

pub returns-clause-encodable : goal.returns-clause-encodable
returns-clause-encodable c =
    if_given c.snapshot_in.result (snapshot_in c.args.bytes.now) _ c.snapshot_in.ensures
    (λ x e. encodable_snapshot x (snapshot_taken c.args.bytes.now x (λ i. omega (arith, c.type_inv.bytes i)) e).1)

pub returns-clause-only : goal.returns-clause-only
returns-clause-only c =
    if_given c.snapshot_in.result (snapshot_in c.args.bytes.now) _ c.snapshot_in.ensures
    (λ x e y is spelled. same_Some x _ (sym e ∙ snapshot_found c.args.bytes.now y is spelled))

pub returns-clause-refused : goal.returns-clause-refused
returns-clause-refused c = λ refused y is spelled. not_given c.snapshot_in.result (snapshot_in c.args.bytes.now) _ c.snapshot_in.ensures refused (snapshot_found c.args.bytes.now y is spelled)
