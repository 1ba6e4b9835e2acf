use Rattle.std.proofs.Common.{sym, ◌∙◌, arith}
use Rattle.std.proofs.lemmas.Option.{same_Some}
use Rattle.stored_forms.specs.Reading.{entry_1_in}
use Rattle.stored_forms.proofs.Whole.{old_taken, old_found, encodable, if_given, not_given}
use Rattle.stored_forms.proofs.entry_form.decode_entry_1.Goals as goal

pub returns-clause-form : goal.returns-clause-form
returns-clause-form c = if_given c.entry_1_in.result (entry_1_in c.args.bytes.now) _ c.entry_1_in.ensures (λ x e. (old_taken c.args.bytes.now x (λ i. omega (arith, c.type_inv.bytes i)) e).0)

pub returns-clause-bases : goal.returns-clause-bases
returns-clause-bases c = if_given c.entry_1_in.result (entry_1_in c.args.bytes.now) _ c.entry_1_in.ensures (λ x e. (old_taken c.args.bytes.now x (λ i. omega (arith, c.type_inv.bytes i)) e).2)

pub returns-clause-storable : goal.returns-clause-storable
returns-clause-storable c = if_given c.entry_1_in.result (entry_1_in c.args.bytes.now) _ c.entry_1_in.ensures (λ x e. (old_taken c.args.bytes.now x (λ i. omega (arith, c.type_inv.bytes i)) e).1)

pub returns-clause-encodable : goal.returns-clause-encodable
returns-clause-encodable c =
    if_given c.entry_1_in.result (entry_1_in c.args.bytes.now) _ c.entry_1_in.ensures
    (λ x e. encodable x (old_taken c.args.bytes.now x (λ i. omega (arith, c.type_inv.bytes i)) e).1)

pub returns-clause-only : goal.returns-clause-only
returns-clause-only c =
    if_given c.entry_1_in.result (entry_1_in c.args.bytes.now) _ c.entry_1_in.ensures
    (λ x e y is spelled. same_Some x _ (sym e ∙ old_found c.args.bytes.now y is spelled))

pub returns-clause-refused : goal.returns-clause-refused
returns-clause-refused c = λ refused y is spelled. not_given c.entry_1_in.result (entry_1_in c.args.bytes.now) _ c.entry_1_in.ensures refused (old_found c.args.bytes.now y is spelled)
