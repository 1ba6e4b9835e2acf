use Rattle.std.proofs.Common.{sym, ◌∙◌, arith}
use Rattle.std.proofs.lemmas.Option.{same_Some}
use Rattle.stored_forms.specs.Reading.{entry_in}
use Rattle.stored_forms.proofs.Whole.{entry_taken, entry_found, encodable, if_given, not_given}
use Rattle.stored_forms.proofs.entry_form.decode_entry.Goals as goal

pub returns-clause-form : goal.returns-clause-form
returns-clause-form c = if_given c.entry_in.result (entry_in c.args.bytes.now) _ c.entry_in.ensures (λ x e. (entry_taken c.args.bytes.now x (λ i. omega (arith, c.type_inv.bytes i)) e).0)

pub returns-clause-storable : goal.returns-clause-storable
returns-clause-storable c = if_given c.entry_in.result (entry_in c.args.bytes.now) _ c.entry_in.ensures (λ x e. (entry_taken c.args.bytes.now x (λ i. omega (arith, c.type_inv.bytes i)) e).1)

pub returns-clause-encodable : goal.returns-clause-encodable
returns-clause-encodable c =
    if_given c.entry_in.result (entry_in c.args.bytes.now) _ c.entry_in.ensures
    (λ x e. encodable x (entry_taken c.args.bytes.now x (λ i. omega (arith, c.type_inv.bytes i)) e).1)

pub returns-clause-only : goal.returns-clause-only
returns-clause-only c =
    if_given c.entry_in.result (entry_in c.args.bytes.now) _ c.entry_in.ensures
    (λ x e y is spelled. same_Some x _ (sym e ∙ entry_found c.args.bytes.now y is spelled))

pub returns-clause-refused : goal.returns-clause-refused
returns-clause-refused c = λ refused y is spelled. not_given c.entry_in.result (entry_in c.args.bytes.now) _ c.entry_in.ensures refused (entry_found c.args.bytes.now y is spelled)
