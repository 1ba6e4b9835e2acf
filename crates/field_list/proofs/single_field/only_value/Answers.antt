use Rattle.std.proofs.Common.{◌∙◌, sym, ap, Some}
use Rattle.field_list.proofs.ValueLemmas.{one-value, no-value}
use Rattle.field_list.proofs.single_field.only_value.Goals as goal

pub returns-then-count-ne1 : goal.returns-then-count-ne1
returns-then-count-ne1 c =
    no-value c.args.name.now c.args.fields.now (λ one. c.if-count-ne1.true (c.count.ensures ∙ one))

pub returns-in-Some : goal.returns-in-Some
returns-in-Some c =
    ap Some c.as_slice.ensures
    ∙ rw c.in-Some.is at c.first.ensures
    ∙ one-value c.args.name.now c.args.fields.now (sym c.count.ensures ∙ c.if-count-ne1.false)

pub returns-in-None : goal.returns-in-None
returns-in-None c =
    rw c.in-None.is at c.first.ensures
    ∙ one-value c.args.name.now c.args.fields.now (sym c.count.ensures ∙ c.if-count-ne1.false)
