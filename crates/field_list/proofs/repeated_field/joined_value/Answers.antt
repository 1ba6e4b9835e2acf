use Rattle.std.proofs.Common.{sym, ◌∙◌, ap}
use Rattle.field_list.specs.Joined.{joined_value}
use Rattle.field_list.proofs.JoinLemmas.{named-first}
use Rattle.field_list.proofs.repeated_field.joined_value.Goals as goal

-- the first field of the name
pub returns-then-is_named : goal.returns-then-is_named
returns-then-is_named c =
    named-first c.args.name.now c.in-Some.field.now c.in-Some.more.now c.in_ok-value.value (sym c.is_named.ensures ∙ c.if-is_named.true) c.in_ok-value.ensures
    ∙ ap (joined_value c.args.name.now) (sym c.in-Some.ensures.cases.0)
    ∙ c.loop-field.invariant
