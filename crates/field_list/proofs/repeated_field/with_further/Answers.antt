use Rattle.std.proofs.Common.{◌≡◌, sym, ◌∙◌, []}
use Rattle.std.proofs.lemmas.List.{append-nil}
use Rattle.std.specs.List.{flat_map}
use Rattle.field_list.specs.Joined.{added}
use Rattle.field_list.proofs.JoinLemmas.{further-none}
use Rattle.field_list.proofs.repeated_field.with_further.Goals as goal

-- no field follows
pub returns-then-not-has_field : goal.returns-then-not-has_field
returns-then-not-has_field c =
    let none : flat_map (added c.args.name.now) c.args.rest.now ≡ [] = further-none c.args.name.now c.args.rest.now (sym c.has_field.ensures ∙ c.if-not-has_field.true) in
    simp (none, append-nil) c.copy.ensures
