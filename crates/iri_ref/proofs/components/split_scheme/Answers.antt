use Rattle.std.proofs.Common.{sym, ◌∙◌, lit<}
use Rattle.std.proofs.lemmas.Str.Pattern.{split_parts}
use Rattle.iri_ref.specs.Characters.{colon}
use Rattle.iri_ref.proofs.Texts.{lacks_from_reads}
use Rattle.iri_ref.proofs.Schemes.{no_colon_no_scheme, other_front}
use Rattle.iri_ref.proofs.components.split_scheme.Goals as goal
use Rattle.iri_ref.proofs.components.split_scheme.Goals.{in_default-via-in-Some+else-is_scheme, in_default-via-in_default}

pub returns-in_default-clause-none : goal.returns-in_default-clause-none
returns-in_default-clause-none c =
    let parts = split_parts colon c.args.text.now c.split_once.result c.split_once.ensures.cases (lit< tt) in
    elim c.in_default.branch [
      | in_default-via-in-Some+else-is_scheme w ↦ (
          let some = rw w.in-Some.is at parts in
          other_front c.args.text.now w.in-Some.scheme.now w.in-Some.rest.now some.0 (lacks_from_reads colon w.in-Some.scheme.now some.1) (sym w.is_scheme.ensures ∙ w.if-is_scheme.false))
      | in_default-via-in_default w ↦ (
          let none = rw w.in_default.is at parts in
          no_colon_no_scheme c.args.text.now (lacks_from_reads colon c.args.text.now none))
    ]
