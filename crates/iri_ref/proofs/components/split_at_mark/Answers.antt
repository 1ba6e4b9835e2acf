use Rattle.std.proofs.lemmas.Str.Pattern.{split_parts}
use Rattle.iri_ref.proofs.Texts.{lacks_from_reads}
use Rattle.iri_ref.proofs.components.split_at_mark.Goals as goal

pub returns-in-Some-clause-first : goal.returns-in-Some-clause-first
returns-in-Some-clause-first c =
    let parts = split_parts c.args.mark c.args.text.now c.split_once.result c.split_once.ensures.cases c.requires in
    let some = rw c.in-Some.is at parts in
    lacks_from_reads c.args.mark c.in-Some.prefix.now some.1

pub returns-in-None-clause-first : goal.returns-in-None-clause-first
returns-in-None-clause-first c =
    let parts = split_parts c.args.mark c.args.text.now c.split_once.result c.split_once.ensures.cases c.requires in
    let none = rw c.in-None.is at parts in
    lacks_from_reads c.args.mark c.args.text.now none
