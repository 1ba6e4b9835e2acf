use Rattle.std.proofs.Common.{take, sym, ◌∙◌, lit<, arith}
use Rattle.std.proofs.lemmas.Str.Pattern.{find_char}
use Rattle.std.proofs.lemmas.List.{get_or-take, length-take, drop_more}
use Rattle.iri_ref.specs.Characters.{slash}
use Rattle.iri_ref.proofs.Texts.{lacks_from_reads}
use Rattle.iri_ref.proofs.components.split_at_slash.Goals as goal

pub returns-in-Some-clause-first : goal.returns-in-Some-clause-first
returns-in-Some-clause-first c =
    let found = find_char slash c.args.text.now c.find.result c.find.ensures.cases (lit< tt) in
    let some = rw c.in-Some.is at found in
    let text = c.args.text.now in
    let at = c.in-Some.at in
    rw c.split_at.ensures.front (lacks_from_reads slash (take at text) (λ i below e. some.2 i (omega (arith, length-take at text)) (sym (get_or-take at text i 0 (omega (arith, length-take at text))) ∙ e)))

pub returns-in-Some-clause-rooted : goal.returns-in-Some-clause-rooted
returns-in-Some-clause-rooted c =
    let found = find_char slash c.args.text.now c.find.result c.find.ensures.cases (lit< tt) in
    let some = rw c.in-Some.is at found in
    let text = c.args.text.now in
    let at = c.in-Some.at in
    rw (c.split_at.ensures.back, drop_more text at 0 some.0) some.1

pub returns-in-None-clause-first : goal.returns-in-None-clause-first
returns-in-None-clause-first c =
    let found = find_char slash c.args.text.now c.find.result c.find.ensures.cases (lit< tt) in
    let none = rw c.in-None.is at found in
    lacks_from_reads slash c.args.text.now none
