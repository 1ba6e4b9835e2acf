use Rattle.std.proofs.Common.{◌≡◌, ◌+◌, take, sym, ◌∙◌, lit<, rules}
use Rattle.std.proofs.lemmas.Str.Pattern.{rfind_char}
use Rattle.iri_ref.specs.Characters.{slash}
use Rattle.iri_ref.proofs.Paths.{up_to_lacking}
use Rattle.iri_ref.proofs.Texts.{lacks_from_reads}
use Rattle.pod_path.proofs.Ends.{up_to_at}
use Rattle.pod_path.proofs.path_text.cut_after_last_slash.Goals as goal

pub returns-in-Some : goal.returns-in-Some
returns-in-Some c =
    let found = rfind_char slash c.args.text.now c.rfind.result c.rfind.ensures.cases (lit< tt) in
    let some = rw c.in-Some.is at found in
    let range : c.range.result.now ≡ take (c.in-Some.at + 1) c.args.text.now = search rules in
    range ∙ up_to_at c.args.text.now c.in-Some.at some.0 some.1 some.2

pub returns-in-None : goal.returns-in-None
returns-in-None c =
    let found = rfind_char slash c.args.text.now c.rfind.result c.rfind.ensures.cases (lit< tt) in
    let none = rw c.in-None.is at found in
    sym (up_to_lacking c.args.text.now (lacks_from_reads slash c.args.text.now none))
