use Rattle.std.proofs.Common.{◌∙◌, ap}
use Rattle.std.specs.List.{list_any}
use Rattle.field_list.specs.Words.{names_word}
use Rattle.field_list.proofs.ValueLemmas.{any-word}
use Rattle.field_list.proofs.listed_words.some_has_word.Goals as goal

pub returns : goal.returns
returns c =
    c.any_names_word.ensures
    ∙ ap (list_any (names_word c.args.name.now c.args.word.now)) (c.as_slice.ensures ∙ c.fields.view_is)
    ∙ any-word c.args.name.now c.args.word.now c.args.fields.now
