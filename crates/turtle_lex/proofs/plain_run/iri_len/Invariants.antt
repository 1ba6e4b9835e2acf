use Rattle.std.proofs.Common.{◌≡◌, true, take}
use Rattle.std.specs.List.{list_all}
use Rattle.turtle_lex.specs.Classes.{is_iri_char}
use Rattle.turtle_lex.proofs.plain_run.iri_len.Given as goal

abbrev pub invariant-loop-index : goal.invariant-loop-index
invariant-loop-index l = list_all is_iri_char (take l.index l.text) ≡ true
