use Rattle.std.proofs.Common.{◌≡◌, true, take}
use Rattle.std.specs.List.{list_all}
use Rattle.turtle_lex.specs.Names.{is_name_byte}
use Rattle.turtle_lex.proofs.names.name_len.Given as goal

abbrev pub invariant-loop-index : goal.invariant-loop-index
invariant-loop-index l = list_all is_name_byte (take l.index l.text) ≡ true
