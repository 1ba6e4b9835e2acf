use Rattle.std.proofs.Common.{take}
use Rattle.std.specs.List.{All}
use Rattle.syntax_laws.specs.ReadBack.{TripleHasTexts}
use Rattle.syntax_laws.proofs.text_laws.list_texts.Given as goal

abbrev pub invariant-loop-triple : goal.invariant-loop-triple
invariant-loop-triple l = All TripleHasTexts (take l.triple-index l.triples)
