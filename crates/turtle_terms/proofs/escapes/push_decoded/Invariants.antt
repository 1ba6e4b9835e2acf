use Rattle.std.proofs.Common.{◌≡◌, ◌++◌, drop}
use Rattle.turtle_terms.specs.Escapes.{decoded_from, decoded}
use Rattle.turtle_terms.specs.EscapeBound.{IsBounded}
use Rattle.turtle_terms.proofs.escapes.push_decoded.Given as goal

-- what is left of the text goes on from the state
abbrev pub invariant-loop-byte : goal.invariant-loop-byte
invariant-loop-byte l = record {
  value : l.value.items ++ decoded_from l.escape (drop l.byte-index l.text) ≡ l.initial.value.items ++ decoded l.fn.text;
  bounded : IsBounded l.escape;
}
