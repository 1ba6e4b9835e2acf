use Rattle.std.proofs.Common.{◌≡◌, length, take}
use Rattle.json.specs.Print.{escape}
use Rattle.rdf_graph.specs.Size.{saturated}
use Rattle.jsonld_expanded.proofs.written_len.escaped_len.Given as goal

abbrev pub invariant-loop-byte : goal.invariant-loop-byte
invariant-loop-byte l = l.len ≡ saturated (length (escape (take l.byte-index l.text)))
