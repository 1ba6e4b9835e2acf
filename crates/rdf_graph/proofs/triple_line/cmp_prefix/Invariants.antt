use Rattle.std.proofs.Common.{◌≡◌}
use Rattle.rdf_graph.specs.Line.{line_rest}
use Rattle.rdf_graph.specs.Triple.{prefix_cmp}
use Rattle.rdf_graph.proofs.triple_line.cmp_prefix.Given as goal

-- what is left of both decides
abbrev pub invariant-loop-byte : goal.invariant-loop-byte
invariant-loop-byte l =
    prefix_cmp (line_rest l.line) (line_rest l.byte-iterator) ≡ prefix_cmp (line_rest l.fn.line) (line_rest l.fn.prefix)
