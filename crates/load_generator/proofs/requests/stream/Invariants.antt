use Rattle.std.proofs.Common.{◌≡◌}
use Rattle.std.specs.List.{flat_map, range_with_len}
use Rattle.load_generator.specs.Streams.{request_text}
use Rattle.load_generator.proofs.requests.stream.Given as goal

abbrev pub invariant-loop-k : goal.invariant-loop-k
invariant-loop-k l = l.text.items ≡ flat_map request_text (range_with_len 0 l.k)
