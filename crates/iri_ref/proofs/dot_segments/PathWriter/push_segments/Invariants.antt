use Rattle.std.proofs.Common.{◌≡◌, length, take}
use Rattle.iri_ref.specs.Segments.{segments}
use Rattle.iri_ref.specs.PathWriter.{after_segments, ends_in_dot_segment}
use Rattle.iri_ref.proofs.dot_segments.PathWriter.push_segments.Given as goal

abbrev pub invariant-loop-segment : goal.invariant-loop-segment
invariant-loop-segment l = record {
  written : l.self ≡ record l.fn.self { path = after_segments l.fn.self.path (take (length l.yielded) (segments l.path)) };
  dots : l.dots ≡ ends_in_dot_segment (take (length l.yielded) (segments l.path));
}
