use Rattle.std.proofs.Common.{◌≡◌, ◌+◌, ◌≤◌, length}
use Rattle.std.specs.Prelude.{IsUtf8}
use Rattle.iri_ref.specs.Segments.{segments}
use Rattle.pod_path.specs.Norm.{segment_count}
use Rattle.pod_path.proofs.SegmentCount.{goes_on}
use Rattle.pod_path.proofs.segments.count_segments.Given as goal

abbrev pub invariant-loop-segment : goal.invariant-loop-segment
invariant-loop-segment l = record {
  utf8 : IsUtf8 l.rest;
  short : l.count + length l.rest ≤ length l.path + 1;
  same : goes_on l.reserved l.count (segments l.rest) ≡ segment_count (segments l.path);
}

abbrev pub decreases-loop-segment : goal.decreases-loop-segment
decreases-loop-segment l = length l.rest
