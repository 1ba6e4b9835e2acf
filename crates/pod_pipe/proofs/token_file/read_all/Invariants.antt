use Rattle.std.proofs.Common.{◌≡◌, ◌≤◌, length}
use Rattle.pod_pipe.specs.Streams.{Reads}
use Rattle.pod_pipe.proofs.ReadsLemmas.{AreCounted}
use Rattle.pod_pipe.proofs.token_file.read_all.Given as goal

-- what was read so far preceded what is left, each read gave a byte and was counted, and no count of
-- faults fell
abbrev pub invariant-reads : goal.invariant-reads
invariant-reads g l =
    Reads l.text.items (g.T.Source.rest l.fn.source) (g.T.Source.rest l.source)
    × (g.T.Source.faults l.fn.source ≤ g.T.Source.faults l.source)
    × AreCounted (g.T.Source.reads l.fn.source) l.counter (g.T.Source.reads l.source)
    × (g.T.Source.ends l.source ≡ g.T.Source.ends l.fn.source)
    × (l.counter ≤ length l.text.items)
