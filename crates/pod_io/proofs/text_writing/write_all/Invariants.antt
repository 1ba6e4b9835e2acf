use Rattle.std.proofs.Common.{◌≡◌, ◌-◌, ◌≤◌, ◌++◌, length, take}
use Rattle.std.specs.Option.{option_map}
use Rattle.pod_io.proofs.text_writing.write_all.Given as goal

-- the text so far is written, and no fault was forgotten
abbrev pub invariant-loop-at : goal.invariant-loop-at
invariant-loop-at g l =
    (l.at ≤ length l.text)
    × (g.K.Sink.taken l.output ≡ option_map (λ bytes. bytes ++ take l.at l.text) (g.K.Sink.taken l.initial.output))
    × (g.K.Sink.faults l.initial.output ≤ g.K.Sink.faults l.output)

abbrev pub decreases-loop-at : goal.decreases-loop-at
decreases-loop-at g l = length l.text - l.at
