use Rattle.std.proofs.Common.{◌≡◌, ◌-◌, ◌≤◌, ◌++◌, length, take}
use Rattle.std.specs.Option.{option_map}
use Rattle.conn_talk.proofs.response_writing.write_text.Given as goal

-- the text so far is written, and no fault was forgotten
abbrev pub invariant-loop-at : goal.invariant-loop-at
invariant-loop-at g l =
    (l.at ≤ length l.text)
    × (g.K.Output.taken l.output ≡ option_map (λ bytes. bytes ++ take l.at l.text) (g.K.Output.taken l.initial.output))
    × (g.K.Output.faults l.initial.output ≤ g.K.Output.faults l.output)
    × g.K.Output.follows l.initial.output l.output

abbrev pub decreases-loop-at : goal.decreases-loop-at
decreases-loop-at g l = length l.text - l.at
