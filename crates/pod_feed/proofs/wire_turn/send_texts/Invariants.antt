use Rattle.std.proofs.Common.{◌≡◌, ◌++◌, take}
use Rattle.std.specs.Option.{option_map}
use Rattle.pod_feed.proofs.wire_turn.send_texts.Given as goal

abbrev pub invariant-loop-text : goal.invariant-loop-text
invariant-loop-text g l =
    (g.W.Wire.sent l.wire ≡ option_map (λ told. told ++ take l.text-index l.texts) (g.W.Wire.sent l.initial.wire))
    × (g.W.Wire.polls l.wire ≡ g.W.Wire.polls l.initial.wire)
    × (g.W.Wire.faults l.wire ≡ g.W.Wire.faults l.initial.wire)
    × (g.W.Wire.closed l.wire ≡ g.W.Wire.closed l.initial.wire)
    × g.W.Wire.follows l.initial.wire l.wire
