use Rattle.std.proofs.Common.{◌≡◌, take}
use Rattle.pod_pages.specs.Effects.{kept_effects}
use Rattle.pod_pages.proofs.entry_effects.kept_effects.Given as goal

abbrev pub invariant-loop-effect : goal.invariant-loop-effect
invariant-loop-effect l = l.kept.items ≡ kept_effects l.oldest (take l.effect-index l.effects)
