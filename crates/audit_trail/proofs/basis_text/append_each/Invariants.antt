use Rattle.std.proofs.Common.{◌≡◌, ◌++◌, ◌∷◌, take}
use Rattle.std.specs.List.{flat_map}
use Rattle.audit_trail.specs.Lines.{basis_text}
use Rattle.audit_trail.proofs.basis_text.append_each.Given as goal

abbrev pub invariant-loop-basis : goal.invariant-loop-basis
invariant-loop-basis l = l.into.items ≡ l.fn.into.items ++ flat_map (λ b. 32 ∷ basis_text b) (take l.basis-index l.bases)
