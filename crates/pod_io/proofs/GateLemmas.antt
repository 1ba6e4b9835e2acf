-- The gates that a listener in memory opens.
use Rattle.std.proofs.Common.{◌≡◌, List, [], ◌∷◌, ◌++◌, subst, sym, append_assoc}
use Rattle.std.proofs.lemmas.List.{append-nil}
use Rattle.pod_io.specs.Gates.{OpensFirst}

-- a gate more is opened: the first that is left, or another one where none are
pub opens_next : {X : Type 0} (first old new gates grown : List X) (gate : X)
    → ((more : List X) → OpensFirst old more → OpensFirst first (gates ++ more))
    → ((more : List X) → OpensFirst new more → OpensFirst old (gate ∷ more))
    → grown ≡ gates ++ gate ∷ []
    → (more : List X) → OpensFirst new more → OpensFirst first (grown ++ more)
opens_next {X} first old new gates grown gate before step is more opens =
    subst (λ (opened : List X). OpensFirst first (opened ++ more)) (sym is)
    (subst (λ (opened : List X). OpensFirst first opened)
    (sym (append_assoc gates (gate ∷ []) more)) (before (gate ∷ more) (step more opens)))

no_more : {X : Type 0} (rest : List X) → OpensFirst rest []
no_more [] = tt
no_more (gate ∷ rest) = tt

-- no more gates are opened
pub opens_last : {X : Type 0} (first rest gates : List X)
    → ((more : List X) → OpensFirst rest more → OpensFirst first (gates ++ more))
    → OpensFirst first gates
opens_last {X} first rest gates before =
    subst (λ (opened : List X). OpensFirst first opened) (append-nil gates)
    (before [] (no_more rest))
