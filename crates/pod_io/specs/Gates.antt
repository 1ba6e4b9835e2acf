-- What gates and listeners give, and what they get back.
use Rattle.std.specs.Prelude.{◌≡◌, ℕ, ◌≤◌, List, [], ◌∷◌, ◌++◌, Option, Result}
use Rattle.std.specs.Prelude.{if◌then◌else◌, IfOk, IfNone, OnErr, is_some, is_none}
use Rattle.std.specs.Option.{option_map, option_to_list}
use Rattle.pod_io.specs.Counts.{next_count}

-- A gate gives the first of the connections that are left, where it shows them, and none only where
-- none are left. After a call that failed they are unchanged.
pub record GivesFirst {T E : Type 0} (result : Result (Option T) E)
    (old new : Option (List T)) : Type 0 where
  pub first : IfOk result (λ found. old ≡ option_map (λ rest. option_to_list found ++ rest) new)
  pub ended : IfOk result (λ found. IfNone found (new ≡ option_map (λ _. []) old))
  pub whole : OnErr result (new ≡ old)

-- what came back, where it is shown, has this item too, as its last
abbrev pub TakesBack : {T : Type 0} → T → Option (List T) → Option (List T) → Type 0
TakesBack item old new = new ≡ option_map (λ back. back ++ item ∷ []) old

-- a connection that was given is counted
pub record CountsGiven {T E : Type 0} (result : Result (Option T) E) (old new : ℕ) : Type 0 where
  pub no_fewer : old ≤ new
  pub given : IfOk result (λ found. new ≡ (if is_some found then next_count old else old))
  pub failed : OnErr result (new ≡ old)

-- a call that found no more connections is counted
pub record CountsLast {T E : Type 0} (result : Result (Option T) E) (old new : ℕ) : Type 0 where
  pub no_fewer : old ≤ new
  pub found : IfOk result (λ found. new ≡ (if is_none found then next_count old else old))
  pub failed : OnErr result (new ≡ old)

-- The gates that a listener opened are the first of those that it has left, as long as there are
-- some: one list is a prefix of the other.
abbrev pub OpensFirst : {T : Type 0} → List T → List T → Type 0
OpensFirst [] gates = Unit {0}
OpensFirst (gate ∷ rest) [] = Unit {0}
OpensFirst (gate ∷ rest) (opened ∷ gates) = (opened ≡ gate) × OpensFirst rest gates
