use Rattle.std.proofs.Common.{ℕ, List, Option, Some, None, IfSome, IfNone}
use Rattle.turtle_lex.specs.declared.numbers.Number.{Number}
use Rattle.turtle_lex.specs.Numbers.{body, signed, IsLongestNumber, HasNoNumber, IsSigned}
use Rattle.turtle_lex.proofs.NumberLemmas.{signed_longest, no_signed}
use Rattle.turtle_lex.proofs.numbers.longest_number.Goals as goal

found : {T : Type 0} (s t : List ℕ) (o : Option T) (kind : T → Number) (rest : T → List ℕ) → IsSigned s t
    → IfSome o (λ n. IsLongestNumber body (kind n) t (rest n)) → IfSome o (λ n. IsLongestNumber signed (kind n) s (rest n))
found s t None kind rest signs h = tt
found s t (Some n) kind rest signs h = signed_longest s t (rest n) (kind n) signs h

none : {T : Type 0} (s t : List ℕ) (o : Option T) → IsSigned s t → IfNone o (HasNoNumber body t) → IfNone o (HasNoNumber signed s)
none s t None signs h = no_signed s t signs h
none s t (Some n) signs h = tt

pub returns-clause-found : goal.returns-clause-found
returns-clause-found c = found _ _ c.unsigned_number.result (λ n. n.0) (λ n. n.1.now) c.strip_sign.ensures.signed c.unsigned_number.ensures.found

pub returns-clause-none : goal.returns-clause-none
returns-clause-none c = none _ _ c.unsigned_number.result c.strip_sign.ensures.signed c.unsigned_number.ensures.none
