use Rattle.std.proofs.Common.{List, ℕ, Option, Some, None}
use denote.Ref.{Bor}
use Rattle.std.specs.Option.{option_copied, IfSome, IfNone}
use Rattle.std.specs.Char.{is_ascii_digit}
use Rattle.turtle_lex.specs.Classes.{is_exponent_mark}
use Rattle.turtle_lex.specs.Pattern.{one, MatchesOnly, MatchesLongest}
use Rattle.turtle_lex.specs.Terminals.{exponent, digit}
use Rattle.turtle_lex.specs.Runs.{IsSomeRun}
use Rattle.turtle_lex.specs.Numbers.{IsSigned}
use Rattle.turtle_lex.proofs.NumberLemmas.{exponent_longest, no_exponent_digits, no_exponent_mark}
use Rattle.turtle_lex.proofs.numbers.strip_exponent.Goals as goal

by_digits : (s m t : List ℕ) (o : Option (Bor (List ℕ))) → MatchesOnly (one is_exponent_mark) s (Some m) → IsSigned m t
    → IfSome o (λ rest. IsSomeRun is_ascii_digit t rest.now) → IfNone o (MatchesOnly digit t None) → MatchesLongest exponent s (option_copied o)
by_digits s m t None h signs found none = no_exponent_digits s m t h signs none
by_digits s m t (Some e) h signs found none = exponent_longest s m t e.now h signs found

pub returns-in-Some-clause-matches : goal.returns-in-Some-clause-matches
returns-in-Some-clause-matches c = by_digits c.args.text.now c.in-Some.rest.now c.strip_sign.result.now c.strip_some.result c.in-Some.ensures.matches c.strip_sign.ensures.signed c.strip_some.ensures.found c.strip_some.ensures.none

pub returns-in-None-clause-matches : goal.returns-in-None-clause-matches
returns-in-None-clause-matches c = no_exponent_mark _ c.in-None.ensures.matches
