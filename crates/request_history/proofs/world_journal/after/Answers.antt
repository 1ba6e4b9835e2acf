use Rattle.std.proofs.Common.{◌≡◌, ℕ, List, ◌++◌, Option, Some, None, IfSome, IfNone, MatchOption}
use Rattle.std.proofs.lemmas.Slice.Eq.{strip_prefix_is}
use Rattle.std.proofs.lemmas.Bool.Decides.{Decides-eqb}
use denote.Ref.{Bor}
use Rattle.request_history.proofs.world_journal.after.Goals as goal

some : (w s : List ℕ) (o : Option (Bor (List ℕ))) → MatchOption o ((rest : List ℕ) → s ≡ w ++ rest → ⊥) (λ x. s ≡ w ++ x.now) → IfSome o (λ rest. s ≡ w ++ rest.now)
some w s None h = tt
some w s (Some x) h = h

none : (w s : List ℕ) (o : Option (Bor (List ℕ))) → MatchOption o ((rest : List ℕ) → s ≡ w ++ rest → ⊥) (λ x. s ≡ w ++ x.now) → IfNone o ((rest : List ℕ) → s ≡ w ++ rest → ⊥)
none w s None h = h
none w s (Some x) h = tt

pub returns-clause-some : goal.returns-clause-some
returns-clause-some c = some c.args.first.now c.args.bytes.now c.strip_prefix.result (strip_prefix_is Decides-eqb _ _ _ c.strip_prefix.ensures.cases)

pub returns-clause-none : goal.returns-clause-none
returns-clause-none c = none c.args.first.now c.args.bytes.now c.strip_prefix.result (strip_prefix_is Decides-eqb _ _ _ c.strip_prefix.ensures.cases)
