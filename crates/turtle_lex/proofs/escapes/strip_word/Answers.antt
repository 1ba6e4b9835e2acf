use Rattle.std.proofs.Common.{◌≡◌, ◌≢◌, ℕ, List, ◌++◌, Option, Some, None, MatchOption}
use Rattle.std.proofs.lemmas.Slice.Eq.{strip_prefix_is}
use Rattle.std.proofs.lemmas.Bool.Decides.{Decides-eqb}
use Rattle.std.specs.Option.{option_copied}
use denote.Ref.{Bor}
use Rattle.turtle_lex.specs.Pattern.{word, MatchesOnly}
use Rattle.turtle_lex.proofs.Matching.{word_found, word_refused}
use Rattle.turtle_lex.proofs.escapes.strip_word.Goals as goal

stripped : (w s : List ℕ) (o : Option (Bor (List ℕ))) → MatchOption o ((rest : List ℕ) → s ≢ w ++ rest) (λ x. s ≡ w ++ x.now) → MatchesOnly (word w) s (option_copied o)
stripped w s None h = word_refused w s h
stripped w s (Some x) h = word_found w s x.now h

pub returns-clause-matches : goal.returns-clause-matches
returns-clause-matches c = stripped c.args.spelling.now c.args.text.now c.strip_prefix.result (strip_prefix_is Decides-eqb _ _ _ c.strip_prefix.ensures.cases)
