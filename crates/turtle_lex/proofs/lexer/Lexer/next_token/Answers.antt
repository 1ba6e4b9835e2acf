use mathlib.Core.List.{IsSuffix}
use Rattle.std.proofs.Common.{◌≡◌, ℕ, List, Option, Some, Ok, drop, sym, subst, rules}
use Rattle.turtle_lex.specs.declared.token.Token.{Token}
use Rattle.turtle_lex.specs.Names.{HasNoPrefixBefore}
use Rattle.turtle_lex.specs.Tokens.{IsNext, IsAnswer}
use Rattle.turtle_lex.proofs.NameLemmas.{known_after}
use Rattle.turtle_lex.proofs.NextLemmas.{one_answer, drop_is_suffix}
use Rattle.turtle_lex.proofs.ListingLemmas.{text_at_next, after_next}
use Rattle.turtle_lex.proofs.TextLemmas.{answer_of}
use Rattle.turtle_lex.proofs.lexer.Lexer.next_token.Goals as goal

-- the next token, by what the call said
next_is : (bytes : List ℕ) (at : ℕ) (o : Option Token) (t : Token) → o ≡ Some t → IsAnswer bytes at (Ok o) → IsNext bytes at t
next_is bytes at o t is h = subst (λ (x : Option Token). IsAnswer bytes at (Ok x)) is h

pub returns-in_err-answer-clause-only : goal.returns-in_err-answer-clause-only
returns-in_err-answer-clause-only c =
    let here : IsAnswer c.args.self.now.bytes c.args.self.now.from c.from_residual.result = search rules in
    λ other h. one_answer c.args.self.now.bytes c.args.self.now.from other c.from_residual.result h here

pub returns-in_default-clause-only : goal.returns-in_default-clause-only
returns-in_default-clause-only c =
    let here : IsAnswer c.args.self.now.bytes c.args.self.now.from (Ok c.in_ok-answer.answer) = search rules in
    λ other h. one_answer c.args.self.now.bytes c.args.self.now.from other (Ok c.in_ok-answer.answer) h here

pub returns-in-Some-clause-only : goal.returns-in-Some-clause-only
returns-in-Some-clause-only c =
    let here : IsAnswer c.args.self.now.bytes c.args.self.now.from (Ok (Some c.in-Some.token)) = search rules in
    λ other h. one_answer c.args.self.now.bytes c.args.self.now.from other (Ok (Some c.in-Some.token)) h here

pub returns-in_default-clause-of_bytes : goal.returns-in_default-clause-of_bytes
returns-in_default-clause-of_bytes c =
    let here : IsAnswer c.args.self.now.bytes c.args.self.now.from (Ok c.in_ok-answer.answer) = search rules in
    answer_of c.args.self.now.bytes c.args.self.now.from (Ok c.in_ok-answer.answer) here

pub returns-in-Some-clause-of_bytes : goal.returns-in-Some-clause-of_bytes
returns-in-Some-clause-of_bytes c =
    let here : IsAnswer c.args.self.now.bytes c.args.self.now.from (Ok (Some c.in-Some.token)) = search rules in
    answer_of c.args.self.now.bytes c.args.self.now.from (Ok (Some c.in-Some.token)) here

pub no_prefix_after_token-self-inside-requires : goal.no_prefix_after_token-self-inside-requires
no_prefix_after_token-self-inside-requires c =
    let next = next_is c.self.inside.bytes.now _ c.in_ok-answer.answer c.in-Some.token c.in-Some.is c.in_ok-answer.ensures in
    subst (λ (u : List ℕ). HasNoPrefixBefore u c.self.inside.no_prefix_before.now) (sym c.split_at.ensures.back)
    (known_after c.self.inside.text.now (drop c.in-Some.token.from c.self.inside.bytes.now) c.self.inside.no_prefix_before.now
    (text_at_next c.self.inside.bytes.now c.self.inside.text.now c.in-Some.token c.self.invariant.suffix next) c.self.invariant.known)

pub invariant_of-self : goal.invariant_of-self
invariant_of-self c =
    let next = next_is c.self.inside.bytes.now _ c.in_ok-answer.answer c.in-Some.token c.in-Some.is c.in_ok-answer.ensures in
    let here = sym c.split_at-in-Some.ensures.back in
    let no_prefix_before = subst (λ (u : List ℕ). HasNoPrefixBefore u c.no_prefix_after_token-self-inside.result.now) c.split_at.ensures.back c.no_prefix_after_token-self-inside.ensures in
    record {
      suffix = subst (λ (u : List ℕ). IsSuffix u c.self.inside.bytes.now) here (drop_is_suffix c.in-Some.token.to c.self.inside.bytes.now);
      known = subst (λ (u : List ℕ). HasNoPrefixBefore u c.no_prefix_after_token-self-inside.result.now) here
          (known_after (drop c.in-Some.token.from c.self.inside.bytes.now) (drop c.in-Some.token.to c.self.inside.bytes.now) c.no_prefix_after_token-self-inside.result.now
          (after_next c.self.inside.bytes.now _ c.in-Some.token next) no_prefix_before);
    }
