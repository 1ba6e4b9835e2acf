use Rattle.std.proofs.Common.{◌≡◌, ℕ, ◌++◌, List, [], ◌∷◌, Bool, false, Option, Some, None, Ok, sym, ap, ◌∙◌, subst, rules}
use Rattle.turtle_lex.specs.declared.token.Token.{Token}
use Rattle.turtle_lex.specs.Tokens.{IsNext, IsAnswer, AreTokensTo, listed_token}
use Rattle.turtle_lex.specs.LexerState.{position_after}
use Rattle.turtle_lex.proofs.ListingLemmas.{only_tokens, only_faults, listed_more}
use Rattle.turtle_lex.proofs.TextLemmas.{tokens_of}
use Rattle.turtle_lex.proofs.token_list.tokens.Goals as goal

-- what the call said, of the bytes
next_is : (bytes seen : List ℕ) (at : ℕ) (o : Option Token) (t : Token) → seen ≡ bytes → o ≡ Some t → IsAnswer seen at (Ok o) → IsNext bytes at t
next_is bytes seen at o t same is h = subst (λ (b : List ℕ). IsNext b at t) same (subst (λ (x : Option Token). IsAnswer seen at (Ok x)) is h)

end_is : (bytes seen : List ℕ) (at : ℕ) (o : Option Token) → seen ≡ bytes → o ≡ None → IsAnswer seen at (Ok o) → IsAnswer bytes at (Ok None)
end_is bytes seen at o same is h = subst (λ (b : List ℕ). IsAnswer b at (Ok None)) same (subst (λ (x : Option Token). IsAnswer seen at (Ok x)) is h)

pub returns-in_err-token-clause-only_fault : goal.returns-in_err-token-clause-only_fault
returns-in_err-token-clause-only_fault c = only_faults c.args.bytes.now c.from_residual.result (search rules)

pub loop-list-preserved : goal.loop-list-preserved
loop-list-preserved c =
    let bytes = c.args.bytes.now in let t = c.in-Some.token in
    let next = next_is bytes c.loop-list.lexer.bytes _ _ t c.loop-list.invariant.bytes c.in-Some.is c.in_ok-token.ensures.answer in
    let more = listed_more bytes c.loop-list.list.items 0 false _ c.loop-list.after_string t c.loop-list.invariant.listed next in
    let all : List Token = c.loop-list.list.items ++ listed_token c.loop-list.after_string t ∷ [] in
    let items : c.push_token.new.list.items ≡ all = c.in_ok-push_token.ensures.pushed ∙ ap (λ (x : Token). c.loop-list.list.items ++ x ∷ []) c.listed_token.ensures in
    let at : c.next_token.new.self.from ≡ t.to = c.in_ok-token.ensures.from ∙ ap (λ (o : Option Token). position_after (Ok o) c.loop-list.lexer.from) c.in-Some.is in
    record {
      bytes = c.in_ok-token.ensures.bytes ∙ c.loop-list.invariant.bytes;
      listed =
          subst (λ (xs : List Token). AreTokensTo bytes 0 false xs c.next_token.new.self.from c.is_string-after_string.result) (sym items)
          (subst (λ (n : ℕ). AreTokensTo bytes 0 false all n c.is_string-after_string.result) (sym at)
          (subst (λ (b : Bool). AreTokensTo bytes 0 false all t.to b) (sym c.is_string-after_string.ensures) more));
    }

pub returns-clause-of_bytes : goal.returns-clause-of_bytes
returns-clause-of_bytes c = tokens_of c.args.bytes.now c.loop-list.list.items 0 false c.loop-list.lexer.from c.loop-list.after_string c.loop-list.invariant.listed

pub returns-clause-only_tokens : goal.returns-clause-only_tokens
returns-clause-only_tokens c = only_tokens c.args.bytes.now c.loop-list.list.items (
  c.loop-list.lexer.from,
  c.loop-list.after_string,
  c.loop-list.invariant.listed,
  end_is c.args.bytes.now c.loop-list.lexer.bytes _ c.in_ok-token.field-0 c.loop-list.invariant.bytes c.in_default.is c.in_ok-token.ensures.answer,
)
