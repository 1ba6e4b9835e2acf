use Rattle.std.proofs.Common.{◌∙◌, ℕ, List, subst}
use Rattle.std.specs.BTreeSet.{contains}
use Rattle.std.specs.Ordering.{nat_cmp}
use Rattle.turtle_lex.specs.Tokens.{IsNext}
use Rattle.turtle_reader.specs.Taken.{HasEnd}
use Rattle.turtle_reader.proofs.DocumentLemmas.{read_more, read_all}
use Rattle.turtle_reader.proofs.label_numbers.taken_numbers.Goals as goal

pub loop-token-preserved : goal.loop-token-preserved
loop-token-preserved c =
    let bytes = c.args.bytes.now in let l = c.loop-token in
    record {
      bytes = c.next_token.ensures.bytes ∙ l.invariant.bytes;
      read = read_more bytes l.lexer.from c.next_token.new.lexer.from (contains nat_cmp l.taken) (contains nat_cmp c.insert_number.new.taken) c.in-Some.token l.invariant.read
          (subst (λ (b : List ℕ). IsNext b l.lexer.from c.in-Some.token) l.invariant.bytes c.in-Some.ensures.next) c.in-Some.ensures.from c.in_ok-insert_number.ensures;
    }

pub returns-clause-written : goal.returns-clause-written
returns-clause-written c =
    (read_all c.args.bytes.now c.loop-token.lexer.from (contains nat_cmp c.loop-token.taken) c.loop-token.invariant.read
    (subst (λ (b : List ℕ). HasEnd b c.loop-token.lexer.from) c.loop-token.invariant.bytes c.in_default.ensures.end)).0
