use Rattle.std.proofs.Common.{◌≡◌, Option, Ok, subst}
use Rattle.std.proofs.lemmas.Bool.{OnFalse_at, OnTrue_at}
use Rattle.turtle_grammar.specs.declared.symbol.Start.{Start}
use Rattle.turtle_reader.specs.declared.lexeme.Lexeme.{Lexeme}
use Rattle.turtle_reader.specs.Texts.{IsLexed}
use Rattle.turtle_reader.proofs.Walking.{lexer_fault, reader_fault, unfinished, complete, one_more}
use Rattle.turtle_reader.proofs.text_walk.read_next.Goals as goal

pub returns-in-Some-clause-fault : goal.returns-in-Some-clause-fault
returns-in-Some-clause-fault g c = λ other.
    let l = g.L.Language in let base = c.args._base.now in let bytes = c.args.bytes.now in let from = c.args.lexer.now.from in let h = c.requires.so_far in
    let lexed = subst (λ (s : Start). IsLexed s bytes from c.args.progress.now.after_string c.next_lexeme-next.result) c.start.ensures c.next_lexeme-next.ensures.answer in
    rw c.in-Some.is at (c.in_ok-at.ensures.sizes base from h lexed)

pub returns-in_ok-keep_all-in-Ok-clause-more : goal.returns-in_ok-keep_all-in-Ok-clause-more
returns-in_ok-keep_all-in-Ok-clause-more g c = λ e.
    let l = g.L.Language in let base = c.args._base.now in let bytes = c.args.bytes.now in let from = c.args.lexer.now.from in let h = c.requires.so_far in
    let lexed = subst (λ (s : Start). IsLexed s bytes from c.args.progress.now.after_string c.next_lexeme-next.result) c.start.ensures c.next_lexeme-next.ensures.answer in
    let fits = rw c.in-None.is at (c.in_ok-at.ensures.sizes base from h lexed) in
    let keeps = rw c.produced.ensures at c.in_ok-keep_all-in-Ok.ensures.kept in
    one_more (l.is_large base bytes) l.symbol base bytes h c.next_lexeme-next.result lexed fits c.in-Ok-Some.lexeme (subst (λ (o : Option Lexeme). c.next_lexeme-next.result ≡ Ok o) (rw c.in-Ok-Some.is at c.in-Ok-Some.field-0-is) c.in-Ok-Some.is)
    c.next_lexeme-next.new.lexer.from c.next_lexeme-next.ensures.from c.too_large.new.kept c.keep_all.new.kept c.step.new.self c.is_string-progress.result c.in_ok-at.ensures.kept
    c.in-Ok.ensures.read keeps c.is_string-progress.ensures c.in-Ok.ensures.string

pub returns-in-Err-step-clause-fault : goal.returns-in-Err-step-clause-fault
returns-in-Err-step-clause-fault g c =
    let l = g.L.Language in let base = c.args._base.now in let bytes = c.args.bytes.now in let from = c.args.lexer.now.from in let h = c.requires.so_far in
    let lexed = subst (λ (s : Start). IsLexed s bytes from c.args.progress.now.after_string c.next_lexeme-next.result) c.start.ensures c.next_lexeme-next.ensures.answer in
    let fits = rw c.in-None.is at (c.in_ok-at.ensures.sizes base from h lexed) in
    reader_fault (l.is_large base bytes) l.symbol base bytes h c.next_lexeme-next.result lexed fits c.in-Ok-Some.lexeme
    (subst (λ (o : Option Lexeme). c.next_lexeme-next.result ≡ Ok o) (rw c.in-Ok-Some.is at c.in-Ok-Some.field-0-is) c.in-Ok-Some.is) c.in-Err-step.fault c.in-Err-step.ensures.refused

pub returns-in-Ok-None-clause-no_fault : goal.returns-in-Ok-None-clause-no_fault
returns-in-Ok-None-clause-no_fault g c = λ e.
    let l = g.L.Language in let base = c.args._base.now in let bytes = c.args.bytes.now in let from = c.args.lexer.now.from in let h = c.requires.so_far in
    let lexed = subst (λ (s : Start). IsLexed s bytes from c.args.progress.now.after_string c.next_lexeme-next.result) c.start.ensures c.next_lexeme-next.ensures.answer in
    let fits = rw c.in-None.is at (c.in_ok-at.ensures.sizes base from h lexed) in
    complete (l.is_large base bytes) l.symbol base bytes h c.next_lexeme-next.result lexed fits
    (subst (λ (o : Option Lexeme). c.next_lexeme-next.result ≡ Ok o) (rw c.in-Ok-None.is at c.in-Ok-None.field-0-is) c.in-Ok-None.is) (OnTrue_at c.if-is_complete.true c.is_complete.ensures.complete)

pub returns-in-Ok-None-2-clause-fault : goal.returns-in-Ok-None-2-clause-fault
returns-in-Ok-None-2-clause-fault g c = rw c.fault_at.ensures (λ other.
    let l = g.L.Language in let base = c.args._base.now in let bytes = c.args.bytes.now in let from = c.args.lexer.now.from in let h = c.requires.so_far in
    let lexed = subst (λ (s : Start). IsLexed s bytes from c.args.progress.now.after_string c.next_lexeme-next.result) c.start.ensures c.next_lexeme-next.ensures.answer in
    let fits = rw c.in-None.is at (c.in_ok-at.ensures.sizes base from h lexed) in
    unfinished (l.is_large base bytes) l.symbol base bytes h c.next_lexeme-next.result lexed fits
    (subst (λ (o : Option Lexeme). c.next_lexeme-next.result ≡ Ok o) (rw c.in-Ok-None-2.is at c.in-Ok-None-2.field-0-is) c.in-Ok-None-2.is) (OnFalse_at c.if-is_complete.false c.is_complete.ensures.unfinished))

pub returns-in-Err-clause-fault : goal.returns-in-Err-clause-fault
returns-in-Err-clause-fault g c = rw c.document_fault.ensures (
    let l = g.L.Language in let base = c.args._base.now in let bytes = c.args.bytes.now in let from = c.args.lexer.now.from in let h = c.requires.so_far in
    let lexed = subst (λ (s : Start). IsLexed s bytes from c.args.progress.now.after_string c.next_lexeme-next.result) c.start.ensures c.next_lexeme-next.ensures.answer in
    let fits = rw c.in-None.is at (c.in_ok-at.ensures.sizes base from h lexed) in
    lexer_fault (l.is_large base bytes) l.symbol base bytes h c.next_lexeme-next.result lexed fits c.in-Err.fault c.in-Err.is)
