use Rattle.std.proofs.Common.{[], subst}
use Rattle.std.proofs.lemmas.Result.{err_from_is_err_and}
use Rattle.turtle_grammar.specs.declared.symbol.Start.{Start}
use Rattle.turtle_reader.specs.Readings.{IsReading}
use Rattle.turtle_reader.proofs.Walking.{starts}
use Rattle.turtle_reader.proofs.text_walk.walk.Goals as goal

pub loop-progress-init : goal.loop-progress-init
loop-progress-init g c =
    let l = g.L.Language in let base = c.args.base.now in let bytes = c.args.bytes.now in let p = c.in_ok-progress.progress in
    record {
      bytes = c.new-lexer.ensures.bytes;
      sound = c.requires.sound;
      so_far =
          starts l.symbol l.is_kept (l.is_large base bytes) base bytes c.new-lexer.result.from p c.args.kept.now c.new-lexer.ensures.from
          (subst (λ (s : Start). IsReading s base bytes [] [] [] p.reader) c.start.ensures (c.in_ok-progress.ensures.reading bytes))
          c.in_ok-progress.ensures.string c.in_ok-progress.ensures.last c.requires.empty;
    }

pub returns-in_err-read_next-clause-fault : goal.returns-in_err-read_next-clause-fault
returns-in_err-read_next-clause-fault g c =
    let p = err_from_is_err_and c.from_residual-in_err-read_next.result c.from_residual-in_err-read_next.ensures.1 in rw (p.1, p.2) c.in_err-read_next.ensures.fault

pub returns-clause-no_fault : goal.returns-clause-no_fault
returns-clause-no_fault g c = c.in_ok-read_next.ensures.no_fault c.if-branch.false
