use Rattle.std.proofs.Common.{refl}
use Rattle.token_table.proofs.LineLemmas.{read_more}
use Rattle.token_table.proofs.table.Tokens.read.Goals as goal

-- one line more is read
pub loop-line-preserved : goal.loop-line-preserved
loop-line-preserved c =
    read_more c.args.bytes.now c.loop-line.rest.now c.in-Some.after.now c.loop-line.tokens c.take_line_at.new.self c.loop-line.start c.loop-line.number _ c.in-Some.line.now c.in_ok-take_line_at.field-0
    c.loop-line.invariant c.in-Some.ensures.some c.in_ok-take_line_at.ensures.good c.if-not-branch.false (c.in_ok-take_line_at.ensures.table c.if-not-branch.false) (c.in_ok-take_line_at.ensures.end c.if-not-branch.false) refl
