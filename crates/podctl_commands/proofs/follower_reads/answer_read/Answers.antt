use Rattle.podctl_commands.proofs.follower_reads.answer_read.Goals as goal

pub returns-in-Err-NotCanonical-clause-none : goal.returns-in-Err-NotCanonical-clause-none
returns-in-Err-NotCanonical-clause-none c =
    let same = c.in-Err-NotCanonical.field-0-is in
    let none = c.in-Err-NotCanonical.ensures.none cc in
    λ e agent moment request r. none agent moment request r
