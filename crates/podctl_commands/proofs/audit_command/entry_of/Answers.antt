use Rattle.std.proofs.lemmas.Result.{IfOk-weaker}
use Rattle.podctl_commands.proofs.PrintedLines.{is_old_entry, is_new_entry}
use Rattle.podctl_commands.proofs.audit_command.entry_of.Goals as goal

pub old_entry-requires : goal.old_entry-requires
old_entry-requires c =
    let begins = c.is_old.ensures.yes c.if-is_old.true in
    (c.requires.0, is_old_entry c.args.body.now c.requires.0 begins.0 c.requires.1 begins.1)

pub new_entry-requires : goal.new_entry-requires
new_entry-requires c = (c.requires.0, is_new_entry c.args.body.now c.requires.0 c.requires.1 (c.is_old.ensures.no c.if-is_old.false))

pub returns-then-is_old : goal.returns-then-is_old
returns-then-is_old c =
    let begins = c.is_old.ensures.yes c.if-is_old.true in
    IfOk-weaker c.old_entry.result _ _ (λ found line entry is. line entry (is_old_entry c.args.body.now entry begins.0 is begins.1)) c.old_entry.ensures

pub returns-else-is_old : goal.returns-else-is_old
returns-else-is_old c =
    IfOk-weaker c.new_entry.result _ _ (λ found line entry is. line entry (is_new_entry c.args.body.now entry is (c.is_old.ensures.no c.if-is_old.false))) c.new_entry.ensures
