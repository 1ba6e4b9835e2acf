use Rattle.std.proofs.Common.{List, subst}
use mathlib.Core.List.{IsPrefix}
use Rattle.pod_command.specs.declared.entry.Entry.{Entry}
use Rattle.pod_live.specs.Locks.{LockState}
use Rattle.pod_live.proofs.locked_store.Locked+N+D.learn_published.Goals as goal

pub returns-clause-told : goal.returns-clause-told
returns-clause-told g c =
    let told = c.learn.new.self.told in
    let published = subst (λ (entries : List Entry). IsPrefix entries told) c.tell.ensures.list c.learn.ensures.told in
    subst (λ (state : LockState g.row.D.Denot). IsPrefix state.list told) c.self.view_is published
