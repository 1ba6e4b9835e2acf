use Rattle.std.proofs.Common.{List, refl, subst}
use mathlib.Core.List.{IsPrefix}
use Rattle.pod_command.specs.declared.entry.Entry.{Entry}
use Rattle.pod_live.specs.Locks.{LockState}
use Rattle.pod_live.specs.Visits.{Visit}
use Rattle.pod_live.proofs.live.Live+N+D.try_commit.Goals as goal

pub decide-done-requires : goal.decide-done-requires
decide-done-requires g c =
    let published = c.tell.result in
    let prefix : IsPrefix c.seen.result.now published = c.if-not-is_prefix_of.ensures.prefix refl in
    let seen = subst (λ (entries : List Entry). IsPrefix entries published) c.seen.ensures prefix in
    let visited = subst (λ (visit : Visit). IsPrefix visit.seen published) c.session.view_is seen in
    let listed = subst (λ (entries : List Entry). IsPrefix c.args.session.now.seen entries) c.tell.ensures.list visited in
    record { seen = subst (λ (state : LockState g.row.D.Denot). IsPrefix c.args.session.now.seen state.list) c.locked.view_is listed; change = c.requires }
