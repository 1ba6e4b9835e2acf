use Rattle.std.proofs.Common.{arith, subst, ap, length, ⊎_elim}
use Rattle.podctl_commands.proofs.Printed.{is_memory}
use Rattle.podctl_commands.proofs.init_command.init.Goals as goal

pub returns-then-empty-clause-left : goal.returns-then-empty-clause-left
returns-then-empty-clause-left g c = λ ended a b left left_2.
    let memory = is_memory c.make.result c.make.ensures.ends ended in
    c.in-Ok.ensures.left a b
    (subst (λ disk. g.D.Disk.left_since disk (g.D.Disk.moment c.args.disks.now.first) a) (c.make.ensures.memory_first memory) left)
    (subst (λ disk. g.D.Disk.left_since disk (g.D.Disk.moment c.args.disks.now.second) b) (c.make.ensures.memory_second memory) left_2)

pub returns-else-empty-clause-not_empty : goal.returns-else-empty-clause-not_empty
returns-else-empty-clause-not_empty g c = λ _. c.in-Ok.ensures.no c.if-empty.false

pub returns-then-empty-clause-stays : goal.returns-then-empty-clause-stays
returns-then-empty-clause-stays g c =
    ⊎_elim
    (λ held. absurd (omega (
      arith,
      held.some,
      ap length (c.in-Ok.ensures.first c.if-empty.true held.bytes held.shown),
    )))
    (λ held. absurd (omega (
      arith,
      held.some,
      ap length (c.in-Ok.ensures.second c.if-empty.true held.bytes held.shown),
    )))
