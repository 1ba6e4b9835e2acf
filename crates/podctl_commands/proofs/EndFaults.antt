-- Faults of a command, its end, and the counts that increased.
use Rattle.std.proofs.Common.{◌≡◌, ◌⊎◌, inl, inr, Result, Ok, Err, refl, sym, ◌∙◌, rules, arith}
use Rattle.std.specs.Prelude.{IsErrOf}
use Rattle.pod_base.specs.Counts.{CountIncreased}
use Rattle.podctl_commands.specs.FollowEnds.{ComesOf, status_of_follow_end}
use Rattle.podctl_commands.specs.Records.{printed_end}
use Rattle.podctl_commands.specs.declared.follow_end.FollowEnd.{FollowEnd}
use Rattle.podctl_commands.specs.declared.follow_end.FollowEnd.TheVariants as follow
use Rattle.podctl_commands.specs.declared.store_end.StoreEnd.TheVariants as ends
use Rattle.podctl_commands.specs.declared.store_printing.PrintFault.{PrintFault}
use Rattle.podctl_commands.specs.declared.store_printing.PrintFault.TheVariants as printing

-- ---- what was printed

pub printed_fails : (printed : Result (Unit {0}) PrintFault) → printed_end printed ≡ ends.WriteFault → IsErrOf printed printing.WriteFault
printed_fails (Ok done) e = absurd (search (rules, e))
printed_fails (Err printing.WriteFault) e = refl
printed_fails (Err printing.NoMemory) e = absurd (search (rules, e))

pub printed_disk : (printed : Result (Unit {0}) PrintFault) → printed_end printed ≡ ends.DiskFault → ⊥
printed_disk (Ok done) e = search (rules, e)
printed_disk (Err printing.WriteFault) e = search (rules, e)
printed_disk (Err printing.NoMemory) e = search (rules, e)

-- ---- a follower

pub is_read_fault : (end : FollowEnd) → status_of_follow_end end ≡ 3 → end ≡ follow.ReadFault
is_read_fault follow.ReadFault is = refl
is_read_fault (follow.Done next) is = absurd (omega (arith, is))
is_read_fault (follow.BadFrame frame) is = absurd (omega (arith, is))
is_read_fault follow.WriteFault is = absurd (omega (arith, is))
is_read_fault follow.NoMemory is = absurd (omega (arith, is))
is_read_fault follow.ReadLimit is = absurd (omega (arith, is))

pub is_write_fault : (end : FollowEnd) → status_of_follow_end end ≡ 4 → end ≡ follow.WriteFault
is_write_fault follow.WriteFault is = refl
is_write_fault (follow.Done next) is = absurd (omega (arith, is))
is_write_fault (follow.BadFrame frame) is = absurd (omega (arith, is))
is_write_fault follow.ReadFault is = absurd (omega (arith, is))
is_write_fault follow.NoMemory is = absurd (omega (arith, is))
is_write_fault follow.ReadLimit is = absurd (omega (arith, is))

-- the last line is never a read fault
pub read_failed : (end told : FollowEnd) → ComesOf end told → told ≡ follow.ReadFault → end ≡ follow.ReadFault
read_failed end told (inl same) is = sym same ∙ is
read_failed end told (inr (done, fault)) is = let e : follow.WriteFault ≡ follow.ReadFault = sym fault ∙ is in absurd (search (rules, e))

-- a write failed at the last line, or before it
pub rose : {A P Q : Type 0} → A ⊎ Q → (A → P) → P ⊎ Q
rose (inl a) from = inl (from a)
rose (inr q) from = inr q
