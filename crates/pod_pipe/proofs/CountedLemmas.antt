-- Faults of a run, its status, and the counts of its streams.
use Rattle.std.proofs.Common.{◌≡◌, ◌≤◌, ◌⊎◌, inl, inr, ⊎_elim, ℕ, refl, sym, subst, ◌∙◌, arith}
use Rattle.pod_base.specs.Counts.{CountIncreased}
use Rattle.pod_pipe.specs.CountedFaults.{StreamFaultsCounted, no_table}
use Rattle.pod_pipe.specs.RunStreams.{Streams}
use Rattle.pod_pipe.specs.Statuses.{ComesOf, status_of}
use Rattle.pod_pipe.specs.Tables.{TokenSource}
use Rattle.pod_pipe.specs.declared.status.PipeEnd.{PipeEnd}
use Rattle.pod_pipe.specs.declared.status.PipeEnd.TheVariants.{Peer, Cut, Closed, Limit, Upgraded, Bad, ReadFault, WriteFault, NoMemory, ReadLimit}

-- the one end of status 3
pub is_read_fault : (end : PipeEnd) → status_of end ≡ 3 → end ≡ ReadFault
is_read_fault ReadFault is = refl
is_read_fault Peer is = absurd (omega (arith, is))
is_read_fault Closed is = absurd (omega (arith, is))
is_read_fault Limit is = absurd (omega (arith, is))
is_read_fault Upgraded is = absurd (omega (arith, is))
is_read_fault NoMemory is = absurd (omega (arith, is))
is_read_fault (Cut rest) is = absurd (omega (arith, is))
is_read_fault (Bad status) is = absurd (omega (arith, is))
is_read_fault ReadLimit is = absurd (omega (arith, is))
is_read_fault WriteFault is = absurd (omega (arith, is))

-- the one end of status 4
pub is_write_fault : (end : PipeEnd) → status_of end ≡ 4 → end ≡ WriteFault
is_write_fault WriteFault is = refl
is_write_fault Peer is = absurd (omega (arith, is))
is_write_fault Closed is = absurd (omega (arith, is))
is_write_fault Limit is = absurd (omega (arith, is))
is_write_fault Upgraded is = absurd (omega (arith, is))
is_write_fault NoMemory is = absurd (omega (arith, is))
is_write_fault (Cut rest) is = absurd (omega (arith, is))
is_write_fault (Bad status) is = absurd (omega (arith, is))
is_write_fault ReadLimit is = absurd (omega (arith, is))
is_write_fault ReadFault is = absurd (omega (arith, is))

-- the last line is never a read fault
pub read_failed : (end told : PipeEnd) → ComesOf end told → told ≡ ReadFault → end ≡ ReadFault
read_failed end told (inl same) is = sym same ∙ is
read_failed end told (inr (done, fault)) is = let e : WriteFault ≡ ReadFault = sym fault ∙ is in absurd cc

rose_by : (a b c : ℕ) → CountIncreased a b → b ≤ c → CountIncreased a c
rose_by a b c rose le = λ below. omega (arith, rose (omega (arith, le, below)), le)

rose_since : (a b c : ℕ) → a ≤ b → CountIncreased b c → CountIncreased a c
rose_since a b c le rose = λ below. omega (arith, le, rose below)

-- a write that failed, in serving or at the last line
pub write_failed : (before told : PipeEnd) (output output_now errors middle errors_now : ℕ) → (told ≡ WriteFault → (before ≡ WriteFault) ⊎ CountIncreased middle errors_now)
    → (before ≡ WriteFault → CountIncreased output output_now ⊎ CountIncreased errors middle) → errors ≤ middle → middle ≤ errors_now → told ≡ WriteFault → CountIncreased output output_now ⊎ CountIncreased errors errors_now
write_failed before told output output_now errors middle errors_now line serving le le_2 is = ⊎_elim
    (λ at. ⊎_elim (λ rose. inl rose) (λ rose. inr (rose_by errors middle errors_now rose le_2)) (serving at))
    (λ rose. inr (rose_since errors middle errors_now le rose))
    (line is)

-- ---- a run whose status is that of its end, and that reads a token table or none

module _ (tokens : TokenSource) (streams : Streams) where
  counted_with : (status : ℕ) → StreamFaultsCounted no_table streams status → StreamFaultsCounted tokens streams status
  counted_with status h = record {
    read_fault = λ is. ⊎_elim (λ rose. inl rose) (λ rose. absurd (omega (arith, rose (omega arith)))) (h.read_fault is);
    write_fault = h.write_fault;
    input_faults = h.input_faults;
    output_faults = h.output_faults;
    error_faults = h.error_faults;
  }

  pub counted_at : (status end : ℕ) → status ≡ end → StreamFaultsCounted no_table streams end → StreamFaultsCounted tokens streams status
  counted_at status end is h = counted_with status (subst (StreamFaultsCounted no_table streams) (sym is) h)
