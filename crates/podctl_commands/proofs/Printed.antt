-- What was printed, by the end.
use Rattle.std.proofs.Common.{◌≡◌, ◌⊎◌, inl, inr, ℕ, List, map, length, Option, Result, Ok, Err, ◌∙◌, ap, subst}
use Rattle.std.proofs.lemmas.List.{length-map}
use Rattle.pod_io.specs.Writing.{Writes}
use Rattle.pod_command.specs.declared.entry.Entry.{Entry}
use Rattle.pod_command.specs.declared.snapshot.Snapshot.{Snapshot}
use Rattle.pod_keeper.specs.KeeperState.{KeeperState}
use Rattle.pod_keeper.specs.OpenedPods.{IsOpened}
use Rattle.pod_records.specs.Records.{entry_text}
use Rattle.podctl_commands.specs.Prints.{IsStoreOf, Prints}
use Rattle.podctl_commands.specs.Records.{printed_end}
use Rattle.podctl_commands.specs.Ends.{IsMadeEnd}
use Rattle.podctl_commands.specs.Texts.{check_text, counts_line}
use Rattle.podctl_commands.specs.declared.store_end.StoreEnd.{StoreEnd}
use Rattle.podctl_commands.specs.declared.store_end.StoreEnd.TheVariants as ends
use Rattle.podctl_commands.specs.declared.store_printing.PrintFault.{PrintFault}
use Rattle.podctl_commands.specs.declared.store_printing.PrintFault.TheVariants as printing

-- a store that was opened
module _ (text : Snapshot → List Entry → List ℕ) (first second old new : Option (List ℕ)) (snapshot : Snapshot) (entries : List Entry) (opened : IsStoreOf first second snapshot entries) where
  pub prints : (printed : Result (Unit {0}) PrintFault) → Writes printed (text snapshot entries) old new → Prints text first second old new (printed_end printed)
  prints (Ok done) w = record { snapshot = snapshot; entries = entries; opened = opened; printed = w.whole }
  prints (Err printing.WriteFault) w = record { snapshot = snapshot; entries = entries; opened = opened; count = w.part.0; printed = w.part.2 }
  prints (Err printing.NoMemory) w = inr (record { snapshot = snapshot; entries = entries; opened = opened; count = w.part.0; printed = w.part.2 })

-- the counts of that store
counts_same : (rows rows_2 entries entries_2 next next_2 : ℕ) → rows ≡ rows_2 → entries ≡ entries_2 → next ≡ next_2 → counts_line rows entries next ≡ counts_line rows_2 entries_2 next_2
counts_same rows rows_2 entries entries_2 next next_2 a b c = ap (λ n. counts_line n entries next) a ∙ ap (λ n. counts_line rows_2 n next) b ∙ ap (λ n. counts_line rows_2 entries_2 n) c

pub checked : {D T E : Type 0} (image : D → List ℕ → Type 0) (first second : Option (List ℕ)) (bodies : List (List ℕ)) (keeper : KeeperState D) (h : IsOpened image first second bodies keeper) (records : List (List ℕ)) → records ≡ map (entry_text keeper.pair.journal.format) h.entries
    → (printed : Result T E) (old new : Option (List ℕ)) → Writes printed (counts_line (length keeper.pod.rows) (length records) keeper.next) old new → Writes printed (check_text h.snapshot h.entries) old new
checked image first second bodies keeper h records are printed old new w =
    subst (λ text. Writes printed text old new)
    (counts_same _ _ _ _ _ _ (ap (λ p. length p.rows) h.kept.pod) (ap length are ∙ length-map h.entries (entry_text keeper.pair.journal.format)) h.kept.next) w

-- making a store on empty disks without memory
pub is_memory : (end : StoreEnd) → IsMadeEnd end → (end ≡ ends.NotEmpty) ⊎ (end ≡ ends.NoMemory) → end ≡ ends.NoMemory
is_memory end made (inl e) = absurd (subst IsMadeEnd e made)
is_memory end made (inr e) = e
