-- What the flag of a journal says of its last gate.
use Rattle.std.proofs.Common.{◌≡◌, ⊎_elim, ℕ, List, true, false, sym, ◌∙◌}
use Rattle.journal_log.specs.JournalState.{JournalState}
use Rattle.journal_log.specs.CleanJournal.{IsClean, IsInDoubt, IsCleanOrInDoubt}

pub true_is_false : true ≡ false → ⊥
true_is_false is = cc

-- where the flag says so, the gate is in doubt
pub in_doubt : (images : List ℕ → Type 0) (journal : JournalState) (bodies : List (List ℕ)) (body : List ℕ) → journal.doubt ≡ true → IsCleanOrInDoubt images journal bodies body → IsInDoubt images journal bodies body
in_doubt images journal bodies body is either = ⊎_elim (λ clean. absurd (true_is_false (sym is ∙ clean.certain))) (λ doubts. doubts) either

-- and where it doesn't, the journal is at rest
pub not_in_doubt : (images : List ℕ → Type 0) (journal : JournalState) (bodies : List (List ℕ)) (body : List ℕ) → journal.doubt ≡ false → IsCleanOrInDoubt images journal bodies body → IsClean images journal bodies
not_in_doubt images journal bodies body is either = ⊎_elim (λ clean. clean) (λ doubts. absurd (true_is_false (sym doubts.doubtful ∙ is))) either
