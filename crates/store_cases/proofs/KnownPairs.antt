-- What is known of a pair after each call.
use Rattle.std.proofs.Common.{◌≡◌, ◌⊎◌, inl, inr, ◌+◌, ◌<◌, ◌≤◌, ◌^◌, ℕ, List, [], ◌∷◌, ◌||◌, true, false, arith, subst, sym, ⊎_elim}
use Rattle.std.proofs.lemmas.Bool.{cases_lt}
use Rattle.journal_pair.specs.PairState.{PairState}
use Rattle.journal_pair.specs.PairJournal.{IsPairClean, IsAppendInDoubt, IsCheckpointInDoubt, IsPairInDoubt}
use Rattle.journal_pair.specs.Checkpointed.{IsCheckpointed}
use Rattle.pod_disk.specs.NotedCalls.{DiskState, MayLeave}
use Rattle.store_cases.specs.Known.{IsKnown}

module _ (first second : DiskState) (pair : PairState) where
  -- where no gate is in doubt it is clean
  pub clean_of : (pair.checkpoint || pair.journal.doubt) ≡ false → IsKnown first second pair → (bodies : List (List ℕ)) × IsPairClean MayLeave first second pair bodies
  clean_of is (inl clean) = clean
  clean_of is (inr (bodies, body, inl append)) = absurd (cc (is, append.certain, append.journal.doubtful))
  clean_of is (inr (bodies, body, inr checkpoint)) = absurd (cc (is, checkpoint.doubtful))

  -- and else one is
  pub doubt_of : (pair.checkpoint || pair.journal.doubt) ≡ true → IsKnown first second pair → (bodies : List (List ℕ)) × (body : List ℕ) × IsPairInDoubt MayLeave first second pair bodies body
  doubt_of is (inl (bodies, clean)) = absurd (cc (is, clean.certain, clean.journal.certain))
  doubt_of is (inr doubt) = doubt

-- a fault of an append, and of a checkpoint
pub known_append : (first second : DiskState) (pair : PairState) (bodies : List (List ℕ)) (body : List ℕ) → IsPairClean MayLeave first second pair bodies ⊎ IsAppendInDoubt MayLeave first second pair bodies body → IsKnown first second pair
known_append first second pair bodies body (inl clean) = inl (bodies, clean)
known_append first second pair bodies body (inr doubt) = inr (bodies, body, inl doubt)

pub known_checkpoint : (first second : DiskState) (pair : PairState) (bodies : List (List ℕ)) (body : List ℕ) → IsPairClean MayLeave first second pair bodies ⊎ IsCheckpointInDoubt MayLeave first second pair bodies body → IsKnown first second pair
known_checkpoint first second pair bodies body (inl clean) = inl (bodies, clean)
known_checkpoint first second pair bodies body (inr doubt) = inr (bodies, body, inr doubt)

-- a checkpoint that was made, or that is none at the last epoch
pub known_made : (first second first_new second_new : DiskState) (pair pair_new : PairState) (bodies : List (List ℕ)) (snapshot : List ℕ)
    → IsPairClean MayLeave first second pair bodies
    → (pair.journal.epoch < 2 ^ 63 → IsCheckpointed MayLeave first_new second_new pair pair_new snapshot)
    → (pair.journal.epoch ≡ 2 ^ 63 → (pair_new ≡ pair) × (first_new ≡ first) × (second_new ≡ second))
    → IsKnown first_new second_new pair_new
known_made first second first_new second_new pair pair_new bodies snapshot clean made same = ⊎_elim
    (λ less. inl (snapshot ∷ [], (made less).clean))
    (λ more. inl (bodies, unchanged (omega (arith, more, clean.journal.is_prefix.known.most))))
    (cases_lt pair.journal.epoch (2 ^ 63))
  where
    unchanged : pair.journal.epoch ≡ 2 ^ 63 → IsPairClean MayLeave first_new second_new pair_new bodies
    unchanged last =
        let kept = same last in
        subst (λ (p : PairState). IsPairClean MayLeave first_new second_new p bodies) (sym kept.0)
        (subst (λ (d : DiskState). IsPairClean MayLeave d second_new pair bodies) (sym kept.1)
        (subst (λ (d : DiskState). IsPairClean MayLeave first d pair bodies) (sym kept.2) clean))
