-- Versions after the entries of a history.
use Rattle.std.proofs.Common.{◌≡◌, ◌+◌, ◌-◌, ◌≤◌, ℕ, suc, Bool, true, false, cond, List, [], ◌∷◌, ◌++◌, length, refl, sym, ap, ◌∙◌, arith, append_assoc}
use Rattle.std.specs.Prelude.{nat_le}
use Rattle.std.proofs.lemmas.Bool.{leb-true, le-leb, leb-false}
use Rattle.std.proofs.lemmas.List.{append-nil}
use Rattle.pod_command.specs.declared.entry.Entry.{Entry}
use Rattle.pod_command.specs.declared.snapshot.Snapshot.{Snapshot}
use Rattle.pod_rows.specs.Apply.{replayed}
use Rattle.pod_rows.specs.WellFormed.{pod_of}
use Rattle.pod_pages.specs.Effects.{entry_effects, history_effects, kept_effects, oldest_after}
use Rattle.pod_pages.specs.State.{VersionState, first_state, state_after, states_after}
use Rattle.pod_pages.specs.declared.entry_effects.Effect.{Effect}
use Rattle.pod_pages.proofs.EditSteps.{filter_append}

pub pod_replayed : (v : VersionState) (history : List Entry) → (states_after v history).pod ≡ replayed v.pod history
pod_replayed v [] = refl
pod_replayed v (entry ∷ more) = pod_replayed (state_after v entry) more

pub next_replayed : (v : VersionState) (history : List Entry) → (states_after v history).next ≡ v.next + length history
next_replayed v [] = omega arith
next_replayed v (entry ∷ more) = next_replayed (state_after v entry) more ∙ omega arith

-- ---- the oldest entry

pub oldest_grows : (oldest next : ℕ) → oldest ≤ oldest_after oldest next
oldest_grows oldest next = by_test (nat_le oldest (next - 256)) refl
  where
    by_test : (b : Bool) → nat_le oldest (next - 256) ≡ b → oldest ≤ cond b (next - 256) oldest
    by_test true e = leb-true oldest (next - 256) e
    by_test false e = omega arith

oldest_least : (oldest next : ℕ) → next - 256 ≤ oldest_after oldest next
oldest_least oldest next = by_test (nat_le oldest (next - 256)) refl
  where
    by_test : (b : Bool) → nat_le oldest (next - 256) ≡ b → next - 256 ≤ cond b (next - 256) oldest
    by_test true e = omega arith
    by_test false e = omega (arith, leb-false oldest (next - 256) e)

oldest_same : (oldest next : ℕ) → next - 256 ≤ oldest → oldest_after oldest next ≡ oldest
oldest_same oldest next h = by_test (nat_le oldest (next - 256)) refl
  where
    by_test : (b : Bool) → nat_le oldest (next - 256) ≡ b → cond b (next - 256) oldest ≡ oldest
    by_test true e = omega (arith, h, leb-true oldest (next - 256) e)
    by_test false e = refl

oldest_twice : (oldest next later : ℕ) → next ≤ later → oldest_after (oldest_after oldest next) later ≡ oldest_after oldest later
oldest_twice oldest next later h = by_test (nat_le oldest (next - 256)) refl
  where
    by_later : (c : Bool) → nat_le oldest (later - 256) ≡ c → oldest ≤ next - 256 → oldest_after (next - 256) later ≡ cond c (later - 256) oldest
    by_later true e k = ap (λ (b : Bool). cond b (later - 256) (next - 256)) (le-leb (next - 256) (later - 256) (omega (arith, h)))
    by_later false e k = absurd (omega (arith, h, k, leb-false oldest (later - 256) e))

    by_test : (b : Bool) → nat_le oldest (next - 256) ≡ b → oldest_after (cond b (next - 256) oldest) later ≡ oldest_after oldest later
    by_test true e = by_later (nat_le oldest (later - 256)) refl (leb-true oldest (next - 256) e)
    by_test false e = refl

grows : (v : VersionState) (history : List Entry) → v.oldest ≤ (states_after v history).oldest
grows v [] = omega arith
grows v (entry ∷ more) = omega (arith, grows (state_after v entry) more, oldest_grows v.oldest (v.next + 1))

oldest_replayed : (v : VersionState) (history : List Entry) → v.next - 256 ≤ v.oldest → (states_after v history).oldest ≡ oldest_after v.oldest (v.next + length history)
oldest_replayed v [] h = sym (ap (oldest_after v.oldest) (zero_more v.next) ∙ oldest_same v.oldest v.next h)
  where
    zero_more : (n : ℕ) → n + 0 ≡ n
    zero_more n = omega arith
oldest_replayed v (entry ∷ more) h =
    oldest_replayed (state_after v entry) more (oldest_least v.oldest (v.next + 1))
    ∙ oldest_twice v.oldest (v.next + 1) (v.next + 1 + length more) (omega arith)
    ∙ ap (oldest_after v.oldest) (one_more v.next (length more))
  where
    one_more : (n m : ℕ) → n + 1 + m ≡ n + suc m
    one_more n m = omega arith

-- ---- the effects

pub kept_later : (oldest later : ℕ) → oldest ≤ later → (xs : List Effect) → kept_effects later (kept_effects oldest xs) ≡ kept_effects later xs
kept_later oldest later h [] = refl
kept_later oldest later h (x ∷ xs) = by_tests (nat_le oldest x.seq) (nat_le later x.seq) refl refl (kept_later oldest later h xs)
  where
    by_tests : (a b : Bool) → nat_le oldest x.seq ≡ a → nat_le later x.seq ≡ b → kept_effects later (kept_effects oldest xs) ≡ kept_effects later xs
        → kept_effects later (cond a (x ∷ kept_effects oldest xs) (kept_effects oldest xs)) ≡ cond b (x ∷ kept_effects later xs) (kept_effects later xs)
    by_tests true true ea eb more = ap (λ t. cond t (x ∷ kept_effects later (kept_effects oldest xs)) (kept_effects later (kept_effects oldest xs))) eb ∙ ap (λ (zs : List Effect). x ∷ zs) more
    by_tests true false ea eb more = ap (λ t. cond t (x ∷ kept_effects later (kept_effects oldest xs)) (kept_effects later (kept_effects oldest xs))) eb ∙ more
    by_tests false true ea eb more = absurd (omega (arith, h, leb-false oldest x.seq ea, leb-true later x.seq eb))
    by_tests false false ea eb more = more

effects_replayed : (v : VersionState) (history : List Entry) → v.effects ≡ kept_effects v.oldest v.effects
    → (states_after v history).effects ≡ kept_effects (states_after v history).oldest (v.effects ++ history_effects v.pod history)
effects_replayed v [] h = h ∙ ap (kept_effects v.oldest) (sym (append-nil v.effects))
effects_replayed v (entry ∷ more) h =
    effects_replayed next more (sym (kept_later next.oldest next.oldest (omega arith) both))
    ∙ filter_append (λ (e : Effect). nat_le last e.seq) (kept_effects next.oldest both) (history_effects next.pod more)
    ∙ ap (λ (xs : List Effect). xs ++ kept_effects last (history_effects next.pod more)) (kept_later next.oldest last (grows next more) both)
    ∙ sym (filter_append (λ (e : Effect). nat_le last e.seq) both (history_effects next.pod more))
    ∙ ap (kept_effects last) (append_assoc v.effects (entry_effects v.pod entry) (history_effects next.pod more))
  where
    next : VersionState
    next = state_after v entry

    both : List Effect
    both = v.effects ++ entry_effects v.pod entry

    last : ℕ
    last = (states_after (state_after v entry) more).oldest

pub first_oldest : (first : Snapshot) (history : List Entry) → (states_after (first_state first) history).oldest ≡ oldest_after first.seq (first.seq + length history)
first_oldest first history = oldest_replayed (first_state first) history (omega arith)

pub first_effects : (first : Snapshot) (history : List Entry) → (states_after (first_state first) history).effects
    ≡ kept_effects (states_after (first_state first) history).oldest (history_effects (pod_of first) history)
first_effects first history = effects_replayed (first_state first) history refl
