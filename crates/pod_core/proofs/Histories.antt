-- A history with more entries.
use Rattle.std.proofs.Common.{◌≡◌, ℕ, zero, suc, ◌+◌, ◌-◌, ◌<◌, ◌==◌, true, false, cond, List, [], ◌∷◌, ◌++◌, length, slice_get, Option, Some, None, IfSome, refl, sym, ap, subst, length-append, ◌∙◌, arith}
use Rattle.std.specs.Option.{option_map_or, option_to_list}
use Rattle.std.proofs.lemmas.List.{append-nil, take-append-le}
use Rattle.std.proofs.lemmas.Option.{slice_get_within}
use Rattle.std.proofs.lemmas.Bool.Decides.{nat_tests}
use Rattle.std.proofs.Math.Seq.{take-length}
use Rattle.pod_command.specs.declared.entry.Entry.{Entry}
use Rattle.pod_rows.specs.Apply.{Applies, AllApply, applied, replayed}
use Rattle.pod_rows.specs.Pod.{Pod}
use Rattle.pod_core.specs.History.{History, IsHistory, IsPlace, end_of, pod_at, entry_at, seconds_of, moment_before, longer}

pub slice_get-append : {A : Type 0} (xs ys : List A) (k : ℕ) → k < length xs → slice_get (xs ++ ys) k ≡ slice_get xs k
slice_get-append [] ys k h = absurd (omega arith)
slice_get-append (x ∷ xs) ys zero h = refl
slice_get-append (x ∷ xs) ys (suc k) h = slice_get-append xs ys k (omega arith)

pub slice_get_last : {A : Type 0} (xs : List A) (x : A) → slice_get (xs ++ x ∷ []) (length xs) ≡ Some x
slice_get_last [] x = refl
slice_get_last (y ∷ xs) x = slice_get_last xs x

pub if_some_weaker : {A : Type 0} (o : Option A) (P Q : A → Type 0) → ((x : A) → P x → Q x) → IfSome o P → IfSome o Q
if_some_weaker None P Q f h = tt
if_some_weaker (Some x) P Q f h = f x h

-- the pod after one entry more
pub replayed_next : (pod : Pod) (entries : List Entry) (entry : Entry) → replayed pod (entries ++ entry ∷ []) ≡ applied (replayed pod entries) entry
replayed_next pod [] entry = refl
replayed_next pod (one ∷ more) entry = replayed_next (applied pod one) more entry

-- an entry that applies after the others
pub apply_next : (pod : Pod) (next : ℕ) (entries : List Entry) (entry : Entry) → AllApply pod next entries → Applies (replayed pod entries) (next + length entries) entry
    → AllApply pod next (entries ++ entry ∷ [])
apply_next pod next [] entry h a = (subst (λ n. Applies pod n entry) (omega arith) a, tt)
apply_next pod next (one ∷ more) entry h a =
    (h.0, apply_next (applied pod one) (next + 1) more entry h.1 (subst (λ n. Applies (replayed (applied pod one) more) n entry) (omega arith) a))

-- the pod at the end
pub pod_at_end : (history : History) → pod_at history (end_of history) ≡ replayed history.first history.entries
pod_at_end history =
    let count : end_of history - history.start ≡ length history.entries = omega arith in
    rw count (ap (replayed history.first) (take-length history.entries))

module _ (history : History) (more : List Entry) where
  pub end_grows : end_of (longer history more) ≡ end_of history + length more
  end_grows = omega (arith, length-append history.entries more)

  pub place_grows : (n : ℕ) → IsPlace history n → IsPlace (longer history more) n
  place_grows n h = record { from = h.from; to = omega (arith, h.to, length-append history.entries more) }

  pub pod_grows : (n : ℕ) → IsPlace history n → pod_at (longer history more) n ≡ pod_at history n
  pod_grows n h = ap (replayed history.first) (take-append-le (n - history.start) history.entries more (omega (arith, h.from, h.to)))

  pub entry_grows : (n : ℕ) (entry : Entry) → entry_at history n ≡ Some entry → entry_at (longer history more) n ≡ Some entry
  entry_grows n entry is = slice_get-append history.entries more (n - history.start) (slice_get_within history.entries (n - history.start) entry is) ∙ is

  pub moment_grows : (n : ℕ) → IsPlace history n → moment_before (longer history more) n ≡ moment_before history n
  moment_grows n h =
      let at = λ (entries : List Entry). option_map_or seconds_of (slice_get entries (n - 1 - history.start)) 0 in
      elim (n == history.start) as (λ b. (n == history.start) ≡ b → cond b 0 (at (history.entries ++ more)) ≡ cond b 0 (at history.entries)) [
        | true ↦ λ e. refl
        | false ↦ λ e.
            let other : n ≡ history.start → ⊥ = λ same. grind (arith, nat_tests) in
            let within : n - 1 - history.start < length history.entries = omega (arith, h.from, h.to, other) in
            ap (λ o. option_map_or seconds_of o 0) (slice_get-append history.entries more (n - 1 - history.start) within)
      ] refl

-- a history with an entry that applies at its end
pub history_next : (history : History) (entry : Entry) → IsHistory history → Applies (replayed history.first history.entries) (end_of history) entry → IsHistory (longer history (entry ∷ []))
history_next history entry h a = record { well_formed = h.well_formed; apply = apply_next history.first history.start history.entries entry h.apply a }

pub history_may_grow : (history : History) (o : Option Entry) → IsHistory history → IfSome o (Applies (replayed history.first history.entries) (end_of history)) → IsHistory (longer history (option_to_list o))
history_may_grow history None h a = record { well_formed = h.well_formed; apply = subst (AllApply history.first history.start) (sym (append-nil history.entries)) h.apply }
history_may_grow history (Some entry) h a = history_next history entry h a

-- the pod after an entry that may be added
pub replayed_more : (pod : Pod) (entries : List Entry) (o : Option Entry) → option_map_or (applied (replayed pod entries)) o (replayed pod entries) ≡ replayed pod (entries ++ option_to_list o)
replayed_more pod entries None = ap (replayed pod) (sym (append-nil entries))
replayed_more pod entries (Some entry) = sym (replayed_next pod entries entry)

-- an entry that is added stands at the end
pub stands_at_end : (history : History) (o : Option Entry) → IfSome o (λ entry. entry_at (longer history (option_to_list o)) (end_of history) ≡ Some entry)
stands_at_end history None = tt
stands_at_end history (Some entry) =
    let count : end_of history - history.start ≡ length history.entries = omega arith in
    rw count (slice_get_last history.entries entry)

-- the moment before the end, where an entry may be added
last_moment : (history : History) (entry : Entry) → moment_before (longer history (entry ∷ [])) (end_of (longer history (entry ∷ []))) ≡ entry.moment.0
last_moment history entry =
    let all = history.entries ++ entry ∷ [] in
    let end = end_of (longer history (entry ∷ [])) in
    let count : length all ≡ length history.entries + 1 = length-append history.entries (entry ∷ []) in
    let place : end - 1 - history.start ≡ length history.entries = omega (arith, count) in
    let found : slice_get all (end - 1 - history.start) ≡ Some entry = ap (slice_get all) place ∙ slice_get_last history.entries entry in
    elim (end == history.start) as (λ b. (end == history.start) ≡ b → cond b 0 (option_map_or seconds_of (slice_get all (end - 1 - history.start)) 0) ≡ entry.moment.0) [
      | true ↦ λ e.
          let none : end ≡ history.start = grind (arith, nat_tests) in
          absurd (omega (arith, count, none))
      | false ↦ λ e. ap (λ o. option_map_or seconds_of o 0) found
    ] refl

pub moment_at_end : (history : History) (o : Option Entry) (last : ℕ) → last ≡ moment_before history (end_of history)
    → option_map_or seconds_of o last ≡ moment_before (longer history (option_to_list o)) (end_of (longer history (option_to_list o)))
moment_at_end history None last h =
    h ∙ ap (λ (entries : List Entry). moment_before (record history { entries = entries }) (end_of (record history { entries = entries }))) (sym (append-nil history.entries))
moment_at_end history (Some entry) last h = sym (last_moment history entry)
