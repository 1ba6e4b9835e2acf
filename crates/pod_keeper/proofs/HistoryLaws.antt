-- The versions at the ends of histories.
use Rattle.std.proofs.Common.{◌≡◌, ℕ, ◌+◌, List, [], ◌∷◌, ◌++◌, length, refl, sym, ◌∙◌, ap}
use Rattle.pod_command.specs.declared.entry.Entry.{Entry}
use Rattle.pod_core.specs.History.{History, IsHistory, end_of, pod_at, longer}
use Rattle.pod_core.proofs.Histories.{pod_at_end}
use Rattle.pod_keeper.specs.Kept.{Doubt, IsKept, version_of}
use Rattle.pod_keeper.specs.KeeperState.{KeeperState, version_in}
use Rattle.pod_pages.proofs.History.{pod_replayed, next_replayed}
use Rattle.pod_pages.specs.State.{VersionState, state_after, states_after}

pub states_after_append : (version : VersionState) (xs ys : List Entry) → states_after version (xs ++ ys) ≡ states_after (states_after version xs) ys
states_after_append version [] ys = refl
states_after_append version (x ∷ xs) ys = states_after_append (state_after version x) xs ys

pub states_next : (version : VersionState) (list : List Entry) → (states_after version list).next ≡ version.next + length list
states_next version list = next_replayed version list

-- the version that a history begins with
abbrev version_first : History → VersionState
version_first history = record { pod = history.first; next = history.start; effects = []; oldest = history.start }

pub version_pod : (history : History) → (version_of history).pod ≡ pod_at history (end_of history)
version_pod history = pod_replayed (version_first history) history.entries ∙ sym (pod_at_end history)

pub version_next : (history : History) → (version_of history).next ≡ end_of history
version_next history = next_replayed (version_first history) history.entries

pub version_longer : (history : History) (opened : VersionState) (list : List Entry) → version_of history ≡ opened → version_of (longer history list) ≡ states_after opened list
version_longer history opened list is = states_after_append (version_first history) history.entries list ∙ ap (λ (v : VersionState). states_after v list) is

-- a version by its parts
same_version : (v w : VersionState) → v.pod ≡ w.pod → v.next ≡ w.next → v.effects ≡ w.effects → v.oldest ≡ w.oldest → v ≡ w
same_version v w pod next effects oldest = λ i. record { pod = pod i; next = next i; effects = effects i; oldest = oldest i }

-- the keeper's version is that of the history
pub version_kept : {D : Type 0} (image : D → List ℕ → Type 0) (keeper : KeeperState D) (history : History) (place : ℕ) (doubt : Doubt) → IsKept image keeper history place doubt → version_in keeper ≡ version_of history
version_kept image keeper history place doubt h =
    same_version (version_in keeper) (version_of history) (h.pod ∙ sym (version_pod history)) (h.next ∙ sym (version_next history)) h.effects h.oldest

pub kept_is_opened : {D : Type 0} (image : D → List ℕ → Type 0) (keeper : KeeperState D) (history : History) (place : ℕ) (doubt : Doubt) → IsKept image keeper history place doubt → IsHistory history × (version_of history ≡ version_in keeper)
kept_is_opened image keeper history place doubt h = (h.is_history, sym (version_kept image keeper history place doubt h))
