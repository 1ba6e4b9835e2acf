-- The versions of a history's places, and its journal.
use Rattle.std.proofs.Common.{◌≡◌, ℕ, zero, suc, ◌+◌, ◌-◌, ◌<◌, ◌≤◌, ◌==◌, true, false, cond, List, [], ◌∷◌, ◌++◌, length, map, get_or, take, slice_get, Option, Some, None, refl, sym, ap, subst, append_assoc, length-append, ◌∙◌, arith}
use Rattle.std.specs.Option.{option_map_or}
use Rattle.std.proofs.lemmas.Bool.Decides.{nat_tests}
use Rattle.std.proofs.lemmas.List.{append-nil, map_push}
use Rattle.std.proofs.lemmas.Option.{slice_get_within}
use Rattle.journal_log.specs.CleanJournal.{IsShort}
use Rattle.journal_log.specs.Frames.{opened, sized}
use Rattle.journal_log.specs.Heads.{encoded_head}
use Rattle.stored_forms.specs.Storable.{IsStorableSnapshot}
use Rattle.stored_forms.specs.StoredForms.{entry_bytes, snapshot_bytes}
use Rattle.pod_command.specs.declared.entry.Entry.{Entry}
use Rattle.pod_command.specs.declared.snapshot.Snapshot.{Snapshot}
use Rattle.pod_core.proofs.Histories.{end_grows, pod_at_end, pod_grows, replayed_next, slice_get-append, slice_get_last}
use Rattle.pod_core.specs.History.{History, IsPlace, end_of, entry_at, longer, moment_before, pod_at, seconds_of}
use Rattle.pod_core.specs.KeeperSteps as keeper
use Rattle.pod_core.specs.KeeperSteps.{Holder}
use Rattle.pod_core.specs.WorldImages.{journal_of, journal_records, start_snapshot}
use Rattle.pod_pages.specs.State.{VersionState, first_state, state_after}
use Rattle.pod_rows.specs.Apply.{applied, replayed}
use Rattle.pod_rows.specs.Pod.{Pod}
use Rattle.pod_rows.specs.WellFormed.{IsWellFormedSnapshot}
use Rattle.request_history.proofs.Numbered.{is_within}
use Rattle.request_history.specs.Keepers.{AppliesAtEnd, AreLater, IsKeeper, IsPending, IsVersionAt, first_history, first_view, history_of}
use Rattle.world_laws.specs.CrashedWorlds.{IsRecordableHistory}

-- ---- the journal

opened_more : (bodies : List (List ℕ)) (body : List ℕ) → opened (bodies ++ body ∷ []) ≡ opened bodies ++ (1 ∷ sized body)
opened_more [] body = append-nil (1 ∷ sized body)
opened_more (one ∷ bodies) body = ap (λ t. (1 ∷ sized one) ++ t) (opened_more bodies body) ∙ sym (append_assoc (1 ∷ sized one) (opened bodies) (1 ∷ sized body))

pub journal_longer : (history : History) (entry : Entry) (journal : List ℕ) → journal ≡ journal_of history ++ (1 ∷ sized (entry_bytes entry)) → journal ≡ journal_of (longer history (entry ∷ []))
journal_longer history entry journal e =
    let first = snapshot_bytes (start_snapshot history) in
    let bodies = map entry_bytes history.entries in
    e ∙ append_assoc (encoded_head 2 1) (opened (journal_records history)) (1 ∷ sized (entry_bytes entry))
    ∙ ap (λ t. encoded_head 2 1 ++ t) (sym (opened_more (journal_records history) (entry_bytes entry)))
    ∙ ap (λ (l : List (List ℕ)). encoded_head 2 1 ++ opened (first ∷ l)) (sym (map_push entry_bytes history.entries entry))

journal_first : (first : Snapshot) → journal_of (first_history first) ≡ encoded_head 2 1 ++ (1 ∷ sized (snapshot_bytes first))
unfolding snapshot_bytes
journal_first first = ap (λ t. encoded_head 2 1 ++ t) (append-nil (1 ∷ sized (snapshot_bytes first)))

-- a journal can hold the first pod
pub first_recordable : (first : Snapshot) → IsWellFormedSnapshot first → IsStorableSnapshot first → IsShort (snapshot_bytes first) → IsRecordableHistory (first_history first)
unfolding snapshot_bytes
first_recordable first fine stored short = record {
  number = fine.number;
  storable = record { seq = stored.seq; base = stored.base; owner = stored.owner; rows = stored.rows; order = stored.order };
  short = short;
  entries = tt;
}

-- ---- the first keeper

none_later : (history : History) → history.entries ≡ [] → AreLater history []
none_later history e = record {
  count = sym (ap length e);
  each = λ i version is. absurd (cc is);
}

pub first_keeper : (first : Snapshot) (version : VersionState) (journal : List ℕ) → version ≡ first_state first → journal ≡ encoded_head 2 1 ++ (1 ∷ sized (snapshot_bytes first))
    → IsKeeper (history_of version []) [] journal keeper.free
first_keeper first version journal is text = subst (λ (v : VersionState). IsKeeper (history_of v []) [] journal keeper.free) (sym is) (record {
  versions = none_later (first_history first) refl;
  journal_is = text ∙ sym (journal_first first);
  pending = tt;
})

-- ---- places

pub version_at : (history : History) (later : List VersionState) (place i : ℕ) (version : VersionState) → AreLater history later → place ≡ history.start + (i + 1) → slice_get later i ≡ Some version → IsVersionAt history place version
version_at history later place i version are at is = subst (λ n. IsVersionAt history n version) (sym at) (are.each i version is)

pub first_pod_at : (history : History) → history.first ≡ pod_at history history.start
first_pod_at history =
    let none : history.start - history.start ≡ 0 = omega arith in
    sym (ap (λ n. replayed history.first (take n history.entries)) none)

get_none : {A : Type 0} (xs : List A) → None ≡ slice_get xs (length xs - 1) → length xs ≡ 0
get_none [] e = refl
get_none (x ∷ xs) e =
    let some = is_within (x ∷ xs) (length (x ∷ xs) - 1) (omega arith) in
    absurd (cc (e ∙ some.1))

pub end_some : (history : History) (later : List VersionState) (version : VersionState) → AreLater history later → Some version ≡ slice_get later (length later - 1) → version.next ≡ end_of history
end_some history later version are is =
    let v = are.each (length later - 1) version (sym is) in
    let within : length later - 1 < length later = slice_get_within later (length later - 1) version (sym is) in
    let next : version.next ≡ history.start + (length later - 1 + 1) = v.next in
    omega (arith, within, next, are.count)

pub end_none : (history : History) (later : List VersionState) → AreLater history later → None ≡ slice_get later (length later - 1) → history.start ≡ end_of history
end_none history later are is =
    let none : length later ≡ 0 = get_none later is in
    omega (arith, none, are.count)

pub moment_none : (history : History) → None ≡ slice_get history.entries (length history.entries - 1) → 0 ≡ moment_before history (end_of history)
moment_none history is =
    let end : end_of history ≡ history.start =
    let none : length history.entries ≡ 0 = get_none history.entries is in
    omega (arith, none) in
    elim (end_of history == history.start) as (λ b. (end_of history == history.start) ≡ b → 0 ≡ cond b 0 (option_map_or seconds_of (entry_at history (end_of history - 1)) 0)) [
      | true ↦ λ t. refl
      | false ↦ λ t. grind (arith, nat_tests)
    ] refl

pub moment_last : (history : History) (entry : Entry) → slice_get history.entries (length history.entries - 1) ≡ Some entry → entry.moment.0 ≡ moment_before history (end_of history)
moment_last history entry is =
    let some : length history.entries - 1 < length history.entries = slice_get_within history.entries (length history.entries - 1) entry is in
    let place : end_of history - 1 - history.start ≡ length history.entries - 1 = omega arith in
    let found : entry_at history (end_of history - 1) ≡ Some entry = ap (slice_get history.entries) place ∙ is in
    elim (end_of history == history.start) as (λ b. (end_of history == history.start) ≡ b → entry.moment.0 ≡ cond b 0 (option_map_or seconds_of (entry_at history (end_of history - 1)) 0)) [
      | true ↦ λ t.
          let none : end_of history ≡ history.start = grind (arith, nat_tests) in
          absurd (omega (arith, none, some))
      | false ↦ λ t. sym (ap (λ (o : Option Entry). option_map_or seconds_of o 0) found)
    ] refl

-- ---- one entry more

module _ (history : History) (entry : Entry) where
  abbrev more : History
  more = longer history (entry ∷ [])

  pub next_version : (version : VersionState) → IsVersionAt history (end_of history) version → IsVersionAt more (end_of history + 1) (state_after version entry)
  next_version version is =
      let end : end_of more ≡ end_of history + 1 = end_grows history (entry ∷ []) in
      let last : pod_at more (end_of history + 1) ≡ replayed history.first (history.entries ++ entry ∷ []) = ap (pod_at more) (sym end) ∙ pod_at_end more in
      record {
        pod = ap (λ (p : Pod). applied p entry) (is.pod ∙ pod_at_end history) ∙ sym (last ∙ replayed_next history.first history.entries entry);
        next = ap (λ n. n + 1) is.next;
      }

  longer_at : (place : ℕ) (version : VersionState) → IsPlace history place → IsVersionAt history place version → IsVersionAt more place version
  longer_at place version within is = record { pod = is.pod ∙ sym (pod_grows history (entry ∷ []) place within); next = is.next }

  pub longer_later : (later : List VersionState) (version : VersionState) → AreLater history later → IsVersionAt more (end_of history + 1) version → AreLater more (later ++ version ∷ [])
  longer_later later version are last = record {
    count = omega (arith, are.count, length-append later (version ∷ []), length-append history.entries (entry ∷ []));
    each = λ i found is. each_of i found is (slice_get_within (later ++ version ∷ []) i found is);
  }
    where
      old_one : (i : ℕ) (found : VersionState) → i < length later → slice_get (later ++ version ∷ []) i ≡ Some found → IsVersionAt more (history.start + (i + 1)) found
      old_one i found within is =
          longer_at (history.start + (i + 1)) found (record { from = omega arith; to = omega (arith, are.count) }) (are.each i found (sym (slice_get-append later (version ∷ []) i within) ∙ is))

      new_one : (i : ℕ) (found : VersionState) → i ≡ length later → slice_get (later ++ version ∷ []) i ≡ Some found → IsVersionAt more (history.start + (i + 1)) found
      new_one i found at is =
          let both : Some version ≡ Some found = sym (slice_get_last later version) ∙ ap (slice_get (later ++ version ∷ [])) (sym at) ∙ is in
          let same : version ≡ found = cc both in
          let place : end_of history + 1 ≡ history.start + (i + 1) = omega (arith, are.count, at) in
          subst (IsVersionAt more (history.start + (i + 1))) same (subst (λ n. IsVersionAt more n version) place last)

      each_of : (i : ℕ) (found : VersionState) → slice_get (later ++ version ∷ []) i ≡ Some found → i < length (later ++ version ∷ []) → IsVersionAt more (history.start + (i + 1)) found
      each_of i found is within = elim (i == length later) as (λ b. (i == length later) ≡ b → IsVersionAt more (history.start + (i + 1)) found) [
        | true ↦ λ t. new_one i found (grind (arith, nat_tests)) is
        | false ↦ λ t.
            let other : i ≡ length later → ⊥ = λ same. grind (arith, nat_tests) in
            old_one i found (omega (arith, within, length-append later (version ∷ []), other)) is
      ] refl

  -- the keeper after the gate was opened
  pub opened_keeper : (later : List VersionState) (version : VersionState) (journal : List ℕ) (phase : keeper.Phase) → AreLater history later → IsVersionAt more (end_of history + 1) version
      → journal ≡ journal_of more → IsPending more phase → IsKeeper more (later ++ version ∷ []) journal phase
  opened_keeper later version journal phase are last is pending = record {
    versions = longer_later later version are last;
    journal_is = is;
    pending = pending;
  }

-- ---- the first keeper, by its parts

pub first_keeper_as : (first : Snapshot) (version : VersionState) (journal : List ℕ) (entries : List Entry) (later : List VersionState) → entries ≡ [] → later ≡ [] → version ≡ first_state first
    → journal ≡ encoded_head 2 1 ++ (1 ∷ sized (snapshot_bytes first)) → IsKeeper (history_of version entries) later journal keeper.free
first_keeper_as first version journal entries later e l is text =
    subst (λ (x : List Entry × List VersionState). IsKeeper (history_of version x.0) x.1 journal keeper.free) (λ i. (sym e i, sym l i)) (first_keeper first version journal is text)

pub first_view_as : (first : Snapshot) (version : VersionState) (entries : List Entry) → entries ≡ [] → version ≡ first_state first
    → record { history = history_of version entries; doubt = None; phase = keeper.free } ≡ first_view first
first_view_as first version entries e is = λ i. record {
  history = record { first = (is i).pod; start = (is i).next; entries = e i };
  doubt = None;
  phase = keeper.free;
}

-- ---- what is pending

pub pending_holder : (history : History) (phase : keeper.Phase) (holder : Holder) → phase ≡ keeper.written holder → IsPending history phase → AppliesAtEnd history holder
pending_holder history phase holder e p = subst (IsPending history) e p

pub taken_pending : (history : History) (phase : keeper.Phase) (holder : Holder) → phase ≡ keeper.taken holder → IsPending history phase → AppliesAtEnd history holder
taken_pending history phase holder e p = subst (IsPending history) e p

-- ---- the version at a place

item_at : {A : Type 0} (xs : List A) (n : ℕ) (d : A) → n < length xs → d ≡ get_or xs n d → slice_get xs n ≡ Some d
item_at [] n d lt e = absurd (omega (arith, lt))
item_at (x ∷ xs) zero d lt e = ap Some (sym e)
item_at (x ∷ xs) (suc n) d lt e = item_at xs n d (omega (arith, lt)) e

module _ (history : History) (later : List VersionState) (are : AreLater history later) (place start : ℕ) (there : IsPlace history place) (s : start ≡ history.start) where
  pub not_before : start ≤ place
  not_before = omega (arith, there.from, s)

  pub within_later : (place ≡ start → ⊥) → place - start - 1 < length later
  within_later other = omega (arith, there.from, there.to, s, are.count, other)

  pub version_of : (place ≡ start → ⊥) → (version : VersionState) → version ≡ get_or later (place - start - 1) version → IsVersionAt history place version
  version_of other version is =
      let i = place - start - 1 in
      let at : place ≡ history.start + (i + 1) = omega (arith, there.from, s, other) in
      version_at history later place i version are at (item_at later i version (within_later other) is)

  pub first_version : place ≡ start → (first : VersionState) → first.pod ≡ history.first → first.next ≡ history.start → IsVersionAt history place first
  first_version same first pod next = record {
    pod = pod ∙ first_pod_at history ∙ ap (pod_at history) (sym s ∙ sym same);
    next = next ∙ sym s ∙ sym same;
  }
