-- How far a follower comes, entry by entry.
use Rattle.std.proofs.Common.{◌≡◌, inl, inr, ℕ, zero, suc, ◌+◌, ◌-◌, ◌<◌, ◌≤◌, List, [], ◌∷◌, length, map, take, Some, refl, sym, ap, ◌∙◌, subst, arith}
use Rattle.std.specs.Prelude.{Contains}
use Rattle.pod_command.specs.declared.entry.Entry.{Entry}
use Rattle.pod_core.specs.History.{History, IsHistory, IsPlace, end_of, pod_at}
use Rattle.pod_records.proofs.ReadSteps.{applies_alike}
use Rattle.pod_rows.specs.Apply.{AllApply, Applies, applied, replayed, after_edits, with_rows_if}
use Rattle.pod_rows.specs.Pod.{Pod}
use Rattle.pod_rows.specs.State.{NumberedPod}
use Rattle.rdf_graph.proofs.Members.{contains_cases, contains_none}
use Rattle.pod_follow.specs.Followed.{Takes, state_after}
use Rattle.pod_follow.specs.Prefixes.{run, IsSubsequence, TakesAll, AreSent, state_at, FollowsPrefix}
use Rattle.pod_follow.specs.declared.follower.Took.{Took}
use Rattle.pod_follow.specs.declared.follower.Took.TheVariants as took

-- ---- runs of numbers among others

-- without its first number
fewer : (x : ℕ) (xs ys : List ℕ) → IsSubsequence (x ∷ xs) ys → IsSubsequence xs ys
fewer x [] ys h = tt
fewer x (z ∷ zs) [] h = absurd h
fewer x (z ∷ zs) (y ∷ ys) (inl (same, more)) = inr more
fewer x (z ∷ zs) (y ∷ ys) (inr later) = inr (fewer x (z ∷ zs) ys later)

none_more : (from more : ℕ) → IsSubsequence (run from more) [] → more ≤ 0
none_more from zero h = omega arith
none_more from (suc more) h = absurd h

-- where the next number is the first of the run
met : (from n c : ℕ) (rest : List ℕ) → ((more : ℕ) → IsSubsequence (run (from + 1) more) rest → more ≤ c) → (more : ℕ) → IsSubsequence (run from more) (n ∷ rest) → more ≤ suc c
met from n c rest most zero h = omega arith
met from n c rest most (suc m) (inl (same, more)) = let l = most m more in omega arith
met from n c rest most (suc m) (inr later) = let l = most m (fewer from (run (from + 1) m) rest later) in omega arith

-- and where it isn't
missed : (from n c : ℕ) (rest : List ℕ) → (n ≡ from → ⊥) → ((more : ℕ) → IsSubsequence (run from more) rest → more ≤ c) → (more : ℕ) → IsSubsequence (run from more) (n ∷ rest) → more ≤ c
missed from n c rest other most zero h = omega arith
missed from n c rest other most (suc m) (inl (same, more)) = absurd (other (sym same))
missed from n c rest other most (suc m) (inr later) = most (suc m) later

passed : (from n c : ℕ) (rest : List ℕ) → IsSubsequence (run from c) rest → IsSubsequence (run from c) (n ∷ rest)
passed from n zero rest h = tt
passed from n (suc c) rest h = inr h

-- ---- an entry of a history, by its number

record IsAt (pod : Pod) (next : ℕ) (entries : List Entry) (entry : Entry) : Type 0 where
  index : ℕ
  number : entry.seq ≡ next + index
  within : index < length entries
  applies : Applies (replayed pod (take index entries)) (next + index) entry
  after : applied (replayed pod (take index entries)) entry ≡ replayed pod (take (suc index) entries)

is_at : (pod : Pod) (next : ℕ) (entries : List Entry) (entry : Entry) → AllApply pod next entries → Contains entries entry → IsAt pod next entries entry
is_at pod next [] entry h among = absurd (contains_none entry among)
is_at pod next (x ∷ xs) entry h among =
    elim (contains_cases x xs entry among) [
      | inl same ↦ subst (IsAt pod next (x ∷ xs)) same here
      | inr there ↦ later (is_at (applied pod x) (next + 1) xs entry h.1 there)
    ]
  where
    here : IsAt pod next (x ∷ xs) x
    here = record {
      index = 0;
      number = let n = h.0.number in omega arith;
      within = omega arith;
      applies = subst (λ n. Applies pod n x) (omega arith) h.0;
      after = refl;
    }

    later : IsAt (applied pod x) (next + 1) xs entry → IsAt pod next (x ∷ xs) entry
    later a = record {
      index = suc a.index;
      number = let n = a.number in omega arith;
      within = let l = a.within in omega arith;
      applies = subst (λ n. Applies (replayed (applied pod x) (take a.index xs)) n entry) (omega arith) a.applies;
      after = a.after;
    }

-- what it makes of the pod at its place
record Advances (history : History) (place : ℕ) (entry : Entry) : Type 0 where
  applies : Applies (pod_at history place) place entry
  next : state_after (state_at history place) entry ≡ state_at history (place + 1)
  within : place + 1 ≤ end_of history

advances : (history : History) (place : ℕ) (entry : Entry) → IsHistory history → Contains history.entries entry → entry.seq ≡ place → Advances history place entry
advances history place entry is among number =
    let at = is_at history.first history.start history.entries entry is.apply among in
    let n = at.number in
    let l = at.within in
    let index : at.index ≡ place - history.start = omega arith in
    let more : suc at.index ≡ place + 1 - history.start = omega arith in
    let pod : replayed history.first (take at.index history.entries) ≡ pod_at history place = ap (λ k. replayed history.first (take k history.entries)) index in
    record {
      applies = subst (λ p. Applies p place entry) pod (subst (λ k. Applies (replayed history.first (take at.index history.entries)) k entry) (omega arith) at.applies);
      next =
          let after : applied (pod_at history place) entry ≡ pod_at history (place + 1) =
          ap (λ (p : Pod). applied p entry) (sym pod) ∙ at.after ∙ ap (λ k. replayed history.first (take k history.entries)) more in
          λ i. record { pod = after i; next = place + 1 };
      within = omega arith;
    }

-- ---- entries one after the other

record ComesTo (history : History) (from : ℕ) (numbers : List ℕ) (new : NumberedPod) : Type 0 where
  count : ℕ
  among : IsSubsequence (run from count) numbers
  greatest : (more : ℕ) → IsSubsequence (run from more) numbers → more ≤ count
  place : IsPlace history (from + count)
  is : new ≡ state_at history (from + count)

abbrev numbers_of : List Entry → List ℕ
numbers_of entries = map (λ (entry : Entry). entry.seq) entries

-- entries with the same edits make the same pod
same_after : (old : NumberedPod) (a b : Entry) → a.edits.items ≡ b.edits.items → state_after old a ≡ state_after old b
same_after old a b e = λ i. record { pod = with_rows_if old.pod (after_edits (Some old.pod.rows) (e i)); next = old.next + 1 }

module _ (history : History) (is : IsHistory history) where
  -- an entry that isn't the next one changes nothing
  stays : (from : ℕ) (entry : Entry) (entries : List Entry) (new : NumberedPod) → (entry.seq ≡ from → ⊥) → ComesTo history from (numbers_of entries) new → ComesTo history from (numbers_of (entry ∷ entries)) new
  stays from entry entries new other c = record {
    count = c.count;
    among = passed from entry.seq c.count (numbers_of entries) c.among;
    greatest = missed from entry.seq c.count (numbers_of entries) other c.greatest;
    place = c.place;
    is = c.is;
  }

  -- and the next one leads to the next place
  moves : (from : ℕ) (entry : Entry) (entries : List Entry) (new : NumberedPod) → entry.seq ≡ from → ComesTo history (from + 1) (numbers_of entries) new → ComesTo history from (numbers_of (entry ∷ entries)) new
  moves from entry entries new same c = record {
    count = suc c.count;
    among = inl (sym same, c.among);
    greatest = met from entry.seq c.count (numbers_of entries) c.greatest;
    place = subst (IsPlace history) (omega arith) c.place;
    is = c.is ∙ ap (state_at history) (omega arith);
  }

  comes_to : (from : ℕ) (texts : List (List ℕ)) (entries : List Entry) (new : NumberedPod) → IsPlace history from → AreSent history texts entries → TakesAll (state_at history from) texts new → ComesTo history from (numbers_of entries) new
  comes_to from [] [] new place sent takes = record {
    count = 0;
    among = tt;
    greatest = none_more from;
    place = subst (IsPlace history) (omega arith) place;
    is = takes ∙ ap (state_at history) (omega arith);
  }
  comes_to from [] (entry ∷ entries) new place sent takes = absurd sent
  comes_to from (text ∷ texts) [] new place sent takes = absurd sent
  comes_to from (text ∷ texts) (entry ∷ entries) new place (is_text, among, sent) (mid, answer, takes, rest) = by_answer (λ next at more. comes_to next texts entries new at sent more) answer takes
    where
      unmoved : ((next : ℕ) → IsPlace history next → TakesAll (state_at history next) texts new → ComesTo history next (numbers_of entries) new)
          → (mid ≡ state_at history from) → (entry.seq ≡ from → ⊥) → ComesTo history from (numbers_of (entry ∷ entries)) new
      unmoved further same other = stays from entry entries new other (further from place (subst (λ s. TakesAll s texts new) same rest))

      by_answer : ((next : ℕ) → IsPlace history next → TakesAll (state_at history next) texts new → ComesTo history next (numbers_of entries) new)
          → (answer : Took) → Takes (state_at history from) text mid answer → ComesTo history from (numbers_of (entry ∷ entries)) new
      by_answer further took.NotEntry (none, same) = absurd (none entry is_text)
      by_answer further (took.Old seq next) (other, the, (a, b, less, same)) =
          let n = (the.only entry is_text).0 in
          unmoved further same (λ e. absurd (omega (arith, a, b, less, n, e)))
      by_answer further (took.Ahead seq next) (other, the, (a, b, less, same)) =
          let n = (the.only entry is_text).0 in
          unmoved further same (λ e. absurd (omega (arith, a, b, less, n, e)))
      by_answer further (took.Unfit seq) (other, the, (a, b, unfit, same)) =
          let both = the.only entry is_text in
          let number : entry.seq ≡ from = both.0 ∙ sym a ∙ b in
          absurd (unfit (applies_alike (pod_at history from) from other entry both (advances history from entry is among number).applies))
      by_answer further took.Applied (other, the, (applies, after)) =
          let both = the.only entry is_text in
          let number : entry.seq ≡ from = both.0 ∙ applies.number in
          let a = advances history from entry is among number in
          let moved : mid ≡ state_at history (from + 1) = after ∙ same_after (state_at history from) other entry (sym both.1) ∙ a.next in
          let next : IsPlace history (from + 1) = record { from = (let l = place.from in omega arith); to = a.within } in
          moves from entry entries new number (further (from + 1) next (subst (λ s. TakesAll s texts new) moved rest))

pub follows_prefix : FollowsPrefix
follows_prefix history start texts entries new is place sent takes =
    let c = comes_to history is start texts entries new place sent takes in
    (start + c.count, record { count = c.count; is = refl; among = c.among; greatest = c.greatest }, c.place, c.is)
