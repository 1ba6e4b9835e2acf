-- What a write leaves, where each image had something before it.
use Rattle.std.proofs.Common.{◌≡◌, ◌≤◌, ℕ, List, Option, Some, None, sym, subst, rules}
use Rattle.pod_disk.specs.Disk.{EachImage, Torn, Unchanged, Passes, LeavesOnly, overwritten}
use Rattle.pod_disk.proofs.Moments.{call, joined, weaker, holds_now}
use Rattle.journal_log.specs.Writes.{IsTornFrom, IsOverwritten}
use Rattle.journal_log.proofs.GateWrites.{torn_self}

module _ {D : Type 0} (image : D → List ℕ → Type 0) (moment : D → ℕ) (left_since : D → ℕ → List ℕ → Type 0) where
  -- one write
  pub torn_call : (old new : D) (at count : ℕ) → ((c : List ℕ) → left_since old (moment old) c → image old c)
      → Passes image moment left_since (Torn at count) old new → LeavesOnly moment left_since old new (IsTornFrom (image old) at count)
  torn_call old new at count only_now passes =
      let P = IsTornFrom (image old) at count in
      (call image moment left_since (Torn at count) old new (image old) P P only_now passes (λ d c torn now. (d, now, torn)) (λ c now. (c, now, torn_self c at count)) (λ c has. has) (λ c now. now)).0

  -- a run, and then a call that changes nothing
  pub then_same : (old mid new : D) (P : List ℕ → Type 0) → ((t : ℕ) (c : List ℕ) → t ≤ moment mid → image mid c → left_since mid t c) → ((c : List ℕ) → left_since mid (moment mid) c → image mid c)
      → LeavesOnly moment left_since old mid P → Passes image moment left_since Unchanged mid new → LeavesOnly moment left_since old new P
  then_same old mid new P counts_now only_now run passes =
      let now : EachImage (image mid) P = holds_now image moment left_since old mid P counts_now run in
      joined image moment left_since old mid new P run
      (call image moment left_since Unchanged mid new P P P only_now passes (λ d c same has. subst P same has) (λ c has. has) (λ c has. has) now).0

  -- what a torn write keeps, each image keeps at each moment
  pub torn_run : (old new : D) (at count : ℕ) (P : List ℕ → Type 0) → ((t : ℕ) (c : List ℕ) → t ≤ moment new → image new c → left_since new t c)
      → LeavesOnly moment left_since old new (IsTornFrom (image old) at count) → ((d c : List ℕ) → Torn at count d c → P d → P c) → EachImage (image old) P
      → LeavesOnly moment left_since old new P × EachImage (image new) P
  torn_run old new at count P counts_now torn keeps was =
      let run : LeavesOnly moment left_since old new P = weaker image moment left_since old new (IsTornFrom (image old) at count) P (λ c (d, now, step). keeps d c step (was d now)) torn in
      (run, holds_now image moment left_since old new P counts_now run)

some_is : {X : Type 0} {x y : X} → Some x ≡ Some y → x ≡ y
some_is is = search rules

none_is : {X : Type 0} {x : X} → Some x ≡ None → ⊥
none_is is = search rules

-- what the whole write makes of what each image had
pub over_run : {D : Type 0} (content : D → Option (List ℕ)) (image : D → List ℕ → Type 0) (old new : D) (at : ℕ) (bytes : List ℕ) (P Q : List ℕ → Type 0)
    → ((b : List ℕ) → content old ≡ Some b → image old b) → ((b : List ℕ) → P b → Q (overwritten at bytes b)) → EachImage (image old) P
    → EachImage (image new) (IsOverwritten (content old) at bytes) → EachImage (image new) Q
over_run content image old new at bytes P Q reads_image makes was over c now =
    let from = over c now in
    subst Q (sym from.2) (makes from.0 (was from.0 (reads_image from.0 from.1)))
