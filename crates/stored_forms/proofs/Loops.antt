-- Reading so many values, one after the other, as a loop does.
use Rattle.std.proofs.Common.{◌≡◌, ℕ, suc, ◌-◌, ◌+◌, ◌≤◌, ◌<◌, List, [], ◌∷◌, ◌++◌, Option, Some, None, refl, sym, ap, ◌∙◌, append_assoc, arith}
use Rattle.std.proofs.lemmas.List.{append-nil}
use Rattle.stored_forms.specs.declared.read_back.ReadBack.{ReadBack}
use Rattle.stored_forms.specs.declared.read_back.ReadBack.TheVariants as faults
use Rattle.stored_forms.specs.Readers.{◌>>=◌, Fails, times_at}

-- what was read before, and what is still read
abbrev pub with_front : {A : Type 0} → List A → Option (List A × List ℕ) → Option (List A × List ℕ)
with_front front read = read >>= λ x. Some (front ++ x.0, x.1)

module _ {A : Type 0} (read : List ℕ → Option (A × List ℕ)) where
  regroup : (front : List A) (n : A) (more : Option (List A × List ℕ)) → with_front front (more >>= λ x. Some (n ∷ x.0, x.1)) ≡ with_front (front ++ n ∷ []) more
  regroup front n (Some x) = ap (λ (ns : List A). Some (ns, x.1)) (simp append_assoc)
  regroup front n None = refl

  pub goes_on : (front : List A) (count i : ℕ) (bytes : List ℕ) (n : A) (after : List ℕ) (total : Option (List A × List ℕ)) → i < count → read bytes ≡ Some (n, after)
      → with_front front (times_at read (count - i) bytes) ≡ total → with_front (front ++ n ∷ []) (times_at read (count - (i + 1)) after) ≡ total
  unfolding times_at
  goes_on front count i bytes n after total lt h so_far =
      let k : count - i ≡ suc (count - (i + 1)) = omega arith in
      let one : with_front front (times_at read (count - i) bytes) ≡ with_front (front ++ n ∷ []) (times_at read (count - (i + 1)) after) = rw (k, h) (regroup front n (times_at read (count - (i + 1)) after)) in
      sym one ∙ so_far

  pub ends : (e : ReadBack) (front : List A) (count i : ℕ) (bytes : List ℕ) (total : Option (List A × List ℕ)) → i < count → Fails e (read bytes)
      → with_front front (times_at read (count - i) bytes) ≡ total → Fails e total
  unfolding times_at
  ends faults.NoMemory front count i bytes total lt h so_far = tt
  ends faults.NotCanonical front count i bytes total lt h so_far =
      let k : count - i ≡ suc (count - (i + 1)) = omega arith in
      let one : with_front front (times_at read (count - i) bytes) ≡ None = rw (k, h) refl in
      sym so_far ∙ one

  pub is_done : (front : List A) (count i : ℕ) (bytes : List ℕ) (total : Option (List A × List ℕ)) → count ≤ i → with_front front (times_at read (count - i) bytes) ≡ total → total ≡ Some (front, bytes)
  unfolding times_at
  is_done front count i bytes total le so_far =
      let k : count - i ≡ 0 = omega arith in
      let one : with_front front (times_at read (count - i) bytes) ≡ Some (front, bytes) = rw k (ap (λ (ns : List A). Some (ns, bytes)) (append-nil front)) in
      sym so_far ∙ one
