-- A container has a path for a new member, or the first free one passes a limit.
use Rattle.std.proofs.Common.{◌≡◌, ◌⊎◌, inl, inr, ℕ, zero, suc, ◌+◌, ◌<◌, ◌≤◌, Bool, true, false, cond, ltb, List, ◌++◌, length, Result, Ok, Err, refl, ap, ◌∙◌, arith}
use Rattle.std.specs.Prelude.{IsTrue, codes}
use Rattle.std.proofs.lemmas.Bool.{cases_lt}
use Rattle.pod_base.specs.declared.response.Response.{Response}
use Rattle.pod_path.proofs.Ancestors.{plain_member}
use Rattle.pod_path.proofs.NormalPaths.{norm_limits}
use Rattle.pod_path.specs.Hierarchy.{IsPlainName, is_container}
use Rattle.pod_path.specs.Norm.{IsPath, depth, norm}
use Rattle.pod_path.specs.declared.fault.PathFault.TheVariants.{TooLong, TooDeep}
use Rattle.pod_path.specs.declared.limits.TheConstants.{PATH_BYTES_LIMIT, PATH_SEGMENTS_LIMIT}
use Rattle.pod_reply.proofs.MemberLemmas.{few_rows}
use Rattle.pod_reply.specs.MemberNames.{IsNamed}
use Rattle.pod_responses.specs.Responses.{refusal}
use Rattle.pod_rows.specs.Pod.{Pod, is_row}
use Rattle.pod_rows.specs.WellFormed.{WellFormed}
use Rattle.slug_naming.proofs.CandidateLemmas.{base_open, candidate_plain, closed_no, found, not_all_taken}
use Rattle.slug_naming.specs.Names.{HasFewRows, IsFreeName, candidate, candidate_end, candidate_path}
use Rattle.slug_naming.specs.PlainTexts.{are_no_rows}

-- ---- the first number that passes a test

record First (test : ℕ → Bool) (n : ℕ) : Type 0 where
  number : ℕ
  below : number < n
  passes : test number ≡ true
  first : (k : ℕ) → k < number → test k ≡ false

abbrev NoneBelow : (ℕ → Bool) → ℕ → Type 0
NoneBelow test n = (k : ℕ) → k < n → test k ≡ false

none_more : (test : ℕ → Bool) (n : ℕ) → NoneBelow test n → test n ≡ false → NoneBelow test (suc n)
none_more test n none e k lt =
    elim (cases_lt k n) as (λ _. test k ≡ false) [
      | inl less ↦ none k less
      | inr le ↦ (let same : k ≡ n = omega (arith, lt, le) in ap test same ∙ e)
    ]

search_first : (test : ℕ → Bool) (n : ℕ) → NoneBelow test n ⊎ First test n
search_first test zero = inl (λ k lt. absurd (omega (arith, lt)))
search_first test (suc n) = by_rest (search_first test n)
  where
    by_test : (b : Bool) → test n ≡ b → NoneBelow test n → NoneBelow test (suc n) ⊎ First test (suc n)
    by_test true e none = inr (record { number = n; below = omega arith; passes = e; first = none })
    by_test false e none = inl (none_more test n none e)

    by_rest : NoneBelow test n ⊎ First test n → NoneBelow test (suc n) ⊎ First test (suc n)
    by_rest (inl none) = by_test (test n) refl none
    by_rest (inr f) = inr (record { number = f.number; below = omega (arith, f.below); passes = f.passes; first = f.first })

-- ---- the name of a new member

-- a path, or the refusal
pub record SomeName (pod : Pod) (container stem : List ℕ) (folder : Bool) : Type 0 where
  pub named : Result (List ℕ) Response
  pub is : IsNamed pod container stem folder named

module _ (pod : Pod) (container stem : List ℕ) (folder : Bool) (path : IsPath container) (closed : IsTrue (is_container container)) (plain : (folder : Bool) → IsPlainName stem folder) where
  abbrev base : List ℕ
  base = container ++ stem

  free_number : length pod.rows ≤ 65_536 → First (λ k. are_no_rows (is_row pod.rows) (base ++ candidate_end k)) 65_537
  free_number few = by_search (search_first (λ k. are_no_rows (is_row pod.rows) (base ++ candidate_end k)) 65_537)
    where
      rows : HasFewRows (is_row pod.rows)
      rows = few_rows pod (is_row pod.rows) (λ p. refl) few

      by_search : NoneBelow (λ k. are_no_rows (is_row pod.rows) (base ++ candidate_end k)) 65_537 ⊎ First (λ k. are_no_rows (is_row pod.rows) (base ++ candidate_end k)) 65_537
          → First (λ k. are_no_rows (is_row pod.rows) (base ++ candidate_end k)) 65_537
      by_search (inl none) = absurd (not_all_taken (is_row pod.rows) base 65_537 (closed_no base (base_open container stem base refl (plain true))) rows (omega arith) (omega arith) none)
      by_search (inr f) = f

  module _ (f : First (λ k. are_no_rows (is_row pod.rows) (base ++ candidate_end k)) 65_537) where
    abbrev member : List ℕ
    member = candidate_path container stem folder f.number

    is_free : IsFreeName (is_row pod.rows) container stem folder member
    is_free = found (is_row pod.rows) container stem base member folder f.number refl closed plain (omega (arith, f.below)) (record { free = f.passes; first = f.first }) refl

    is_path : IsPath member
    is_path = plain_member container (candidate stem f.number) folder path closed (candidate_plain stem f.number plain (omega (arith, f.below)) folder)

    by_limits : (long deep : Bool) → ltb PATH_BYTES_LIMIT (length member) ≡ long → ltb PATH_SEGMENTS_LIMIT (depth member) ≡ deep → norm member ≡ cond long (Err TooLong) (cond deep (Err TooDeep) (Ok member)) → SomeName pod container stem folder
    by_limits true deep l d e = record { named = Err (refusal 409 (codes "no-name")); is = (record { path = member; first = is_free; fault = inl e }, refl) }
    by_limits false true l d e = record { named = Err (refusal 409 (codes "no-name")); is = (record { path = member; first = is_free; fault = inr e }, refl) }
    by_limits false false l d e = record { named = Ok member; is = record { first = is_free; normal = e } }

    named_by : SomeName pod container stem folder
    named_by = by_limits (ltb PATH_BYTES_LIMIT (length member)) (ltb PATH_SEGMENTS_LIMIT (depth member)) refl refl (norm_limits member is_path)

  pub some_name : WellFormed pod → SomeName pod container stem folder
  some_name well_formed = named_by (free_number well_formed.number)
