-- The rows of a pod as the names of members see them.
use Rattle.std.proofs.Common.{◌≡◌, ℕ, ◌≤◌, Bool, true, false, cond, List, [], ◌∷◌, length, Some, inl, inr, refl, sym, ap, ◌∙◌, subst}
use Rattle.std.specs.Prelude.{is_some, map}
use Rattle.std.specs.List.{Contains}
use Rattle.std.proofs.lemmas.Bool.{false≢true}
use Rattle.std.proofs.lemmas.List.{length-map}
use Rattle.std.proofs.lemmas.Slice.Eq.{bytes_eq-Decides}
use Rattle.pod_command.specs.declared.row.Row.{Row}
use Rattle.pod_path.specs.declared.fault.PathFault.{PathFault}
use Rattle.pod_path.specs.declared.fault.PathFault.TheVariants as faults
use Rattle.pod_rows.specs.Pod.{Pod, is_row, is_at, row_at}
use Rattle.rdf_graph.proofs.Members.{contains_here, contains_there}
use Rattle.slug_naming.specs.Names.{HasFewRows, IsFreeName, FailsAs}
use Rattle.pod_reply.specs.MemberNames.{HasNoName}

-- a row's path is among the paths
path_by : (b : Bool) (r : Row) (rs : List Row) (text : List ℕ) → is_at text r ≡ b
    → (is_row rs text ≡ true → Contains (map (λ (r : Row). r.path) rs) text)
    → is_row (r ∷ rs) text ≡ true → Contains (map (λ (r : Row). r.path) (r ∷ rs)) text
path_by true r rs text is rest h =
    subst (λ (t : List ℕ). Contains (map (λ (r : Row). r.path) (r ∷ rs)) t)
    ((bytes_eq-Decides r.path text).0 is) (contains_here r.path (map (λ (r : Row). r.path) rs))
path_by false r rs text is rest h =
    contains_there r.path (map (λ (r : Row). r.path) rs) text
    (rest (sym (ap (λ (b : Bool). is_some (cond b (Some r) (row_at rs text))) is) ∙ h))

has_path : (rows : List Row) (text : List ℕ) → is_row rows text ≡ true
    → Contains (map (λ (r : Row). r.path) rows) text
has_path [] text e = absurd (false≢true e)
has_path (r ∷ rs) text e = path_by (is_at text r) r rs text refl (has_path rs text) e

module _ (pod : Pod) (t : List ℕ → Bool) (same : (path : List ℕ) → t path ≡ is_row pod.rows path) where
  pub few_rows : length pod.rows ≤ 65_536 → HasFewRows t
  few_rows few = (
    map (λ (r : Row). r.path) pod.rows,
    record {
      few = subst (λ (n : ℕ). n ≤ 65_536) (sym (length-map pod.rows (λ (r : Row). r.path))) few;
      all = λ text h. has_path pod.rows text (sym (same text) ∙ h);
    },
  )

  -- a free name by one test of rows is one by another that agrees
  pub name_same : (container stem : List ℕ) (folder : Bool) (path : List ℕ)
      → IsFreeName t container stem folder path → IsFreeName (is_row pod.rows) container stem folder path
  name_same container stem folder path h =
      let tests : t ≡ is_row pod.rows = λ i p. same p i in
      subst (λ (test : List ℕ → Bool). IsFreeName test container stem folder path) tests h

  -- a fault but out of memory is that of the first free name
  pub no_name : (container stem : List ℕ) (folder : Bool) (fault : PathFault)
      → FailsAs (IsFreeName t container stem folder) fault → (fault ≡ faults.NoMemory → ⊥)
      → HasNoName pod container stem folder
  no_name container stem folder faults.TooLong h other =
      record { path = h.0; first = name_same container stem folder h.0 h.1; fault = inl h.2 }
  no_name container stem folder faults.TooDeep h other =
      record { path = h.0; first = name_same container stem folder h.0 h.1; fault = inr h.2 }
  no_name container stem folder faults.NoMemory h other = absurd (other refl)
  no_name container stem folder _ h other = absurd h
