-- Names of variables that are inserted one after another.
use Rattle.std.proofs.Common.{◌≡◌, ◌↔◌, ◌⊎◌, ◌+◌, ◌<◌, ◌≤◌, inl, inr, ℕ, Bool, true, false, cond, List, ◌∷◌, length, drop, get_or, refl, sym, ap, ◌∙◌, subst, add-one}
use Rattle.std.proofs.Math.ListN.{drop_of_length-le}
use Rattle.std.proofs.Math.Seq.{drop-cons}
use Rattle.std.proofs.lemmas.Bool.{false≢true}
use Rattle.std.specs.Bool.{Decides}
use Rattle.std.specs.BTreeSet.{BTreeSet, IsEmpty, IsSubset, contains}
use Rattle.std.specs.Cmp.Lexicographic.{slice_cmp, bytes_decides, texts_ties}
use Rattle.std.specs.Ordering.{eq_by_cmp, nat_cmp}
use Rattle.graph_patch.specs.Patch.{IsBound}
use Rattle.graph_patch.specs.Pattern.{HasVariable, IsVariableOf}
use Rattle.graph_patch.specs.declared.patch.Patch.{Patch}
use Rattle.graph_patch.specs.declared.pattern.Pattern.{Pattern}
use Rattle.graph_patch.specs.declared.pattern.Slot.{Slot}
use Rattle.graph_patch.specs.declared.pattern.Slot.TheVariants.{Var}
use Rattle.rdf_graph.proofs.Members.{contains_cases, contains_here, contains_none, contains_there}
use Rattle.n3_patch.specs.VariableNames.{AddsNames, AddsSlot, HasName}

name_eq : (x y : List ℕ) → Decides (eq_by_cmp (slice_cmp nat_cmp) x y) (x ≡ y)
name_eq x y = subst (λ (b : Bool). Decides b (x ≡ y)) (texts_ties x y) (bytes_decides x y)

pub slot_added : (old new : BTreeSet (List ℕ)) (n : List ℕ) (slot : Slot) → slot ≡ Var n
    → ((x : List ℕ) → contains (slice_cmp nat_cmp) new x ≡ cond (eq_by_cmp (slice_cmp nat_cmp) n x) true (contains (slice_cmp nat_cmp) old x))
    → AddsSlot old slot new
slot_added old new n slot is step x = by_test (eq_by_cmp (slice_cmp nat_cmp) n x) refl (step x) where
  by_test : (b : Bool) → eq_by_cmp (slice_cmp nat_cmp) n x ≡ b → contains (slice_cmp nat_cmp) new x ≡ cond b true (contains (slice_cmp nat_cmp) old x)
      → HasName new x ↔ (HasName old x ⊎ (slot ≡ Var x))
  by_test true e has = (λ h. inr (is ∙ ap Var ((name_eq n x).0 e)), λ h. has)
  by_test false e has = (
    λ h. inl (sym has ∙ h),
    λ h. elim h [ inl before ↦ has ∙ before | inr same ↦ let names : n ≡ x = cc in absurd (false≢true (sym e ∙ (name_eq n x).1 names)) ],
  )

-- names after names
both : (P Q : List ℕ → Type 0) (a b c : BTreeSet (List ℕ)) → AddsNames a P b → AddsNames b Q c → AddsNames a (λ x. P x ⊎ Q x) c
both P Q a b c h k x = (
  λ z. elim ((k x).0 z) [ inl y ↦ elim ((h x).0 y) [ inl w ↦ inl w | inr p ↦ inr (inl p) ] | inr q ↦ inr (inr q) ],
  λ z. elim z [ inl w ↦ (k x).1 (inl ((h x).1 (inl w))) | inr (inl p) ↦ (k x).1 (inl ((h x).1 (inr p))) | inr (inr q) ↦ (k x).1 (inr q) ],
)

pub slots_added : (p : Pattern) (a b c d : BTreeSet (List ℕ)) → AddsSlot a p.s b → AddsSlot b p.p c → AddsSlot c p.o d → AddsNames a (HasVariable p) d
slots_added p a b c d h k l =
    both (λ x. p.s ≡ Var x) (λ x. (p.p ≡ Var x) ⊎ (p.o ≡ Var x)) a b d h (both (λ x. p.p ≡ Var x) (λ x. p.o ≡ Var x) b c d k l)

module _ (p : Pattern) (ps : List Pattern) where
  first_or_rest : (x : List ℕ) → IsVariableOf (p ∷ ps) x → HasVariable p x ⊎ IsVariableOf ps x
  first_or_rest x (q, member, v) = elim (contains_cases p ps q member) [ inl same ↦ inl (subst (λ (r : Pattern). HasVariable r x) (sym same) v) | inr later ↦ inr (q, later, v) ]

  one_of : (x : List ℕ) → HasVariable p x ⊎ IsVariableOf ps x → IsVariableOf (p ∷ ps) x
  one_of x h = elim h [ inl v ↦ (p, contains_here p ps, v) | inr (q, member, v) ↦ (q, contains_there p ps q member, v) ]

  pattern_added : (a b c : BTreeSet (List ℕ)) → AddsNames a (HasVariable p) b → AddsNames b (IsVariableOf ps) c → AddsNames a (IsVariableOf (p ∷ ps)) c
  pattern_added a b c h k x = let all = both (HasVariable p) (IsVariableOf ps) a b c h k x in (
    λ z. elim (all.0 z) [ inl w ↦ inl w | inr v ↦ inr (one_of x v) ],
    λ z. all.1 (elim z [ inl w ↦ inl w | inr v ↦ inr (first_or_rest x v) ]),
  )

pub next_added : (all : List Pattern) (i : ℕ) (p : Pattern) (a b c : BTreeSet (List ℕ)) → i < length all → p ≡ get_or all i p → AddsNames a (HasVariable p) b
    → AddsNames b (IsVariableOf (drop (i + 1) all)) c → AddsNames a (IsVariableOf (drop i all)) c
next_added all i p a b c room is h k =
    let cons : drop i all ≡ get_or all i p ∷ drop (i + 1) all = rw add-one (drop-cons all i p room) in
    subst (λ (ps : List Pattern). AddsNames a (IsVariableOf ps) c) (sym (cons ∙ ap (λ (q : Pattern). q ∷ drop (i + 1) all) (sym is)))
    (pattern_added p (drop (i + 1) all) a b c h k)

pub none_added : (all : List Pattern) (i : ℕ) (a : BTreeSet (List ℕ)) → length all ≤ i → AddsNames a (IsVariableOf (drop i all)) a
none_added all i a end = subst (λ (ps : List Pattern). AddsNames a (IsVariableOf ps) a) (sym (drop_of_length-le all end))
    (λ x. (λ has. inl has, λ h. elim h [ inl has ↦ has | inr (q, member, v) ↦ absurd (contains_none q member) ]))

only : (P : List ℕ → Type 0) (a b : BTreeSet (List ℕ)) → IsEmpty a → AddsNames a P b → (x : List ℕ) → HasName b x → P x
only P a b empty h x has = elim ((h x).0 has) [ inl before ↦ absurd (false≢true (rw empty at before)) | inr p ↦ p ]

pub bound_if : (patch : Patch) (a b c d e : BTreeSet (List ℕ)) → IsEmpty a → AddsNames a (IsVariableOf patch.conditions.items) b → IsEmpty c
    → AddsNames c (IsVariableOf patch.deletions.items) d → AddsNames d (IsVariableOf patch.insertions.items) e → IsSubset (slice_cmp nat_cmp) e b ↔ IsBound patch
bound_if patch a b c d e none h none' k l =
    let used = both (IsVariableOf patch.deletions.items) (IsVariableOf patch.insertions.items) c d e k l in (
      λ sub x v. only (IsVariableOf patch.conditions.items) a b none h x (sub x ((used x).1 (inr v))),
      λ bound x has. (h x).1 (inr (bound x (only (λ y. IsVariableOf patch.deletions.items y ⊎ IsVariableOf patch.insertions.items y) c e none' used x has))),
    )
