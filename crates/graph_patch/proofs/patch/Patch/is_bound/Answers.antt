use Rattle.std.proofs.Common.{◌≡◌, ◌∙◌, ◌↔◌, List, Bool, true, false, sym, subst, inl, inr, ⊎_elim}
use Rattle.std.specs.Prelude.{IsTrue}
use Rattle.std.proofs.lemmas.Bool.{true≢false}
use Rattle.graph_patch.specs.Patch.{AllBound, IsBound}
use Rattle.graph_patch.specs.Pattern.{IsVariableOf}
use Rattle.graph_patch.specs.declared.patch.Patch.{Patch}
use Rattle.graph_patch.specs.declared.pattern.Pattern.{Pattern}
use Rattle.graph_patch.proofs.patch.Patch.is_bound.Goals as goal

both : (patch : Patch) (deletions insertions conditions : List Pattern) (r s : Bool)
    → deletions ≡ patch.deletions.items → insertions ≡ patch.insertions.items → conditions ≡ patch.conditions.items
    → IsTrue r ↔ AllBound deletions conditions → r ≡ true → IsTrue s ↔ AllBound insertions conditions → IsTrue s ↔ IsBound patch
both patch deletions insertions conditions r s d i c a e b = (
  λ t name h. subst (λ cs. IsVariableOf cs name) c
      (⊎_elim
      (λ x. a.0 e name (subst (λ ps. IsVariableOf ps name) (sym d) x))
      (λ y. b.0 t name (subst (λ ps. IsVariableOf ps name) (sym i) y))
      h),
  λ h. b.1 (λ name y. subst (λ cs. IsVariableOf cs name) (sym c) (h name (inr (subst (λ ps. IsVariableOf ps name) i y)))),
)

not_first : (patch : Patch) (deletions conditions : List Pattern) (r : Bool)
    → deletions ≡ patch.deletions.items → conditions ≡ patch.conditions.items
    → IsTrue r ↔ AllBound deletions conditions → r ≡ false → IsTrue r ↔ IsBound patch
not_first patch deletions conditions r d c a e = (
  λ t. absurd (true≢false (sym t ∙ e)),
  λ h. a.1 (λ name x. subst (λ cs. IsVariableOf cs name) (sym c) (h name (inl (subst (λ ps. IsVariableOf ps name) d x)))),
)

pub returns-then-all_bound : goal.returns-then-all_bound
returns-then-all_bound c =
    both c.args.self.now c.as_slice.result.now c.as_slice-then-all_bound.result.now c.as_slice-conditions.result.now c.all_bound.result c.all_bound-then-all_bound.result
    c.as_slice.ensures c.as_slice-then-all_bound.ensures c.as_slice-conditions.ensures c.all_bound.ensures c.if-all_bound.true c.all_bound-then-all_bound.ensures

pub returns-else-all_bound : goal.returns-else-all_bound
returns-else-all_bound c =
    not_first c.args.self.now c.as_slice.result.now c.as_slice-conditions.result.now c.all_bound.result
    c.as_slice.ensures c.as_slice-conditions.ensures c.all_bound.ensures c.if-all_bound.false
