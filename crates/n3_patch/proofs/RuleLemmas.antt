-- Which rules are kept, one after another.
use Rattle.std.proofs.Common.{◌≡◌, ◌↔◌, ◌<◌, ◌≤◌, ◌+◌, inl, inr, ℕ, true, List, [], ◌∷◌, length, get_or, Option, Some, refl, sym, ap, ◌∙◌, subst, arith}
use Rattle.std.proofs.lemmas.Bool.{cases_lt, cases_order, false≢true}
use Rattle.graph_patch.specs.Patch.{AllBound, IsBound}
use Rattle.graph_patch.specs.declared.patch.Patch.{Patch}
use Rattle.graph_patch.specs.declared.pattern.Pattern.{Pattern}
use Rattle.n3_patch.specs.declared.fault.PatchRule.{PatchRule}
use Rattle.n3_patch.specs.declared.fault.PatchRule.TheVariants as rule
use Rattle.n3_patch.specs.declared.fault.TheConstants.{CONDITIONS_LIMIT}
use Rattle.n3_patch.specs.declared.vocabulary.Part.TheVariants.{Where, Deletes, Inserts}
use Rattle.n3_patch.specs.declared.triples.PatchNode.{PatchNode}
use Rattle.n3_patch.specs.declared.triples.PatchTriple.{PatchTriple}
use Rattle.n3_patch.specs.Parts.{first_typing, part_patterns, IsPatchOf}
use Rattle.n3_patch.specs.Rules.{Breaks, BreaksFrom, BreaksOf, IsFirstBroken, KeepsRules, rank}
use Rattle.n3_patch.specs.Laws.{HasOnePatch, HasOneRule, PatchBreaksNone}
use Rattle.n3_patch.specs.Progress.{KeepsBelow, is_broken}

-- the rule of a rank
abbrev rule_at : ℕ → PatchRule
rule_at n = get_or (rule.NoPatch ∷ rule.ManyPatches ∷ rule.Repeated ∷ rule.NotFormula ∷ rule.Stray ∷ rule.Nested ∷ rule.BlankNode ∷ rule.FreeVariable ∷ []) n rule.TooManyConditions

rule_of_rank : (a : PatchRule) → rule_at (rank a) ≡ a
rule_of_rank rule.NoPatch = refl
rule_of_rank _ = refl

same_rank : (a b : PatchRule) → rank a ≡ rank b → a ≡ b
same_rank a b e = sym (rule_of_rank a) ∙ ap rule_at e ∙ rule_of_rank b

rank_small : (a : PatchRule) → rank a < 9
rank_small rule.NoPatch = omega arith
rank_small _ = omega arith

-- the first rules are tests
pub tested : (r : PatchNode) (ts : List PatchTriple) (broken : PatchRule) → rank broken < 7 → (is_broken broken r ts ≡ true) ↔ BreaksOf r ts broken
tested r ts rule.NoPatch l = (λ h. false≢true h, λ h. absurd h)
tested r ts rule.FreeVariable l = absurd (omega (arith, l))
tested r ts rule.TooManyConditions l = absurd (omega (arith, l))
tested r ts _ l = (λ h. h, λ h. h)

module _ (ts : List PatchTriple) (t : PatchTriple) (found : first_typing ts ≡ Some t) where
  -- a rule is broken by the patch resource
  pub broken_first : (broken : PatchRule) → KeepsBelow ts (rank broken) → BreaksOf t.subject ts broken → IsFirstBroken ts broken
  broken_first broken before h = record { breaks = subst (λ (o : Option PatchTriple). BreaksFrom o ts broken) (sym found) h; first = before }

  pub keep_more : (kept : PatchRule) → KeepsBelow ts (rank kept) → (BreaksOf t.subject ts kept → ⊥) → KeepsBelow ts (rank kept + 1)
  keep_more kept before none other less h = elim (cases_lt (rank other) (rank kept)) [
    | inl fewer ↦ before other fewer h
    | inr more ↦ none (subst (λ (o : Option PatchTriple). BreaksFrom o ts kept) found (subst (Breaks ts) (same_rank other kept (omega arith)) h))
  ]

  module _ (patch : Patch) (is_patch : IsPatchOf t.subject ts patch) (tests : KeepsBelow ts 7) where
    bound_parts : IsBound patch ↔ (AllBound (part_patterns t.subject Deletes ts) (part_patterns t.subject Where ts)
        × AllBound (part_patterns t.subject Inserts ts) (part_patterns t.subject Where ts))
    bound_parts = subst (λ (w : List Pattern). IsBound patch ↔ (AllBound (part_patterns t.subject Deletes ts) w × AllBound (part_patterns t.subject Inserts ts) w)) is_patch.conditions
        (subst (λ (d : List Pattern). IsBound patch ↔ (AllBound d patch.conditions.items × AllBound (part_patterns t.subject Inserts ts) patch.conditions.items)) is_patch.deletions
        (subst (λ (i : List Pattern). IsBound patch ↔ (AllBound patch.deletions.items patch.conditions.items × AllBound i patch.conditions.items)) is_patch.insertions
        (λ bound. (λ name v. bound name (inl v), λ name v. bound name (inr v)), λ both name v. elim v [ inl d ↦ both.0 name d | inr i ↦ both.1 name i ])))

    pub free_first : (IsBound patch → ⊥) → IsFirstBroken ts rule.FreeVariable
    free_first free = broken_first rule.FreeVariable tests (λ both. free (bound_parts.1 both))

    module _ (bound : IsBound patch) where
      keep_8 : KeepsBelow ts 8
      keep_8 = keep_more rule.FreeVariable tests (λ h. h (bound_parts.0 bound))

      pub many_first : CONDITIONS_LIMIT < length patch.conditions.items → IsFirstBroken ts rule.TooManyConditions
      many_first many = broken_first rule.TooManyConditions keep_8 (subst (λ (ps : List Pattern). CONDITIONS_LIMIT < length ps) is_patch.conditions many)

      pub keep_all : length patch.conditions.items ≤ CONDITIONS_LIMIT → KeepsRules ts
      keep_all few broken = keep_more rule.TooManyConditions keep_8
          (λ h. let size = ap (λ (ps : List Pattern). length ps) is_patch.conditions in omega (arith, h, size, few)) broken (rank_small broken)

abbrev first_some : PatchTriple → Option PatchTriple
first_some t = Some t

some_same : (a b : PatchTriple) → first_some a ≡ first_some b → a ≡ b
some_same a b e = cc

pub one_patch : HasOnePatch
one_patch ts a b x y =
    let same : x.typing ≡ y.typing = some_same x.typing y.typing (sym x.found ∙ y.found) in
    let p = subst (λ (t : PatchTriple). IsPatchOf t.subject ts a) same x.is_patch in
    record {
      conditions = p.conditions ∙ sym y.is_patch.conditions;
      deletions = p.deletions ∙ sym y.is_patch.deletions;
      insertions = p.insertions ∙ sym y.is_patch.insertions;
    }

pub one_rule : HasOneRule
one_rule ts a b x y = elim (cases_order (rank a) (rank b)) [
  | inl same ↦ same_rank a b same
  | inr (inl less) ↦ absurd (y.first a less x.breaks)
  | inr (inr more) ↦ absurd (x.first b more y.breaks)
]

pub patch_breaks_none : PatchBreaksNone
patch_breaks_none ts patch broken x y = x.keeps broken y.breaks
