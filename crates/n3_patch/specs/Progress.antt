-- Invariants of the code that judges the rules.
use Rattle.std.specs.Prelude.{◌≡◌, ◌<◌, ℕ, Bool, false, List, [], if◌then◌else◌}
use Rattle.std.specs.List.{list_any}
use Rattle.std.specs.BTreeSet.{BTreeSet, contains}
use Rattle.std.specs.Ordering.{eq_by_cmp}
use Rattle.graph_patch.specs.PatternOrder.{pattern_cmp}
use Rattle.graph_patch.specs.declared.pattern.Pattern.{Pattern}
use Rattle.graph_patch.specs.declared.pattern.Slot.{Slot}
use Rattle.graph_patch.specs.declared.pattern.Slot.TheVariants.{Fixed, Var}
use Rattle.n3_patch.specs.declared.fault.PatchRule.{PatchRule}
use Rattle.n3_patch.specs.declared.fault.PatchRule.TheVariants as rule
use Rattle.n3_patch.specs.declared.triples.PatchNode.{PatchNode}
use Rattle.n3_patch.specs.declared.triples.PatchNode.TheVariants.{Term, Variable, Formula}
use Rattle.n3_patch.specs.declared.triples.PatchTriple.{PatchTriple}
use Rattle.n3_patch.specs.Nodes.{is_this_formula, pattern_of}
use Rattle.n3_patch.specs.Parts.{with_pattern}
use Rattle.n3_patch.specs.Rules.{Breaks, rank, types_other, is_repeated, gives_other, is_stray}
use Rattle.n3_patch.specs.Rules.{is_nested, has_blank}

-- No rule with a lesser rank is broken.
abbrev pub KeepsBelow : List PatchTriple → ℕ → Type 0
KeepsBelow triples n = (other : PatchRule) → rank other < n → Breaks triples other → ⊥

-- whether a triple breaks a rule of single triples
abbrev pub breaks : PatchRule → PatchNode → PatchTriple → Bool
breaks rule.ManyPatches r t = types_other r t
breaks rule.NotFormula r t = gives_other r t
breaks rule.Stray r t = is_stray r t
breaks rule.Nested r t = is_nested t
breaks rule.BlankNode r t = has_blank t
breaks other r t = false

-- whether the patch of the resource r breaks a rule, if it is one up to `BlankNode`
abbrev pub is_broken : PatchRule → PatchNode → List PatchTriple → Bool
is_broken rule.NoPatch r triples = false
is_broken rule.Repeated r triples = is_repeated r triples
is_broken other r triples = list_any (breaks other r) triples

-- The pattern of a triple, in which a formula is a variable without a name.
abbrev pub slot_like : PatchNode → Slot
slot_like (Term t) = Fixed t
slot_like (Variable name) = Var name
slot_like (Formula i) = Var []

abbrev pub pattern_like : PatchTriple → Pattern
pattern_like t =
    record { s = slot_like t.subject; p = slot_like t.predicate; o = slot_like t.object }

-- the set has these patterns
abbrev pub HasPatterns : BTreeSet Pattern → List Pattern → Type 0
HasPatterns seen patterns = (x : Pattern) → contains pattern_cmp seen x
    ≡ list_any (eq_by_cmp pattern_cmp x) patterns

-- with the pattern of a triple, if it is in the formula, these are the set and the list
pub record TakesPattern (i : ℕ) (t : PatchTriple) (patterns : List Pattern)
    (seen_after : BTreeSet Pattern) (patterns_after : List Pattern) : Type 0 where
  pub patterns_are : patterns_after
      ≡ (if is_this_formula i t.formula then with_pattern patterns (pattern_of t) else patterns)
  pub seen_are : HasPatterns seen_after patterns_after

abbrev pub AddsPattern : ℕ → PatchTriple → BTreeSet Pattern → List Pattern → BTreeSet Pattern
    → List Pattern → Type 0
AddsPattern i t seen patterns seen_after patterns_after = HasPatterns seen patterns
    → TakesPattern i t patterns seen_after patterns_after
