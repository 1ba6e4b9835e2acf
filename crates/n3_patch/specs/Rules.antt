-- The rules of a patch document, in order of precedence (Solid Protocol, N3 Patch).
use Rattle.std.specs.Prelude.{◌≡◌, ◌<◌, ◌≤◌, ◌&&◌, ◌||◌, ℕ, Bool, true, false, not, List, [], ◌∷◌}
use Rattle.std.specs.Prelude.{length, Option, Some, None}
use Rattle.std.specs.Prelude.{if◌then◌else◌}
use Rattle.std.specs.List.{list_any}
use Rattle.graph_patch.specs.Patch.{AllBound}
use Rattle.graph_patch.specs.declared.patch.Patch.{Patch}
use Rattle.rdf_graph.specs.declared.size.TheConstants.{TRIPLES_LIMIT}
use Rattle.n3_patch.specs.declared.fault.PatchRule.{PatchRule}
use Rattle.n3_patch.specs.declared.fault.PatchRule.TheVariants as rule
use Rattle.n3_patch.specs.declared.fault.Judgement.{Judgement}
use Rattle.n3_patch.specs.declared.fault.Judgement.TheVariants.{Broken, TooLarge, NoMemory}
use Rattle.n3_patch.specs.declared.fault.TheConstants.{CONDITIONS_LIMIT}
use Rattle.n3_patch.specs.declared.vocabulary.Part.TheVariants.{Where, Deletes, Inserts}
use Rattle.n3_patch.specs.declared.triples.PatchNode.{PatchNode}
use Rattle.n3_patch.specs.declared.triples.PatchTriple.{PatchTriple}
use Rattle.n3_patch.specs.Nodes.{node_eq, is_blank, is_formula}
use Rattle.n3_patch.specs.Parts.{is_inside, is_outside, is_typing, gives_part, gives_formula}
use Rattle.n3_patch.specs.Parts.{part_patterns, first_typing, IsPatchOf}
use Rattle.n3_patch.specs.Size.{patch_size}

-- another resource than r is a patch
abbrev pub types_other : PatchNode → PatchTriple → Bool
types_other r t = is_typing t && not (node_eq r t.subject)

-- at least two of these pass the test
abbrev pub has_two : (PatchTriple → Bool) → List PatchTriple → Bool
has_two test [] = false
has_two test (t ∷ triples) = if test t then list_any test triples else has_two test triples

-- two formulas for one part
abbrev pub is_repeated : PatchNode → List PatchTriple → Bool
is_repeated r triples = has_two (gives_formula r Where) triples
    || (has_two (gives_formula r Deletes) triples || has_two (gives_formula r Inserts) triples)

abbrev pub gives_any : PatchNode → PatchTriple → Bool
gives_any r t = gives_part r Where t || (gives_part r Deletes t || gives_part r Inserts t)

-- another object than a formula for a part
abbrev pub gives_other : PatchNode → PatchTriple → Bool
gives_other r t = gives_any r t && not (is_formula t.object)

-- a formula outside formulas that is no part
abbrev pub is_stray : PatchNode → PatchTriple → Bool
is_stray r t = is_outside t && (is_formula t.object && not (gives_any r t))

-- a formula in a formula
abbrev pub is_nested : PatchTriple → Bool
is_nested t = is_inside t && is_formula t.object

-- a blank node in a formula: a label, ANON, a bracket, or a cell of a collection
abbrev pub has_blank : PatchTriple → Bool
has_blank t = is_inside t && (is_blank t.subject || (is_blank t.predicate || is_blank t.object))

-- The patch of the resource r breaks a rule.
abbrev pub BreaksOf : PatchNode → List PatchTriple → PatchRule → Type 0
BreaksOf r triples rule.NoPatch = ⊥
BreaksOf r triples rule.ManyPatches = list_any (types_other r) triples ≡ true
BreaksOf r triples rule.Repeated = is_repeated r triples ≡ true
BreaksOf r triples rule.NotFormula = list_any (gives_other r) triples ≡ true
BreaksOf r triples rule.Stray = list_any (is_stray r) triples ≡ true
BreaksOf r triples rule.Nested = list_any is_nested triples ≡ true
BreaksOf r triples rule.BlankNode = list_any has_blank triples ≡ true
BreaksOf r triples rule.FreeVariable =
    AllBound (part_patterns r Deletes triples) (part_patterns r Where triples)
    × AllBound (part_patterns r Inserts triples) (part_patterns r Where triples) → ⊥
BreaksOf r triples rule.TooManyConditions =
    CONDITIONS_LIMIT < length (part_patterns r Where triples)

-- The triples break a rule, where this triple is the first that types its subject as a patch.
abbrev pub BreaksFrom : Option PatchTriple → List PatchTriple → PatchRule → Type 0
BreaksFrom None triples broken = broken ≡ rule.NoPatch
BreaksFrom (Some t) triples broken = BreaksOf t.subject triples broken

-- The triples break a rule.
abbrev pub Breaks : List PatchTriple → PatchRule → Type 0
Breaks triples broken = BreaksFrom (first_typing triples) triples broken

abbrev pub rank : PatchRule → ℕ
rank rule.NoPatch = 0
rank rule.ManyPatches = 1
rank rule.Repeated = 2
rank rule.NotFormula = 3
rank rule.Stray = 4
rank rule.Nested = 5
rank rule.BlankNode = 6
rank rule.FreeVariable = 7
rank rule.TooManyConditions = 8

-- It is the first rule that they break.
pub record IsFirstBroken (triples : List PatchTriple) (broken : PatchRule) : Type 0 where
  pub breaks : Breaks triples broken
  pub first : (other : PatchRule) → rank other < rank broken → Breaks triples other → ⊥

abbrev pub KeepsRules : List PatchTriple → Type 0
KeepsRules triples = (broken : PatchRule) → Breaks triples broken → ⊥

-- They break no rule and are not too large, and this is their patch.
pub record IsJudged (triples : List PatchTriple) (patch : Patch) : Type 0 where
  pub typing : PatchTriple
  pub found : first_typing triples ≡ Some typing
  pub is_patch : IsPatchOf typing.subject triples patch
  pub keeps : KeepsRules triples
  pub fits : patch_size triples ≤ TRIPLES_LIMIT

-- why triples have no patch
abbrev pub IsFaultOf : List PatchTriple → Judgement → Type 0
IsFaultOf triples (Broken broken) = IsFirstBroken triples broken
IsFaultOf triples TooLarge = KeepsRules triples × (TRIPLES_LIMIT < patch_size triples)
IsFaultOf triples NoMemory = Unit {0}
