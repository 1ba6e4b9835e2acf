-- Why a text is not a patch document, and which fault is reported.
use Rattle.std.specs.Prelude.{◌≡◌, ◌<◌, ℕ, List, Result, Ok, Err}
use Rattle.graph_patch.specs.declared.patch.Patch.{Patch as RdfPatch}
use Rattle.rdf_graph.specs.declared.size.TheConstants.{TRIPLES_LIMIT}
use Rattle.turtle_grammar.specs.declared.symbol.Start.TheVariants.{Patch}
use Rattle.turtle_terms.specs.declared.fault.TurtleFault.{TurtleFault}
use Rattle.turtle_terms.specs.declared.fault.TurtleFault.TheVariants as turtle
use Rattle.turtle_reader.specs.FirstFaults as first
use Rattle.turtle_reader.specs.FirstFaults.{NeverLarge}
use Rattle.turtle_reader.specs.LanguageFaults.{IsFirstSyntaxFault}
use Rattle.n3_patch.specs.declared.fault.N3Fault.{N3Fault}
use Rattle.n3_patch.specs.declared.fault.N3Fault.TheVariants.{Syntax, Constraint, TooLarge}
use Rattle.n3_patch.specs.declared.fault.N3Fault.TheVariants.{NoMemory}
use Rattle.n3_patch.specs.declared.triples.PatchTriple.{PatchTriple}
use Rattle.n3_patch.specs.Laws.{SamePatch}
use Rattle.n3_patch.specs.Rules.{IsFirstBroken, KeepsRules}
use Rattle.n3_patch.specs.Size.{patch_size}
use Rattle.n3_patch.specs.Spells.{SpellsTriples, PatchSpells}

-- The bytes have no fault of syntax.
abbrev pub HasNoFault : List ℕ → List ℕ → Type 0
HasNoFault base bytes = first.HasNoFault NeverLarge Patch base bytes

-- a fault of syntax as it is reported
abbrev pub told_as : TurtleFault → N3Fault
told_as (turtle.Bad at kind) = Syntax at
told_as (turtle.TooLarge at) = Syntax at
told_as turtle.NoMemory = NoMemory

-- The bytes have syntax without fault, and these triples.
pub record HasSyntax (base bytes : List ℕ) (triples : List PatchTriple) : Type 0 where
  pub spells : SpellsTriples base bytes triples
  pub sound : HasNoFault base bytes

-- Why the bytes parse to no patch: the first fault of syntax, else the first broken rule, else
-- their size.
abbrev pub IsN3Fault : List ℕ → List ℕ → N3Fault → Type 0
IsN3Fault base bytes (Syntax at) =
    (fault : TurtleFault) × IsFirstSyntaxFault Patch base bytes fault × (told_as fault ≡ Syntax at)
IsN3Fault base bytes (Constraint rule) =
    (triples : List PatchTriple) × HasSyntax base bytes triples × IsFirstBroken triples rule
IsN3Fault base bytes TooLarge = (triples : List PatchTriple) × HasSyntax base bytes triples
    × KeepsRules triples × (TRIPLES_LIMIT < patch_size triples)
IsN3Fault base bytes NoMemory = Unit {0}

-- this patch, or out of memory
abbrev pub IsPatchOrNoMemory : Result RdfPatch N3Fault → RdfPatch → Type 0
IsPatchOrNoMemory (Ok found) patch = SamePatch found patch
IsPatchOrNoMemory (Err fault) patch = fault ≡ NoMemory

-- Where the bytes parse to a patch and no bracket is too deep, it is this patch, or out of memory.
abbrev pub HasOnlyPatch : List ℕ → List ℕ → Result RdfPatch N3Fault → Type 0
HasOnlyPatch base bytes result = (patch : RdfPatch) → PatchSpells base bytes patch
    → first.IsShallow NeverLarge Patch base bytes → IsPatchOrNoMemory result patch
