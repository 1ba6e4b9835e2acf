-- The laws of whole documents. Each is the contract of a function of `laws`.
use Rattle.std.specs.Prelude.{◌≡◌, ℕ, List, Result, Ok, Err}
use Rattle.graph_patch.specs.declared.patch.Patch.{Patch}
use Rattle.n3_patch.specs.declared.fault.N3Fault.{N3Fault}
use Rattle.n3_patch.specs.declared.fault.N3Fault.TheVariants.{NoMemory}
use Rattle.n3_patch.specs.Faults.{HasNoFault, IsN3Fault}
use Rattle.n3_patch.specs.Laws.{SamePatch}
use Rattle.n3_patch.specs.Spells.{PatchSpells}

-- A text is read as this patch, or has this fault, which is none of memory.
abbrev pub IsReadAs : List ℕ → List ℕ → Result Patch N3Fault → Type 0
IsReadAs base bytes (Ok patch) = PatchSpells base bytes patch × HasNoFault base bytes
IsReadAs base bytes (Err NoMemory) = ⊥
IsReadAs base bytes (Err fault) = IsN3Fault base bytes fault

-- two answers are one
abbrev pub SameAnswer : Result Patch N3Fault → Result Patch N3Fault → Type 0
SameAnswer (Ok a) (Ok b) = SamePatch a b
SameAnswer (Err f) (Err g) = f ≡ g
SameAnswer a b = ⊥

-- It is read in one way at most.
abbrev pub HasOneAnswer : Type 0
HasOneAnswer = (base bytes : List ℕ) (a b : Result Patch N3Fault) → IsReadAs base bytes a
    → IsReadAs base bytes b → SameAnswer a b
