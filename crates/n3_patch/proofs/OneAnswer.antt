-- A text is read in one way.
use Rattle.std.proofs.Common.{◌≡◌, ◌<◌, ◌⊎◌, ℕ, List, Result, Ok, Err, IfOk, IfErr, OnOk, inl, inr, refl, sym, ap, subst, arith}
use Rattle.graph_patch.specs.declared.patch.Patch.{Patch as RdfPatch}
use Rattle.rdf_graph.specs.declared.size.TheConstants.{TRIPLES_LIMIT}
use Rattle.turtle_grammar.specs.declared.symbol.Start.TheVariants.{Patch}
use Rattle.turtle_terms.specs.declared.fault.TurtleFault.{TurtleFault}
use Rattle.turtle_reader.specs.FirstFaults.{IsShallow, NeverLarge}
use Rattle.turtle_reader.specs.LanguageFaults.{IsFirstSyntaxFault}
use Rattle.turtle_reader.proofs.OneFault.{one_first_fault}
use Rattle.turtle_reader.proofs.OneText.{no_fault, nowhere_large}
use Rattle.n3_patch.specs.declared.fault.N3Fault.{N3Fault}
use Rattle.n3_patch.specs.declared.fault.N3Fault.TheVariants.{Syntax, Constraint, TooLarge, NoMemory}
use Rattle.n3_patch.specs.declared.triples.PatchTriple.{PatchTriple}
use Rattle.n3_patch.specs.Answers.{HasOneAnswer, IsReadAs, SameAnswer}
use Rattle.n3_patch.specs.Faults.{HasNoFault, HasOnlyPatch, HasSyntax, IsN3Fault, told_as}
use Rattle.n3_patch.specs.Rules.{IsFirstBroken, IsJudged, KeepsRules}
use Rattle.n3_patch.specs.Size.{patch_size}
use Rattle.n3_patch.specs.Spells.{PatchSpells}
use Rattle.n3_patch.proofs.Meant.{one_spelled}
use Rattle.n3_patch.proofs.RuleLemmas.{one_patch, one_rule, patch_breaks_none}

abbrev Answer : Type 0
Answer = Result RdfPatch N3Fault

abbrev refused : N3Fault → Answer
refused fault = Err fault

-- what is made of the triples of a text without a fault of syntax
abbrev IsMade : List PatchTriple → Answer → Type 0
IsMade ts (Ok patch) = IsJudged ts patch
IsMade ts (Err (Constraint rule)) = IsFirstBroken ts rule
IsMade ts (Err TooLarge) = KeepsRules ts × (TRIPLES_LIMIT < patch_size ts)
IsMade ts (Err other) = ⊥

one_made : (ts : List PatchTriple) (a b : Answer) → IsMade ts a → IsMade ts b → SameAnswer a b
one_made ts a (Err (Syntax at)) h k = absurd k
one_made ts a (Err NoMemory) h k = absurd k
one_made ts (Err (Syntax at)) b h k = absurd h
one_made ts (Err NoMemory) b h k = absurd h
one_made ts (Ok p) (Ok q) h k = one_patch ts p q h k
one_made ts (Ok p) (Err (Constraint r)) h k = patch_breaks_none ts p r h k
one_made ts (Ok p) (Err TooLarge) h k = let fits = h.fits in let large = k.1 in omega (arith, fits, large)
one_made ts (Err (Constraint r)) (Ok q) h k = patch_breaks_none ts q r k h
one_made ts (Err (Constraint r)) (Err (Constraint s)) h k = ap Constraint (one_rule ts r s h k)
one_made ts (Err (Constraint r)) (Err TooLarge) h k = absurd (k.0 r h.breaks)
one_made ts (Err TooLarge) (Ok q) h k = let fits = k.fits in let large = h.1 in omega (arith, fits, large)
one_made ts (Err TooLarge) (Err (Constraint s)) h k = absurd (h.0 s k.breaks)
one_made ts (Err TooLarge) (Err TooLarge) h k = refl

module _ (base bytes : List ℕ) where
  -- an answer is a fault of syntax, or is made of triples
  abbrev IsBad : Answer → Type 0
  IsBad a = (f : TurtleFault) × IsFirstSyntaxFault Patch base bytes f × (a ≡ refused (told_as f))

  abbrev IsSound : Answer → Type 0
  IsSound a = (ts : List PatchTriple) × HasSyntax base bytes ts × IsMade ts a

  either : (a : Answer) → IsReadAs base bytes a → IsBad a ⊎ IsSound a
  either (Ok patch) h = inr (h.0.triples, record { spells = h.0.spells; sound = h.1 }, h.0.judged)
  either (Err (Syntax at)) (f, is, told) = inl (f, is, ap refused (sym told))
  either (Err (Constraint rule)) (ts, syntax, broken) = inr (ts, syntax, broken)
  either (Err TooLarge) (ts, syntax, keeps, large) = inr (ts, syntax, (keeps, large))
  either (Err NoMemory) h = absurd h

  not_both : (a b : Answer) → IsBad a → IsSound b → ⊥
  not_both a b (f, is, told) (ts, syntax, made) = syntax.sound is.index f is.has

  one_bad : (a b : Answer) → IsBad a → IsBad b → SameAnswer a b
  one_bad a b (f, is, told) (g, is', told') =
      let same : told_as f ≡ told_as g = ap told_as (one_first_fault NeverLarge Patch base bytes f g is is') in
      subst (λ (z : Answer). SameAnswer z b) (sym told) (subst (SameAnswer (refused (told_as f))) (sym told') same)

  one_sound : (a b : Answer) → IsSound a → IsSound b → SameAnswer a b
  one_sound a b (ts, syntax, made) (us, syntax', made') =
      let same : us ≡ ts = one_spelled base bytes us ts syntax'.spells syntax.spells in
      one_made ts a b made (subst (λ (z : List PatchTriple). IsMade z b) same made')

  same_answer : (a b : Answer) → IsBad a ⊎ IsSound a → IsBad b ⊎ IsSound b → SameAnswer a b
  same_answer a b (inl bad) (inl bad') = one_bad a b bad bad'
  same_answer a b (inl bad) (inr sound) = absurd (not_both a b bad sound)
  same_answer a b (inr sound) (inl bad) = absurd (not_both b a bad sound)
  same_answer a b (inr sound) (inr sound') = one_sound a b sound sound'

pub one_answer : HasOneAnswer
one_answer base bytes a b h k = same_answer base bytes a b (either base bytes a h) (either base bytes b k)

-- What is returned, where the bytes spell a patch and no bracket is too deep

module _ (base bytes : List ℕ) (patch : RdfPatch) (h : PatchSpells base bytes patch) (shallow : IsShallow NeverLarge Patch base bytes) where
  read_as : IsReadAs base bytes (Ok patch)
  read_as = (h, no_fault NeverLarge Patch base bytes h.spells.productions h.spells.meanings h.spells.text shallow (nowhere_large Patch base bytes))

  only_memory : (f : N3Fault) → IsN3Fault base bytes f → f ≡ NoMemory
  only_memory NoMemory is = refl
  only_memory f is = absurd (one_answer base bytes (Ok patch) (Err f) read_as is)

pub only : (base bytes : List ℕ) (r : Answer) → IfOk r (PatchSpells base bytes) → OnOk r (HasNoFault base bytes) → IfErr r (IsN3Fault base bytes)
    → HasOnlyPatch base bytes r
only base bytes (Ok found) spells sound fault patch h shallow = one_answer base bytes (Ok found) (Ok patch) (spells, sound) (read_as base bytes patch h shallow)
only base bytes (Err f) spells sound fault patch h shallow = only_memory base bytes patch h shallow f fault
