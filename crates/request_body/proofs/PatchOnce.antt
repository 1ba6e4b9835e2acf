-- A patch document has one outcome.
use Rattle.std.proofs.Common.{◌≡◌, ◌⊎◌, ℕ, List, refl, sym, ap, ◌∙◌, inl, inr, Ok, Err}
use Rattle.graph_patch.specs.declared.patch.Patch.{Patch as RdfPatch}
use Rattle.n3_patch.specs.declared.fault.N3Fault.{N3Fault}
use Rattle.n3_patch.specs.declared.fault.N3Fault.TheVariants as fault_of
use Rattle.n3_patch.specs.Answers.{IsReadAs}
use Rattle.n3_patch.proofs.OneAnswer.{one_answer}
use Rattle.request_body.specs.declared.body.RequestBody.TheVariants.{Patch}
use Rattle.request_body.specs.declared.fault.BodyFault.TheVariants.{Syntax, Rule, GraphSize}
use Rattle.request_body.specs.Bodies.{Outcome, IsPatchBody}
use Rattle.request_body.specs.Laws.{SameOutcome}
use Rattle.request_body.proofs.Same.{same, same_patch}

abbrev told : N3Fault → Outcome
told (fault_of.Syntax at) = Err (Syntax at)
told (fault_of.Constraint rule) = Err (Rule rule)
told fault_of.TooLarge = Err GraphSize
told fault_of.NoMemory = Err GraphSize

module _ (base bytes : List ℕ) where
  abbrev IsTold : N3Fault → Type 0
  IsTold f = IsReadAs base bytes (Err f)

  abbrev IsSpelled : RdfPatch → Type 0
  IsSpelled p = IsReadAs base bytes (Ok p)

  abbrev End : Outcome → Type 0
  End o = ((p : RdfPatch) × (o ≡ Ok (Patch p)) × IsSpelled p) ⊎ ((f : N3Fault) × (o ≡ told f) × IsTold f)

  ends : (o : Outcome) → IsPatchBody base bytes o → End o
  ends (Ok (Patch p)) h = inl (p, refl, h)
  ends (Err (Syntax at)) h = inr (fault_of.Syntax at, refl, h)
  ends (Err (Rule r)) h = inr (fault_of.Constraint r, refl, h)
  ends (Err GraphSize) h = inr (fault_of.TooLarge, refl, h)
  ends _ h = absurd h

  one : (a b : Outcome) → End a → End b → SameOutcome a b
  one a b (inl (p, e, is)) (inl (q, f, is')) = same_patch a b p q e f (one_answer base bytes (Ok p) (Ok q) is is')
  one a b (inl (p, e, is)) (inr (g, f, bad)) = absurd (one_answer base bytes (Ok p) (Err g) is bad)
  one a b (inr (f, e, bad)) (inl (p, k, is)) = absurd (one_answer base bytes (Err f) (Ok p) bad is)
  one a b (inr (f, e, bad)) (inr (g, k, bad')) = same a b (e ∙ ap told (one_answer base bytes (Err f) (Err g) bad bad') ∙ sym k)

pub one_patch : (base bytes : List ℕ) (a b : Outcome) → IsPatchBody base bytes a → IsPatchBody base bytes b → SameOutcome a b
one_patch base bytes a b h k = one base bytes a b (ends base bytes a h) (ends base bytes b k)
