-- An update has one outcome.
use Rattle.std.proofs.Common.{◌≡◌, ◌⊎◌, ℕ, List, refl, sym, ap, ◌∙◌, inl, inr, Ok, Err}
use Rattle.pod_base.specs.Listed.{Listed}
use Rattle.n3_patch.specs.declared.fault.PatchRule.TheVariants as rules
use Rattle.sparql_patch.specs.declared.fault.SparqlFault.{SparqlFault}
use Rattle.sparql_patch.specs.declared.fault.SparqlFault.TheVariants as fault_of
use Rattle.sparql_patch.specs.declared.named.Named.{Named}
use Rattle.sparql_patch.specs.Laws.{IsReadAs}
use Rattle.sparql_patch.proofs.OneAnswer.{no_refusal, one_answer, same_fault, same_items}
use Rattle.request_body.specs.declared.body.RequestBody.TheVariants.{Update}
use Rattle.request_body.specs.declared.fault.BodyFault.TheVariants.{Syntax, Rule, GraphSize}
use Rattle.request_body.specs.Bodies.{Outcome, IsUpdateBody}
use Rattle.request_body.specs.Laws.{SameOutcome}
use Rattle.request_body.proofs.Same.{same, same_update}

abbrev told : SparqlFault → Outcome
told (fault_of.Syntax at) = Err (Syntax at)
told fault_of.Blank = Err (Rule rules.BlankNode)
told fault_of.TooLarge = Err GraphSize
told fault_of.NoMemory = Err GraphSize

module _ (base bytes : List ℕ) where
  abbrev IsTold : SparqlFault → Type 0
  IsTold f = IsReadAs base bytes (Err f)

  abbrev AreNamed : Listed Named → Type 0
  AreNamed u = IsReadAs base bytes (Ok u.items)

  abbrev End : Outcome → Type 0
  End o = ((u : Listed Named) × (o ≡ Ok (Update u)) × AreNamed u) ⊎ ((f : SparqlFault) × (o ≡ told f) × IsTold f)

  ends : (o : Outcome) → IsUpdateBody base bytes o → End o
  ends (Ok (Update u)) h = inl (u, refl, h)
  ends (Err (Syntax at)) h = inr (fault_of.Syntax at, refl, h)
  ends (Err (Rule rules.BlankNode)) h = inr (fault_of.Blank, refl, h)
  ends (Err GraphSize) h = inr (fault_of.TooLarge, refl, h)
  ends _ h = absurd h

  one : (a b : Outcome) → End a → End b → SameOutcome a b
  one a b (inl (u, e, is)) (inl (v, f, is')) = same_update a b u v e f (same_items u.items v.items (one_answer base bytes (Ok u.items) (Ok v.items) is is'))
  one a b (inl (u, e, is)) (inr (g, f, bad)) = absurd (no_refusal g u.items (one_answer base bytes (Ok u.items) (Err g) is bad))
  one a b (inr (f, e, bad)) (inl (u, k, is)) = absurd (no_refusal f u.items (one_answer base bytes (Ok u.items) (Err f) is bad))
  one a b (inr (f, e, bad)) (inr (g, k, bad')) = same a b (e ∙ ap told (same_fault f g (one_answer base bytes (Err f) (Err g) bad bad')) ∙ sym k)

pub one_update_body : (base bytes : List ℕ) (a b : Outcome) → IsUpdateBody base bytes a → IsUpdateBody base bytes b → SameOutcome a b
one_update_body base bytes a b h k = one base bytes a b (ends base bytes a h) (ends base bytes b k)
