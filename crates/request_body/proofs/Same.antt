-- Equal outcomes are the same.
use Rattle.std.proofs.Common.{◌≡◌, refl, sym, subst, Ok, Err}
use Rattle.graph_patch.specs.declared.patch.Patch.{Patch as RdfPatch}
use Rattle.n3_patch.specs.Laws.{SamePatch}
use Rattle.pod_base.specs.Listed.{Listed}
use Rattle.sparql_patch.specs.declared.named.Named.{Named}
use Rattle.request_body.specs.declared.body.RequestBody.TheVariants.{Nothing, Content, Patch, Update}
use Rattle.request_body.specs.Bodies.{Outcome}
use Rattle.request_body.specs.Laws.{SameOutcome}

itself : (a : Outcome) → SameOutcome a a
itself (Ok Nothing) = refl
itself (Ok (Content c)) = refl
itself (Ok (Patch p)) = record { conditions = refl; deletions = refl; insertions = refl }
itself (Ok (Update u)) = refl
itself (Err f) = refl

pub same : (a b : Outcome) → a ≡ b → SameOutcome a b
same a b e = subst (λ (x : Outcome). SameOutcome a x) e (itself a)

-- two outcomes that equal the same one
pub alike : (a b c : Outcome) → a ≡ c → b ≡ c → SameOutcome a b
alike a b c e f = subst (λ (x : Outcome). SameOutcome x b) (sym e) (subst (λ (x : Outcome). SameOutcome c x) (sym f) (itself c))

pub same_patch : (a b : Outcome) (p q : RdfPatch) → a ≡ Ok (Patch p) → b ≡ Ok (Patch q) → SamePatch p q → SameOutcome a b
same_patch a b p q e f h =
    subst (λ (x : Outcome). SameOutcome x b) (sym e) (subst (λ (x : Outcome). SameOutcome (Ok (Patch p)) x) (sym f) h)

pub same_update : (a b : Outcome) (u v : Listed Named) → a ≡ Ok (Update u) → b ≡ Ok (Update v) → u.items ≡ v.items → SameOutcome a b
same_update a b u v e f h =
    subst (λ (x : Outcome). SameOutcome x b) (sym e) (subst (λ (x : Outcome). SameOutcome (Ok (Update u)) x) (sym f) h)
