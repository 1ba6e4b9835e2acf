use Rattle.std.proofs.Common.{◌≢◌, ℕ, List, Ok, Err, IfOk, IfErr, sym, subst}
use Rattle.turtle_terms.specs.Meaning.{IsFault, IsReferenceMeaning}
use Rattle.turtle_terms.specs.declared.fault.TurtleFault.TheVariants.{NoMemory}
use Rattle.turtle_terms.proofs.Decoding.{plain_value}
use Rattle.turtle_terms.proofs.iris.content_iri.Goals as goal

pub returns-then-not-has_backslash-clause-iri : goal.returns-then-not-has_backslash-clause-iri
returns-then-not-has_backslash-clause-iri c =
    subst (λ (v : List ℕ). IfOk c.iri_at.result (λ iri. IsReferenceMeaning c.args.base.now v (Ok iri)))
    (sym (plain_value c.args.content.now (c.has_backslash.ensures c.if-not-has_backslash.true))) c.iri_at.ensures.iri

pub returns-then-not-has_backslash-clause-fault : goal.returns-then-not-has_backslash-clause-fault
returns-then-not-has_backslash-clause-fault c =
    subst (λ (v : List ℕ). IfErr c.iri_at.result (λ fault. fault ≢ NoMemory → IsFault c.args.at (λ kind. IsReferenceMeaning c.args.base.now v (Err kind)) fault))
    (sym (plain_value c.args.content.now (c.has_backslash.ensures c.if-not-has_backslash.true))) c.iri_at.ensures.fault
