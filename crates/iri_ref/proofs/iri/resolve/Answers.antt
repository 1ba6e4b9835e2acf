use Rattle.std.proofs.Common.{rules}
use Rattle.iri_ref.specs.Characters.{AllAllowed}
use Rattle.iri_ref.specs.Resolution.{IsResolved}
use Rattle.iri_ref.proofs.Resolving.{references_resolve_uniquely, resolved_absolute, takes_scheme, stays_resolved}
use Rattle.iri_ref.proofs.iri.resolve.Goals as goal

pub invariant_of-result : goal.invariant_of-result
invariant_of-result c =
    let resolved : IsResolved c.args.base.now c.args.reference.now c.in_ok-text.text = search rules in
    let allowed : AllAllowed c.args.reference.now = search rules in
    resolved_absolute c.args.base.now c.args.reference.now c.in_ok-text.text c.as_str.ensures.absolute allowed resolved

pub returns-clause-absolute : goal.returns-clause-absolute
returns-clause-absolute c =
    let resolved : IsResolved c.args.base.now c.args.reference.now c.in_ok-text.text = search rules in
    let allowed : AllAllowed c.args.reference.now = search rules in
    resolved_absolute c.args.base.now c.args.reference.now c.in_ok-text.text c.as_str.ensures.absolute allowed resolved

pub returns-clause-only : goal.returns-clause-only
returns-clause-only c =
    let resolved : IsResolved c.args.base.now c.args.reference.now c.in_ok-text.text = search rules in
    λ other h. references_resolve_uniquely c.args.base.now c.args.reference.now other c.in_ok-text.text h resolved

pub returns-clause-scheme : goal.returns-clause-scheme
returns-clause-scheme c =
    let resolved : IsResolved c.args.base.now c.args.reference.now c.in_ok-text.text = search rules in
    takes_scheme c.args.base.now c.args.reference.now c.in_ok-text.text c.as_str.ensures.absolute.scheme resolved

pub returns-clause-again : goal.returns-clause-again
returns-clause-again c =
    let resolved : IsResolved c.args.base.now c.args.reference.now c.in_ok-text.text = search rules in
    let allowed : AllAllowed c.args.reference.now = search rules in
    let absolute = resolved_absolute c.args.base.now c.args.reference.now c.in_ok-text.text c.as_str.ensures.absolute allowed resolved in
    stays_resolved c.args.base.now c.in_ok-text.text absolute.scheme
