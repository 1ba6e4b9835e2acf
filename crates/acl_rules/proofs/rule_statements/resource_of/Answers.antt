use Rattle.std.proofs.Common.{◌≡◌, true, false, None, sym, ◌∙◌, refl}
use Rattle.std.specs.List.{list_any}
use Rattle.iri_ref.specs.Characters.{is_hash}
use Rattle.acl_rules.specs.Documents.{document_of, resource_of}
use Rattle.acl_rules.proofs.Choices.{chosen, passed, if_ok_is}
use Rattle.acl_rules.proofs.rule_statements.resource_of.Goals as goal

pub returns-then-has_fragment : goal.returns-then-has_fragment
unfolding resource_of
returns-then-has_fragment c =
    chosen (list_any is_hash c.args.iri.now) None (document_of c.args.base.now c.args.iri.now) (sym c.has_fragment.ensures ∙ c.if-has_fragment.true)

pub returns : goal.returns
unfolding resource_of
returns c =
    if_ok_is c.document_of.result (document_of c.args.base.now c.args.iri.now) (resource_of c.args.base.now c.args.iri.now)
    (passed (list_any is_hash c.args.iri.now) None (document_of c.args.base.now c.args.iri.now) (document_of c.args.base.now c.args.iri.now) (sym c.has_fragment.ensures ∙ c.if-has_fragment.false) refl)
    c.document_of.ensures
