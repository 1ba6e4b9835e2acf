use Rattle.std.proofs.Common.{[], ◌∷◌, ◌∙◌}
use Rattle.acl_rules.specs.Statements.{statement}
use Rattle.acl_rules.specs.Vocabulary.{rdf_type, acl_authorization, acl_access_to, acl_agent, acl_default}
use Rattle.rdf_graph.specs.declared.term.Term.TheVariants.{Iri}
use Rattle.pod_rows.proofs.Appending.{four_first}
use Rattle.pod_rows.proofs.owner_rule.subject_triples.Goals as goal

pub returns : goal.returns
unfolding rdf_type acl_authorization acl_access_to acl_agent acl_default
returns c =
    let about = c.as_str.ensures.text in
    let agent = c.as_str-2.ensures.text in
    let below = c.as_str-3.ensures.text in
    four_first _ _ _ _ _ _ _ _ _ c.new-triples.ensures.items c.in_ok-append.ensures c.in_ok-append-2.ensures c.in_ok-append-3.ensures c.in_ok-append-4.ensures
    ∙ (λ i. statement (Iri c.args.rule.now) rdf_type acl_authorization ∷ statement (Iri c.args.rule.now) acl_access_to (about i)
    ∷ statement (Iri c.args.rule.now) acl_agent (agent i) ∷ statement (Iri c.args.rule.now) acl_default (below i) ∷ [])
