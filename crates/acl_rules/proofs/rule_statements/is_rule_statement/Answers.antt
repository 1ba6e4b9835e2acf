use Rattle.std.proofs.Common.{◌≡◌, true, false, sym, ◌∙◌}
use Rattle.rdf_graph.specs.Term.{term_eq}
use Rattle.rdf_graph.specs.declared.term.Term.TheVariants.{Iri}
use Rattle.acl_rules.specs.Rules.{is_of}
use Rattle.acl_rules.specs.Vocabulary.{rdf_type, acl_authorization}
use Rattle.acl_rules.proofs.Choices.{both, neither}
use Rattle.acl_rules.proofs.rule_statements.is_rule_statement.Goals as goal

pub returns-then-is_iri : goal.returns-then-is_iri
unfolding rdf_type acl_authorization
returns-then-is_iri c =
    let own : is_of rdf_type c.args.triple.now ≡ true = sym c.is_iri.ensures ∙ c.if-is_iri.true in
    both (is_of rdf_type c.args.triple.now) (term_eq c.args.triple.now.o (Iri acl_authorization)) c.is_iri-then-is_iri.result own c.is_iri-then-is_iri.ensures

pub returns-else-is_iri : goal.returns-else-is_iri
unfolding rdf_type acl_authorization
returns-else-is_iri c =
    let other : is_of rdf_type c.args.triple.now ≡ false = sym c.is_iri.ensures ∙ c.if-is_iri.false in
    neither (is_of rdf_type c.args.triple.now) (term_eq c.args.triple.now.o (Iri acl_authorization)) c.is_iri.result other c.if-is_iri.false
