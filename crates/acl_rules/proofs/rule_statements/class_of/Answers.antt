use Rattle.std.proofs.Common.{◌≡◌, true, false, cond, Some, None, sym, ◌∙◌, refl}
use Rattle.std.specs.Prelude.{bytes_eq}
use Rattle.acl_rules.specs.Vocabulary.{foaf_agent, acl_authenticated_agent}
use Rattle.acl_rules.specs.declared.rule.Subject.TheVariants.{Everyone, Authenticated}
use Rattle.acl_rules.proofs.Choices.{chosen, passed}
use Rattle.acl_rules.proofs.rule_statements.class_of.Goals as goal

pub returns-then-eq : goal.returns-then-eq
unfolding foaf_agent
returns-then-eq c =
    let all : bytes_eq c.args.iri.now foaf_agent ≡ true = sym c.eq.ensures ∙ c.if-eq.true in
    chosen (bytes_eq c.args.iri.now foaf_agent) (Some Everyone) (cond (bytes_eq c.args.iri.now acl_authenticated_agent) (Some Authenticated) None) all

pub returns-then-eq-2 : goal.returns-then-eq-2
unfolding foaf_agent acl_authenticated_agent
returns-then-eq-2 c =
    let all : bytes_eq c.args.iri.now foaf_agent ≡ false = sym c.eq.ensures ∙ c.if-eq.false in
    let known : bytes_eq c.args.iri.now acl_authenticated_agent ≡ true = sym c.eq-else-eq.ensures ∙ c.if-eq-2.true in
    passed (bytes_eq c.args.iri.now foaf_agent) (Some Everyone) (Some Authenticated) (cond (bytes_eq c.args.iri.now acl_authenticated_agent) (Some Authenticated) None) all
    (chosen (bytes_eq c.args.iri.now acl_authenticated_agent) (Some Authenticated) None known)

pub returns-else-eq-2 : goal.returns-else-eq-2
unfolding foaf_agent acl_authenticated_agent
returns-else-eq-2 c =
    let all : bytes_eq c.args.iri.now foaf_agent ≡ false = sym c.eq.ensures ∙ c.if-eq.false in
    let known : bytes_eq c.args.iri.now acl_authenticated_agent ≡ false = sym c.eq-else-eq.ensures ∙ c.if-eq-2.false in
    passed (bytes_eq c.args.iri.now foaf_agent) (Some Everyone) None (cond (bytes_eq c.args.iri.now acl_authenticated_agent) (Some Authenticated) None) all
    (passed (bytes_eq c.args.iri.now acl_authenticated_agent) (Some Authenticated) None None known refl)
