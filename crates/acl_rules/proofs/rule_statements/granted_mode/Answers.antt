use Rattle.std.proofs.Common.{◌≡◌, true, false, sym, ap, ◌∙◌}
use Rattle.acl_rules.specs.Rules.{is_of, mode_of}
use Rattle.acl_rules.specs.Vocabulary.{acl_mode}
use Rattle.acl_rules.proofs.Choices.{other_property, own_value}
use Rattle.acl_rules.proofs.rule_statements.granted_mode.Goals as goal

pub returns-then-not-is_iri : goal.returns-then-not-is_iri
unfolding acl_mode
returns-then-not-is_iri c =
    let other : is_of acl_mode c.args.triple.now ≡ false = sym c.is_iri.ensures ∙ c.if-not-is_iri.true in
    other_property acl_mode mode_of c.args.triple.now other

pub returns-in-Iri : goal.returns-in-Iri
unfolding acl_mode
returns-in-Iri c =
    let own : is_of acl_mode c.args.triple.now ≡ true = sym c.is_iri.ensures ∙ c.if-not-is_iri.false in
    own_value acl_mode mode_of c.args.triple.now c.in-Iri.iri c.mode_of.result own c.in-Iri.is (c.mode_of.ensures ∙ ap mode_of c.as_str.ensures.text)
