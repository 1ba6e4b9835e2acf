use Rattle.std.proofs.Common.{◌≡◌, ℕ, List, Option, true, false, cond, Some, None, sym, ap, ◌∙◌, refl}
use Rattle.rdf_graph.specs.declared.term.Term.TheVariants.{Iri}
use Rattle.rdf_graph.specs.declared.triple.Triple.{Triple}
use Rattle.acl_rules.specs.Rules.{is_of, from_iri, agent_of, class_of, group_of, subject_of}
use Rattle.acl_rules.specs.Vocabulary.{acl_agent, acl_agent_class, acl_agent_group}
use Rattle.acl_rules.specs.declared.rule.Subject.{Subject}
use Rattle.acl_rules.proofs.Choices.{chosen, passed, if_ok_is}
use Rattle.acl_rules.proofs.rule_statements.subject_of.Goals as goal

-- the chain of tests, and the same from the second and from the third on
module _ (base : List ℕ) (t : Triple) (iri : List ℕ) (is : t.o ≡ Iri iri) where
  abbrev third : Option Subject
  third = cond (is_of acl_agent_group t) (from_iri (group_of base) t.o) None

  abbrev second : Option Subject
  second = cond (is_of acl_agent_class t) (from_iri class_of t.o) third

  agent_case : is_of acl_agent t ≡ true → agent_of iri ≡ subject_of base t
  agent_case a = sym (ap (from_iri agent_of) is) ∙ chosen (is_of acl_agent t) (from_iri agent_of t.o) second a

  class_case : is_of acl_agent t ≡ false → is_of acl_agent_class t ≡ true → class_of iri ≡ subject_of base t
  class_case a b =
      sym (ap (from_iri class_of) is)
      ∙ passed (is_of acl_agent t) (from_iri agent_of t.o) (from_iri class_of t.o) second a (chosen (is_of acl_agent_class t) (from_iri class_of t.o) third b)

  group_case : is_of acl_agent t ≡ false → is_of acl_agent_class t ≡ false → is_of acl_agent_group t ≡ true → group_of base iri ≡ subject_of base t
  group_case a b c =
      sym (ap (from_iri (group_of base)) is)
      ∙ passed (is_of acl_agent t) (from_iri agent_of t.o) (from_iri (group_of base) t.o) second a
      (passed (is_of acl_agent_class t) (from_iri class_of t.o) (from_iri (group_of base) t.o) third b
      (chosen (is_of acl_agent_group t) (from_iri (group_of base) t.o) None c))

  other_case : is_of acl_agent t ≡ false → is_of acl_agent_class t ≡ false → is_of acl_agent_group t ≡ false → None ≡ subject_of base t
  other_case a b c =
      passed (is_of acl_agent t) (from_iri agent_of t.o) None second a
      (passed (is_of acl_agent_class t) (from_iri class_of t.o) None third b
      (passed (is_of acl_agent_group t) (from_iri (group_of base) t.o) None None c refl))

pub returns-then-is_iri : goal.returns-then-is_iri
unfolding acl_agent
returns-then-is_iri c =
    let a : is_of acl_agent c.args.triple.now ≡ true = sym c.is_iri.ensures ∙ c.if-is_iri.true in
    if_ok_is c.agent_of.result (agent_of c.as_str.result.now) (subject_of c.args.base.now c.args.triple.now)
    (ap agent_of c.as_str.ensures.text ∙ agent_case c.args.base.now c.args.triple.now c.in-Iri.iri c.in-Iri.is a) c.agent_of.ensures

pub returns-then-is_iri-2 : goal.returns-then-is_iri-2
unfolding acl_agent acl_agent_class
returns-then-is_iri-2 c =
    let a : is_of acl_agent c.args.triple.now ≡ false = sym c.is_iri.ensures ∙ c.if-is_iri.false in
    let b : is_of acl_agent_class c.args.triple.now ≡ true = sym c.is_iri-else-is_iri.ensures ∙ c.if-is_iri-2.true in
    c.class_of.ensures ∙ ap class_of c.as_str-then-is_iri-2.ensures.text ∙ class_case c.args.base.now c.args.triple.now c.in-Iri.iri c.in-Iri.is a b

pub returns-then-is_iri-3 : goal.returns-then-is_iri-3
unfolding acl_agent acl_agent_class acl_agent_group
returns-then-is_iri-3 c =
    let a : is_of acl_agent c.args.triple.now ≡ false = sym c.is_iri.ensures ∙ c.if-is_iri.false in
    let b : is_of acl_agent_class c.args.triple.now ≡ false = sym c.is_iri-else-is_iri.ensures ∙ c.if-is_iri-2.false in
    let d : is_of acl_agent_group c.args.triple.now ≡ true = sym c.is_iri-else-is_iri-2.ensures ∙ c.if-is_iri-3.true in
    if_ok_is c.group_of.result (group_of c.args.base.now c.as_str-then-is_iri-3.result.now) (subject_of c.args.base.now c.args.triple.now)
    (ap (group_of c.args.base.now) c.as_str-then-is_iri-3.ensures.text ∙ group_case c.args.base.now c.args.triple.now c.in-Iri.iri c.in-Iri.is a b d) c.group_of.ensures

pub returns-else-is_iri-3 : goal.returns-else-is_iri-3
unfolding acl_agent acl_agent_class acl_agent_group
returns-else-is_iri-3 c =
    let a : is_of acl_agent c.args.triple.now ≡ false = sym c.is_iri.ensures ∙ c.if-is_iri.false in
    let b : is_of acl_agent_class c.args.triple.now ≡ false = sym c.is_iri-else-is_iri.ensures ∙ c.if-is_iri-2.false in
    let d : is_of acl_agent_group c.args.triple.now ≡ false = sym c.is_iri-else-is_iri-2.ensures ∙ c.if-is_iri-3.false in
    other_case c.args.base.now c.args.triple.now c.in-Iri.iri c.in-Iri.is a b d
