-- A rule that is built from one triple after another.
use Rattle.std.specs.Prelude.{ℕ, List, [], ◌++◌}
use Rattle.std.specs.Option.{option_to_list}
use Rattle.rdf_graph.specs.declared.term.Term.{Term}
use Rattle.rdf_graph.specs.declared.triple.Triple.{Triple}
use Rattle.acl_rules.specs.declared.rule.Rule.{Rule}
use Rattle.acl_rules.specs.Rules.{granted_mode, place_of, subject_of}
use Rattle.acl_rules.specs.Vocabulary.{acl_access_to, acl_default}

-- A node without values.
abbrev pub empty_rule : Term → Rule
empty_rule node = record { node = node; access_to = []; defaults = []; modes = []; subjects = [] }

-- The rule with the paths that a triple gives.
abbrev pub with_places : List ℕ → Triple → Rule → Rule
with_places base t rule = record rule {
  access_to = rule.access_to ++ option_to_list (place_of base acl_access_to t);
  defaults = rule.defaults ++ option_to_list (place_of base acl_default t);
}

-- The rule with all that a triple gives.
abbrev pub with_triple : List ℕ → Triple → Rule → Rule
with_triple base t rule = record rule {
  access_to = rule.access_to ++ option_to_list (place_of base acl_access_to t);
  defaults = rule.defaults ++ option_to_list (place_of base acl_default t);
  modes = rule.modes ++ option_to_list (granted_mode t);
  subjects = rule.subjects ++ option_to_list (subject_of base t);
}
