use Rattle.rule_cases.proofs.searches.steps_of.Given as goal

abbrev pub ghosts-steps_on : goal.ghosts-steps_on
ghosts-steps_on a = record { name = a.blank.name; parts = a.blank.parts }
