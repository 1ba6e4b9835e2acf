use Rattle.std.proofs.Common.{None, sym, subst}
use Rattle.std.specs.Option.{option_copied}
use Rattle.turtle_lex.specs.declared.names.Parts.{Parts}
use Rattle.turtle_lex.specs.Classes.{is_pn_chars}
use Rattle.turtle_lex.specs.Pattern.{one, MatchesOnly}
use Rattle.turtle_lex.specs.Names.{colon_or_plx, name_part}
use Rattle.turtle_lex.proofs.Matching.{or_right}
use Rattle.turtle_lex.proofs.NameLemmas.{part_found}
use Rattle.turtle_lex.proofs.names.strip_name_part.Goals as goal

pub returns-in-Some-clause-matches : goal.returns-in-Some-clause-matches
returns-in-Some-clause-matches c = part_found c.args.parts _ _ c.in-Some.ensures.matches

pub returns-in-Plain-clause-matches : goal.returns-in-Plain-clause-matches
returns-in-Plain-clause-matches c =
    subst (λ (p : Parts). MatchesOnly (name_part p) c.args.text.now None) (sym c.in-Plain.is) c.in-None.ensures.matches

pub returns-in-Local-clause-matches : goal.returns-in-Local-clause-matches
returns-in-Local-clause-matches c =
    subst (λ (p : Parts). MatchesOnly (name_part p) c.args.text.now (option_copied c.strip_colon_or_plx.result)) (sym c.in-Local.is)
    (or_right (one is_pn_chars) colon_or_plx _ _ c.in-None.ensures.matches c.strip_colon_or_plx.ensures.matches)
