use Rattle.std.proofs.Common.{Some, sym, subst}
use Rattle.std.specs.Option.{option_copied}
use Rattle.turtle_lex.specs.declared.delimited.Content.{Content}
use Rattle.turtle_lex.specs.Classes.{is_iri_char}
use Rattle.turtle_lex.specs.Pattern.{one, MatchesOnly}
use Rattle.turtle_lex.specs.Terminals.{uchar}
use Rattle.turtle_lex.specs.Delimited.{part}
use Rattle.turtle_lex.proofs.Matching.{or_left, or_right}
use Rattle.turtle_lex.proofs.EscapeLemmas.{uchar_head, char_no_escape}
use Rattle.turtle_lex.proofs.DelimitedLemmas.{iri_no_backslash, line_no_backslash}
use Rattle.turtle_lex.proofs.delimited.strip_part.Goals as goal

pub strip_char-requires : goal.strip_char-requires
strip_char-requires c = line_no_backslash c.in-Line.quote

pub returns-in-Some-clause-matches : goal.returns-in-Some-clause-matches
returns-in-Some-clause-matches c =
    let s = c.args.text.now in
    subst (λ (i : Content). MatchesOnly (part i) s (Some c.in-Some.rest.now)) (sym c.in-Iri.is)
    (or_left (one is_iri_char) uchar s _ c.in-Some.ensures.matches
    (char_no_escape is_iri_char uchar s c.in-Some.rest.now iri_no_backslash (λ r. uchar_head s r) c.in-Some.ensures.matches.found))

pub returns-in-None-clause-matches : goal.returns-in-None-clause-matches
returns-in-None-clause-matches c =
    let s = c.args.text.now in
    subst (λ (i : Content). MatchesOnly (part i) s (option_copied c.strip_uchar.result)) (sym c.in-Iri.is)
    (or_right (one is_iri_char) uchar s _ c.in-None.ensures.matches c.strip_uchar.ensures.matches)
