use Rattle.std.proofs.Common.{sym, subst}
use Rattle.sparql_patch.specs.Reading.{IsNamingOrBlank}
use Rattle.sparql_patch.proofs.Namings.{named_from}
use Rattle.sparql_patch.proofs.collected_triples.naming_of.Goals as goal

pub returns : goal.returns
returns c = subst (IsNamingOrBlank c.args.resolved) (sym c.naming_from.ensures)
    (named_from c.args.resolved c.is_insert-insert.result c.is_insert-insert.ensures c.in_ok-s.s c.in_ok-p.p c.in_ok-o.o
    c.in_ok-s.ensures c.in_ok-p.ensures c.in_ok-o.ensures)
