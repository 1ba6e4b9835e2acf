use Rattle.std.proofs.Common.{rules, ◌∙◌, ap}
use Rattle.std.specs.Prelude.{slice_get}
use Rattle.access_index.specs.Tables.{AreInOrder, keep_at}
use Rattle.access_index.proofs.OrderedTables.{entry_found, lent_at}
use Rattle.access_index.proofs.path_table.entry_at.Goals as goal

pub returns : goal.returns
returns c =
    let order : AreInOrder c.args.entries.now = search rules in
    c.keep_at.ensures
    ∙ ap (keep_at c.args.path.now) (lent_at c.get.result c.args.entries.now c.rank.result c.get.ensures.lookup ∙ ap (slice_get c.args.entries.now) c.rank.ensures)
    ∙ entry_found c.args.entries.now c.args.path.now order
