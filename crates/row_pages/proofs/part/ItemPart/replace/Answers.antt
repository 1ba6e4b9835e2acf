use Rattle.std.proofs.Common.{rules, ◌≡◌, sym}
use Rattle.std.specs.declared.cmp.Ordering.TheVariants.{Equal}
use Rattle.rdf_graph.specs.Triple.{bytes_cmp}
use Rattle.row_pages.proofs.Ordered.{put_one}
use Rattle.row_pages.proofs.part.ItemPart.replace.Goals as goal

pub returns-in-Equal-clause-put : goal.returns-in-Equal-clause-put
returns-in-Equal-clause-put c =
    let order : bytes_cmp c.args.item.row.path c.args.self.now.row.path ≡ Equal = search rules in
    sym (put_one c.args.item c.args.self.now Equal order)
