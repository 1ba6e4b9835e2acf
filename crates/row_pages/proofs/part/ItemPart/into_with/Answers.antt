use Rattle.std.proofs.Common.{rules, ◌≡◌, sym}
use Rattle.std.specs.declared.cmp.Ordering.TheVariants.{Less, Equal, Greater}
use Rattle.rdf_graph.specs.Triple.{bytes_cmp}
use Rattle.row_pages.proofs.Ordered.{put_one}
use Rattle.row_pages.proofs.part.ItemPart.into_with.Goals as goal

pub returns-in-Less : goal.returns-in-Less
returns-in-Less c =
    let order : bytes_cmp c.args.item.row.path c.args.self.row.path ≡ Less = search rules in
    sym (put_one c.args.item c.args.self Less order)

pub returns-in-Equal : goal.returns-in-Equal
returns-in-Equal c =
    let order : bytes_cmp c.args.item.row.path c.args.self.row.path ≡ Equal = search rules in
    sym (put_one c.args.item c.args.self Equal order)

pub returns-in-Greater : goal.returns-in-Greater
returns-in-Greater c =
    let order : bytes_cmp c.args.item.row.path c.args.self.row.path ≡ Greater = search rules in
    sym (put_one c.args.item c.args.self Greater order)
