use Rattle.std.proofs.Common.{rules, ◌≡◌, ◌++◌, ◌∷◌, sym, ◌∙◌, subst}
use Rattle.std.specs.declared.cmp.Ordering.TheVariants.{Less, Equal, Greater}
use Rattle.rdf_graph.specs.Triple.{bytes_cmp}
use Rattle.pod_command.specs.Encodable.{AreInOrder}
use Rattle.pod_rows.proofs.OrderedRows.{order_left, order_behind, found_front, found_rest, found_here}
use Rattle.pod_rows.proofs.row_search.+row_joined.Goals as goal

pub row_joined-requires : goal.row_joined-requires
row_joined-requires t c =
    let order : AreInOrder c.args.rows.now = search rules in
    let whole : c.args.rows.now ≡ c.split_at.result.0.now ++ (c.in-Some.row.now ∷ c.in-Some.rest.now) = search rules in
    (search rules, order_left c.split_at.result.0.now (c.in-Some.row.now ∷ c.in-Some.rest.now) (subst AreInOrder whole order))

pub row_joined-requires-in-Greater : goal.row_joined-requires-in-Greater
row_joined-requires-in-Greater t c =
    let order : AreInOrder c.args.rows.now = search rules in
    let whole : c.args.rows.now ≡ c.split_at.result.0.now ++ (c.in-Some.row.now ∷ c.in-Some.rest.now) = search rules in
    (search rules, order_behind c.split_at.result.0.now c.in-Some.row.now c.in-Some.rest.now (subst AreInOrder whole order))

pub returns-in-Less : goal.returns-in-Less
returns-in-Less t c =
    let order : AreInOrder c.args.rows.now = search rules in
    let whole : c.args.rows.now ≡ c.split_at.result.0.now ++ (c.in-Some.row.now ∷ c.in-Some.rest.now) = search rules in
    let less : bytes_cmp (c.args.first.now ++ c.args.second.now) c.in-Some.row.now.path ≡ Less = search rules in
    c.row_joined.ensures ∙ sym (found_front c.args.rows.now (c.args.first.now ++ c.args.second.now) c.split_at.result.0.now c.in-Some.row.now c.in-Some.rest.now whole less order)

pub returns-in-Equal : goal.returns-in-Equal
returns-in-Equal t c =
    let order : AreInOrder c.args.rows.now = search rules in
    let whole : c.args.rows.now ≡ c.split_at.result.0.now ++ (c.in-Some.row.now ∷ c.in-Some.rest.now) = search rules in
    let same : bytes_cmp (c.args.first.now ++ c.args.second.now) c.in-Some.row.now.path ≡ Equal = search rules in
    sym (found_here c.args.rows.now (c.args.first.now ++ c.args.second.now) c.split_at.result.0.now c.in-Some.row.now c.in-Some.rest.now whole same order)

pub returns-in-Greater : goal.returns-in-Greater
returns-in-Greater t c =
    let order : AreInOrder c.args.rows.now = search rules in
    let whole : c.args.rows.now ≡ c.split_at.result.0.now ++ (c.in-Some.row.now ∷ c.in-Some.rest.now) = search rules in
    let more : bytes_cmp (c.args.first.now ++ c.args.second.now) c.in-Some.row.now.path ≡ Greater = search rules in
    c.row_joined-in-Greater.ensures ∙ sym (found_rest c.args.rows.now (c.args.first.now ++ c.args.second.now) c.split_at.result.0.now c.in-Some.row.now c.in-Some.rest.now whole more order)
