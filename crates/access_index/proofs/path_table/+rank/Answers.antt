use Rattle.std.proofs.Common.{rules, ◌≡◌, ◌+◌, ◌<◌, ◌/◌, ◌++◌, ◌∷◌, ◌∙◌, sym, ap, subst, arith, length, length-append, ℕ}
use Rattle.std.specs.declared.cmp.Ordering.TheVariants.{Less, Equal, Greater}
use Rattle.rdf_graph.specs.Triple.{bytes_cmp}
use Rattle.access_index.specs.Tables.{AreInOrder, rank}
use Rattle.access_index.proofs.OrderedTables.{order_left, order_behind, rank_front, rank_here, rank_rest, rank_within}
use Rattle.access_index.proofs.path_table.+rank.Goals as goal

pub rank-requires : goal.rank-requires
rank-requires t c =
    let order : AreInOrder c.args.entries.now = search rules in
    let whole : c.args.entries.now ≡ c.split_at.result.0.now ++ (c.in-Some.entry.now ∷ c.in-Some.rest.now) = search rules in
    (search rules, order_left c.split_at.result.0.now (c.in-Some.entry.now ∷ c.in-Some.rest.now) (subst AreInOrder whole order))

pub rank-requires-in-Greater : goal.rank-requires-in-Greater
rank-requires-in-Greater t c =
    let order : AreInOrder c.args.entries.now = search rules in
    let whole : c.args.entries.now ≡ c.split_at.result.0.now ++ (c.in-Some.entry.now ∷ c.in-Some.rest.now) = search rules in
    (search rules, order_behind c.split_at.result.0.now c.in-Some.entry.now c.in-Some.rest.now (subst AreInOrder whole order))

pub overflow_add-result-in-Greater : goal.overflow_add-result-in-Greater
overflow_add-result-in-Greater t c =
    let whole : c.args.entries.now ≡ c.split_at.result.0.now ++ (c.in-Some.entry.now ∷ c.in-Some.rest.now) = search rules in
    let front : length c.split_at.result.0.now ≡ length c.args.entries.now / 2 = search rules in
    let bound : length c.args.entries.now < 18446744073709551616 = search rules in
    omega (arith, bound, front, c.rank-in-Greater.ensures, rank_within c.args.path.now c.in-Some.rest.now, ap length whole, length-append c.split_at.result.0.now (c.in-Some.entry.now ∷ c.in-Some.rest.now))

pub returns-in-Less : goal.returns-in-Less
returns-in-Less t c =
    let whole : c.args.entries.now ≡ c.split_at.result.0.now ++ (c.in-Some.entry.now ∷ c.in-Some.rest.now) = search rules in
    let less : bytes_cmp c.args.path.now c.in-Some.entry.now.path ≡ Less = search rules in
    c.rank.ensures ∙ sym (ap (rank c.args.path.now) whole ∙ rank_front c.args.path.now c.split_at.result.0.now c.in-Some.entry.now c.in-Some.rest.now less)

pub returns-in-Equal : goal.returns-in-Equal
returns-in-Equal t c =
    let order : AreInOrder c.args.entries.now = search rules in
    let whole : c.args.entries.now ≡ c.split_at.result.0.now ++ (c.in-Some.entry.now ∷ c.in-Some.rest.now) = search rules in
    let front : length c.split_at.result.0.now ≡ length c.args.entries.now / 2 = search rules in
    let same : bytes_cmp c.args.path.now c.in-Some.entry.now.path ≡ Equal = search rules in
    sym front
    ∙ sym (ap (rank c.args.path.now) whole ∙ rank_here c.args.path.now c.split_at.result.0.now c.in-Some.entry.now c.in-Some.rest.now same (subst AreInOrder whole order))

pub returns-in-Greater : goal.returns-in-Greater
returns-in-Greater t c =
    let order : AreInOrder c.args.entries.now = search rules in
    let whole : c.args.entries.now ≡ c.split_at.result.0.now ++ (c.in-Some.entry.now ∷ c.in-Some.rest.now) = search rules in
    let front : length c.split_at.result.0.now ≡ length c.args.entries.now / 2 = search rules in
    let more : bytes_cmp c.args.path.now c.in-Some.entry.now.path ≡ Greater = search rules in
    ap (λ (n : ℕ). length c.args.entries.now / 2 + 1 + n) c.rank-in-Greater.ensures
    ∙ ap (λ (n : ℕ). n + 1 + rank c.args.path.now c.in-Some.rest.now) (sym front)
    ∙ sym (ap (rank c.args.path.now) whole ∙ rank_rest c.args.path.now c.split_at.result.0.now c.in-Some.entry.now c.in-Some.rest.now more (subst AreInOrder whole order))
