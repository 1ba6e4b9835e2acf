use Rattle.std.proofs.Common.{rules, ◌≡◌, ◌∙◌, ap, arith, length, ℕ}
use Rattle.std.specs.List.{insert}
use Rattle.std.specs.Vec.{vec_len}
use Rattle.access_index.specs.Tables.{rank}
use Rattle.access_index.proofs.OrderedTables.{insert_is, rank_within}
use Rattle.access_index.proofs.path_table.insert.Goals as goal

pub insert-requires : goal.insert-requires
insert-requires c =
    let at : c.rank-at.result ≡ rank c.args.entry.path c.args.entries.now.items = search rules in
    let len : length c.args.entries.now.items ≡ vec_len c.args.entries.now = search rules in
    omega (arith, at, len, rank_within c.args.entry.path c.args.entries.now.items)

pub returns : goal.returns
returns c =
    let at : c.rank-at.result ≡ rank c.args.entry.path c.args.entries.now.items = search rules in
    let put : c.insert.new.self.items ≡ insert c.args.entries.now.items c.rank-at.result c.args.entry = search rules in
    put ∙ ap (λ (n : ℕ). insert c.args.entries.now.items n c.args.entry) at ∙ insert_is c.args.entries.now.items c.args.entry
