use Rattle.std.proofs.Common.{rules, ◌≡◌, ◌∙◌, ap, sym, arith, length}
use Rattle.std.specs.Prelude.{option_copied}
use Rattle.std.specs.List.{remove}
use Rattle.std.specs.Vec.{vec_len}
use Rattle.access_index.specs.Tables.{AreInOrder, entry_at, rank}
use Rattle.access_index.proofs.OrderedTables.{found_within, remove_is, without_none}
use Rattle.access_index.proofs.Resolving.{none_if, some_if}
use Rattle.access_index.proofs.path_table.remove.Goals as goal

pub returns-then-is_none : goal.returns-then-is_none
returns-then-is_none c =
    let found : option_copied c.entry_at.result ≡ entry_at c.args.entries.now.items c.args.path.now = search rules in
    sym (without_none c.args.entries.now.items c.args.path.now (none_if c.entry_at.result _ found (search rules)))

pub remove-gone-requires : goal.remove-gone-requires
remove-gone-requires c =
    let order : AreInOrder c.args.entries.now.items = search rules in
    let at : c.rank-at.result ≡ rank c.args.path.now c.args.entries.now.items = search rules in
    let len : length c.args.entries.now.items ≡ vec_len c.args.entries.now = search rules in
    let found : option_copied c.entry_at.result ≡ entry_at c.args.entries.now.items c.args.path.now = search rules in
    omega (arith, at, len, found_within c.args.entries.now.items c.args.path.now order (some_if c.entry_at.result _ found (search rules)))

pub returns : goal.returns
returns c =
    let order : AreInOrder c.args.entries.now.items = search rules in
    let at : c.rank-at.result ≡ rank c.args.path.now c.args.entries.now.items = search rules in
    let found : option_copied c.entry_at.result ≡ entry_at c.args.entries.now.items c.args.path.now = search rules in
    let cut : c.remove-gone.new.self.items ≡ remove c.args.entries.now.items c.rank-at.result = search rules in
    cut ∙ ap (remove c.args.entries.now.items) at
    ∙ remove_is c.args.entries.now.items c.args.path.now order (some_if c.entry_at.result _ found (search rules))
