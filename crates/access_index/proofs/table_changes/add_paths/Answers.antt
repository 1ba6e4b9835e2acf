use Rattle.std.proofs.Common.{◌≡◌, ◌+◌, ◌∷◌, ◌∙◌, ap, subst, sym, drop, List, ℕ}
use Rattle.std.proofs.lemmas.List.{drop_more}
use Rattle.access_index.specs.Tables.{AreInOrder, add_paths}
use Rattle.access_index.specs.declared.path_table.Entry.{Entry}
use Rattle.access_index.proofs.Kept.{order_added, paths_more}
use Rattle.access_index.proofs.table_changes.add_paths.Goals as goal

pub loop-path-preserved : goal.loop-path-preserved
loop-path-preserved c =
    let i = c.loop-path.path-index in
    let all = c.args.paths.now in
    let p = c.path-item.result in
    let step : drop i all ≡ p ∷ drop (i + 1) all = drop_more all i p c.loop-path-test.true ∙ ap (λ (q : List ℕ). q ∷ drop (i + 1) all) (sym c.path-item.is) in
    record {
      order = subst AreInOrder (sym c.in_ok-add_path.ensures.added) (order_added c.args.lists.now c.loop-path.entries.items p c.loop-path.invariant.order);
      added =
          ap (λ (es : List Entry). add_paths c.args.lists.now es (drop (i + 1) all)) c.in_ok-add_path.ensures.added
          ∙ sym (ap (add_paths c.args.lists.now c.loop-path.entries.items) step) ∙ c.loop-path.invariant.added;
      paths = paths_more all i p c.loop-path-test.true c.path-item.is c.in_ok-add_path.ensures.path c.loop-path.invariant.paths;
    }
