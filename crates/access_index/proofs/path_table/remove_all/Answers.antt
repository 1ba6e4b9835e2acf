use Rattle.std.proofs.Common.{◌≡◌, ◌+◌, ◌∷◌, ◌∙◌, ap, subst, sym, drop, List, ℕ}
use Rattle.std.proofs.lemmas.List.{drop_more}
use Rattle.access_index.specs.Tables.{AreInOrder, without_all}
use Rattle.access_index.specs.declared.path_table.Entry.{Entry}
use Rattle.access_index.proofs.OrderedTables.{order_without}
use Rattle.access_index.proofs.path_table.remove_all.Goals as goal

pub loop-path-preserved : goal.loop-path-preserved
loop-path-preserved c =
    let i = c.loop-path.path-index in
    let all = c.args.paths.now in
    let step : drop i all ≡ c.path-item.result ∷ drop (i + 1) all =
    drop_more all i c.path-item.result c.loop-path-test.true ∙ ap (λ (p : List ℕ). p ∷ drop (i + 1) all) (sym c.path-item.is) in (
      subst AreInOrder (sym c.remove.ensures) (order_without c.loop-path.entries.items c.path-item.result c.loop-path.invariant.0),
      ap (λ (es : List Entry). without_all es (drop (i + 1) all)) c.remove.ensures
          ∙ sym (ap (without_all c.loop-path.entries.items) step) ∙ c.loop-path.invariant.1,
    )
