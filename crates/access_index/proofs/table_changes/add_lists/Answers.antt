use Rattle.std.proofs.Common.{◌≡◌, ◌+◌, ◌∷◌, ◌∙◌, ap, subst, sym, drop, List, ℕ}
use Rattle.std.proofs.lemmas.List.{drop_more}
use Rattle.acl_rules.specs.declared.rule.How.TheVariants.{Inherited}
use Rattle.access_index.specs.Tables.{AreInOrder, add_lists, resolved_at}
use Rattle.access_index.specs.declared.path_table.Entry.{Entry}
use Rattle.access_index.proofs.Kept.{order_found}
use Rattle.access_index.proofs.table_changes.add_lists.Goals as goal

pub loop-subject-preserved : goal.loop-subject-preserved
loop-subject-preserved c =
    let i = c.loop-subject.subject-index in
    let all = c.args.subjects.now in
    let s = c.subject-item.result in
    let step : drop i all ≡ s ∷ drop (i + 1) all = drop_more all i s c.loop-subject-test.true ∙ ap (λ (p : List ℕ). p ∷ drop (i + 1) all) (sym c.subject-item.is) in (
      subst AreInOrder (sym c.in_ok-add_list.ensures) (order_found c.loop-subject.lists.items s (resolved_at s Inherited) c.loop-subject.invariant.0),
      ap (λ (es : List Entry). add_lists es (drop (i + 1) all)) c.in_ok-add_list.ensures
          ∙ sym (ap (add_lists c.loop-subject.lists.items) step) ∙ c.loop-subject.invariant.1,
    )
