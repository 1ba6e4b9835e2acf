use Rattle.std.proofs.Common.{◌≡◌, ◌∙◌, ap, map, subst, sym, List, ℕ}
use Rattle.std.specs.Prelude.{IsTrue}
use Rattle.pod_path.specs.Hierarchy.{root}
use Rattle.access_index.specs.Index.{IsIndex}
use Rattle.access_index.specs.Listing.{is_listed, is_listed_after, IsListOf}
use Rattle.access_index.specs.Tables.{keys, AreInOrder, without_all, list_subjects, add_lists, add_paths, refreshed, lists_after, entries_after}
use Rattle.access_index.specs.declared.path_table.Entry.{Entry}
use Rattle.access_index.proofs.Kept.{order_after, order_refreshed, root_after, index_changed}
use Rattle.access_index.proofs.OrderedTables.{order_without_all}
use Rattle.access_index.proofs.index.changed.Goals as goal

pub add_lists-requires : goal.add_lists-requires
add_lists-requires c =
    let old = c.args.lists.now in
    let added = c.args.added.now in
    let removed = c.args.removed.now in
    let kept : c.remove_all.new.entries.items ≡ without_all old (list_subjects removed) =
    c.remove_all.ensures
    ∙ ap (λ (es : List Entry). without_all es c.as_slice.result.now) c.in_ok-new_lists.ensures
    ∙ ap (without_all old) (c.as_slice.ensures.value ∙ c.in_ok-gone.ensures.subjects) in
    subst AreInOrder (sym kept) (order_without_all old (list_subjects removed) c.requires.tables.are_lists.order)

pub refreshed-requires-clause-lists : goal.refreshed-requires-clause-lists
refreshed-requires-clause-lists c =
    let old = c.args.lists.now in
    let added = c.args.added.now in
    let removed = c.args.removed.now in
    let kept : c.remove_all.new.entries.items ≡ without_all old (list_subjects removed) =
    c.remove_all.ensures
    ∙ ap (λ (es : List Entry). without_all es c.as_slice.result.now) c.in_ok-new_lists.ensures
    ∙ ap (without_all old) (c.as_slice.ensures.value ∙ c.in_ok-gone.ensures.subjects) in
    let lists = lists_after old added removed in
    let lists_are : c.add_lists.new.lists.items ≡ lists =
    c.in_ok-add_lists.ensures
    ∙ ap (λ (es : List Entry). add_lists es c.as_slice-2.result.now) kept
    ∙ ap (add_lists (without_all old (list_subjects removed))) (c.as_slice-2.ensures.value ∙ c.in_ok-new.ensures.subjects) in
    subst AreInOrder (sym (c.as_slice-3.ensures.value ∙ lists_are)) (order_after old added removed c.requires.tables.are_lists.order)

pub refreshed-requires-clause-root : goal.refreshed-requires-clause-root
refreshed-requires-clause-root c =
    let old = c.args.lists.now in
    let added = c.args.added.now in
    let removed = c.args.removed.now in
    let kept : c.remove_all.new.entries.items ≡ without_all old (list_subjects removed) =
    c.remove_all.ensures
    ∙ ap (λ (es : List Entry). without_all es c.as_slice.result.now) c.in_ok-new_lists.ensures
    ∙ ap (without_all old) (c.as_slice.ensures.value ∙ c.in_ok-gone.ensures.subjects) in
    let lists = lists_after old added removed in
    let lists_are : c.add_lists.new.lists.items ≡ lists =
    c.in_ok-add_lists.ensures
    ∙ ap (λ (es : List Entry). add_lists es c.as_slice-2.result.now) kept
    ∙ ap (add_lists (without_all old (list_subjects removed))) (c.as_slice-2.ensures.value ∙ c.in_ok-new.ensures.subjects) in
    subst (λ (ls : List Entry). IsTrue (is_listed (keys ls) root)) (sym (c.as_slice-3.ensures.value ∙ lists_are)) (root_after old (keys c.args.entries.now) added removed c.requires.tables.are_lists c.requires.root)

pub add_paths-requires-clause-lists : goal.add_paths-requires-clause-lists
add_paths-requires-clause-lists c =
    let old = c.args.lists.now in
    let added = c.args.added.now in
    let removed = c.args.removed.now in
    let kept : c.remove_all.new.entries.items ≡ without_all old (list_subjects removed) =
    c.remove_all.ensures
    ∙ ap (λ (es : List Entry). without_all es c.as_slice.result.now) c.in_ok-new_lists.ensures
    ∙ ap (without_all old) (c.as_slice.ensures.value ∙ c.in_ok-gone.ensures.subjects) in
    let lists = lists_after old added removed in
    let lists_are : c.add_lists.new.lists.items ≡ lists =
    c.in_ok-add_lists.ensures
    ∙ ap (λ (es : List Entry). add_lists es c.as_slice-2.result.now) kept
    ∙ ap (add_lists (without_all old (list_subjects removed))) (c.as_slice-2.ensures.value ∙ c.in_ok-new.ensures.subjects) in
    subst AreInOrder (sym (c.as_slice-6.ensures.value ∙ lists_are)) (order_after old added removed c.requires.tables.are_lists.order)

pub add_paths-requires-clause-root : goal.add_paths-requires-clause-root
add_paths-requires-clause-root c =
    let old = c.args.lists.now in
    let added = c.args.added.now in
    let removed = c.args.removed.now in
    let kept : c.remove_all.new.entries.items ≡ without_all old (list_subjects removed) =
    c.remove_all.ensures
    ∙ ap (λ (es : List Entry). without_all es c.as_slice.result.now) c.in_ok-new_lists.ensures
    ∙ ap (without_all old) (c.as_slice.ensures.value ∙ c.in_ok-gone.ensures.subjects) in
    let lists = lists_after old added removed in
    let lists_are : c.add_lists.new.lists.items ≡ lists =
    c.in_ok-add_lists.ensures
    ∙ ap (λ (es : List Entry). add_lists es c.as_slice-2.result.now) kept
    ∙ ap (add_lists (without_all old (list_subjects removed))) (c.as_slice-2.ensures.value ∙ c.in_ok-new.ensures.subjects) in
    subst (λ (ls : List Entry). IsTrue (is_listed (keys ls) root)) (sym (c.as_slice-6.ensures.value ∙ lists_are)) (root_after old (keys c.args.entries.now) added removed c.requires.tables.are_lists c.requires.root)

pub remove_all-requires-2 : goal.remove_all-requires-2
remove_all-requires-2 c =
    let old = c.args.lists.now in
    let added = c.args.added.now in
    let removed = c.args.removed.now in
    let kept : c.remove_all.new.entries.items ≡ without_all old (list_subjects removed) =
    c.remove_all.ensures
    ∙ ap (λ (es : List Entry). without_all es c.as_slice.result.now) c.in_ok-new_lists.ensures
    ∙ ap (without_all old) (c.as_slice.ensures.value ∙ c.in_ok-gone.ensures.subjects) in
    let lists = lists_after old added removed in
    let lists_are : c.add_lists.new.lists.items ≡ lists =
    c.in_ok-add_lists.ensures
    ∙ ap (λ (es : List Entry). add_lists es c.as_slice-2.result.now) kept
    ∙ ap (add_lists (without_all old (list_subjects removed))) (c.as_slice-2.ensures.value ∙ c.in_ok-new.ensures.subjects) in
    let entries = c.args.entries.now in
    let fresh = map (refreshed lists (list_subjects removed) (list_subjects added)) entries in
    let fresh_are : c.in_ok-all.all.items ≡ fresh =
    c.in_ok-all.ensures
    ∙ ap (λ (ls : List Entry). map (refreshed ls c.as_slice-4.result.now c.as_slice-5.result.now) entries) (c.as_slice-3.ensures.value ∙ lists_are)
    ∙ ap (λ (gone : List (List ℕ)). map (refreshed lists gone c.as_slice-5.result.now) entries) (c.as_slice-4.ensures.value ∙ c.in_ok-gone.ensures.subjects)
    ∙ ap (λ (new : List (List ℕ)). map (refreshed lists (list_subjects removed) new) entries) (c.as_slice-5.ensures.value ∙ c.in_ok-new.ensures.subjects) in
    subst AreInOrder (sym fresh_are) (order_refreshed lists (list_subjects removed) (list_subjects added) entries c.requires.tables.order)

pub add_paths-requires-clause-order : goal.add_paths-requires-clause-order
add_paths-requires-clause-order c =
    let old = c.args.lists.now in
    let added = c.args.added.now in
    let removed = c.args.removed.now in
    let kept : c.remove_all.new.entries.items ≡ without_all old (list_subjects removed) =
    c.remove_all.ensures
    ∙ ap (λ (es : List Entry). without_all es c.as_slice.result.now) c.in_ok-new_lists.ensures
    ∙ ap (without_all old) (c.as_slice.ensures.value ∙ c.in_ok-gone.ensures.subjects) in
    let lists = lists_after old added removed in
    let lists_are : c.add_lists.new.lists.items ≡ lists =
    c.in_ok-add_lists.ensures
    ∙ ap (λ (es : List Entry). add_lists es c.as_slice-2.result.now) kept
    ∙ ap (add_lists (without_all old (list_subjects removed))) (c.as_slice-2.ensures.value ∙ c.in_ok-new.ensures.subjects) in
    let entries = c.args.entries.now in
    let fresh = map (refreshed lists (list_subjects removed) (list_subjects added)) entries in
    let fresh_are : c.in_ok-all.all.items ≡ fresh =
    c.in_ok-all.ensures
    ∙ ap (λ (ls : List Entry). map (refreshed ls c.as_slice-4.result.now c.as_slice-5.result.now) entries) (c.as_slice-3.ensures.value ∙ lists_are)
    ∙ ap (λ (gone : List (List ℕ)). map (refreshed lists gone c.as_slice-5.result.now) entries) (c.as_slice-4.ensures.value ∙ c.in_ok-gone.ensures.subjects)
    ∙ ap (λ (new : List (List ℕ)). map (refreshed lists (list_subjects removed) new) entries) (c.as_slice-5.ensures.value ∙ c.in_ok-new.ensures.subjects) in
    subst AreInOrder (sym (c.remove_all-2.ensures ∙ ap (λ (es : List Entry). without_all es removed) fresh_are))
    (order_without_all fresh removed (order_refreshed lists (list_subjects removed) (list_subjects added) entries c.requires.tables.order))

pub invariant_of-result : goal.invariant_of-result
invariant_of-result c =
    let old = c.args.lists.now in
    let added = c.args.added.now in
    let removed = c.args.removed.now in
    let kept : c.remove_all.new.entries.items ≡ without_all old (list_subjects removed) =
    c.remove_all.ensures
    ∙ ap (λ (es : List Entry). without_all es c.as_slice.result.now) c.in_ok-new_lists.ensures
    ∙ ap (without_all old) (c.as_slice.ensures.value ∙ c.in_ok-gone.ensures.subjects) in
    let lists = lists_after old added removed in
    let lists_are : c.add_lists.new.lists.items ≡ lists =
    c.in_ok-add_lists.ensures
    ∙ ap (λ (es : List Entry). add_lists es c.as_slice-2.result.now) kept
    ∙ ap (add_lists (without_all old (list_subjects removed))) (c.as_slice-2.ensures.value ∙ c.in_ok-new.ensures.subjects) in
    let entries = c.args.entries.now in
    let fresh = map (refreshed lists (list_subjects removed) (list_subjects added)) entries in
    let fresh_are : c.in_ok-all.all.items ≡ fresh =
    c.in_ok-all.ensures
    ∙ ap (λ (ls : List Entry). map (refreshed ls c.as_slice-4.result.now c.as_slice-5.result.now) entries) (c.as_slice-3.ensures.value ∙ lists_are)
    ∙ ap (λ (gone : List (List ℕ)). map (refreshed lists gone c.as_slice-5.result.now) entries) (c.as_slice-4.ensures.value ∙ c.in_ok-gone.ensures.subjects)
    ∙ ap (λ (new : List (List ℕ)). map (refreshed lists (list_subjects removed) new) entries) (c.as_slice-5.ensures.value ∙ c.in_ok-new.ensures.subjects) in
    let all_are : c.add_paths.new.entries.items ≡ entries_after lists entries added removed =
    c.in_ok-add_paths.ensures.added
    ∙ ap (λ (ls : List Entry). add_paths ls c.remove_all-2.new.entries.items added) (c.as_slice-6.ensures.value ∙ lists_are)
    ∙ ap (λ (es : List Entry). add_paths lists es added) (c.remove_all-2.ensures ∙ ap (λ (es : List Entry). without_all es removed) fresh_are) in
    let changed = index_changed entries old added removed c.requires.tables c.in_ok-add_paths.ensures.paths c.requires.root in
    subst (λ (ls : List Entry). IsIndex c.add_paths.new.entries.items ls) (sym lists_are)
    (subst (λ (es : List Entry). IsIndex es lists) (sym all_are) changed.index)

pub returns : goal.returns
returns c =
    let old = c.args.lists.now in
    let added = c.args.added.now in
    let removed = c.args.removed.now in
    let kept : c.remove_all.new.entries.items ≡ without_all old (list_subjects removed) =
    c.remove_all.ensures
    ∙ ap (λ (es : List Entry). without_all es c.as_slice.result.now) c.in_ok-new_lists.ensures
    ∙ ap (without_all old) (c.as_slice.ensures.value ∙ c.in_ok-gone.ensures.subjects) in
    let lists = lists_after old added removed in
    let lists_are : c.add_lists.new.lists.items ≡ lists =
    c.in_ok-add_lists.ensures
    ∙ ap (λ (es : List Entry). add_lists es c.as_slice-2.result.now) kept
    ∙ ap (add_lists (without_all old (list_subjects removed))) (c.as_slice-2.ensures.value ∙ c.in_ok-new.ensures.subjects) in
    let entries = c.args.entries.now in
    let fresh = map (refreshed lists (list_subjects removed) (list_subjects added)) entries in
    let fresh_are : c.in_ok-all.all.items ≡ fresh =
    c.in_ok-all.ensures
    ∙ ap (λ (ls : List Entry). map (refreshed ls c.as_slice-4.result.now c.as_slice-5.result.now) entries) (c.as_slice-3.ensures.value ∙ lists_are)
    ∙ ap (λ (gone : List (List ℕ)). map (refreshed lists gone c.as_slice-5.result.now) entries) (c.as_slice-4.ensures.value ∙ c.in_ok-gone.ensures.subjects)
    ∙ ap (λ (new : List (List ℕ)). map (refreshed lists (list_subjects removed) new) entries) (c.as_slice-5.ensures.value ∙ c.in_ok-new.ensures.subjects) in
    let all_are : c.add_paths.new.entries.items ≡ entries_after lists entries added removed =
    c.in_ok-add_paths.ensures.added
    ∙ ap (λ (ls : List Entry). add_paths ls c.remove_all-2.new.entries.items added) (c.as_slice-6.ensures.value ∙ lists_are)
    ∙ ap (λ (es : List Entry). add_paths lists es added) (c.remove_all-2.ensures ∙ ap (λ (es : List Entry). without_all es removed) fresh_are) in
    let changed = index_changed entries old added removed c.requires.tables c.in_ok-add_paths.ensures.paths c.requires.root in
    subst (λ (es : List Entry). IsListOf (is_listed_after (keys entries) added removed) (keys es)) (sym all_are) changed.list
