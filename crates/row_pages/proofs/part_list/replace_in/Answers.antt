use Rattle.std.proofs.Common.{rules, ◌+◌, set, take, drop}
use Rattle.std.specs.List.{flat_map}
use Rattle.row_pages.specs.Borders.{AreBefore, AreAfter}
use Rattle.row_pages.proofs.Replaced.{changed_at, changed_count, changed_few, changed_have, changed_kept, changed_order, changed_put, none_then, some_then}
use Rattle.row_pages.proofs.part_list.replace_in.Goals as goal

pub replace-requires : goal.replace-requires
replace-requires g c =
    let parts = c.args.parts.now.items in
    let place = c.place_of-place.result in
    let old = c.index_mut.result.now in
    changed_order g.T.Part.items parts (set parts place old) place old old (changed_at parts c.as_slice.result.now place old old c.as_slice.ensures.value c.place_of-place.ensures.within c.index_mut.ensures.value) c.requires

pub returns-clause-put : goal.returns-clause-put
returns-clause-put g c =
    let parts = c.args.parts.now.items in
    let place = c.place_of-place.result in
    let old = c.index_mut.result.now in
    let part = c.replace.new.self in
    let changed = changed_at parts c.as_slice.result.now place old part c.as_slice.ensures.value c.place_of-place.ensures.within c.index_mut.ensures.value in
    let before : AreBefore c.args.item.row.path (flat_map g.T.Part.items (take place parts)) = search rules in
    let after : AreAfter c.args.item.row.path (flat_map g.T.Part.items (drop (place + 1) parts)) = search rules in
    none_then c.replace.result c.replace.ensures.put (λ p. changed_put g.T.Part.items parts (set parts place part) place old part c.args.item changed p before after)

pub returns-clause-count : goal.returns-clause-count
returns-clause-count g c =
    let parts = c.args.parts.now.items in
    let place = c.place_of-place.result in
    let old = c.index_mut.result.now in
    let part = c.replace.new.self in
    let changed = changed_at parts c.as_slice.result.now place old part c.as_slice.ensures.value c.place_of-place.ensures.within c.index_mut.ensures.value in
    changed_count g.T.Part.items parts (set parts place part) place old part changed c.replace.ensures.count

pub returns-clause-kept : goal.returns-clause-kept
returns-clause-kept g c =
    let parts = c.args.parts.now.items in
    let place = c.place_of-place.result in
    let old = c.index_mut.result.now in
    let part = c.replace.new.self in
    let changed = changed_at parts c.as_slice.result.now place old part c.as_slice.ensures.value c.place_of-place.ensures.within c.index_mut.ensures.value in
    some_then c.replace.result c.replace.ensures.kept (λ same. changed_kept parts (set parts place part) place old part changed same)

pub returns-clause-few : goal.returns-clause-few
returns-clause-few g c =
    let parts = c.args.parts.now.items in
    let place = c.place_of-place.result in
    let old = c.index_mut.result.now in
    let part = c.replace.new.self in
    let changed = changed_at parts c.as_slice.result.now place old part c.as_slice.ensures.value c.place_of-place.ensures.within c.index_mut.ensures.value in
    changed_few parts (set parts place part) place old part changed

pub returns-clause-each : goal.returns-clause-each
returns-clause-each g c h =
    let parts = c.args.parts.now.items in
    let place = c.place_of-place.result in
    let old = c.index_mut.result.now in
    let part = c.replace.new.self in
    let changed = changed_at parts c.as_slice.result.now place old part c.as_slice.ensures.value c.place_of-place.ensures.within c.index_mut.ensures.value in
    changed_have g.T.Part.items parts (set parts place part) place old part changed c.replace.ensures.count h
