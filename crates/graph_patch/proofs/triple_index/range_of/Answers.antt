use Rattle.std.proofs.Common.{rules, ◌≡◌, true, false, map, take, drop, subst, sym, length, ◌-◌}
use Rattle.std.specs.Option.{option_copied}
use Rattle.std.specs.Ordering.{is_lt, is_le}
use Rattle.std.specs.List.Sorted.{IsPartitionPoint, IsPartitionedBy}
use Rattle.std.specs.declared.cmp.Ordering.{Ordering}
use Rattle.std.proofs.lemmas.List.{take_rest}
use Rattle.std.proofs.lemmas.List.Sorted.{IsPartitionPoint-from_clause}
use denote.Ref.{Bor}
use Rattle.rdf_graph.specs.declared.triple.Triple.{Triple}
use Rattle.graph_patch.specs.Lookup.{IsKeyRange, key, key_order}
use Rattle.graph_patch.proofs.Candidates.{key_range, keys_before, keys_rise, keys_upto}
use Rattle.graph_patch.proofs.triple_index.range_of.Goals as goal

pub returns : goal.returns
returns c triples ordered is =
    let cmp : Triple → Ordering = λ t. key_order (option_copied c.args.second) c.args.first.now (key c.args.order t) in
    let rise = keys_rise c.args.order c.args.index.now c.args.first.now (option_copied c.args.second) is.sorted in
    let rest : take (length c.args.index.now - c.partition_point-low.result) (drop c.partition_point-low.result c.args.index.now) ≡ drop c.partition_point-low.result c.args.index.now =
    take_rest c.args.index.now c.partition_point-low.result in
    let before : IsPartitionPoint (λ (r : Bor Triple). is_lt (cmp r.now) ≡ true) (λ (r : Bor Triple). is_lt (cmp r.now) ≡ false) c.args.index.now c.partition_point-low.result =
    IsPartitionPoint-from_clause (λ (r : Bor Triple). is_lt (cmp r.now)) c.args.index.now c.partition_point-low.result c.partition_point-low.ensures.partitioned
    (keys_before cmp c.args.index.now rise) (λ a r f' called. search rules) in
    let upto : IsPartitionPoint (λ (r : Bor Triple). is_le (cmp r.now) ≡ true) (λ (r : Bor Triple). is_le (cmp r.now) ≡ false)
    (take (length c.args.index.now - c.partition_point-low.result) (drop c.partition_point-low.result c.args.index.now)) c.partition_point-count.result =
    IsPartitionPoint-from_clause (λ (r : Bor Triple). is_le (cmp r.now)) _ c.partition_point-count.result c.partition_point-count.ensures.partitioned
    (subst (IsPartitionedBy (λ (r : Bor Triple). is_le (cmp r.now))) (sym rest)
    (keys_upto cmp c.args.index.now rise c.partition_point-low.result))
    (λ a r f' called. search rules) in
    subst (λ ys. IsKeyRange c.args.order c.args.first.now (option_copied c.args.second) triples (map (λ (r : Bor Triple). r.now) (take c.partition_point-count.result ys))) (sym rest)
    (key_range c.args.order c.args.first.now (option_copied c.args.second) triples c.args.index.now ordered is c.partition_point-low.result c.partition_point-count.result before
    (subst (λ ys. IsPartitionPoint (λ (r : Bor Triple). is_le (cmp r.now) ≡ true) (λ (r : Bor Triple). is_le (cmp r.now) ≡ false) ys c.partition_point-count.result) rest upto))
