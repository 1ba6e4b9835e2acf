use Rattle.std.proofs.Common.{rules, ◌≡◌, map, subst}
use Rattle.std.specs.List.Sorted.{IsPermutation}
use Rattle.std.specs.Ordering.{is_lt}
use Rattle.std.proofs.lemmas.Fn.{always_returns_same}
use Rattle.std.proofs.lemmas.Iterator.{YieldsList-from_slice}
use Rattle.std.proofs.lemmas.Iterator.Consumers.{map_from_collect}
use Rattle.std.proofs.lemmas.Result.{IfOk-at_ok}
use Rattle.std.proofs.lemmas.List.Sorted.{IsPermutation-map, ranks_by}
use denote.Ref.{Bor}
use Rattle.graph_patch.specs.Lookup.{key, key_cmp}
use Rattle.rdf_graph.specs.declared.triple.Triple.{Triple}
use Rattle.graph_patch.proofs.Candidates.{key_cmp_total}
use Rattle.graph_patch.proofs.triple_index.index_of.Goals as goal

pub returns : goal.returns
returns c =
    let all : map (λ (r : Bor Triple). r.now) c.in_ok-index.index.items ≡ c.args.triples.now =
    IfOk-at_ok _ c.in_ok-index.was (map_from_collect _ c.collect.ensures.ran (YieldsList-from_slice c.args.triples.now cc)) in
    record {
      moved = subst (λ ts. IsPermutation ts (map (λ (r : Bor Triple). r.now) c.sort_unstable_by.new.self.items)) all
          (IsPermutation-map (λ (r : Bor Triple). r.now) c.in_ok-index.index.items c.sort_unstable_by.new.self.items c.sort_unstable_by.ensures.permutation);
      sorted = c.sort_unstable_by.ensures.sorted _ (ranks_by key_cmp_total (λ (r : Bor Triple). key c.args.order r.now)) (always_returns_same _ (λ a r. is_lt r ≡ is_lt (key_cmp (key c.args.order a.0.now.now) (key c.args.order a.1.0.now.now))) _ (λ a r f' called. search rules));
    }
