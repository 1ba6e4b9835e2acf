use Rattle.std.proofs.Common.{rules, Bool, ◌≡◌, ◌∙◌, ap, map}
use Rattle.std.proofs.lemmas.Cmp.{nat_list_cmp_total}
use Rattle.std.proofs.lemmas.Iterator.{YieldsList-from_slice}
use Rattle.std.proofs.lemmas.Iterator.Consumers.{map_from_collect}
use Rattle.std.proofs.lemmas.List.Sorted.{answers_always, ranks_by}
use Rattle.std.proofs.lemmas.Result.{IfOk-at_ok}
use Rattle.rdf_graph.specs.declared.triple.Triple.{Triple}
use Rattle.jsonld_expanded.specs.Document.{key_below, key_of}
use Rattle.jsonld_expanded.specs.Sorted.{sorted}
use Rattle.jsonld_expanded.proofs.Sorting.{map_sorted, sorted_is}
use Rattle.jsonld_expanded.proofs.key_order.by_key.Goals as goal
use denote.Ref.{Bor}

pub returns : goal.returns
returns c =
    let refs = c.in_ok-refs.refs.items in
    let all : map (λ (r : Bor Triple). r.now) refs ≡ c.args.triples.now =
    IfOk-at_ok _ c.in_ok-refs.was (map_from_collect _ c.collect.ensures.ran (YieldsList-from_slice c.args.triples.now cc)) in
    let order = ranks_by nat_list_cmp_total (λ (r : Bor Triple). key_of r.now) in
    let below : Bor Triple → Bor Triple → Bool = λ r q. key_below r.now q.now in
    let up = c.in_ok-sort_by.ensures.sorted below order (answers_always _ _ _ (λ f a r g called. search rules)) in
    let stable = c.in_ok-sort_by.ensures.stable below order (answers_always _ _ _ (λ f a r g called. search rules)) in
    ap (map (λ (r : Bor Triple). r.now)) (sorted_is (λ (r q : Bor Triple). key_below r.now q.now) order refs c.sort_by.new.self.items up stable)
    ∙ map_sorted (λ (r : Bor Triple). r.now) key_below refs ∙ ap (sorted key_below) all
