use Rattle.std.proofs.Common.{◌≡◌, ◌∙◌, ap, sym, subst, length, map, arith}
use Rattle.graph_patch.specs.Lookup.{IsIndex, IsLookup}
use Rattle.graph_patch.specs.Search.{AnyBinding, IsSearchResult}
use Rattle.graph_patch.specs.Solutions.{AreSolutions}
use Rattle.graph_patch.specs.declared.triple_index.KeyOrder.TheVariants.{PredicateObject, ObjectSubject}
use Rattle.graph_patch.specs.declared.pattern.Found.TheVariants.{Nothing, One}
use Rattle.graph_patch.proofs.Solving.{below, with_label, result_before, result_more, result_after, none_in_component, one_of_none, solutions_from}
use Rattle.graph_patch.proofs.solution_mappings.solutions.Goals as goal

pub loop-label-init : goal.loop-label-init
loop-label-init c =
    result_before c.args.graph.now c.as_slice-conditions.result.now c.in_ok-labels.labels.items c.in_ok-labels.ensures.components (One (record { pairs = c.new.result }))
    (one_of_none c.args.graph.now c.new.result.items c.new.ensures.items)

pub solve_component-requires : goal.solve_component-requires
unfolding IsLookup
solve_component-requires c =
    record {
      ordered = c.as_slice-triples.ensures.graph.ordered;
      by_predicate = λ some.
          subst (IsIndex PredicateObject c.as_slice-triples.result.now) (sym c.as_slice-by_predicate.ensures.value)
          (c.in_ok-predicates.ensures (λ none. some (c.as_slice-by_predicate.ensures.value ∙ none)));
      by_object = λ some.
          subst (IsIndex ObjectSubject c.as_slice-triples.result.now) (sym c.as_slice-by_object.ensures.value)
          (c.in_ok-objects.ensures (λ none. some (c.as_slice-by_object.ensures.value ∙ none)));
    }

pub returns-then-is_nothing : goal.returns-then-is_nothing
returns-then-is_nothing c =
    let part : IsSearchResult c.args.graph.now (with_label c.as_slice-conditions.result.now c.in_ok-labels.labels.items c.loop-label.label) AnyBinding c.in_ok-more.more =
    subst (λ ps. IsSearchResult c.args.graph.now ps AnyBinding c.in_ok-more.more)
    (ap (map (λ r. r.now)) c.as_slice-in-loop-label.ensures.value ∙ c.in_ok-component.ensures ∙ ap (λ labels. with_label c.as_slice-conditions.result.now labels c.loop-label.label) c.as_slice.ensures.value)
    (subst (λ g. IsSearchResult g (map (λ r. r.now) c.as_slice-in-loop-label.result.now) AnyBinding c.in_ok-more.more) c.as_slice-triples.ensures.triples c.in_ok-more.ensures) in
    subst (λ conditions. AreSolutions c.args.graph.now conditions Nothing) c.as_slice-conditions.ensures
    (none_in_component c.args.graph.now c.as_slice-conditions.result.now c.in_ok-labels.labels.items c.in_ok-labels.ensures.components c.loop-label.label
    (subst (IsSearchResult c.args.graph.now (with_label c.as_slice-conditions.result.now c.in_ok-labels.labels.items c.loop-label.label) AnyBinding) (c.is_nothing.ensures.0 c.if-is_nothing.true) part))

pub loop-label-preserved : goal.loop-label-preserved
loop-label-preserved c =
    let part : IsSearchResult c.args.graph.now (with_label c.as_slice-conditions.result.now c.in_ok-labels.labels.items c.loop-label.label) AnyBinding c.in_ok-more.more =
    subst (λ ps. IsSearchResult c.args.graph.now ps AnyBinding c.in_ok-more.more)
    (ap (map (λ r. r.now)) c.as_slice-in-loop-label.ensures.value ∙ c.in_ok-component.ensures ∙ ap (λ labels. with_label c.as_slice-conditions.result.now labels c.loop-label.label) c.as_slice.ensures.value)
    (subst (λ g. IsSearchResult g (map (λ r. r.now) c.as_slice-in-loop-label.result.now) AnyBinding c.in_ok-more.more) c.as_slice-triples.ensures.triples c.in_ok-more.ensures) in
    result_more c.args.graph.now c.as_slice-conditions.result.now c.in_ok-labels.labels.items c.in_ok-labels.ensures.components c.loop-label.label c.loop-label.found c.in_ok-more.more c.in_ok-found.found
    c.in_ok-found.ensures c.loop-label.invariant part

pub returns : goal.returns
returns c =
    let end : c.loop-label.label ≡ length c.as_slice-conditions.result.now = omega arith in
    subst (λ conditions. AreSolutions c.args.graph.now conditions c.loop-label.found) c.as_slice-conditions.ensures
    (solutions_from c.args.graph.now c.as_slice-conditions.result.now c.loop-label.found
    (result_after c.args.graph.now c.as_slice-conditions.result.now c.in_ok-labels.labels.items c.in_ok-labels.ensures.components c.in_ok-labels.ensures.long c.in_ok-labels.ensures.small c.loop-label.found
    (subst (λ n. IsSearchResult c.args.graph.now (below c.as_slice-conditions.result.now c.in_ok-labels.labels.items n) AnyBinding c.loop-label.found) end c.loop-label.invariant)))
