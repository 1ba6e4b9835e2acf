use Rattle.std.proofs.Common.{◌≡◌, ◌++◌, ◌-◌, ℕ, List, length, take, drop, sym, ap, ◌∙◌, append_assoc}
use Rattle.std.proofs.lemmas.List.{take-append-drop, take_rest}
use Rattle.std.proofs.lemmas.Grind.{flat_map-append}
use Rattle.std.specs.List.{flat_map}
use Rattle.rdf_graph.specs.Triple.{line}
use Rattle.rdf_graph.specs.declared.triple.Triple.{Triple}
use Rattle.turtle_text.proofs.graph_text.append_run.Goals as goal

run : (into reserved new : List ℕ) (triples : List Triple) (n : ℕ) → reserved ≡ into → new ≡ reserved ++ flat_map line (take n triples)
    → new ++ flat_map line (take (length triples - n) (drop n triples)) ≡ into ++ flat_map line triples
run into reserved new triples n same appended =
    ap (λ z. z ++ flat_map line (take (length triples - n) (drop n triples))) (appended ∙ ap (λ z. z ++ flat_map line (take n triples)) same)
    ∙ append_assoc into (flat_map line (take n triples)) (flat_map line (take (length triples - n) (drop n triples)))
    ∙ ap (λ z. into ++ (flat_map line (take n triples) ++ flat_map line z)) (take_rest triples n)
    ∙ ap (λ z. into ++ z) (sym (flat_map-append line (take n triples) (drop n triples)) ∙ ap (flat_map line) (take-append-drop n triples))

pub returns-clause-text : goal.returns-clause-text
returns-clause-text c =
    run c.args.into.now.items c.reserve.new.self.items c.append_lines.new.into.items c.args.triples.now c.min-count.result
    c.reserve.ensures.items c.in_ok-append_lines.ensures
