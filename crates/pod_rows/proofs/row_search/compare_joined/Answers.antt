use Rattle.std.proofs.Common.{rules, ◌≡◌, ◌++◌, ◌∙◌, sym, ap, ℕ, List}
use Rattle.rdf_graph.specs.Triple.{bytes_cmp}
use Rattle.pod_rows.proofs.Joined.{joined_after, joined_apart}
use Rattle.pod_rows.proofs.row_search.compare_joined.Goals as goal

pub returns-in-Some : goal.returns-in-Some
returns-in-Some c =
    let is : c.args.text.now ≡ c.args.first.now ++ c.in-Some.rest.now = search rules in
    c.cmp.ensures ∙ sym (joined_after c.args.first.now c.args.second.now c.in-Some.rest.now) ∙ ap (bytes_cmp (c.args.first.now ++ c.args.second.now)) (sym is)

pub returns-in-None : goal.returns-in-None
returns-in-None c =
    let apart : (rest : List ℕ) → c.args.text.now ≡ c.args.first.now ++ rest → ⊥ = search rules in
    c.cmp-in-None.ensures ∙ sym (joined_apart c.args.first.now c.args.second.now c.args.text.now apart)
