use Rattle.std.proofs.Common.{◌++◌, take, take-append-drop, sym, ap, ◌∙◌}
use Rattle.row_pages.proofs.page_node.halved.Goals as goal

pub returns-clause-whole : goal.returns-clause-whole
returns-clause-whole g c =
    sym (
    ap (λ xs. xs ++ c.in_ok-second.second.items) (c.shrink_to.ensures.items ∙ c.in_ok-second.ensures.items)
    ∙ ap (λ ys. take 32 c.args.parts.items ++ ys) c.in_ok-second.ensures.tail
    ∙ take-append-drop 32 c.args.parts.items
    )
