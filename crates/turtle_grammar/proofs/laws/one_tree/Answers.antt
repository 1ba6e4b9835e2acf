use Rattle.std.proofs.Common.{sym, ap, ◌∙◌}
use Rattle.turtle_grammar.specs.Derivations.{tree_symbols, tree_end}
use Rattle.turtle_grammar.proofs.OneTree.{same_tree}
use Rattle.turtle_grammar.proofs.laws.one_tree.Goals as goal

pub returns-clause-grammar : goal.returns-clause-grammar
returns-clause-grammar c = same_tree

pub returns-clause-tree : goal.returns-clause-tree
returns-clause-tree c start symbols these those a b = same_tree start a.tree b.tree (a.symbols_are ∙ sym b.symbols_are)

pub returns-clause-list : goal.returns-clause-list
returns-clause-list c start one other these those a b e = (
  sym a.symbols_are ∙ ap (tree_symbols start) e ∙ b.symbols_are,
  sym a.produced ∙ ap (λ t. (tree_end start t).produced) e ∙ b.produced,
)
