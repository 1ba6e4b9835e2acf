-- What of a patch document counts for its size: the triples outside formulas whose object is a
-- term, and the patterns. A variable counts as a blank node of its name.
use Rattle.std.specs.Prelude.{ℕ, ◌+◌, List, map, sum, if◌then◌else◌}
use Rattle.rdf_graph.specs.Size.{term_size}
use Rattle.rdf_graph.specs.declared.term.Term.TheVariants.{Blank}
use Rattle.n3_patch.specs.declared.triples.PatchNode.{PatchNode}
use Rattle.n3_patch.specs.declared.triples.PatchNode.TheVariants.{Term, Variable, Formula}
use Rattle.n3_patch.specs.declared.triples.PatchTriple.{PatchTriple}
use Rattle.n3_patch.specs.Nodes.{is_formula}

abbrev pub node_size : PatchNode → ℕ
node_size (Term t) = term_size t
node_size (Variable name) = term_size (Blank name)
node_size (Formula i) = 0

abbrev pub nodes_size : PatchTriple → ℕ
nodes_size t = node_size t.subject + (node_size t.predicate + node_size t.object)

abbrev pub counted_size : PatchTriple → ℕ
counted_size t = if is_formula t.object then 0 else nodes_size t

-- the size of a patch document, repeats included
abbrev pub patch_size : List PatchTriple → ℕ
patch_size triples = sum (map counted_size triples)
