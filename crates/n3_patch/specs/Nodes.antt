-- The triples of a patch document, over nodes that may be variables and formulas.
use Rattle.std.specs.Prelude.{◌==◌, ℕ, Bool, true, false, List, Option, Some, None}
use Rattle.std.specs.Str.{bytes_eq}
use Rattle.rdf_graph.specs.Term.{term_eq}
use Rattle.graph_patch.specs.declared.pattern.Slot.{Slot}
use Rattle.graph_patch.specs.declared.pattern.Slot.TheVariants.{Fixed, Var}
use Rattle.graph_patch.specs.declared.pattern.Pattern.{Pattern}
use Rattle.rdf_graph.specs.declared.term.Term.{Term as RdfTerm}
use Rattle.rdf_graph.specs.declared.term.Term.TheVariants as term
use Rattle.n3_patch.specs.declared.triples.PatchNode.{PatchNode}
use Rattle.n3_patch.specs.declared.triples.PatchNode.TheVariants.{Term, Variable, Formula}
use Rattle.n3_patch.specs.declared.triples.PatchTriple.{PatchTriple}

-- whether two nodes are the same: formulas are, where one `{` opens them
abbrev pub node_eq : PatchNode → PatchNode → Bool
node_eq (Term t) (Term u) = term_eq t u
node_eq (Variable n) (Variable m) = bytes_eq n m
node_eq (Formula i) (Formula j) = i == j
node_eq node other = false

-- whether a node is this IRI
abbrev pub is_iri_term : List ℕ → RdfTerm → Bool
is_iri_term iri (term.Iri i) = bytes_eq i iri
is_iri_term iri other = false

abbrev pub is_iri : List ℕ → PatchNode → Bool
is_iri iri (Term t) = is_iri_term iri t
is_iri iri node = false

abbrev pub is_formula : PatchNode → Bool
is_formula (Formula i) = true
is_formula node = false

abbrev pub is_blank_term : RdfTerm → Bool
is_blank_term (term.Blank label) = true
is_blank_term other = false

abbrev pub is_blank : PatchNode → Bool
is_blank (Term t) = is_blank_term t
is_blank node = false

-- whether a triple is in a formula, and in the one of this `{`
abbrev pub is_some_formula : Option ℕ → Bool
is_some_formula None = false
is_some_formula (Some i) = true

abbrev pub is_this_formula : ℕ → Option ℕ → Bool
is_this_formula i None = false
is_this_formula i (Some j) = i == j

-- the slot of a node and the pattern of a triple, where no node is a formula
abbrev pub slot_of : PatchNode → Option Slot
slot_of (Term t) = Some (Fixed t)
slot_of (Variable name) = Some (Var name)
slot_of (Formula i) = None

abbrev pub pattern_from : Option Slot → Option Slot → Option Slot → Option Pattern
pattern_from (Some s) (Some p) (Some o) = Some (record { s = s; p = p; o = o })
pattern_from s p o = None

abbrev pub pattern_of : PatchTriple → Option Pattern
pattern_of t = pattern_from (slot_of t.subject) (slot_of t.predicate) (slot_of t.object)
