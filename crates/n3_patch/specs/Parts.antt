-- The patch resource and the parts of a patch (Solid Protocol, N3 Patch).
use Rattle.std.specs.Prelude.{◌≡◌, ◌&&◌, ℕ, Bool, not, List, [], ◌∷◌, ◌++◌, Option, Some, None}
use Rattle.std.specs.Prelude.{if◌then◌else◌}
use Rattle.std.specs.List.{find, list_any}
use Rattle.graph_patch.specs.PatternOrder.{pattern_cmp}
use Rattle.std.specs.Ordering.{eq_by_cmp}
use Rattle.graph_patch.specs.declared.patch.Patch.{Patch}
use Rattle.graph_patch.specs.declared.pattern.Pattern.{Pattern}
use Rattle.rdf_graph.specs.declared.vocabulary.TheConstants.{RDF_TYPE}
use Rattle.n3_patch.specs.declared.vocabulary.TheConstants.{SOLID_INSERT_DELETE_PATCH}
use Rattle.n3_patch.specs.declared.vocabulary.TheConstants.{SOLID_WHERE, SOLID_DELETES}
use Rattle.n3_patch.specs.declared.vocabulary.TheConstants.{SOLID_INSERTS}
use Rattle.n3_patch.specs.declared.vocabulary.Part.{Part}
use Rattle.n3_patch.specs.declared.vocabulary.Part.TheVariants.{Where, Deletes, Inserts}
use Rattle.n3_patch.specs.declared.triples.PatchNode.{PatchNode}
use Rattle.n3_patch.specs.declared.triples.PatchNode.TheVariants.{Formula}
use Rattle.n3_patch.specs.declared.triples.PatchTriple.{PatchTriple}
use Rattle.n3_patch.specs.Nodes.{node_eq, is_iri, is_formula, is_some_formula, is_this_formula}
use Rattle.n3_patch.specs.Nodes.{pattern_of}

abbrev pub is_inside : PatchTriple → Bool
is_inside t = is_some_formula t.formula

abbrev pub is_outside : PatchTriple → Bool
is_outside t = not (is_inside t)

-- A triple outside formulas that types its subject as a patch.
abbrev pub is_typing : PatchTriple → Bool
is_typing t = is_outside t
    && (is_iri RDF_TYPE.now t.predicate && is_iri SOLID_INSERT_DELETE_PATCH.now t.object)

-- The first such triple: its subject is the patch resource.
abbrev pub first_typing : List PatchTriple → Option PatchTriple
first_typing triples = find is_typing triples

-- the property of a part
abbrev pub part_iri : Part → List ℕ
part_iri Where = SOLID_WHERE.now
part_iri Deletes = SOLID_DELETES.now
part_iri Inserts = SOLID_INSERTS.now

-- a triple outside formulas that gives the resource r this part
abbrev pub gives_part : PatchNode → Part → PatchTriple → Bool
gives_part r part t = is_outside t && (node_eq r t.subject && is_iri (part_iri part) t.predicate)

abbrev pub gives_formula : PatchNode → Part → PatchTriple → Bool
gives_formula r part t = gives_part r part t && is_formula t.object

-- the `{` of a node, and of the object of a triple, where that is a formula
abbrev pub formula_of : PatchNode → Option ℕ
formula_of (Formula i) = Some i
formula_of node = None

abbrev pub object_formula : Option PatchTriple → Option ℕ
object_formula None = None
object_formula (Some t) = formula_of t.object

-- the first formula of a part
abbrev pub part_formula : PatchNode → Part → List PatchTriple → Option ℕ
part_formula r part triples = object_formula (find (gives_formula r part) triples)

-- the patterns with one more, if it is new
abbrev pub with_pattern : List Pattern → Option Pattern → List Pattern
with_pattern patterns None = patterns
with_pattern patterns (Some x) =
    if list_any (eq_by_cmp pattern_cmp x) patterns then patterns else patterns ++ x ∷ []

-- the patterns with those of the triples in this formula, each once, in the order of
-- their first occurrence
abbrev pub with_formula : ℕ → List PatchTriple → List Pattern → List Pattern
with_formula i [] patterns = patterns
with_formula i (t ∷ triples) patterns = with_formula i triples
    (if is_this_formula i t.formula then with_pattern patterns (pattern_of t) else patterns)

abbrev pub patterns_of : List PatchTriple → Option ℕ → List Pattern
patterns_of triples None = []
patterns_of triples (Some i) = with_formula i triples []

-- The patterns of a part: none, where it has no formula.
abbrev pub part_patterns : PatchNode → Part → List PatchTriple → List Pattern
part_patterns r part triples = patterns_of triples (part_formula r part triples)

-- The patch of the resource r.
pub record IsPatchOf (r : PatchNode) (triples : List PatchTriple) (patch : Patch) : Type 0 where
  pub conditions : patch.conditions.items ≡ part_patterns r Where triples
  pub deletions : patch.deletions.items ≡ part_patterns r Deletes triples
  pub insertions : patch.insertions.items ≡ part_patterns r Inserts triples
