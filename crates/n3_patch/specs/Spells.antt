-- Which bytes parse to a patch (Solid Protocol, N3 Patch).
use Rattle.std.specs.Prelude.{◌≡◌, ℕ, List, Option, Some, None}
use Rattle.rdf_graph.specs.declared.term.Term.TheVariants.{Blank}
use Rattle.graph_patch.specs.declared.patch.Patch.{Patch}
use Rattle.turtle_grammar.specs.declared.production.Node.{Node}
use Rattle.turtle_grammar.specs.declared.production.Within.{Within}
use Rattle.turtle_grammar.specs.declared.production.Within.TheVariants as within
use Rattle.turtle_grammar.specs.declared.production.SymbolicTriple.{SymbolicTriple}
use Rattle.turtle_grammar.specs.declared.production.Production.{Production}
use Rattle.turtle_grammar.specs.declared.symbol.Start.TheVariants as start_of
use Rattle.turtle_reader.specs.declared.meaning.Meaning.{Meaning}
use Rattle.turtle_reader.specs.declared.referent.Referent.{Referent}
use Rattle.turtle_reader.specs.declared.referent.Referent.TheVariants as referent_of
use Rattle.turtle_reader.specs.Handed.{AreMadeOf}
use Rattle.turtle_reader.specs.Referents.{referent}
use Rattle.turtle_reader.specs.Texts.{IsText}
use Rattle.turtle_reader.specs.Documents.{IsLabelOf}
use Rattle.n3_patch.specs.declared.triples.PatchNode.{PatchNode}
use Rattle.n3_patch.specs.declared.triples.PatchNode.TheVariants as patch_node
use Rattle.n3_patch.specs.declared.triples.PatchTriple.{PatchTriple}
use Rattle.n3_patch.specs.Rules.{IsJudged}

-- What a node refers to, as a node of a patch document.
abbrev pub IsReferentNode : List ℕ → Option Referent → PatchNode → Type 0
IsReferentNode bytes (Some (referent_of.Term t)) node = node ≡ patch_node.Term t
IsReferentNode bytes (Some (referent_of.Variable name)) node = node ≡ patch_node.Variable name
IsReferentNode bytes (Some (referent_of.Unnamed number)) node =
    (label : List ℕ) × IsLabelOf bytes number label × (node ≡ patch_node.Term (Blank label))
IsReferentNode bytes (Some (referent_of.Formula index)) node = node ≡ patch_node.Formula index
IsReferentNode bytes None node = ⊥

-- The node, where these are the meanings of the tokens.
abbrev pub IsNodeOf : List ℕ → List Meaning → Node → PatchNode → Type 0
IsNodeOf bytes meanings node n = IsReferentNode bytes (referent meanings node) n

-- the formula that a triple is part of
abbrev pub within_formula : Within → Option ℕ
within_formula (within.Formula index) = Some index
within_formula other = None

pub record IsTripleOf (bytes : List ℕ) (meanings : List Meaning) (symbolic : SymbolicTriple)
    (triple : PatchTriple) : Type 0 where
  pub subject : IsNodeOf bytes meanings symbolic.subject triple.subject
  pub predicate : IsNodeOf bytes meanings symbolic.predicate triple.predicate
  pub object : IsNodeOf bytes meanings symbolic.object triple.object
  pub formula : triple.formula ≡ within_formula symbolic.within

-- The triples of productions, in their order.
abbrev pub AreTriplesOf : List ℕ → List Meaning → List Production → List PatchTriple → Type 0
AreTriplesOf bytes meanings productions triples =
    AreMadeOf (IsTripleOf bytes meanings) productions triples

-- The bytes parse to these triples under a base, in order of production: they are a patch document,
-- whose productions these are.
pub record SpellsTriples (base bytes : List ℕ) (triples : List PatchTriple) : Type 0 where
  pub productions : List Production
  pub meanings : List Meaning
  pub text : IsText start_of.Patch base bytes productions meanings
  pub are_triples : AreTriplesOf bytes meanings productions triples

-- The bytes parse to the patch of these triples, which break no rule.
pub record PatchSpells (base bytes : List ℕ) (patch : Patch) : Type 0 where
  pub triples : List PatchTriple
  pub spells : SpellsTriples base bytes triples
  pub judged : IsJudged triples patch
