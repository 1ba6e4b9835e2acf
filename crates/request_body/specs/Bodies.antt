-- What the body of a request means at its target, or why it means nothing.
use Rattle.std.specs.Prelude.{◌≡◌, ◌≤◌, ◌⊎◌, ℕ, List, Result, Ok, Err, unwrap_or, codes}
use Rattle.rdf_graph.specs.Graph.{IsGraph}
use Rattle.graph_patch.specs.Patch.{IsBound}
use Rattle.rdf_graph.specs.declared.size.TheConstants.{TRIPLES_LIMIT}
use Rattle.pod_base.specs.declared.field.Field.{Field}
use Rattle.pod_base.specs.declared.request.Request.{Request}
use Rattle.pod_command.specs.declared.row.Content.TheVariants.{Graph, Bytes}
use Rattle.turtle_terms.specs.declared.fault.TurtleKind.{TurtleKind}
use Rattle.turtle_terms.specs.declared.fault.TurtleFault.TheVariants.{Bad, TooLarge}
use Rattle.turtle_text.specs.Spells.{Spells}
use Rattle.turtle_text.specs.Faults as turtle
use Rattle.jsonld_expanded.specs.Outcomes.{IsDocumentOf, IsNotJson, IsOutOfProfile, IsTooLarge}
use Rattle.n3_patch.specs.declared.fault.N3Fault.TheVariants as n3_fault
use Rattle.n3_patch.specs.declared.fault.PatchRule.TheVariants.{BlankNode}
use Rattle.n3_patch.specs.Spells.{PatchSpells}
use Rattle.n3_patch.specs.Faults as n3
use Rattle.sparql_patch.specs.declared.fault.SparqlFault.TheVariants as update_fault
use Rattle.sparql_patch.specs.UpdateFaults as sparql
use Rattle.sparql_patch.specs.UpdateSpells.{Names, named_size}
use Rattle.request_fields.specs.ContentTypes.{content_type}
use Rattle.request_body.specs.declared.body.RequestBody.{RequestBody}
use Rattle.request_body.specs.declared.body.RequestBody.TheVariants.{Nothing, Content}
use Rattle.request_body.specs.declared.body.RequestBody.TheVariants.{Patch, Update}
use Rattle.request_body.specs.declared.fault.BodyFault.{BodyFault}
use Rattle.request_body.specs.declared.fault.BodyFault.TheVariants.{Syntax, Json, Rule, GraphSize}
use Rattle.request_body.specs.declared.syntax_choice.BodySyntax.{BodySyntax}
use Rattle.request_body.specs.declared.syntax_choice.BodySyntax.TheVariants as syntax
use Rattle.request_body.specs.Syntaxes.{body_syntax}

-- what a body means, or its fault
abbrev pub Outcome : Type 0
Outcome = Result RequestBody BodyFault

-- the content type of bytes, which are any bytes without one
abbrev pub opaque_type : List Field → List ℕ
opaque_type fields = unwrap_or (content_type fields) (codes "application/octet-stream")

-- Bytes are kept as they are, with their content type.
abbrev pub IsOpaqueBody : Request → Outcome → Type 0
IsOpaqueBody request outcome = outcome
    ≡ Ok (Content (Bytes (opaque_type request.fields) request.body))

-- A document of Turtle is the graph that it spells; else its first fault, which is reported by its
-- position, or as the size.
abbrev pub IsTurtleBody : List ℕ → List ℕ → Outcome → Type 0
IsTurtleBody base bytes (Ok (Content (Graph graph))) =
    Spells base bytes graph × turtle.HasNoFault base bytes
IsTurtleBody base bytes (Err (Syntax at)) =
    (kind : TurtleKind) × turtle.IsFirstFault base bytes (Bad at kind)
IsTurtleBody base bytes (Err GraphSize) = (at : ℕ) × turtle.IsFirstFault base bytes (TooLarge at)
IsTurtleBody base bytes other = ⊥

-- A document of JSON-LD is the graph that it expands to; else no JSON or not in the profile, else
-- its size.
abbrev pub IsJsonLdBody : List ℕ → List ℕ → Outcome → Type 0
IsJsonLdBody base bytes (Ok (Content (Graph graph))) = IsDocumentOf base bytes graph × IsGraph graph
IsJsonLdBody base bytes (Err Json) = IsNotJson bytes ⊎ IsOutOfProfile base bytes
IsJsonLdBody base bytes (Err GraphSize) = IsTooLarge base bytes
IsJsonLdBody base bytes other = ⊥

-- A patch document is the patch that it spells; else its first fault of syntax, else the first rule
-- that it breaks, else its size.
abbrev pub IsPatchBody : List ℕ → List ℕ → Outcome → Type 0
IsPatchBody base bytes (Ok (Patch patch)) = PatchSpells base bytes patch × n3.HasNoFault base bytes
IsPatchBody base bytes (Err (Syntax at)) = n3.IsN3Fault base bytes (n3_fault.Syntax at)
IsPatchBody base bytes (Err (Rule rule)) = n3.IsN3Fault base bytes (n3_fault.Constraint rule)
IsPatchBody base bytes (Err GraphSize) = n3.IsN3Fault base bytes n3_fault.TooLarge
IsPatchBody base bytes other = ⊥

-- An update is the triples that it names, in order; else its first fault of syntax, else a blank
-- node in it, which breaks a rule of patches, else its size.
abbrev pub IsUpdateBody : List ℕ → List ℕ → Outcome → Type 0
IsUpdateBody base bytes (Ok (Update named)) = Names base bytes named.items
    × sparql.HasNoFault base bytes × (named_size named.items ≤ TRIPLES_LIMIT)
IsUpdateBody base bytes (Err (Syntax at)) = sparql.IsSparqlFault base bytes (update_fault.Syntax at)
IsUpdateBody base bytes (Err (Rule BlankNode)) = sparql.IsSparqlFault base bytes update_fault.Blank
IsUpdateBody base bytes (Err GraphSize) = sparql.IsSparqlFault base bytes update_fault.TooLarge
IsUpdateBody base bytes other = ⊥

-- The body in a syntax.
abbrev pub MeansBy : BodySyntax → List ℕ → Request → Outcome → Type 0
MeansBy syntax.Ignored base request outcome = outcome ≡ Ok Nothing
MeansBy syntax.Opaque base request outcome = IsOpaqueBody request outcome
MeansBy syntax.Turtle base request outcome = IsTurtleBody base request.body outcome
MeansBy syntax.JsonLd base request outcome = IsJsonLdBody base request.body outcome
MeansBy syntax.N3Patch base request outcome = IsPatchBody base request.body outcome
MeansBy syntax.SparqlUpdate base request outcome = IsUpdateBody base request.body outcome

-- Without a syntax the fault is that of its type.
abbrev pub MeansIn : Result BodySyntax BodyFault → List ℕ → Request → Outcome → Type 0
MeansIn (Ok by) base request outcome = MeansBy by base request outcome
MeansIn (Err fault) base request outcome = outcome ≡ Err fault

-- What the body of a request to a path means, where relative references are resolved by a base.
unfoldable pub Means : List ℕ → List ℕ → Request → Outcome → Type 0
Means base path request outcome = MeansIn (body_syntax path request) base request outcome

-- A patch meets what its application requires: its variables are those of its conditions.
abbrev pub IsBoundOutcome : Outcome → Type 0
IsBoundOutcome (Ok (Patch patch)) = IsBound patch
IsBoundOutcome other = Unit {0}
