-- The body of a request has one outcome.
use Rattle.std.proofs.Common.{List, ℕ, Result, Ok, Err}
use Rattle.pod_base.specs.declared.request.Request.{Request}
use Rattle.request_body.specs.declared.body.RequestBody.TheVariants.{Nothing}
use Rattle.request_body.specs.declared.fault.BodyFault.{BodyFault}
use Rattle.request_body.specs.declared.syntax_choice.BodySyntax.{BodySyntax}
use Rattle.request_body.specs.declared.syntax_choice.BodySyntax.TheVariants as syntax
use Rattle.request_body.specs.Bodies.{Outcome, Means, MeansIn}
use Rattle.request_body.specs.Laws.{SameOutcome, MeansOne}
use Rattle.request_body.specs.Syntaxes.{body_syntax}
use Rattle.request_body.proofs.JsonOnce.{one_json_ld}
use Rattle.request_body.proofs.PatchOnce.{one_patch}
use Rattle.request_body.proofs.Same.{alike}
use Rattle.request_body.proofs.TurtleOnce.{one_turtle}
use Rattle.request_body.proofs.UpdateOnce.{one_update_body}

one_in : (s : Result BodySyntax BodyFault) (base : List ℕ) (request : Request) (a b : Outcome) → MeansIn s base request a → MeansIn s base request b → SameOutcome a b
one_in (Ok syntax.Ignored) base request a b h k = alike a b (Ok Nothing) h k
one_in (Ok syntax.Opaque) base request a b h k = alike a b _ h k
one_in (Ok syntax.Turtle) base request a b h k = one_turtle base request.body a b h k
one_in (Ok syntax.JsonLd) base request a b h k = one_json_ld base request.body a b h k
one_in (Ok syntax.N3Patch) base request a b h k = one_patch base request.body a b h k
one_in (Ok syntax.SparqlUpdate) base request a b h k = one_update_body base request.body a b h k
one_in (Err f) base request a b h k = alike a b (Err f) h k

pub one_meaning : MeansOne
unfolding Means
one_meaning base path request a b h k = one_in (body_syntax path request) base request a b h k
