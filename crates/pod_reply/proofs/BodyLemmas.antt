-- A PUT and a POST have content, and a PATCH has a patch or an update.
use Rattle.std.proofs.Common.{◌≡◌, ℕ, Bool, true, false, List, Option, Some, None, Result, Ok, Err, sym, subst}
use Rattle.pod_base.specs.declared.method.Method.{Method}
use Rattle.pod_base.specs.declared.method.Method.TheVariants as methods
use Rattle.pod_base.specs.declared.request.Request.{Request}
use Rattle.request_body.specs.Bodies.{Outcome, IsBoundOutcome, Means, MeansIn}
use Rattle.request_body.specs.Syntaxes.{holds_graph, patch_syntax, put_syntax, syntax_by, typed_syntax}
use Rattle.request_body.specs.declared.body.RequestBody.{RequestBody}
use Rattle.request_body.specs.declared.body.RequestBody.TheVariants.{Content, Patch, Update}
use Rattle.request_body.specs.declared.fault.BodyFault.{BodyFault}
use Rattle.request_body.specs.declared.syntax_choice.BodySyntax.{BodySyntax}
use Rattle.request_fields.specs.Links.{links_to_container}
use Rattle.request_fields.specs.MediaTypes.{media_type}
use Rattle.request_fields.specs.declared.media_types.MediaType.{MediaType}
use Rattle.request_fields.specs.declared.media_types.MediaType.TheVariants as media
use Rattle.pod_reply.specs.PatchReplies.{IsPatchBody}
use Rattle.pod_reply.specs.PostReplies.{IsContentBody}
use Rattle.pod_reply.specs.Reply.{HasContent}

no_fault : (body : RequestBody) (fault : BodyFault) → Ok body ≡ Err fault → ⊥
no_fault body fault e = cc

same_body : (a b : RequestBody) → ◌≡◌ {A = Outcome} (Ok a) (Ok b) → a ≡ b
same_body a b e = cc

-- what has a body has a type
typed : (P : RequestBody → Type 0) (by : MediaType → Result BodySyntax BodyFault)
    (ctype : Option (List ℕ)) (base : List ℕ) (request : Request) (body : RequestBody)
    → ((m : MediaType) → MeansIn (by m) base request (Ok body) → P body)
    → MeansIn (typed_syntax by ctype) base request (Ok body) → P body
typed P by None base request body f h = absurd (no_fault body _ h)
typed P by (Some text) base request body f h = f (media_type text) h

put_by_type : (graph : Bool) (m : MediaType) (base : List ℕ) (request : Request) (body : RequestBody)
    → MeansIn (put_syntax graph m) base request (Ok body) → IsContentBody body
put_by_type graph m base request (Content content) h = tt
put_by_type graph media.Turtle base request _ h = h
put_by_type graph media.JsonLd base request _ h = h
put_by_type true _ base request body h = absurd (no_fault body _ h)
put_by_type false _ base request body h = subst IsContentBody (sym (same_body body _ h)) tt

content_by : (method : Method) (base path : List ℕ) (request : Request) (body : RequestBody)
    → HasContent method
    → MeansIn (syntax_by method path request.fields request.body) base request (Ok body)
    → IsContentBody body
content_by methods.Put base path request body has h =
    typed IsContentBody _ _ base request body (λ m. put_by_type (holds_graph path) m base request body) h
content_by methods.Post base path request body has h =
    typed IsContentBody _ _ base request body (λ m. put_by_type (links_to_container request.fields) m base request body) h
content_by _ base path request body has h = absurd has

pub has_content : (base path : List ℕ) (request : Request) (body : RequestBody)
    → HasContent request.method → Means base path request (Ok body) → IsContentBody body
unfolding Means
has_content base path request body has h = content_by request.method base path request body has h

-- ---- PATCH

patch_by_type : (m : MediaType) (base : List ℕ) (request : Request) (body : RequestBody)
    → IsBoundOutcome (Ok body) → MeansIn (patch_syntax m) base request (Ok body) → IsPatchBody body
patch_by_type m base request (Patch patch) bound h = bound
patch_by_type m base request (Update named) bound h = tt
patch_by_type media.N3 base request _ bound h = h
patch_by_type media.SparqlUpdate base request _ bound h = h
patch_by_type _ base request body bound h = absurd (no_fault body _ h)

pub patch_body : (base path : List ℕ) (request : Request) (body : RequestBody)
    → request.method ≡ methods.Patch → Means base path request (Ok body) → IsBoundOutcome (Ok body)
    → IsPatchBody body
unfolding Means
patch_body base path request body is h bound =
    typed IsPatchBody patch_syntax _ base request body (λ m. patch_by_type m base request body bound)
    (subst (λ (m : Method). MeansIn (syntax_by m path request.fields request.body) base request (Ok body)) is h)
