-- What is put or posted fits the row that it becomes.
use Rattle.std.proofs.Common.{◌≡◌, List, ℕ, Bool, true, false, cond, refl, ap, ◌∙◌, subst, Option, Some, None, Result, Ok, Err, unwrap_or, codes}
use Rattle.std.specs.Option.{option_and_then}
use Rattle.httparse.specs.Grammar.{trim_ows}
use Rattle.field_list.specs.Values.{only_value}
use Rattle.pod_base.specs.declared.method.Method.{Method}
use Rattle.pod_base.specs.declared.request.Request.{Request}
use Rattle.pod_command.specs.declared.row.Content.{Content as RowContent}
use Rattle.pod_command.specs.declared.row.Content.TheVariants.{Graph, Bytes}
use Rattle.request_fields.specs.ContentTypes.{is_content_type, type_text}
use Rattle.request_fields.specs.MediaTypes.{media_type}
use Rattle.request_fields.specs.declared.media_types.MediaType.{MediaType}
use Rattle.request_fields.specs.declared.media_types.MediaType.TheVariants as media
use Rattle.request_body.specs.declared.body.RequestBody.TheVariants.{Nothing, Content}
use Rattle.request_body.specs.declared.fault.BodyFault.{BodyFault}
use Rattle.request_body.specs.declared.fault.BodyFault.TheVariants.{NoType, UnsupportedType}
use Rattle.request_body.specs.declared.syntax_choice.BodySyntax.{BodySyntax}
use Rattle.request_body.specs.declared.syntax_choice.BodySyntax.TheVariants as syntax
use Rattle.request_body.specs.Bodies.{Outcome, Means, MeansIn, opaque_type}
use Rattle.request_body.specs.Laws.{IsGraphContent, PutsGraph, PostsGraph, HasContentType}
use Rattle.request_body.specs.Syntaxes.{put_type, put_syntax, typed_syntax, syntax_by}

abbrev sent : RowContent → Outcome
sent c = Ok (Content c)

no_fault : (c : RowContent) (f : BodyFault) → sent c ≡ Err f → ⊥
no_fault c f e = cc

-- where a graph is made, what is read is one
module _ (base : List ℕ) (request : Request) where
  by_media : (m : MediaType) (c : RowContent) → MeansIn (put_syntax true m) base request (sent c) → IsGraphContent c
  by_media media.Turtle (Graph g) h = tt
  by_media media.Turtle (Bytes t b) h = h
  by_media media.JsonLd (Graph g) h = tt
  by_media media.JsonLd (Bytes t b) h = h
  by_media _ c h = absurd (no_fault c UnsupportedType h)

  by_type : (o : Option (List ℕ)) (c : RowContent) → MeansIn (typed_syntax (put_syntax true) o) base request (sent c) → IsGraphContent c
  by_type None c h = absurd (no_fault c NoType h)
  by_type (Some t) c h = by_media (media_type t) c h

  by_graph : (s : Result BodySyntax BodyFault) (c : RowContent) → s ≡ typed_syntax (put_syntax true) (put_type true request.fields request.body)
      → MeansIn s base request (sent c) → IsGraphContent c
  by_graph s c is h =
      by_type (put_type true request.fields request.body) c (subst (λ (z : Result BodySyntax BodyFault). MeansIn z base request (sent c)) is h)

abbrev typed_as : Request → Bool → Result BodySyntax BodyFault
typed_as request graph = typed_syntax (put_syntax graph) (put_type graph request.fields request.body)

pub puts_graph : PutsGraph
unfolding Means
puts_graph base path request content is holds h =
    by_graph base request (syntax_by request.method path request.fields request.body) content
    (ap (λ (m : Method). syntax_by m path request.fields request.body) is ∙ ap (typed_as request) holds) h

pub posts_graph : PostsGraph
unfolding Means
posts_graph base path request content is links h =
    by_graph base request (syntax_by request.method path request.fields request.body) content
    (ap (λ (m : Method). syntax_by m path request.fields request.body) is ∙ ap (typed_as request) links) h

-- bytes have a content type

type_holds : (value : Option (List ℕ)) → is_content_type (unwrap_or (option_and_then type_text value) (codes "application/octet-stream")) ≡ true
type_holds None = refl
type_holds (Some value) = step (is_content_type (trim_ows value)) refl
  where
    step : (b : Bool) → is_content_type (trim_ows value) ≡ b
        → is_content_type (unwrap_or (cond b (Some (trim_ows value)) None) (codes "application/octet-stream")) ≡ true
    step true holds = holds
    step false fails = refl

same_type : (request : Request) (t b : List ℕ) → sent (Bytes t b) ≡ sent (Bytes (opaque_type request.fields) request.body) → opaque_type request.fields ≡ t
same_type request t b e = cc

by_syntax : (s : Result BodySyntax BodyFault) (base : List ℕ) (request : Request) (t b : List ℕ) → MeansIn s base request (sent (Bytes t b))
    → is_content_type t ≡ true
by_syntax (Ok syntax.Ignored) base request t b h = let e : sent (Bytes t b) ≡ Ok Nothing = h in cc
by_syntax (Ok syntax.Opaque) base request t b h =
    subst (λ (z : List ℕ). is_content_type z ≡ true) (same_type request t b h) (type_holds (only_value (codes "content-type") request.fields))
by_syntax (Err f) base request t b h = absurd (no_fault (Bytes t b) f h)
by_syntax _ base request t b h = absurd h

pub has_content_type : HasContentType
unfolding Means
has_content_type base path request ctype bytes h = by_syntax (syntax_by request.method path request.fields request.body) base request ctype bytes h
