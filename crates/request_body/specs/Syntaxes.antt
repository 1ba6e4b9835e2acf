-- In which syntax the body of a request is read: by its method, its target and its content type
-- (RFC 9110, section 8.3; Solid Protocol 0.11, section 5; LDP 1.0, section 5.2.3).
use Rattle.std.specs.Prelude.{ℕ, Bool, ◌||◌, ◌&&◌, ◌==◌, if◌then◌else◌, List, length, count_by}
use Rattle.std.specs.Prelude.{Option, Some, None, Result, Ok, Err, codes}
use Rattle.pod_base.specs.declared.field.Field.{Field}
use Rattle.pod_base.specs.declared.method.Method.{Method}
use Rattle.pod_base.specs.declared.method.Method.TheVariants.{Put, Post, Patch}
use Rattle.pod_base.specs.declared.request.Request.{Request}
use Rattle.pod_base.specs.Fields.{is_named}
use Rattle.pod_path.specs.Hierarchy.{is_container, is_auxiliary}
use Rattle.request_fields.specs.ContentTypes.{content_type}
use Rattle.request_fields.specs.Links.{links_to_container}
use Rattle.request_fields.specs.MediaTypes.{media_type}
use Rattle.request_fields.specs.declared.media_types.MediaType.{MediaType}
use Rattle.request_fields.specs.declared.media_types.MediaType.TheVariants as media
use Rattle.request_body.specs.declared.syntax_choice.BodySyntax.{BodySyntax}
use Rattle.request_body.specs.declared.syntax_choice.BodySyntax.TheVariants as syntax
use Rattle.request_body.specs.declared.fault.BodyFault.{BodyFault}
use Rattle.request_body.specs.declared.fault.BodyFault.TheVariants.{NoType, UnsupportedType}

-- a container, an access list or a description holds a graph, whatever it is sent as
abbrev pub holds_graph : List ℕ → Bool
holds_graph path = is_container path || is_auxiliary path

-- a request without any Content-Type field
abbrev pub is_untyped : List Field → Bool
is_untyped fields = count_by (is_named (codes "content-type")) fields == 0

-- what an empty body without Content-Type counts as: Turtle where a graph is made, else bytes
abbrev pub assumed_type : Bool → List ℕ
assumed_type graph = if graph then codes "text/turtle" else codes "application/octet-stream"

-- The content type of a body that is put or posted, where a graph is made or anything; none where
-- it isn't given by exactly one field of 1 to 256 printable bytes.
abbrev pub put_type : Bool → List Field → List ℕ → Option (List ℕ)
put_type graph fields body = if is_untyped fields && (length body == 0)
    then Some (assumed_type graph) else content_type fields

-- what a method reads a media type as
abbrev pub put_syntax : Bool → MediaType → Result BodySyntax BodyFault
put_syntax graph media.Turtle = Ok syntax.Turtle
put_syntax graph media.JsonLd = Ok syntax.JsonLd
put_syntax graph media.N3 = if graph then Err UnsupportedType else Ok syntax.Opaque
put_syntax graph media.SparqlUpdate = if graph then Err UnsupportedType else Ok syntax.Opaque
put_syntax graph media.Other = if graph then Err UnsupportedType else Ok syntax.Opaque

abbrev pub patch_syntax : MediaType → Result BodySyntax BodyFault
patch_syntax media.Turtle = Err UnsupportedType
patch_syntax media.JsonLd = Err UnsupportedType
patch_syntax media.N3 = Ok syntax.N3Patch
patch_syntax media.SparqlUpdate = Ok syntax.SparqlUpdate
patch_syntax media.Other = Err UnsupportedType

-- A body needs a type before the type is looked at.
abbrev pub typed_syntax : (MediaType → Result BodySyntax BodyFault) → Option (List ℕ)
    → Result BodySyntax BodyFault
typed_syntax by None = Err NoType
typed_syntax by (Some ctype) = by (media_type ctype)

-- A PUT makes a graph by its path, a POST where its links ask for a container. Methods that take no
-- body ignore it.
abbrev pub syntax_by : Method → List ℕ → List Field → List ℕ → Result BodySyntax BodyFault
syntax_by Put path fields body =
    typed_syntax (put_syntax (holds_graph path)) (put_type (holds_graph path) fields body)
syntax_by Post path fields body = typed_syntax (put_syntax (links_to_container fields))
    (put_type (links_to_container fields) fields body)
syntax_by Patch path fields body = typed_syntax patch_syntax (content_type fields)
syntax_by method path fields body = Ok syntax.Ignored

abbrev pub body_syntax : List ℕ → Request → Result BodySyntax BodyFault
body_syntax path request = syntax_by request.method path request.fields request.body
