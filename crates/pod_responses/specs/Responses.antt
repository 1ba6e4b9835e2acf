-- The responses of a pod, without the fields that depend on the connection. Fields stand in one
-- order.
use Rattle.std.specs.Prelude.{ℕ, Bool, true, false, if◌then◌else◌, List, [], ◌∷◌, ◌++◌, Option}
use Rattle.std.specs.Prelude.{Some, None, codes, decimal}
use Rattle.pod_base.specs.declared.field.Field.{Field}
use Rattle.pod_base.specs.declared.method.Method.{Method}
use Rattle.pod_base.specs.declared.method.Method.TheVariants.{Patch}
use Rattle.pod_base.specs.declared.response.Body.{Body}
use Rattle.pod_base.specs.declared.response.Body.TheVariants.{Absent, Whole}
use Rattle.pod_base.specs.declared.response.Response.{Response}
use Rattle.pod_path.specs.Hierarchy.{is_container, uri_of}
use Rattle.http_out.specs.Calendar.{date_text}
use Rattle.pod_responses.specs.Allow.{allow_text, methods, names_of, put_types}
use Rattle.pod_responses.specs.Links.{field, type_links, about_links}
use Rattle.pod_responses.specs.declared.read_responses.Representation.{Representation}

abbrev pub response : ℕ → List Field → Body → Response
response status fields body = record { status = status; fields = fields; body = body }

abbrev pub allow : List ℕ → Field
allow names = field (codes "Allow") names

abbrev pub accept_patch : Field
accept_patch = field (codes "Accept-Patch") (codes "text/n3, application/sparql-update")

-- Whatever is posted to a container becomes a member.
unfoldable pub accept_post : Bool → List Field
accept_post container = if container then field (codes "Accept-Post") (codes "*/*") ∷ [] else []

abbrev pub accept_put : List ℕ → Field
accept_put types = field (codes "Accept-Put") types

abbrev pub vary : Field
vary = field (codes "Vary") (codes "Accept, Authorization")

-- which representation it is, and when it was changed (RFC 9110, sections 8.8.2 and 8.8.3)
unfoldable pub quoted : List ℕ → List ℕ
quoted tag = codes "\"" ++ (tag ++ codes "\"")

unfoldable pub validators : List ℕ → ℕ → List Field
validators tag modified =
    field (codes "ETag") (quoted tag) ∷ field (codes "Last-Modified") (date_text modified) ∷ []

-- A representation of the resource at a path.
unfoldable pub accept_ranges : Bool → List Field
accept_ranges ranges = if ranges then field (codes "Accept-Ranges") (codes "bytes") ∷ [] else []

-- what is told of the resource itself
unfoldable pub resource_fields : List ℕ → List ℕ → List ℕ → List Field
resource_fields base path granted = type_links path ++ (about_links base path
    ++ (field (codes "WAC-Allow") granted ∷ allow (allow_text path) ∷ accept_patch ∷ []))

-- The fields of a representation, with the range that it is of the whole where it is one.
unfoldable pub content_range : Option (List ℕ) → List Field
content_range None = []
content_range (Some range) = field (codes "Content-Range") range ∷ []

-- what the resource takes, and how its representations are chosen
unfoldable pub choices : List ℕ → Bool → List Field
choices path ranges = accept_post (is_container path)
    ++ (accept_put (put_types path) ∷ vary ∷ accept_ranges ranges)

abbrev pub shown_fields : List ℕ → List ℕ → Representation → Option (List ℕ) → List Field
shown_fields base path r range = field (codes "Content-Type") r.ctype ∷ (content_range range
    ++ (validators r.tag.0 r.modified.0 ++ (resource_fields base path r.granted
    ++ choices path r.ranges)))

abbrev pub shown : List ℕ → List ℕ → Representation → Body → Response
shown base path r body = response 200 (shown_fields base path r None) body

-- A part of a representation: the range is that of the one part, none where there are several.
abbrev pub partial : List ℕ → List ℕ → Representation → Option (List ℕ) → Body → Response
partial base path r range body = response 206 (shown_fields base path r range) body

-- The resource at the path was made by a request to the target.
abbrev pub created : List ℕ → List ℕ → List ℕ → Response
created base target path =
    response 201 (field (codes "Location") (uri_of base path) ∷ about_links base target) Absent

abbrev pub changed : Response
changed = response 204 [] Absent

-- what a path takes, and what the server takes (RFC 9110, section 9.3.7)
abbrev pub options : List ℕ → Response
options path = response 204 (allow (allow_text path) ∷ accept_patch
    ∷ (accept_post (is_container path) ++ accept_put (put_types path) ∷ [])) Absent

abbrev pub options_of_server : Response
options_of_server = response 204
    (allow (names_of methods) ∷ accept_patch ∷ accept_put (codes "*/*") ∷ []) Absent

-- The connection is a WebSocket from here on (RFC 6455, section 4.2.2).
abbrev pub upgraded : List ℕ → Response
upgraded accept = response 101 (field (codes "Upgrade") (codes "websocket")
    ∷ field (codes "Connection") (codes "Upgrade") ∷ field (codes "Sec-WebSocket-Accept") accept ∷ [])
    Absent

abbrev pub not_modified : List ℕ → ℕ → Response
not_modified tag modified = response 304 (validators tag modified ++ vary ∷ []) Absent

-- A refusal tells its word in a body, and what more the client should know in fields.
abbrev pub word_body : List ℕ → Body
word_body word = Whole (word ++ codes "\n")

abbrev pub refused : ℕ → List ℕ → List Field → Response
refused status word fields =
    response status (field (codes "Content-Type") (codes "text/plain") ∷ fields) (word_body word)

abbrev pub refusal : ℕ → List ℕ → Response
refusal status word = refused status word []

abbrev pub unauthorized : List ℕ → Response
unauthorized word = refused 401 word (field (codes "WWW-Authenticate") (codes "Bearer") ∷ [])

abbrev pub not_allowed : List ℕ → Response
not_allowed path = refused 405 (codes "not-allowed") (allow (allow_text path) ∷ [])

-- which types the method takes at the path
abbrev pub taken_types : Method → List ℕ → Field
taken_types Patch path = accept_patch
taken_types method path = accept_put (put_types path)

abbrev pub unsupported : Method → List ℕ → Response
unsupported method path = refused 415 (codes "type") (taken_types method path ∷ [])

-- no part of the bytes, of which there are so many (RFC 9110, section 14.4)
abbrev pub unsatisfiable : ℕ → Response
unsatisfiable size =
    refused 416 (codes "range") (field (codes "Content-Range") (codes "bytes */" ++ decimal size) ∷ [])
