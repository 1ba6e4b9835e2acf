-- What follows from the definitions. Each law is the contract of a function of `laws`.
use Rattle.std.specs.Prelude.{◌≡◌, ℕ, true, List, Ok}
use Rattle.pod_base.specs.declared.request.Request.{Request}
use Rattle.pod_base.specs.declared.method.Method.TheVariants.{Put, Post}
use Rattle.pod_command.specs.declared.row.Content.{Content as RowContent}
use Rattle.pod_command.specs.declared.row.Content.TheVariants.{Graph, Bytes}
use Rattle.n3_patch.specs.Laws.{SamePatch}
use Rattle.request_fields.specs.ContentTypes.{is_content_type}
use Rattle.request_fields.specs.Links.{links_to_container}
use Rattle.request_body.specs.declared.body.RequestBody.TheVariants.{Content, Patch, Update}
use Rattle.request_body.specs.Bodies.{Outcome, Means}
use Rattle.request_body.specs.Syntaxes.{holds_graph}

-- patches and updates with the same lists are the same
abbrev pub SameOutcome : Outcome → Outcome → Type 0
SameOutcome (Ok (Patch a)) (Ok (Patch b)) = SamePatch a b
SameOutcome (Ok (Update a)) (Ok (Update b)) = a.items ≡ b.items
SameOutcome a b = a ≡ b

-- The body of a request means one thing at most, or has one fault, and not both.
abbrev pub MeansOne : Type 0
MeansOne = (base path : List ℕ) (request : Request) (a b : Outcome) → Means base path request a
    → Means base path request b → SameOutcome a b

-- What a PUT of a container, an access list or a description holds is a graph.
abbrev pub IsGraphContent : RowContent → Type 0
IsGraphContent (Graph graph) = Unit {0}
IsGraphContent (Bytes ctype bytes) = ⊥

abbrev pub PutsGraph : Type 0
PutsGraph = (base path : List ℕ) (request : Request) (content : RowContent) → request.method ≡ Put
    → holds_graph path ≡ true → Means base path request (Ok (Content content))
    → IsGraphContent content

-- and so is what a POST that asks for a container holds
abbrev pub PostsGraph : Type 0
PostsGraph = (base path : List ℕ) (request : Request) (content : RowContent) → request.method ≡ Post
    → links_to_container request.fields ≡ true → Means base path request (Ok (Content content))
    → IsGraphContent content

-- Bytes are sent with a content type.
abbrev pub HasContentType : Type 0
HasContentType = (base path : List ℕ) (request : Request) (ctype bytes : List ℕ)
    → Means base path request (Ok (Content (Bytes ctype bytes))) → is_content_type ctype ≡ true
