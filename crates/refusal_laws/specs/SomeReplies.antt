-- Requests have replies, whatever the pod.
use Rattle.std.specs.Prelude.{◌≡◌, ℕ, ◌<◌, List, All, IfSome, Result, Ok}
use Rattle.std.specs.List.{AllByRecursion}
use Rattle.pod_base.specs.declared.method.Method.{Method}
use Rattle.pod_base.specs.declared.method.Method.TheVariants as methods
use Rattle.pod_base.specs.declared.moment.Stamp.{Stamp}
use Rattle.pod_base.specs.declared.request.Request.{Request}
use Rattle.pod_command.specs.declared.row.Content.{Content}
use Rattle.pod_command.specs.declared.row.Content.TheVariants as contents
use Rattle.pod_command.specs.declared.row.Row.{Row}
use Rattle.patch_outcome.specs.Outcomes.{HasGraphs}
use Rattle.patch_outcome.specs.declared.patch_refusals.PatchRefusal.{PatchRefusal}
use Rattle.pod_reply.specs.PatchReplies.{IsBodyOutcome, patched_triples}
use Rattle.pod_reply.specs.Replies.{Reply}
use Rattle.pod_reply.specs.Reply.{IsReply}
use Rattle.pod_rows.specs.Pod.{Pod, row_at}
use Rattle.pod_rows.specs.WellFormed.{WellFormed}
use Rattle.rdf_graph.specs.Graph.{IsGraph}
use Rattle.rdf_graph.specs.declared.change.Change.{Change}
use Rattle.request_body.specs.Bodies.{Means, Outcome}
use Rattle.request_body.specs.declared.body.RequestBody.{RequestBody}
use Rattle.request_fields.specs.PartFields.{slug}
use Rattle.request_target.specs.Admission.{admitted}
use Rattle.request_target.specs.declared.target.Target.TheVariants.{Resource}
use Rattle.token_table.specs.Credentials.{AskedAgent}
use Rattle.refusal_laws.specs.Order.{BodyMeans}

-- the methods that take no body: GET, HEAD, OPTIONS, DELETE, and those that the server doesn't know
abbrev pub TakesNoBody : Method → Type 0
TakesNoBody methods.Put = ⊥
TakesNoBody methods.Post = ⊥
TakesNoBody methods.Patch = ⊥
TakesNoBody methods.Get = Unit {0}
TakesNoBody methods.Head = Unit {0}
TakesNoBody methods.Options = Unit {0}
TakesNoBody methods.Delete = Unit {0}
TakesNoBody methods.Other = Unit {0}

-- a reply of the pod to the request
pub record SomeReply (pod : Pod) (request : Request) (asked : AskedAgent) (seq : ℕ) (stamp : Stamp)
    : Type 0 where
  pub reply : Reply
  pub is_reply : IsReply pod request asked seq stamp reply

-- Every request of such a method has a reply, on every pod.
abbrev pub BodilessHaveReplies : Type 0
BodilessHaveReplies = (pod : Pod) (request : Request) (asked : AskedAgent) (seq : ℕ)
    (stamp : Stamp) → TakesNoBody request.method → SomeReply pod request asked seq stamp

-- So has a PUT whose body is a content or has a fault.
abbrev pub PutsHaveReplies : Type 0
PutsHaveReplies = (pod : Pod) (request : Request) (asked : AskedAgent) (seq : ℕ) (stamp : Stamp)
    → request.method ≡ methods.Put
    → ((path : List ℕ) → admitted pod.base request asked ≡ Ok (Resource path)
    → (outcome : Outcome) × BodyMeans pod request path outcome)
    → SomeReply pod request asked seq stamp

abbrev pub AreBytes : List ℕ → Type 0
AreBytes text = All (λ byte. byte < 256) text

-- So has a POST on every well-formed pod whose body is a content or has a fault, whatever its
-- relative references are resolved against: its member has a name, or the first free one passes a
-- limit of paths.
abbrev pub PostsHaveReplies : Type 0
PostsHaveReplies = (pod : Pod) (request : Request) (asked : AskedAgent) (seq : ℕ) (stamp : Stamp)
    → WellFormed pod → request.method ≡ methods.Post → IfSome (slug request.fields) AreBytes
    → ((path base : List ℕ) → admitted pod.base request asked ≡ Ok (Resource path)
    → (outcome : Outcome) × Means base path request outcome)
    → SomeReply pod request asked seq stamp

-- what a body does to the graph of a row, or why it does nothing
pub record SomeChange (pod : Pod) (path : List ℕ) (body : RequestBody) : Type 0 where
  pub outcome : Result Change PatchRefusal
  pub is : IsBodyOutcome body path (patched_triples (row_at pod.rows path)) outcome
  pub graphs : HasGraphs outcome

-- The triples that a row holds are a graph, as they are by the type of its content: triples of RDF,
-- each once, in the order of graphs.
abbrev pub HoldsGraph : Content → Type 0
HoldsGraph (contents.Graph triples) = IsGraph triples
HoldsGraph (contents.Bytes ctype bytes) = Unit {0}

abbrev pub HoldGraphs : Pod → Type 0
HoldGraphs pod = AllByRecursion (λ (row : Row). HoldsGraph row.content) pod.rows

-- Every patch and every update has an outcome at the graph of each path.
abbrev pub PatchesHaveOutcomes : Type 0
PatchesHaveOutcomes = (pod : Pod) (request : Request) (path : List ℕ) (body : RequestBody)
    → HoldGraphs pod → request.method ≡ methods.Patch → BodyMeans pod request path (Ok body)
    → SomeChange pod path body

-- So a PATCH whose body is a patch or an update, or has a fault, has a reply.
abbrev pub PatchesHaveReplies : Type 0
PatchesHaveReplies = (pod : Pod) (request : Request) (asked : AskedAgent) (seq : ℕ) (stamp : Stamp)
    → HoldGraphs pod → request.method ≡ methods.Patch
    → ((path : List ℕ) → admitted pod.base request asked ≡ Ok (Resource path)
    → (outcome : Outcome) × BodyMeans pod request path outcome)
    → SomeReply pod request asked seq stamp

-- Whatever the rows hold, so has a PATCH whose body has a fault, or has an outcome at the graph of
-- the path.
abbrev pub PatchedHaveReplies : Type 0
PatchedHaveReplies = (pod : Pod) (request : Request) (asked : AskedAgent) (seq : ℕ) (stamp : Stamp)
    → request.method ≡ methods.Patch
    → ((path : List ℕ) → admitted pod.base request asked ≡ Ok (Resource path)
    → (outcome : Outcome) × BodyMeans pod request path outcome)
    → ((path : List ℕ) (body : RequestBody) → BodyMeans pod request path (Ok body)
    → SomeChange pod path body)
    → SomeReply pod request asked seq stamp
