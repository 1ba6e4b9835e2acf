-- A pod gives one reply to a request.
use Rattle.std.proofs.Common.{◌≡◌, ℕ, Bool, false, List, Option, Some, None, Result, Ok, Err, ◌⊎◌, inl, inr, sym, ◌∙◌, ap, subst}
use Rattle.std.specs.List.{list_any}
use Rattle.patch_outcome.specs.Outcomes.{HasGraphs}
use Rattle.patch_outcome.specs.Updates.{IsUpdateOutcome}
use Rattle.patch_outcome.specs.declared.patch_refusals.PatchRefusal.{PatchRefusal}
use Rattle.patch_outcome.proofs.OneOutcome.{one_patch_outcome, one_update_outcome}
use Rattle.pod_base.specs.declared.method.Method.{Method}
use Rattle.pod_base.specs.declared.method.Method.TheVariants.{Post, Put, Patch as PatchMethod, Other}
use Rattle.pod_base.specs.declared.request.Request.{Request}
use Rattle.pod_base.specs.declared.response.Response.{Response}
use Rattle.pod_command.specs.declared.basis.Basis.{Basis}
use Rattle.pod_command.specs.declared.row.Content.{Content as RowContent}
use Rattle.pod_path.specs.Hierarchy.{is_container, uri_of}
use Rattle.pod_path.specs.Norm.{norm}
use Rattle.pod_path.specs.declared.fault.PathFault.TheVariants.{TooLong, TooDeep}
use Rattle.pod_rows.specs.Pod.{Pod}
use Rattle.rdf_graph.specs.declared.change.Change.{Change}
use Rattle.rdf_graph.specs.declared.triple.Triple.{Triple}
use Rattle.request_body.specs.Bodies.{Outcome}
use Rattle.request_body.specs.Laws.{SameOutcome}
use Rattle.request_body.specs.Refusals.{refusal_of}
use Rattle.request_body.specs.declared.body.RequestBody.{RequestBody}
use Rattle.request_body.specs.declared.body.RequestBody.TheVariants as body_of
use Rattle.request_body.specs.declared.fault.BodyFault.{BodyFault}
use Rattle.request_body.proofs.Once.{one_meaning}
use Rattle.request_fields.specs.Links.{links_to_container}
use Rattle.request_fields.specs.PartFields.{slug}
use Rattle.request_target.specs.Admission.{admitted}
use Rattle.request_target.specs.declared.target.Target.{Target}
use Rattle.request_target.specs.declared.target.Target.TheVariants.{Server, Resource}
use Rattle.slug_naming.specs.Stems.{stem_of}
use Rattle.slug_naming.proofs.FirstName.{one_free_name}
use Rattle.sparql_patch.specs.declared.named.Named.{Named}
use Rattle.pod_reply.specs.AccessRank.{access_of}
use Rattle.pod_reply.specs.MemberNames.{HasNoName, IsMemberPath, IsNamed}
use Rattle.pod_reply.specs.PatchReplies.{IsApplied, IsBodyOutcome, outcome_reply, patch_refusal}
use Rattle.pod_reply.specs.PostReplies.{IsMade, IsMemberReply, IsNamedReply, IsPosted, IsPostReply, judged_member, member_refusal}
use Rattle.pod_reply.specs.PutReplies.{IsUnlessRefused, put_reply}
use Rattle.pod_reply.specs.Replies.{Reply, unchanged}
use Rattle.pod_reply.specs.Reply.{IsAdmittedReply, IsGrantedReply, IsMemberPost, IsMethodReply, IsPutReply, IsReadReply, IsResourceReply, body_base, origin_of, sent}
use Rattle.pod_reply.specs.Shapes.{shape_of, is_some_of, is_deletion, is_insertion}
use Rattle.pod_reply.specs.Laws.{HasOneReply}
use Rattle.pod_reply.specs.declared.origin.Origin.{Origin}
use Rattle.pod_access.specs.declared.request_needs.Shape.{Shape}

-- ---- a new member has one path, or none

within_limits : (path : List ℕ) → norm path ≡ Ok path → (norm path ≡ Err TooLong) ⊎ (norm path ≡ Err TooDeep)
    → ⊥
within_limits path e (inl k) = cc
within_limits path e (inr k) = cc

-- the first free name isn't within the limits and past them
no_other : (pod : Pod) (container stem : List ℕ) (folder : Bool) (path : List ℕ)
    → IsMemberPath pod container stem folder path → HasNoName pod container stem folder → ⊥
no_other pod container stem folder path h k =
    let same : k.path ≡ path = one_free_name _ container stem folder k.path path k.first h.first in
    within_limits k.path (subst (λ (p : List ℕ). norm p ≡ Ok p) (sym same) h.normal) k.fault

one_named : (pod : Pod) (container stem : List ℕ) (folder : Bool)
    (a b : Result (List ℕ) Response) → IsNamed pod container stem folder a
    → IsNamed pod container stem folder b → a ≡ b
one_named pod container stem folder (Ok p) (Ok q) h k =
    ap Ok (one_free_name _ container stem folder p q h.first k.first)
one_named pod container stem folder (Ok p) (Err r) h k = absurd (no_other pod container stem folder p h k.0)
one_named pod container stem folder (Err r) (Ok q) h k = absurd (no_other pod container stem folder q k h.0)
one_named pod container stem folder (Err r) (Err s) h k = ap Err (h.1 ∙ sym k.1)

-- ---- bodies that are the same

one_body : (x y : RequestBody) → ◌≡◌ {A = Outcome} (Ok x) (Ok y) → x ≡ y
one_body x y e = cc

one_content : (c d : RowContent) → SameOutcome (Ok (body_of.Content c)) (Ok (body_of.Content d)) → c ≡ d
one_content c d h =
    let e : body_of.Content c ≡ body_of.Content d = one_body (body_of.Content c) (body_of.Content d) h in cc

-- ---- what a request needs

module _ (pod : Pod) (request : Request) (path : List ℕ) where
  abbrev shape_with : Bool → Bool → Bool → Shape
  shape_with conditions deletions insertions = record (shape_of pod request path body_of.Nothing) {
    conditions = conditions;
    deletions = deletions;
    insertions = insertions;
  }

  one_shape : (x y : RequestBody) → SameOutcome (Ok x) (Ok y)
      → shape_of pod request path x ≡ shape_of pod request path y
  one_shape (body_of.Patch p) (body_of.Patch q) h = λ i.
      shape_with (is_some_of (h.conditions i)) (is_some_of (h.deletions i)) (is_some_of (h.insertions i))
  one_shape (body_of.Update u) (body_of.Update v) h = λ i.
      shape_with false (list_any is_deletion (h i)) (list_any is_insertion (h i))
  one_shape x y h = ap (shape_of pod request path) (one_body x y h)

-- ---- the replies of the methods

module _ (pod : Pod) (request : Request) (path : List ℕ) (origin : Origin) (bases : List Basis) where
  one_outcome : (x y : RequestBody) (g : List Triple) (a b : Result Change PatchRefusal)
      → SameOutcome (Ok x) (Ok y) → HasGraphs a → HasGraphs b
      → IsBodyOutcome x path g a → IsBodyOutcome y path g b → a ≡ b
  one_outcome (body_of.Patch p) (body_of.Patch q) g a b same graphs graphs' h k =
      one_patch_outcome (is_container path) g p q a b same.conditions same.deletions same.insertions graphs graphs' h k
  one_outcome (body_of.Update u) (body_of.Update v) g a b same graphs graphs' h k =
      one_update_outcome (is_container path) g v.items a b graphs graphs'
      (subst (λ (named : List Named). IsUpdateOutcome (is_container path) g named a) same h) k
  one_outcome (body_of.Patch p) (body_of.Update v) g a b same graphs graphs' h k = absurd cc
  one_outcome (body_of.Update u) (body_of.Patch q) g a b same graphs graphs' h k = absurd cc
  one_outcome (body_of.Patch p) _ g a b same graphs graphs' h k = absurd k
  one_outcome (body_of.Update u) _ g a b same graphs graphs' h k = absurd k
  one_outcome _ y g a b same graphs graphs' h k = absurd h

  one_unless : (o : Option Response) (P Q : Reply → Type 0) (a b : Reply)
      → ((a b : Reply) → P a → Q b → a ≡ b) → IsUnlessRefused o P a → IsUnlessRefused o Q b → a ≡ b
  one_unless (Some response) P Q a b one h k = h ∙ sym k
  one_unless None P Q a b one h k = one a b h k

  -- a reply to a POST
  one_member : (member : List ℕ) (x y : Outcome) (a b : Reply) → SameOutcome x y
      → IsMemberReply pod request path origin bases member x a
      → IsMemberReply pod request path origin bases member y b → a ≡ b
  one_member member (Err f) (Err g) a b same h k = h ∙ sym k
  one_member member (Err f) (Ok y) a b same h k = absurd cc
  one_member member (Ok (body_of.Content c)) (Err g) a b same h k = absurd cc
  one_member member (Ok (body_of.Content c)) (Ok (body_of.Content d)) a b same h k =
      h ∙ ap (judged_member pod request path origin bases member) (one_content c d same) ∙ sym k
  one_member member (Ok (body_of.Content c)) (Ok _) a b same h k = absurd k
  one_member member (Ok _) y a b same h k = absurd h

  one_made : (member : List ℕ) (a b : Reply) → IsMade pod request path origin bases member a
      → IsMade pod request path origin bases member b → a ≡ b
  one_made member a b h k = one_member member h.read k.read a b
      (one_meaning (uri_of pod.base member) path request h.read k.read h.means k.means) h.follows k.follows

  one_named_reply : (content : RowContent) (named : Result (List ℕ) Response) (a b : Reply)
      → IsNamedReply pod request path origin bases content named a
      → IsNamedReply pod request path origin bases content named b → a ≡ b
  one_named_reply content (Err response) a b h k = h ∙ sym k
  one_named_reply content (Ok member) a b h k =
      one_unless (member_refusal pod request origin.seq path member content) _ _ a b (one_made member) h k

  one_posted : (content : RowContent) (a b : Reply) → IsPosted pod request path origin bases content a
      → IsPosted pod request path origin bases content b → a ≡ b
  one_posted content a b h k =
      let named : h.named ≡ k.named = one_named pod path (stem_of (slug request.fields))
      (links_to_container request.fields) h.named k.named h.is k.is in
      one_named_reply content k.named a b
      (subst (λ (n : Result (List ℕ) Response). IsNamedReply pod request path origin bases content n a) named h.follows)
      k.follows

  one_post : (x y : RequestBody) (a b : Reply) → SameOutcome (Ok x) (Ok y)
      → IsMemberPost pod request path origin bases x a → IsMemberPost pod request path origin bases y b
      → a ≡ b
  one_post (body_of.Content c) (body_of.Content d) a b same h k =
      one_unless _ _ (IsPosted pod request path origin bases d) a b (one_posted d)
      (subst (λ (e : RowContent). IsPostReply pod request path origin bases e a) (one_content c d same) h) k
  one_post (body_of.Content c) _ a b same h k = absurd k
  one_post _ y a b same h k = absurd h

  one_put : (x y : RequestBody) (a b : Reply) → SameOutcome (Ok x) (Ok y)
      → IsPutReply pod request path origin bases x a → IsPutReply pod request path origin bases y b
      → a ≡ b
  one_put (body_of.Content c) (body_of.Content d) a b same h k =
      h ∙ ap (put_reply pod request path origin bases) (one_content c d same) ∙ sym k
  one_put (body_of.Content c) _ a b same h k = absurd k
  one_put _ y a b same h k = absurd h

  one_method : (method : Method) (x y : RequestBody) (a b : Reply) → SameOutcome (Ok x) (Ok y)
      → IsMethodReply method pod request path origin bases x a
      → IsMethodReply method pod request path origin bases y b → a ≡ b
  one_method Post x y a b same h k = one_post x y a b same h k
  one_method Put x y a b same h k = one_put x y a b same h k
  one_method PatchMethod x y a b same h k =
      one_unless (patch_refusal pod request origin.seq path) (IsApplied pod request path origin bases x)
      (IsApplied pod request path origin bases y) a b
      (λ a b h k. h.follows ∙ ap (outcome_reply pod request path origin bases)
      (one_outcome x y _ h.outcome k.outcome same h.graphs k.graphs h.is k.is) ∙ sym k.follows) h k
  one_method Other x y a b same h k = absurd h
  one_method _ x y a b same h k = h ∙ sym k

-- ---- the whole reply

module _ (pod : Pod) (request : Request) (path : List ℕ) (origin : Origin) where
  one_granted : (access : Result (List Basis) Response) (x y : RequestBody) (a b : Reply)
      → SameOutcome (Ok x) (Ok y) → IsGrantedReply pod request path origin x access a
      → IsGrantedReply pod request path origin y access b → a ≡ b
  one_granted (Err response) x y a b same h k = h ∙ sym k
  one_granted (Ok bases) x y a b same h k =
      one_method pod request path origin bases request.method x y a b same h k

  one_read : (x y : Outcome) (a b : Reply) → SameOutcome x y → IsReadReply pod request path origin x a
      → IsReadReply pod request path origin y b → a ≡ b
  one_read (Err f) (Err g) a b same h k =
      let fault : f ≡ g = cc in
      h ∙ ap (λ (e : BodyFault). unchanged (refusal_of request.method path e)) fault ∙ sym k
  one_read (Err f) (Ok y) a b same h k = absurd cc
  one_read (Ok (body_of.Patch p)) (Err g) a b same h k = absurd cc
  one_read (Ok _) (Err g) a b same h k = absurd cc
  one_read (Ok x) (Ok y) a b same h k =
      let shape : shape_of pod request path x ≡ shape_of pod request path y = one_shape pod request path x y same in
      one_granted (access_of pod origin.agent (shape_of pod request path y)) x y a b same
      (subst (λ (s : Shape). IsGrantedReply pod request path origin x (access_of pod origin.agent s) a) shape h) k

  one_resource : (a b : Reply) → IsResourceReply pod request path origin a
      → IsResourceReply pod request path origin b → a ≡ b
  one_resource a b h k = one_read h.read k.read a b
      (one_meaning (body_base request.method pod request path) path request h.read k.read h.means k.means)
      h.follows k.follows

one_admitted : (pod : Pod) (request : Request) (origin : Origin) (target : Result Target Response)
    (a b : Reply) → IsAdmittedReply pod request origin target a → IsAdmittedReply pod request origin target b
    → a ≡ b
one_admitted pod request origin (Err response) a b h k = h ∙ sym k
one_admitted pod request origin (Ok Server) a b h k = h ∙ sym k
one_admitted pod request origin (Ok (Resource path)) a b h k = one_resource pod request path origin a b h k

pub one_reply : HasOneReply
one_reply pod request asked seq stamp a b h k =
    let told : h.told ≡ k.told = one_admitted pod request (origin_of asked seq stamp)
    (admitted pod.base request asked) h.told k.told h.is k.is in
    h.is_sent ∙ ap (sent request.method) told ∙ sym k.is_sent
