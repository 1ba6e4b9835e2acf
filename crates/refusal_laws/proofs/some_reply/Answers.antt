use Rattle.std.proofs.Common.{◌≡◌, ℕ, List, Option, Some, None, Result, Ok, Err, IfSome, refl, sym, subst}
use Rattle.pod_base.specs.declared.method.Method.{Method}
use Rattle.pod_base.specs.declared.method.Method.TheVariants as methods
use Rattle.pod_base.specs.declared.moment.Stamp.{Stamp}
use Rattle.pod_base.specs.declared.request.Request.{Request}
use Rattle.pod_base.specs.declared.response.Response.{Response}
use Rattle.pod_command.specs.declared.basis.Basis.{Basis}
use Rattle.pod_reply.specs.AccessRank.{access_of}
use Rattle.pod_reply.specs.DeleteReplies.{delete_reply}
use Rattle.pod_reply.specs.PatchReplies.{IsApplied, outcome_reply, patch_refusal}
use Rattle.pod_reply.specs.PutReplies.{IsUnlessRefused, put_reply}
use Rattle.pod_reply.specs.ReadReplies.{read_reply}
use Rattle.pod_reply.specs.Replies.{Reply, unchanged}
use Rattle.pod_reply.specs.Reply.{HasContent, IsAdmittedReply, IsGrantedReply, IsMethodReply, body_base, origin_of, sent}
use Rattle.pod_reply.specs.Shapes.{shape_of}
use Rattle.pod_reply.specs.declared.origin.Origin.{Origin}
use Rattle.pod_reply.proofs.BodyLemmas.{has_content}
use Rattle.pod_responses.specs.Responses.{options, options_of_server}
use Rattle.pod_rows.specs.Pod.{Pod}
use Rattle.pod_rows.specs.WellFormed.{WellFormed}
use Rattle.request_body.specs.Bodies.{Means, MeansIn, Outcome}
use Rattle.request_body.specs.Refusals.{refusal_of}
use Rattle.request_body.specs.Syntaxes.{syntax_by}
use Rattle.request_body.specs.declared.body.RequestBody.{RequestBody}
use Rattle.request_body.specs.declared.body.RequestBody.TheVariants.{Content, Nothing, Patch, Update}
use Rattle.request_fields.specs.PartFields.{slug}
use Rattle.request_target.specs.Admission.{admitted, admitted_to}
use Rattle.request_target.specs.Targets.{target_of}
use Rattle.request_target.specs.declared.target.Target.{Target}
use Rattle.request_target.specs.declared.target.Target.TheVariants.{Resource, Server}
use Rattle.token_table.specs.Credentials.{AskedAgent, known, public, refused}
use Rattle.refusal_laws.specs.Order.{BodyMeans}
use Rattle.refusal_laws.specs.SomeReplies.{AreBytes, SomeChange, SomeReply, TakesNoBody}
use Rattle.refusal_laws.proofs.PatchedRows.{some_change}
use Rattle.refusal_laws.proofs.PostReplies.{post_reply}
use Rattle.refusal_laws.proofs.some_reply.Goals as goal

-- a method that the server doesn't know is refused
unknown_refused : (asked : AskedAgent) (found : Result Target Response) (target : Target) → admitted_to asked methods.Other found ≡ Ok target → ⊥
unknown_refused asked (Err response) target e = cc e
unknown_refused public (Ok one) target e = cc e
unknown_refused (known agent) (Ok one) target e = cc e
unknown_refused refused (Ok one) target e = cc e

module _ (pod : Pod) (request : Request) (asked : AskedAgent) (seq : ℕ) (stamp : Stamp) where
  abbrev origin : Origin
  origin = origin_of asked seq stamp

  -- what is admitted so has this reply
  replies : (found : Result Target Response) → admitted pod.base request asked ≡ found → (told : Reply) → IsAdmittedReply pod request origin found told → SomeReply pod request asked seq stamp
  replies found e told is = record {
    reply = sent request.method told;
    is_reply = record {
      told = told;
      is = subst (λ (x : Result Target Response). IsAdmittedReply pod request origin x told) (sym e) is;
      is_sent = refl;
    };
  }

  module _ (path : List ℕ) (e : admitted pod.base request asked ≡ Ok (Resource path)) where
    -- what a body means so, and access decides so
    granted : (body : RequestBody) → BodyMeans pod request path (Ok body) → ((bases : List Basis) → (told : Reply) × IsMethodReply request.method pod request path origin bases body told) → SomeReply pod request asked seq stamp
    granted body means method = by_access (access_of pod origin.agent (shape_of pod request path body)) refl
      where
        by_access : (found : Result (List Basis) Response) → access_of pod origin.agent (shape_of pod request path body) ≡ found → SomeReply pod request asked seq stamp
        by_access (Err response) a = replies (Ok (Resource path)) e (unchanged response) (record {
          read = Ok body;
          means = means;
          follows = subst (λ (x : Result (List Basis) Response). IsGrantedReply pod request path origin body x (unchanged response)) (sym a) refl;
        })
        by_access (Ok bases) a =
            let one = method bases in
            replies (Ok (Resource path)) e one.0 (record {
              read = Ok body;
              means = means;
              follows = subst (λ (x : Result (List Basis) Response). IsGrantedReply pod request path origin body x one.0) (sym a) one.1;
            })

    -- a method that takes no body
    no_body : (method : Method) → request.method ≡ method → MeansIn (syntax_by method path request.fields request.body) (body_base request.method pod request path) request (Ok Nothing) → BodyMeans pod request path (Ok Nothing)
    unfolding Means
    no_body method is h = subst (λ (m : Method). MeansIn (syntax_by m path request.fields request.body) (body_base request.method pod request path) request (Ok Nothing)) (sym is) h

    by_method : (method : Method) → request.method ≡ method → (told : List Basis → Reply) → ((bases : List Basis) → IsMethodReply method pod request path origin bases Nothing (told bases))
        → (bases : List Basis) → (reply : Reply) × IsMethodReply request.method pod request path origin bases Nothing reply
    by_method method is told h bases = (told bases, subst (λ (m : Method). IsMethodReply m pod request path origin bases Nothing (told bases)) (sym is) (h bases))

    bodiless : (method : Method) → request.method ≡ method → TakesNoBody method → SomeReply pod request asked seq stamp
    bodiless methods.Put is takes = absurd takes
    bodiless methods.Post is takes = absurd takes
    bodiless methods.Patch is takes = absurd takes
    bodiless methods.Get is takes = granted Nothing (no_body methods.Get is refl) (by_method methods.Get is (λ bases. unchanged (read_reply pod request path origin.agent)) (λ bases. refl))
    bodiless methods.Head is takes = granted Nothing (no_body methods.Head is refl) (by_method methods.Head is (λ bases. unchanged (read_reply pod request path origin.agent)) (λ bases. refl))
    bodiless methods.Options is takes = granted Nothing (no_body methods.Options is refl) (by_method methods.Options is (λ bases. unchanged (options path)) (λ bases. refl))
    bodiless methods.Delete is takes = granted Nothing (no_body methods.Delete is refl) (by_method methods.Delete is (λ bases. delete_reply pod request path origin bases) (λ bases. refl))
    bodiless methods.Other is takes =
        absurd (unknown_refused asked (target_of pod.base request.method request.target) (Resource path)
        (subst (λ (m : Method). admitted_to asked m (target_of pod.base request.method request.target) ≡ Ok (Resource path)) is e))

    -- a PUT
    put_method : (body : RequestBody) → request.method ≡ methods.Put → BodyMeans pod request path (Ok body) → (bases : List Basis) → (reply : Reply) × IsMethodReply request.method pod request path origin bases body reply
    put_method (Content content) is means bases = (
      put_reply pod request path origin bases content,
      subst (λ (m : Method). IsMethodReply m pod request path origin bases (Content content) (put_reply pod request path origin bases content)) (sym is) refl,
    )
    put_method Nothing is means bases = absurd (has_content (body_base request.method pod request path) path request Nothing (subst HasContent (sym is) tt) means)
    put_method (Patch patch) is means bases = absurd (has_content (body_base request.method pod request path) path request (Patch patch) (subst HasContent (sym is) tt) means)
    put_method (Update named) is means bases = absurd (has_content (body_base request.method pod request path) path request (Update named) (subst HasContent (sym is) tt) means)

    put_outcome : request.method ≡ methods.Put → (outcome : Outcome) → BodyMeans pod request path outcome → SomeReply pod request asked seq stamp
    put_outcome is (Err fault) means = replies (Ok (Resource path)) e (unchanged (refusal_of request.method path fault)) (record { read = Err fault; means = means; follows = refl })
    put_outcome is (Ok body) means = granted body means (put_method body is means)

    -- a POST
    post_method : WellFormed pod → IfSome (slug request.fields) AreBytes → request.method ≡ methods.Post → ((base : List ℕ) → (outcome : Outcome) × Means base path request outcome)
        → (body : RequestBody) → BodyMeans pod request path (Ok body) → (bases : List Basis) → (reply : Reply) × IsMethodReply request.method pod request path origin bases body reply
    post_method well_formed bytes is read (Content content) means bases =
        let one = post_reply pod request path origin bases is read content well_formed bytes asked e in
        (one.0, subst (λ (m : Method). IsMethodReply m pod request path origin bases (Content content) one.0) (sym is) one.1)
    post_method well_formed bytes is read Nothing means bases = absurd (has_content (body_base request.method pod request path) path request Nothing (subst HasContent (sym is) tt) means)
    post_method well_formed bytes is read (Patch patch) means bases = absurd (has_content (body_base request.method pod request path) path request (Patch patch) (subst HasContent (sym is) tt) means)
    post_method well_formed bytes is read (Update named) means bases = absurd (has_content (body_base request.method pod request path) path request (Update named) (subst HasContent (sym is) tt) means)

    post_outcome : WellFormed pod → IfSome (slug request.fields) AreBytes → request.method ≡ methods.Post → ((base : List ℕ) → (outcome : Outcome) × Means base path request outcome)
        → (outcome : Outcome) → BodyMeans pod request path outcome → SomeReply pod request asked seq stamp
    post_outcome well_formed bytes is read (Err fault) means = replies (Ok (Resource path)) e (unchanged (refusal_of request.method path fault)) (record { read = Err fault; means = means; follows = refl })
    post_outcome well_formed bytes is read (Ok body) means = granted body means (post_method well_formed bytes is read body means)

    -- a PATCH
    patched_unless : (body : RequestBody) (bases : List Basis) → SomeChange pod path body → (refused : Option Response) → (reply : Reply) × IsUnlessRefused refused (IsApplied pod request path origin bases body) reply
    patched_unless body bases change (Some response) = (unchanged response, refl)
    patched_unless body bases change None = (
      outcome_reply pod request path origin bases change.outcome,
      record { outcome = change.outcome; is = change.is; graphs = change.graphs; follows = refl },
    )

    patch_method : (body : RequestBody) → request.method ≡ methods.Patch → SomeChange pod path body → (bases : List Basis) → (reply : Reply) × IsMethodReply request.method pod request path origin bases body reply
    patch_method body is change bases =
        let one = patched_unless body bases change (patch_refusal pod request origin.seq path) in
        (one.0, subst (λ (m : Method). IsMethodReply m pod request path origin bases body one.0) (sym is) one.1)

    patch_outcome : request.method ≡ methods.Patch → ((body : RequestBody) → BodyMeans pod request path (Ok body) → SomeChange pod path body)
        → (outcome : Outcome) → BodyMeans pod request path outcome → SomeReply pod request asked seq stamp
    patch_outcome is changes (Err fault) means = replies (Ok (Resource path)) e (unchanged (refusal_of request.method path fault)) (record { read = Err fault; means = means; follows = refl })
    patch_outcome is changes (Ok body) means = granted body means (patch_method body is (changes body means))

  by_target : ((path : List ℕ) → admitted pod.base request asked ≡ Ok (Resource path) → SomeReply pod request asked seq stamp) → (found : Result Target Response) → admitted pod.base request asked ≡ found → SomeReply pod request asked seq stamp
  by_target resource (Err response) e = replies (Err response) e (unchanged response) refl
  by_target resource (Ok Server) e = replies (Ok Server) e (unchanged options_of_server) refl
  by_target resource (Ok (Resource path)) e = resource path e

pub returns-clause-bodiless : goal.returns-clause-bodiless
returns-clause-bodiless c = λ pod request asked seq stamp takes.
    by_target pod request asked seq stamp (λ path e. bodiless pod request asked seq stamp path e request.method refl takes) (admitted pod.base request asked) refl

pub returns-clause-puts : goal.returns-clause-puts
returns-clause-puts c = λ pod request asked seq stamp is means.
    by_target pod request asked seq stamp (λ path e.
    let found = means path e in put_outcome pod request asked seq stamp path e is found.0 found.1) (admitted pod.base request asked) refl

pub returns-clause-posts : goal.returns-clause-posts
returns-clause-posts c = λ pod request asked seq stamp well_formed is bytes means.
    by_target pod request asked seq stamp (λ path e.
    let read : (base : List ℕ) → (outcome : Outcome) × Means base path request outcome = λ base. means path base e in
    let found = read (body_base request.method pod request path) in
    post_outcome pod request asked seq stamp path e well_formed bytes is read found.0 found.1) (admitted pod.base request asked) refl

pub returns-clause-outcomes : goal.returns-clause-outcomes
returns-clause-outcomes c = λ pod request path body graphs is means. some_change pod graphs request path is body means

pub returns-clause-patches : goal.returns-clause-patches
returns-clause-patches c = λ pod request asked seq stamp graphs is means.
    by_target pod request asked seq stamp (λ path e.
    let found = means path e in
    patch_outcome pod request asked seq stamp path e is (some_change pod graphs request path is) found.0 found.1) (admitted pod.base request asked) refl

pub returns-clause-patched : goal.returns-clause-patched
returns-clause-patched c = λ pod request asked seq stamp is means changes.
    by_target pod request asked seq stamp (λ path e.
    let found = means path e in
    patch_outcome pod request asked seq stamp path e is (changes path) found.0 found.1) (admitted pod.base request asked) refl
