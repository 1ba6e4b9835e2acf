-- Pods that are alike for an agent refuse alike, and read alike what the agent may read.
use Rattle.std.proofs.Common.{◌≡◌, ℕ, Bool, true, false, cond, not, ◌||◌, ◌&&◌, List, Option, Some, None, refl, sym, ap, ◌∙◌, subst}
use Rattle.std.specs.Prelude.{codes, is_some, unwrap_or}
use Rattle.std.proofs.lemmas.Bool.{false≢true, true≢false}
use Rattle.conditional_req.specs.Conditions.{conditions, needs_read}
use Rattle.conditional_req.specs.declared.precondition_verdict.Verdict.{Verdict}
use Rattle.conditional_req.specs.declared.precondition_verdict.Verdict.TheVariants.{Go, NotModified, Failed}
use Rattle.pod_base.specs.declared.agent.Agent.{Agent}
use Rattle.pod_base.specs.declared.request.Request.{Request}
use Rattle.pod_command.specs.declared.row.Row.{Row}
use Rattle.pod_edits.specs.Refusals.{added_rows, breaks_guard, is_root_list, lacks_number, states_containment}
use Rattle.pod_representations.proofs.Depends.{judge_alike, judge_unread, shows_alike}
use Rattle.pod_representations.specs.Laws.{AgreeAt}
use Rattle.pod_representations.specs.Offers.{chosen}
use Rattle.pod_representations.specs.Preconditions.{change_verdict, read_verdict}
use Rattle.pod_representations.specs.ReadResponses.{read_response}
use Rattle.pod_representations.specs.Representations.{represented}
use Rattle.pod_representations.specs.declared.row_offers.Media.{Media}
use Rattle.pod_representations.specs.declared.representation.Shown.{Shown}
use Rattle.pod_reply.specs.Obstacles.{condition_refusal, conflict, content_refusal, failed, first_of, new_path_refusal, no_room, refuse_if}
use Rattle.pod_reply.specs.PutReplies.{place_refusal}
use Rattle.pod_reply.specs.ReadReplies.{chosen_read, found_read, judged_read, read_reply, row_read}
use Rattle.pod_reply.specs.Shapes.{above_of, has_conditions, has_deletions, has_insertions, shape_of}
use Rattle.pod_responses.specs.Responses.{refusal}
use Rattle.pod_rows.specs.Guard.{guards}
use Rattle.pod_rows.specs.Pod.{Pod, is_row, row_at}
use Rattle.rdf_graph.specs.declared.triple.Triple.{Triple}
use Rattle.request_body.specs.declared.body.RequestBody.{RequestBody}
use Rattle.request_fields.specs.Upgrades.{upgrade_key}
use Rattle.reply_laws.proofs.SameAccess.{found_row, same_allow}
use Rattle.reply_laws.proofs.SamePaths.{same_added, same_children, same_exceeds, same_is_row_at, same_nearest, same_subject, same_twin}
use Rattle.reply_laws.specs.Alike.{Alike}

module _ (agent : Agent) (p q : Pod) (alike : Alike agent p q) (request : Request) (path : List ℕ) where
  -- ---- what is in the way

  pub same_room : (seq added : ℕ) → no_room p seq added ≡ no_room q seq added
  same_room seq added =
      ap (λ (b : Bool). refuse_if (b || lacks_number seq) (refusal 507 (codes "rows"))) (same_exceeds p.rows q.rows alike.paths added)

  same_new_path : (seq : ℕ) → new_path_refusal p seq path ≡ new_path_refusal q seq path
  unfolding new_path_refusal
  same_new_path seq =
      λ i. first_of (refuse_if (same_twin p.rows q.rows alike.paths path i) (conflict (codes "twin")))
      (first_of (refuse_if (same_subject p.rows q.rows alike.paths path i) (conflict (codes "subject")))
      (same_room_of i))
    where
      same_room_of : no_room p seq (added_rows p.rows path) ≡ no_room q seq (added_rows q.rows path)
      same_room_of = same_room seq (added_rows p.rows path) ∙ ap (no_room q seq) (same_added p.rows q.rows alike.paths path)

  same_place_by : (seq : ℕ) (exists : Bool) → place_refusal p seq path exists ≡ place_refusal q seq path exists
  same_place_by seq true = same_room seq 0
  same_place_by seq false = same_new_path seq

  pub same_place : (seq : ℕ) → place_refusal p seq path (is_row p.rows path) ≡ place_refusal q seq path (is_row q.rows path)
  same_place seq = same_place_by seq (is_row p.rows path) ∙ ap (place_refusal q seq path) (same_is_row_at p.rows q.rows alike.paths path)

  pub same_guard : (triples : List Triple) → breaks_guard p path triples ≡ breaks_guard q path triples
  unfolding breaks_guard
  same_guard triples = λ i. is_root_list path && not (guards (alike.base i) (alike.owner i) triples)

  pub same_content : (triples : List Triple) → content_refusal p path triples ≡ content_refusal q path triples
  unfolding content_refusal
  same_content triples =
      λ i. first_of (refuse_if (states_containment path triples) (conflict (codes "contains"))) (refuse_if (same_guard triples i) (conflict (codes "owner")))

  -- ---- preconditions

  agree : (row : Row) → row_at p.rows path ≡ row_at q.rows path → row_at q.rows path ≡ Some row → AgreeAt p q row.path
  agree row e found =
      let is : row.path ≡ path = (found_row q.rows path row found).1 in
      subst (λ (x : List ℕ). AgreeAt p q x) (sym is) (record { base = alike.base; row = e; children = same_children p.rows q.rows alike.paths path })

  no_row_verdict : change_verdict p None (conditions request.fields) request.method ≡ change_verdict q None (conditions request.fields) request.method
  unfolding change_verdict
  no_row_verdict = refl

  read_verdicts : row_at p.rows path ≡ row_at q.rows path
      → change_verdict p (row_at p.rows path) (conditions request.fields) request.method ≡ change_verdict q (row_at q.rows path) (conditions request.fields) request.method
  read_verdicts e =
      ap (λ (o : Option Row). change_verdict p o (conditions request.fields) request.method) e ∙ by_row (row_at q.rows path) refl
    where
      by_row : (o : Option Row) → row_at q.rows path ≡ o → change_verdict p o (conditions request.fields) request.method ≡ change_verdict q o (conditions request.fields) request.method
      by_row None f = no_row_verdict
      by_row (Some row) f = judge_alike p q row (conditions request.fields) request.method (agree row e f)

  unread_verdicts : needs_read (conditions request.fields) ≡ false
      → change_verdict p (row_at p.rows path) (conditions request.fields) request.method ≡ change_verdict q (row_at q.rows path) (conditions request.fields) request.method
  unread_verdicts unread = by_rows (row_at p.rows path) (row_at q.rows path) (same_is_row_at p.rows q.rows alike.paths path)
    where
      by_rows : (o r : Option Row) → is_some o ≡ is_some r
          → change_verdict p o (conditions request.fields) request.method ≡ change_verdict q r (conditions request.fields) request.method
      by_rows None None e = no_row_verdict
      by_rows None (Some row) e = absurd (false≢true e)
      by_rows (Some row) None e = absurd (true≢false e)
      by_rows (Some row) (Some other) e = judge_unread p q row other (conditions request.fields) request.method unread

  pub same_condition : (needs_read (conditions request.fields) ≡ true → row_at p.rows path ≡ row_at q.rows path)
      → condition_refusal p request path ≡ condition_refusal q request path
  unfolding condition_refusal
  same_condition readable = by_need (needs_read (conditions request.fields)) refl
    where
      by_need : (b : Bool) → needs_read (conditions request.fields) ≡ b
          → failed (change_verdict p (row_at p.rows path) (conditions request.fields) request.method)
          ≡ failed (change_verdict q (row_at q.rows path) (conditions request.fields) request.method)
      by_need true e = ap failed (read_verdicts (readable e))
      by_need false e = ap failed (unread_verdicts e)

  -- ---- what is read

  same_judged : (shown : Shown) (v : Verdict) → judged_read p request path agent shown v ≡ judged_read q request path agent shown v
  same_judged shown NotModified = refl
  same_judged shown Failed = refl
  same_judged shown Go = λ i. read_response (alike.base i) path shown (same_allow agent p q alike agent path i) request.method request.fields

  same_chosen : (row : Row) (o : Option Media) → AgreeAt p q row.path → chosen_read p request path agent row o ≡ chosen_read q request path agent row o
  same_chosen row None a = refl
  same_chosen row (Some media) a =
      same_judged (represented p row media) (read_verdict (conditions request.fields) request.method (represented p row media))
      ∙ ap (λ (s : Shown). judged_read q request path agent s (read_verdict (conditions request.fields) request.method s)) (shows_alike p q row media a)

  same_row_read : (row : Row) (key : Option (List ℕ)) → AgreeAt p q row.path → row_read p request path agent row key ≡ row_read q request path agent row key
  same_row_read row (Some key) a = refl
  same_row_read row None a = same_chosen row (chosen row request.fields) a

  same_found_read : row_at p.rows path ≡ row_at q.rows path → (o : Option Row) → row_at q.rows path ≡ o → found_read p request path agent o ≡ found_read q request path agent o
  same_found_read e None f = refl
  same_found_read e (Some row) f = same_row_read row (upgrade_key request) (agree row e f)

  pub same_read : row_at p.rows path ≡ row_at q.rows path → read_reply p request path agent ≡ read_reply q request path agent
  unfolding read_reply
  same_read e = ap (found_read p request path agent) e ∙ same_found_read e (row_at q.rows path) refl

  -- ---- what decides the needs

  same_above : above_of p path ≡ above_of q path
  same_above = λ i. cond (same_is_row_at p.rows q.rows alike.paths path i) path (unwrap_or (same_nearest p.rows q.rows alike.paths path i) path)

  pub same_shape : (body : RequestBody) → shape_of p request path body ≡ shape_of q request path body
  same_shape body = λ i. record {
    method = request.method;
    path = path;
    exists = same_is_row_at p.rows q.rows alike.paths path i;
    above = same_above i;
    conditions = has_conditions body;
    deletions = has_deletions body;
    insertions = has_insertions body;
    tags = needs_read (conditions request.fields);
  }
