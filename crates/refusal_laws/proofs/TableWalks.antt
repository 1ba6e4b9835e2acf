-- Each reply to a granted request goes through the table of refusals, method by method.
use Rattle.std.proofs.Common.{◌≡◌, inl, ℕ, Bool, true, false, not, List, [], ◌∷◌, length, Option, Some, None, Result, Ok, Err, refl, sym, ap, ◌∙◌, subst}
use Rattle.std.specs.Prelude.{codes, is_some, if◌then◌else◌}
use Rattle.conditional_req.specs.Conditions.{conditions}
use Rattle.conditional_req.specs.declared.precondition_verdict.Verdict.{Verdict}
use Rattle.conditional_req.specs.declared.precondition_verdict.Verdict.TheVariants as verdicts
use Rattle.patch_outcome.specs.Outcomes.{word_of}
use Rattle.patch_outcome.specs.declared.patch_refusals.PatchRefusal.{PatchRefusal}
use Rattle.patch_outcome.specs.declared.patch_refusals.PatchRefusal.TheVariants as patches
use Rattle.pod_access.specs.AllowField.{allow_field}
use Rattle.pod_base.specs.declared.method.Method.{Method}
use Rattle.pod_base.specs.declared.method.Method.TheVariants as methods
use Rattle.pod_base.specs.declared.request.Request.{Request}
use Rattle.pod_base.specs.declared.response.Response.{Response}
use Rattle.pod_command.specs.declared.basis.Basis.{Basis}
use Rattle.pod_command.specs.declared.entry.Entry.{Entry}
use Rattle.pod_command.specs.declared.row.Content.{Content}
use Rattle.pod_command.specs.declared.row.Row.{Row}
use Rattle.pod_edits.specs.Edits.{creation_edits}
use Rattle.pod_edits.specs.Refusals.{added_rows, has_children, lacks_subject, meets_twin}
use Rattle.pod_reply.specs.DeleteReplies.{delete_edits, delete_reply}
use Rattle.pod_reply.specs.EntrySize.{is_too_large, size_refusal}
use Rattle.pod_reply.specs.MemberNames.{IsNamed}
use Rattle.pod_reply.specs.Obstacles.{condition_refusal, conflict, content_refusal, first_of, new_path_refusal, no_room, refuse_if}
use Rattle.pod_reply.specs.PatchReplies.{IsApplied, changing_reply, guard_refusal, is_bytes_row, outcome_reply, patch_refusal}
use Rattle.pod_reply.specs.PostReplies.{IsMade, IsMemberReply, IsNamedReply, IsPosted, containment_refusal, member_refusal, member_reply}
use Rattle.pod_reply.specs.PutReplies.{IsUnlessRefused, made_response, make_reply, making_edits, place_refusal, put_reply, row_of, unless_refused}
use Rattle.pod_reply.specs.ReadReplies.{chosen_read, found_read, judged_read, read_reply, row_read}
use Rattle.pod_reply.specs.Replies.{Reply, change_reply, entry_of, unchanged}
use Rattle.pod_reply.specs.Reply.{IsMethodReply}
use Rattle.pod_reply.specs.declared.origin.Origin.{Origin}
use Rattle.pod_representations.specs.Offers.{chosen}
use Rattle.pod_representations.specs.Preconditions.{read_verdict}
use Rattle.pod_representations.specs.ReadResponses.{asked, read_response, response_for}
use Rattle.pod_representations.specs.Representations.{represented}
use Rattle.pod_representations.specs.declared.row_offers.Media.{Media}
use Rattle.pod_representations.specs.declared.representation.Shown.{Shown}
use Rattle.pod_responses.specs.Responses.{changed, created, refusal}
use Rattle.pod_rows.specs.Pod.{Pod, is_row, row_at}
use Rattle.range_req.specs.RangeSets as sets
use Rattle.rdf_graph.specs.declared.change.Change.{Change}
use Rattle.request_body.specs.Bodies.{Outcome}
use Rattle.request_body.specs.declared.body.RequestBody.{RequestBody}
use Rattle.request_body.specs.declared.body.RequestBody.TheVariants as bodies
use Rattle.request_fields.specs.Links.{links_to_container}
use Rattle.request_fields.specs.PartFields.{slug}
use Rattle.request_fields.specs.Upgrades.{upgrade_key}
use Rattle.slug_naming.specs.Stems.{stem_of}
use Rattle.refusal_laws.specs.RankConditions.{Found, Situation, accept_of_row, containment_of_patch, failure_of_patch, nameless, of_renamed, oversized, owner_of_patch, patch_made, patched_edits, renamed_made, size_of_renamed, judged, judged_shown, of_new, owner_of_put, containment_of_put, range_of_shown, refused_choice, row_in, rows_added, shown_choice, shown_of_row, subject_of_new, twin_of_new, unsatisfied}
use Rattle.refusal_laws.specs.RankTable.{rank_table}
use Rattle.refusal_laws.specs.RankTable.Condition.{not_graph, twin, subject, no_name, not_empty, rows, accept, precondition, range, contains, patch_fails, owner, size}
use Rattle.refusal_laws.proofs.TableSteps.{Step, Walk, first_assoc, last_of, next_of, none_of, one_of, passed_at, refused_at, same_step, sized_step, skip}

-- where nothing has to be found out
abbrev nothing_found : Found
nothing_found = record { named = Ok []; renamed = Ok bodies.Nothing; outcome = Err patches.Contains }

module _ (pod : Pod) (request : Request) (path : List ℕ) (origin : Origin) (bases : List Basis) where
  abbrev at : RequestBody → Found → Situation
  at body found = record {
    pod = pod;
    request = request;
    path = path;
    origin = origin;
    bases = bases;
    body = body;
    found = found;
  }

  abbrev Walks : Method → RequestBody → Reply → Type 0
  Walks m body told = (found : Found) × Walk m (at body found) told rank_table

  abbrev missing_row : Response
  missing_row = refusal 404 (codes "missing")

  -- ---- reads

  module _ (m : Method) (body : RequestBody) (told : Reply) (is : told ≡ unchanged (read_reply pod request path origin.agent)) where
    abbrev s : Situation
    s = at body nothing_found

    -- what is left of the table after the representation
    abbrev Rest : Type 0
    Rest = Unit {0} × Step None told (Unit {0} × Step None told (Unit {0} × Step None told (Unit {0} × Step None told (told ≡ unchanged (read_reply pod request path origin.agent)))))

    rest : Rest
    rest = skip (skip (skip (skip is)))

    abbrev Ranged : Type 0
    Ranged = Unit {0} × Step (range_of_shown s (shown_of_row s (row_in s))) told Rest

    abbrev Judged : Type 0
    Judged = Unit {0} × Step (judged_shown s (shown_of_row s (row_in s))) told Ranged

    abbrev Chosen : Type 0
    Chosen = Unit {0} × Step (accept_of_row s (row_in s)) told Judged

    module _ (row : Row) (e : row_at pod.rows path ≡ Some row) where
      -- nothing is shown, so nothing more is looked at
      unshown : shown_of_row s (row_in s) ≡ None → Judged
      unshown none = (tt, passed_at _ (ap (judged_shown s) none) (tt, passed_at _ (ap (range_of_shown s) none) rest))

      shown_by : (key : Option (List ℕ)) (choice : Option Media) → upgrade_key request ≡ key → chosen row request.fields ≡ choice → shown_of_row s (row_in s) ≡ shown_choice s row key choice
      shown_by key choice k c = ap (shown_of_row s) e ∙ (ap (λ (x : Option (List ℕ)). shown_choice s row x (chosen row request.fields)) k ∙ ap (shown_choice s row key) c)

      accept_by : (key : Option (List ℕ)) (choice : Option Media) → upgrade_key request ≡ key → chosen row request.fields ≡ choice → accept_of_row s (row_in s) ≡ refused_choice key choice
      accept_by key choice k c = ap (accept_of_row s) e ∙ (ap (λ (x : Option (List ℕ)). refused_choice x (chosen row request.fields)) k ∙ ap (refused_choice key) c)

      read_by : (choice : Option Media) → upgrade_key request ≡ None → chosen row request.fields ≡ choice → read_reply pod request path origin.agent ≡ chosen_read pod request path origin.agent row choice
      unfolding read_reply
      read_by choice k c = ap (found_read pod request path origin.agent) e ∙ (ap (row_read pod request path origin.agent row) k ∙ ap (chosen_read pod request path origin.agent row) c)

      module _ (media : Media) (k : upgrade_key request ≡ None) (c : chosen row request.fields ≡ Some media) where
        abbrev shown : Shown
        shown = represented pod row media

        abbrev verdict : Verdict
        verdict = read_verdict (conditions request.fields) request.method shown

        shows : shown_of_row s (row_in s) ≡ Some shown
        shows = shown_by None (Some media) k c

        range_by : (v : sets.Asked) → asked shown request.method request.fields ≡ v → range_of_shown s (shown_of_row s (row_in s)) ≡ unsatisfied (length shown.body) v
        range_by v a = ap (range_of_shown s) shows ∙ ap (unsatisfied (length shown.body)) a

        judged_by : (v : Verdict) → verdict ≡ v → judged_shown s (shown_of_row s (row_in s)) ≡ judged shown v
        judged_by v j = ap (judged_shown s) shows ∙ ap (judged shown) j

        told_by : (v : Verdict) → verdict ≡ v → told ≡ unchanged (judged_read pod request path origin.agent shown v)
        told_by v j = is ∙ (ap unchanged (read_by (Some media) k c) ∙ ap (λ (x : Verdict). unchanged (judged_read pod request path origin.agent shown x)) j)

        ranged : verdict ≡ verdicts.Go → (v : sets.Asked) → asked shown request.method request.fields ≡ v → Ranged
        unfolding read_response
        ranged j sets.whole a = (tt, passed_at _ (range_by sets.whole a) rest)
        ranged j sets.unsatisfiable a = (
          tt,
          refused_at _ _ (range_by sets.unsatisfiable a)
              (told_by verdicts.Go j ∙ ap (λ (x : sets.Asked). unchanged (response_for pod.base path shown (allow_field pod origin.agent path) x)) a),
        )
        ranged j (sets.parts list) a = (tt, passed_at _ (range_by (sets.parts list) a) rest)

        verdicts_of : (v : Verdict) → verdict ≡ v → Judged
        verdicts_of verdicts.Go j = (tt, passed_at _ (judged_by verdicts.Go j) (ranged j (asked shown request.method request.fields) refl))
        verdicts_of verdicts.NotModified j = (tt, refused_at _ _ (judged_by verdicts.NotModified j) (told_by verdicts.NotModified j))
        verdicts_of verdicts.Failed j = (tt, refused_at _ _ (judged_by verdicts.Failed j) (told_by verdicts.Failed j))

      choices : (key : Option (List ℕ)) (choice : Option Media) → upgrade_key request ≡ key → chosen row request.fields ≡ choice → Chosen
      choices (Some key) choice k c = (tt, passed_at _ (accept_by (Some key) choice k c) (unshown (shown_by (Some key) choice k c)))
      choices None None k c = (tt, refused_at _ _ (accept_by None None k c) (is ∙ ap unchanged (read_by None k c)))
      choices None (Some media) k c = (tt, passed_at _ (accept_by None (Some media) k c) (verdicts_of media k c (read_verdict (conditions request.fields) request.method (represented pod row media)) refl))

    missing_by : (o : Option Row) → row_at pod.rows path ≡ o → refuse_if (not (is_row pod.rows path)) missing_row ≡ refuse_if (not (is_some o)) missing_row
    missing_by o e = ap (λ (x : Option Row). refuse_if (not (is_some x)) missing_row) e

    -- the whole table of a GET or HEAD
    abbrev Whole : Type 0
    Whole = Unit {0} × Step (refuse_if (not (is_row pod.rows path)) missing_row) told (Unit {0} × Step None told (Unit {0} × Step None told (Unit {0} × Step None told (Unit {0} × Step None told (Unit {0} × Step None told (Unit {0} × Step None told Chosen))))))

    rows_of : (o : Option Row) → row_at pod.rows path ≡ o → Whole
    unfolding read_reply
    rows_of None e = (tt, refused_at _ missing_row (missing_by None e) (is ∙ ap (λ (x : Option Row). unchanged (found_read pod request path origin.agent x)) e))
    rows_of (Some row) e = (tt, passed_at _ (missing_by (Some row) e) (skip (skip (skip (skip (skip (skip (choices row e (upgrade_key request) (chosen row request.fields) refl refl))))))))

    read_whole : Whole
    read_whole = rows_of (row_at pod.rows path) refl

  get_walk : (body : RequestBody) (told : Reply) → told ≡ unchanged (read_reply pod request path origin.agent) → Walk methods.Get (at body nothing_found) told rank_table
  get_walk body told is = read_whole methods.Get body told is

  head_walk : (body : RequestBody) (told : Reply) → told ≡ unchanged (read_reply pod request path origin.agent) → Walk methods.Head (at body nothing_found) told rank_table
  head_walk body told is = read_whole methods.Head body told is

  -- ---- the place of a path that is written

  abbrev twins : Option Response
  twins = refuse_if (meets_twin pod.rows path) (conflict (codes "twin"))

  abbrev subjects : Option Response
  subjects = refuse_if (lacks_subject pod.rows path) (conflict (codes "subject"))

  -- what comes after the place in the tree
  places : (b : Bool) (after : Option Response) → first_of (place_refusal pod origin.seq path b) after
      ≡ first_of (of_new b twins) (first_of (of_new b subjects) (first_of (no_room pod origin.seq (if b then 0 else added_rows pod.rows path)) after))
  unfolding new_path_refusal
  places true after = refl
  places false after = first_assoc twins (first_of subjects (no_room pod origin.seq (added_rows pod.rows path))) after ∙ ap (first_of twins) (first_assoc subjects (no_room pod origin.seq (added_rows pod.rows path)) after)

  abbrev there : Bool
  there = is_row pod.rows path

  -- ---- PUT

  module _ (content : Content) (told : Reply) (is : told ≡ put_reply pod request path origin bases content) where
    abbrev put : Situation
    put = at (bodies.Content content) nothing_found

    abbrev put_row : Row
    put_row = row_of path content origin.stamp.moment

    abbrev put_final : Reply
    put_final = make_reply pod request path origin bases put_row there

    abbrev after_place : Option Response
    after_place = first_of (condition_refusal pod request path) (first_of (containment_of_put put content) (owner_of_put put content))

    put_is : told ≡ unless_refused (first_of (twin_of_new put) (first_of (subject_of_new put) (first_of (no_room pod origin.seq (rows_added put)) after_place))) put_final
    unfolding put_reply content_refusal
    put_is = is ∙ ap (λ (o : Option Response). unless_refused o put_final) (places there after_place)

    put_walk : Walk methods.Put put told rank_table
    put_walk = skip (
      tt,
      next_of (twin_of_new put) _ told put_final put_is (λ e. (
        tt,
        next_of (subject_of_new put) _ told put_final e (λ f. skip (skip (skip (
          tt,
          next_of (no_room pod origin.seq (rows_added put)) _ told put_final f (λ g. skip (
            tt,
            next_of (condition_refusal pod request path) _ told put_final g (λ h. skip (
              tt,
              next_of (containment_of_put put content) _ told put_final h (λ i. skip (
                tt,
                last_of (owner_of_put put content) told put_final i (λ j. (
                  tt,
                  sized_step (is_too_large (entry_of origin request.method path (making_edits pod put_row there) bases)) told (made_response pod path there) (entry_of origin request.method path (making_edits pod put_row there) bases) j (λ k. k),
                )),
              )),
            )),
          )),
        )))),
      )),
    )

  -- ---- DELETE

  module _ (body : RequestBody) (told : Reply) (is : told ≡ delete_reply pod request path origin bases) where
    abbrev gone : Situation
    gone = at body nothing_found

    abbrev gone_final : Reply
    gone_final = change_reply changed (entry_of origin request.method path (delete_edits pod path origin.stamp.moment) bases)

    abbrev missing_here : Option Response
    missing_here = refuse_if (not there) missing_row

    abbrev not_empty_here : Option Response
    not_empty_here = refuse_if (has_children pod.rows path) (conflict (codes "not-empty"))

    gone_is : told ≡ unless_refused (first_of missing_here (first_of not_empty_here (first_of (no_room pod origin.seq 0) (condition_refusal pod request path)))) gone_final
    unfolding delete_reply
    gone_is = is

    delete_walk : Walk methods.Delete gone told rank_table
    delete_walk = (
      tt,
      next_of missing_here _ told gone_final gone_is (λ e. skip (skip (skip (
        tt,
        next_of not_empty_here _ told gone_final e (λ f. skip (
          tt,
          next_of (no_room pod origin.seq 0) _ told gone_final f (λ g. skip (
            tt,
            last_of (condition_refusal pod request path) told gone_final g (λ h. skip (skip (skip (skip (
              tt,
              sized_step (is_too_large (entry_of origin request.method path (delete_edits pod path origin.stamp.moment) bases)) told changed (entry_of origin request.method path (delete_edits pod path origin.stamp.moment) bases) h (λ k. k),
            ))))),
          )),
        )),
      )))),
    )

  -- ---- PATCH

  module _ (body : RequestBody) (told : Reply) where
    abbrev of_bytes : Option Response
    of_bytes = refuse_if (is_bytes_row (row_at pod.rows path)) (conflict (codes "not-graph"))

    abbrev patched : Found → Situation
    patched found = at body found

    -- A PATCH is refused before its patch is applied: only a row is of bytes, and only a new path has a
    -- twin or lacks a subject.
    patched_place : (o : Option Row) (after : Option Response) → first_of (refuse_if (is_bytes_row o) (conflict (codes "not-graph"))) (first_of (place_refusal pod origin.seq path (is_some o)) after)
        ≡ first_of (of_new (is_some o) twins) (first_of (of_new (is_some o) subjects) (first_of (refuse_if (is_bytes_row o) (conflict (codes "not-graph"))) (first_of (no_room pod origin.seq (if is_some o then 0 else added_rows pod.rows path)) after)))
    patched_place None after = places false after
    patched_place (Some row) after = refl

    abbrev patch_list : Option Response
    patch_list = first_of (of_new there twins) (first_of (of_new there subjects) (first_of of_bytes (first_of (no_room pod origin.seq (rows_added (patched nothing_found))) (condition_refusal pod request path))))

    patch_chain : patch_list ≡ patch_refusal pod request origin.seq path
    unfolding patch_refusal
    patch_chain = sym (patched_place (row_at pod.rows path) (condition_refusal pod request path))

    patch_refused : (r : Response) → patch_refusal pod request origin.seq path ≡ Some r → told ≡ unchanged r → Walk methods.Patch (patched nothing_found) told rank_table
    patch_refused r e is = skip (
      tt,
      one_of (of_new there twins) _ r told (patch_chain ∙ e) is (λ f. (
        tt,
        one_of (of_new there subjects) _ r told f is (λ g. skip (skip (
          tt,
          one_of of_bytes _ r told g is (λ h. (
            tt,
            one_of (no_room pod origin.seq (rows_added (patched nothing_found))) _ r told h is (λ i. skip (tt, refused_at (condition_refusal pod request path) r i is)),
          )),
        ))),
      )),
    )

    -- a PATCH whose patch is applied
    module _ (none : patch_refusal pod request origin.seq path ≡ None) (a : IsApplied pod request path origin bases body told) where
      abbrev applied : Situation
      applied = patched (record { named = Ok []; renamed = Ok bodies.Nothing; outcome = a.outcome })

      chain_none : (of_new there twins ≡ None) × ((of_new there subjects ≡ None) × ((of_bytes ≡ None) × ((no_room pod origin.seq (rows_added (patched nothing_found)) ≡ None) × (condition_refusal pod request path ≡ None))))
      chain_none =
          let one = none_of (of_new there twins) _ (patch_chain ∙ none) in
          let two = none_of (of_new there subjects) _ one.1 in
          let three = none_of of_bytes _ two.1 in
          (one.0, (two.0, (three.0, none_of (no_room pod origin.seq (rows_added (patched nothing_found))) (condition_refusal pod request path) three.1)))

      -- what the table has after the preconditions
      abbrev Outcomes : Result Change PatchRefusal → Type 0
      Outcomes o = Unit {0} × Step (containment_of_patch o) told (Unit {0} × Step (failure_of_patch o) told (Unit {0} × Step (owner_of_patch applied o) told (Unit {0} × Step (oversized (patch_made applied o).entry) told (told ≡ patch_made applied o))))

      change_is : (change : Change) (b : Bool) → changing_reply pod request path origin bases change b
          ≡ change_reply (made_response pod path b) (entry_of origin request.method path (patched_edits applied change b) bases)
      change_is change true = refl
      change_is change false = refl

      outcomes : (o : Result Change PatchRefusal) → told ≡ outcome_reply pod request path origin bases o → Outcomes o
      outcomes (Err patches.Contains) e = (tt, inl (conflict (word_of patches.Contains), refl, e))
      outcomes (Err patches.NoMatch) e = skip (tt, inl (conflict (word_of patches.NoMatch), refl, e))
      outcomes (Err patches.ManyMatches) e = skip (tt, inl (conflict (word_of patches.ManyMatches), refl, e))
      outcomes (Err patches.MissingDeletion) e = skip (tt, inl (conflict (word_of patches.MissingDeletion), refl, e))
      outcomes (Err patches.NotTriple) e = skip (tt, inl (conflict (word_of patches.NotTriple), refl, e))
      outcomes (Ok change) e = skip (skip (
        tt,
        last_of (guard_refusal pod path change) told (changing_reply pod request path origin bases change there) e (λ f. (
          tt,
          sized_step (is_too_large (entry_of origin request.method path (patched_edits applied change there) bases)) told (made_response pod path there) (entry_of origin request.method path (patched_edits applied change there) bases) (f ∙ change_is change there) (λ k. k),
        )),
      ))

      applied_walk : Walk methods.Patch applied told rank_table
      applied_walk =
          let c = chain_none in
          let o = outcomes a.outcome a.follows in
          skip (
            tt,
            passed_at (of_new there twins) c.0 (
              tt,
              passed_at (of_new there subjects) c.1.0 (skip (skip (
                tt,
                passed_at of_bytes c.1.1.0 (
                  tt,
                  passed_at (no_room pod origin.seq (rows_added (patched nothing_found))) c.1.1.1.0
                      (skip (tt, passed_at (condition_refusal pod request path) c.1.1.1.1 (skip ((a.is, a.graphs), o.1)))),
                ),
              ))),
            ),
          )

    patch_by : (o : Option Response) → patch_refusal pod request origin.seq path ≡ o → IsUnlessRefused o (IsApplied pod request path origin bases body) told → Walks methods.Patch body told
    patch_by (Some r) e h = (nothing_found, patch_refused r e h)
    patch_by None e h = (record { named = Ok []; renamed = Ok bodies.Nothing; outcome = h.outcome }, applied_walk e h)

  -- ---- POST

  module _ (content : Content) (told : Reply) where
    abbrev posted : Found → Situation
    posted found = at (bodies.Content content) found

    abbrev with_name : Result (List ℕ) Response → Found
    with_name named = record { named = named; renamed = Ok bodies.Nothing; outcome = Err patches.Contains }

    -- what the table has after the name
    abbrev Named : Found → Type 0
    Named found = Walk methods.Post (posted found) told (not_empty ∷ not_graph ∷ rows ∷ accept ∷ precondition ∷ range ∷ contains ∷ patch_fails ∷ owner ∷ size ∷ [])

    -- the refusals of a member before its graph is read again
    module _ (member : List ℕ) (is : IsNamed pod path (stem_of (slug request.fields)) (links_to_container request.fields) (Ok member)) where
      abbrev stated : Option Response
      stated = containment_refusal member content

      member_chain : first_of (no_room pod origin.seq 1) (first_of (condition_refusal pod request path) stated) ≡ member_refusal pod request origin.seq path member content
      unfolding member_refusal
      member_chain = refl

      member_refused : (r : Response) → member_refusal pod request origin.seq path member content ≡ Some r → told ≡ unchanged r → Named (with_name (Ok member))
      member_refused r e told_is = skip (skip (
        tt,
        one_of (no_room pod origin.seq 1) _ r told (member_chain ∙ e) told_is (λ f. skip (
          tt,
          one_of (condition_refusal pod request path) stated r told f told_is (λ g. skip (
            (λ n. absurd (cc (sym n ∙ g))),
            refused_at (first_of stated None) r (ap (λ (o : Option Response). first_of o None) g) told_is,
          )),
        )),
      ))

      module _ (none : member_refusal pod request origin.seq path member content ≡ None) (m : IsMade pod request path origin bases member told) where
        abbrev named_again : Found
        named_again = record { named = Ok member; renamed = m.read; outcome = Err patches.Contains }

        chain_nothing : (no_room pod origin.seq 1 ≡ None) × ((condition_refusal pod request path ≡ None) × (stated ≡ None))
        chain_nothing =
            let one = none_of (no_room pod origin.seq 1) _ (member_chain ∙ none) in
            (one.0, none_of (condition_refusal pod request path) stated one.1)

        -- what the table has from the content on
        abbrev Renamed : Outcome → Type 0
        Renamed o = Step (first_of stated (of_renamed o (containment_refusal member))) told (Unit {0} × Step None told (Unit {0} × Step None told (Unit {0} × Step (size_of_renamed o (renamed_made (posted named_again) member o).entry) told (told ≡ renamed_made (posted named_again) member o))))

        abbrev member_entry : Content → Entry
        member_entry c = entry_of origin request.method path (creation_edits pod.rows (row_of member c origin.stamp.moment)) bases

        renames : (o : Outcome) → IsMemberReply pod request path origin bases member o told → Renamed o
        renames (Err fault) e = passed_at (first_of stated None) (ap (λ (x : Option Response). first_of x None) chain_nothing.1.1) (skip (skip (tt, inl (size_refusal, refl, e))))
        renames (Ok (bodies.Content c)) e = same_step (first_of stated (containment_refusal member c)) (containment_refusal member c) (ap (λ (x : Option Response). first_of x (containment_refusal member c)) chain_nothing.1.1)
            (last_of (containment_refusal member c) told (member_reply pod request path origin bases member c) e (λ f. skip (skip (
              tt,
              sized_step (is_too_large (member_entry c)) told (created pod.base path member) (member_entry c) f (λ k. k),
            ))))
        renames (Ok bodies.Nothing) e = absurd e
        renames (Ok (bodies.Patch patch)) e = absurd e
        renames (Ok (bodies.Update named)) e = absurd e

        member_made_so : Named named_again
        member_made_so =
            let c = chain_nothing in
            skip (skip (tt, passed_at (no_room pod origin.seq 1) c.0 (skip (tt, passed_at (condition_refusal pod request path) c.1.0 (skip ((λ n. m.means), renames m.read m.follows))))))

      member_by : (o : Option Response) → member_refusal pod request origin.seq path member content ≡ o → IsUnlessRefused o (IsMade pod request path origin bases member) told → (found : Found) × (found.named ≡ Ok member) × Named found
      member_by (Some r) e h = (with_name (Ok member), refl, member_refused r e h)
      member_by None e h = (named_again e h, refl, member_made_so e h)

    -- what the table has after the first condition
    abbrev AfterMissing : Found → Type 0
    AfterMissing found = Walk methods.Post (posted found) told (twin ∷ subject ∷ no_name ∷ not_empty ∷ not_graph ∷ rows ∷ accept ∷ precondition ∷ range ∷ contains ∷ patch_fails ∷ owner ∷ size ∷ [])

    named_so : (member : List ℕ) → IsNamed pod path (stem_of (slug request.fields)) (links_to_container request.fields) (Ok member) → (found : Found) × (found.named ≡ Ok member) × Named found
        → (found : Found) × AfterMissing found
    named_so member is (found, e, walk) = (
      found,
      skip (skip (
        subst (IsNamed pod path (stem_of (slug request.fields)) (links_to_container request.fields)) (sym e) is,
        passed_at (nameless found.named) (ap nameless e) walk,
      )),
    )

    named_by : (named : Result (List ℕ) Response) → IsNamed pod path (stem_of (slug request.fields)) (links_to_container request.fields) named → IsNamedReply pod request path origin bases content named told
        → (found : Found) × AfterMissing found
    named_by (Err response) is h = (with_name (Err response), skip (skip (is, inl (response, refl, h))))
    named_by (Ok member) is h = named_so member is (member_by member is (member_refusal pod request origin.seq path member content) refl h)

    post_by : (o : Option Response) → refuse_if (not there) missing_row ≡ o → IsUnlessRefused o (IsPosted pod request path origin bases content) told → Walks methods.Post (bodies.Content content) told
    post_by (Some r) e h = (nothing_found, (tt, refused_at (refuse_if (not there) missing_row) r e h))
    post_by None e h = let one = named_by h.named h.is h.follows in (one.0, (tt, passed_at (refuse_if (not there) missing_row) e one.1))

  -- ---- every method

  pub method_walk : (m : Method) (body : RequestBody) (told : Reply) → IsMethodReply m pod request path origin bases body told → Walks m body told
  method_walk methods.Get body told h = (nothing_found, get_walk body told h)
  method_walk methods.Head body told h = (nothing_found, head_walk body told h)
  method_walk methods.Options body told h = (nothing_found, skip (skip (skip (skip (skip (skip (skip (skip (skip (skip (skip (skip (skip (skip h))))))))))))))
  method_walk methods.Post (bodies.Content content) told h = post_by content told (refuse_if (not there) missing_row) refl h
  method_walk methods.Post bodies.Nothing told h = absurd h
  method_walk methods.Post (bodies.Patch patch) told h = absurd h
  method_walk methods.Post (bodies.Update named) told h = absurd h
  method_walk methods.Put (bodies.Content content) told h = (nothing_found, put_walk content told h)
  method_walk methods.Put bodies.Nothing told h = absurd h
  method_walk methods.Put (bodies.Patch patch) told h = absurd h
  method_walk methods.Put (bodies.Update named) told h = absurd h
  method_walk methods.Patch body told h = patch_by body told (patch_refusal pod request origin.seq path) refl h
  method_walk methods.Delete body told h = (nothing_found, delete_walk body told h)
  method_walk methods.Other body told h = absurd h
