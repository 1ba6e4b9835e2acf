-- The edits of two entries: those of one request in two pods with the same paths, and those of two PUTs of one path.
use Rattle.std.proofs.Common.{◌≡◌, ◌⊎◌, inl, inr, ℕ, Bool, true, false, cond, List, [], ◌∷◌, map, Option, Some, None, Result, Ok, Err, refl, sym, ap, subst, ◌∙◌}
use Rattle.patch_outcome.proofs.OneOutcome.{one_patch_outcome, one_update_outcome}
use Rattle.patch_outcome.specs.Outcomes.{HasGraphs}
use Rattle.patch_outcome.specs.Updates.{IsUpdateOutcome}
use Rattle.patch_outcome.specs.declared.patch_refusals.PatchRefusal.{PatchRefusal}
use Rattle.pod_base.specs.Listed.{Listed}
use Rattle.pod_base.specs.declared.method.Method.{Method}
use Rattle.pod_base.specs.declared.method.Method.TheVariants.{Get, Head, Options, Post, Put, Patch as PatchMethod, Delete, Other}
use Rattle.pod_base.specs.declared.moment.Moment.{Moment}
use Rattle.pod_base.specs.declared.request.Request.{Request}
use Rattle.pod_base.specs.declared.response.Response.{Response}
use Rattle.pod_command.specs.declared.edit.Edit.{Edit}
use Rattle.pod_command.specs.declared.edit.Edit.TheVariants as edits
use Rattle.pod_command.specs.declared.row.Content.{Content as RowContent}
use Rattle.pod_command.specs.declared.row.Row.{Row}
use Rattle.pod_edits.proofs.FoundRows.{not_found}
use Rattle.pod_edits.specs.Edits.{container_row, creation_edits, put_container, put_edits, removal_edits, touch_if}
use Rattle.pod_edits.specs.Places.{missing_of, nearest_of}
use Rattle.pod_path.specs.Hierarchy.{is_auxiliary, is_container, uri_of}
use Rattle.pod_reply.specs.DeleteReplies.{delete_edits}
use Rattle.pod_reply.specs.PatchReplies.{IsBodyOutcome, new_row, patched_triples}
use Rattle.pod_reply.specs.PutReplies.{making_edits, row_of}
use Rattle.pod_reply.specs.Reply.{body_base}
use Rattle.pod_rows.specs.Pod.{Pod, is_row, row_at}
use Rattle.rdf_graph.specs.declared.change.Change.{Change}
use Rattle.graph_patch.specs.declared.patch.Patch.{Patch}
use Rattle.rdf_graph.specs.declared.triple.Triple.{Triple}
use Rattle.reply_laws.specs.Alike.{path_of}
use Rattle.request_body.proofs.Once.{one_meaning}
use Rattle.request_body.specs.Bodies.{Means, Outcome}
use Rattle.request_body.specs.Laws.{SameOutcome}
use Rattle.request_body.specs.declared.body.RequestBody.{RequestBody}
use Rattle.request_body.specs.declared.body.RequestBody.TheVariants as bodies
use Rattle.request_fields.specs.Links.{links_to_container}
use Rattle.request_fields.specs.PartFields.{slug}
use Rattle.request_target.specs.Admission.{admitted, admitted_to, method_refusal, token_refusal, unless}
use Rattle.request_target.specs.Targets.{target_of}
use Rattle.request_target.specs.declared.target.Target.{Target}
use Rattle.request_target.specs.declared.target.Target.TheVariants.{Resource}
use Rattle.slug_naming.proofs.FirstName.{one_free_name}
use Rattle.slug_naming.specs.Names.{IsFreeName, candidate_path}
use Rattle.slug_naming.specs.Stems.{stem_of}
use Rattle.sparql_patch.specs.declared.named.Named.{Named}
use Rattle.token_table.specs.Credentials.{AskedAgent}
use Rattle.refusal_laws.proofs.EditPairs.{ArePairs, IsPair, pairs_append, pairs_same}
use Rattle.refusal_laws.proofs.EditPairs.ArePairs.{no_more, one_more}
use Rattle.refusal_laws.proofs.EditPairs.IsPair.{puts, changes, touches}
use Rattle.refusal_laws.proofs.EntryEdits.{HasEdits, Makes, PatchEdits, PostEdits, PutEdits, changing_edits}
use Rattle.refusal_laws.proofs.SamePlaces.{AreContainers, creation_same, deletion_same, is_row_same, missing_containers, missing_same, nearest_container, nearest_same, rows_same}

-- ---- bodies and outcomes that are the same

one_content : (c d : RowContent) → SameOutcome (Ok (bodies.Content c)) (Ok (bodies.Content d)) → c ≡ d
one_content c d e = inner c d e
  where
    inner : (c d : RowContent) → ◌≡◌ {A = Outcome} (Ok (bodies.Content c)) (Ok (bodies.Content d)) → c ≡ d
    inner c d e = cc

patch_or_update : (p : Patch) (u : Listed Named) → ◌≡◌ {A = Outcome} (Ok (bodies.Patch p)) (Ok (bodies.Update u)) → ⊥
patch_or_update p u e = cc

update_or_patch : (p : Patch) (u : Listed Named) → ◌≡◌ {A = Outcome} (Ok (bodies.Update u)) (Ok (bodies.Patch p)) → ⊥
update_or_patch p u e = cc

one_outcome : (path : List ℕ) (x y : RequestBody) (g : List Triple) (a b : Result Change PatchRefusal) → SameOutcome (Ok x) (Ok y) → HasGraphs a → HasGraphs b
    → IsBodyOutcome x path g a → IsBodyOutcome y path g b → a ≡ b
one_outcome path bodies.Nothing y g a b same ga gb h k = absurd h
one_outcome path (bodies.Content c) y g a b same ga gb h k = absurd h
one_outcome path (bodies.Patch p) bodies.Nothing g a b same ga gb h k = absurd k
one_outcome path (bodies.Patch p) (bodies.Content c) g a b same ga gb h k = absurd k
one_outcome path (bodies.Patch p) (bodies.Patch q) g a b same ga gb h k =
    one_patch_outcome (is_container path) g p q a b same.conditions same.deletions same.insertions ga gb h k
one_outcome path (bodies.Patch p) (bodies.Update v) g a b same ga gb h k = absurd (patch_or_update p v same)
one_outcome path (bodies.Update u) bodies.Nothing g a b same ga gb h k = absurd k
one_outcome path (bodies.Update u) (bodies.Content c) g a b same ga gb h k = absurd k
one_outcome path (bodies.Update u) (bodies.Patch q) g a b same ga gb h k = absurd (update_or_patch q u same)
one_outcome path (bodies.Update u) (bodies.Update v) g a b same ga gb h k =
    one_update_outcome (is_container path) g v.items a b ga gb (subst (λ (named : List Named). IsUpdateOutcome (is_container path) g named a) same h) k

one_change : (path : List ℕ) (x y : RequestBody) (g : List Triple) (c d : Change) → SameOutcome (Ok x) (Ok y) → HasGraphs (Ok c) → HasGraphs (Ok d)
    → IsBodyOutcome x path g (Ok c) → IsBodyOutcome y path g (Ok d) → c ≡ d
one_change path x y g c d same gc gd h k =
    let both : ◌≡◌ {A = Result Change PatchRefusal} (Ok c) (Ok d) = one_outcome path x y g (Ok c) (Ok d) same gc gd h k in cc

-- ---- the path of a request

admitted_target : (asked : AskedAgent) (m : Method) (r : Result Target Response) (path : List ℕ) → admitted_to asked m r ≡ Ok (Resource path) → r ≡ Ok (Resource path)
admitted_target asked m (Err response) path h = absurd cc
admitted_target asked m (Ok target) path h = ap (λ (t : Target). Ok t) (by_refusals (token_refusal asked) (method_refusal target m) h)
  where
    by_refusals : (a b : Option Response) → unless target a b ≡ Ok (Resource path) → target ≡ Resource path
    by_refusals (Some response) b g = absurd cc
    by_refusals None (Some response) g = absurd cc
    by_refusals None None g = let same : target ≡ Resource path = cc in same

one_path : (x y : List ℕ) → ◌≡◌ {A = Result Target Response} (Ok (Resource x)) (Ok (Resource y)) → x ≡ y
one_path x y e = cc

-- it is the one of its target
pub path_is : (base : List ℕ) (request : Request) (asked : AskedAgent) (x y : List ℕ) → admitted base request asked ≡ Ok (Resource x) → target_of base request.method request.target ≡ Ok (Resource y) → x ≡ y
path_is base request asked x y h k = one_path x y (sym (admitted_target asked request.method (target_of base request.method request.target) x h) ∙ k)

-- ---- two pods with the same paths

module _ (p q : Pod) (base : p.base ≡ q.base) (paths : map path_of p.rows ≡ map path_of q.rows) (Differ : List ℕ → Type 0) where
  making_same : (row : Row) (exists : Bool) → making_edits p row exists ≡ making_edits q row exists
  making_same row true = refl
  making_same row false = ap (λ (c : List Edit). cond (is_auxiliary row.path) (put_edits row) c) (creation_same p.rows q.rows paths row)

  made_same : (row : Row) (path : List ℕ) → making_edits p row (is_row p.rows path) ≡ making_edits q row (is_row q.rows path)
  made_same row path = making_same row (is_row p.rows path) ∙ ap (making_edits q row) (is_row_same p.rows q.rows paths path)

  delete_same : (path : List ℕ) (modified : Moment) → delete_edits p path modified ≡ delete_edits q path modified
  delete_same path modified = ap (λ (d : List Edit). cond (is_auxiliary path) (removal_edits path) d) (deletion_same p.rows q.rows paths path modified)

  -- ---- one request

  module _ (request : Request) (path : List ℕ) (m : Moment) (es fs : List Edit) (at_path : (row_at p.rows path ≡ row_at q.rows path) ⊎ Differ path) where
    put_pairs : (x y : RequestBody) → SameOutcome (Ok x) (Ok y) → PutEdits p request path m x es → PutEdits q request path m y fs → ArePairs Differ es fs
    put_pairs (bodies.Content c) (bodies.Content d) same h k =
        pairs_same Differ es fs (h ∙ ap (λ (content : RowContent). making_edits p (row_of path content m) (is_row p.rows path)) (one_content c d same) ∙ made_same (row_of path d m) path ∙ sym k)
    put_pairs (bodies.Content c) bodies.Nothing same h k = absurd k
    put_pairs (bodies.Content c) (bodies.Patch patch) same h k = absurd k
    put_pairs (bodies.Content c) (bodies.Update named) same h k = absurd k
    put_pairs bodies.Nothing y same h k = absurd h
    put_pairs (bodies.Patch patch) y same h k = absurd h
    put_pairs (bodies.Update named) y same h k = absurd h

    post_pairs : PostEdits p request path m es → PostEdits q request path m fs → ArePairs Differ es fs
    post_pairs h k =
        let stem = stem_of (slug request.fields) in
        let folder = links_to_container request.fields in
        let member : h.member ≡ k.member =
        one_free_name (is_row q.rows) path stem folder h.member k.member (subst (λ (f : List ℕ → Bool). IsFreeName f path stem folder h.member) (rows_same p.rows q.rows paths) h.named.first) k.named.first in
        let means : Means (uri_of q.base k.member) path request (Ok (bodies.Content h.content)) =
        subst (λ (b : List ℕ). Means b path request (Ok (bodies.Content h.content))) (λ i. uri_of (base i) (member i)) h.means in
        let content : h.content ≡ k.content = one_content h.content k.content (one_meaning (uri_of q.base k.member) path request (Ok (bodies.Content h.content)) (Ok (bodies.Content k.content)) means k.means) in
        pairs_same Differ es fs
        (h.are ∙ (λ i. creation_edits p.rows (row_of (member i) (content i) m)) ∙ creation_same p.rows q.rows paths (row_of k.member k.content m) ∙ sym k.are)

    module _ (x y : RequestBody) (same : SameOutcome (Ok x) (Ok y)) (h : PatchEdits p request path m x es) (k : PatchEdits q request path m y fs) where
      change_same : row_at p.rows path ≡ row_at q.rows path → h.change ≡ k.change
      change_same rows =
          one_change path x y (patched_triples (row_at q.rows path)) h.change k.change same h.graphs k.graphs
          (subst (λ (o : Option Row). IsBodyOutcome x path (patched_triples o) (Ok h.change)) rows h.outcome) k.outcome

      changed_pair : (row_at p.rows path ≡ row_at q.rows path) ⊎ Differ path → IsPair Differ (edits.Change path h.change m) (edits.Change path k.change m)
      changed_pair (inl rows) = changes path h.change k.change m m (inl (change_same rows, refl))
      changed_pair (inr differs) = changes path h.change k.change m m (inr differs)

      by_exists : (b : Bool) → is_row p.rows path ≡ b → es ≡ changing_edits p request path m h.change b → fs ≡ changing_edits q request path m k.change b → ArePairs Differ es fs
      by_exists true e he ke =
          subst (λ (l : List Edit). ArePairs Differ l fs) (sym he)
          (subst (ArePairs Differ (edits.Change path h.change m ∷ [])) (sym ke)
          (one_more (edits.Change path h.change m) (edits.Change path k.change m) [] [] (changed_pair at_path) no_more))
      by_exists false e he ke =
          let gone : is_row q.rows path ≡ false = sym (is_row_same p.rows q.rows paths path) ∙ e in
          let rows : row_at p.rows path ≡ row_at q.rows path = not_found p.rows path e ∙ sym (not_found q.rows path gone) in
          pairs_same Differ es fs
          (he ∙ ap (λ (change : Change). making_edits p (new_row path change m) false) (change_same rows) ∙ making_same (new_row path k.change m) false ∙ sym ke)

      patch_pairs : ArePairs Differ es fs
      patch_pairs =
          by_exists (is_row p.rows path) refl h.are (k.are ∙ ap (changing_edits q request path m k.change) (sym (is_row_same p.rows q.rows paths path)))

    method_pairs : (method : Method) (x y : RequestBody) → SameOutcome (Ok x) (Ok y) → HasEdits p request path m method x es → HasEdits q request path m method y fs → ArePairs Differ es fs
    method_pairs Get x y same h k = absurd h
    method_pairs Head x y same h k = absurd h
    method_pairs Options x y same h k = absurd h
    method_pairs Post x y same h k = post_pairs h k
    method_pairs Put x y same h k = put_pairs x y same h k
    method_pairs PatchMethod x y same h k = patch_pairs x y same h k
    method_pairs Delete x y same h k = pairs_same Differ es fs (h ∙ delete_same path m ∙ sym k)
    method_pairs Other x y same h k = absurd h

  same_base : (m : Method) (request : Request) (path : List ℕ) → body_base m p request path ≡ body_base m q request path
  same_base Post request path = ap (λ (b : List ℕ). uri_of b (candidate_path path (stem_of (slug request.fields)) (links_to_container request.fields) 0)) base
  same_base Get request path = ap (λ (b : List ℕ). uri_of b path) base
  same_base Head request path = ap (λ (b : List ℕ). uri_of b path) base
  same_base Options request path = ap (λ (b : List ℕ). uri_of b path) base
  same_base Put request path = ap (λ (b : List ℕ). uri_of b path) base
  same_base PatchMethod request path = ap (λ (b : List ℕ). uri_of b path) base
  same_base Delete request path = ap (λ (b : List ℕ). uri_of b path) base
  same_base Other request path = ap (λ (b : List ℕ). uri_of b path) base

  pub request_pairs : (request : Request) (asked : AskedAgent) (m : Moment) (es fs : List Edit) → ((path : List ℕ) → (row_at p.rows path ≡ row_at q.rows path) ⊎ Differ path)
      → Makes p request asked m es → Makes q request asked m fs → ArePairs Differ es fs
  request_pairs request asked m es fs rows h k =
      let path : h.path ≡ k.path = one_path h.path k.path (sym h.target ∙ ap (λ (b : List ℕ). admitted b request asked) base ∙ k.target) in
      let means : Means (body_base request.method q request k.path) k.path request (Ok h.body) =
      subst (λ (b : List ℕ). Means b k.path request (Ok h.body)) (same_base request.method request k.path)
      (subst (λ (x : List ℕ). Means (body_base request.method p request x) x request (Ok h.body)) path h.means) in
      let same : SameOutcome (Ok h.body) (Ok k.body) = one_meaning (body_base request.method q request k.path) k.path request (Ok h.body) (Ok k.body) means k.means in
      method_pairs request k.path m es fs (rows k.path) request.method h.body k.body same
      (subst (λ (x : List ℕ). HasEdits p request x m request.method h.body es) path h.edits) k.edits

  -- ---- two PUTs

  module _ (path : List ℕ) (m n : Moment) (differs : Differ path) (above_too : (above : List ℕ) → is_container above ≡ true → (m ≡ n) ⊎ Differ above) where
    container_pair : (above : List ℕ) → (m ≡ n) ⊎ Differ above → IsPair Differ (put_container m above) (put_container n above)
    container_pair above (inl same) = puts (container_row m above) (container_row n above) refl (inl (ap (λ (x : Moment). container_row x above) same))
    container_pair above (inr apart) = puts (container_row m above) (container_row n above) refl (inr apart)

    containers_pairs : (missing : List (List ℕ)) → AreContainers missing → ArePairs Differ (map (put_container m) missing) (map (put_container n) missing)
    containers_pairs [] h = no_more
    containers_pairs (above ∷ missing) h =
        one_more (put_container m above) (put_container n above) (map (put_container m) missing) (map (put_container n) missing) (container_pair above (above_too above h.0)) (containers_pairs missing h.1)

    touch_pairs : (o : Option (List ℕ)) → ((above : List ℕ) → o ≡ Some above → is_container above ≡ true) → ArePairs Differ (touch_if o m) (touch_if o n)
    touch_pairs None h = no_more
    touch_pairs (Some above) h = one_more (edits.Touch above m) (edits.Touch above n) [] [] (touches above m n (above_too above (h above refl))) no_more

    module _ (c d : RowContent) where
      abbrev left_row : Row
      left_row = row_of path c m

      abbrev right_row : Row
      right_row = row_of path d n

      one_put : ArePairs Differ (put_edits left_row) (put_edits right_row)
      one_put = one_more (edits.Put left_row) (edits.Put right_row) [] [] (puts left_row right_row refl (inr differs)) no_more

      creation_pairs : ArePairs Differ (creation_edits p.rows left_row) (creation_edits q.rows right_row)
      unfolding creation_edits
      creation_pairs =
          pairs_append Differ (map (put_container m) (missing_of p.rows path)) (map (put_container n) (missing_of q.rows path))
          (edits.Put left_row ∷ touch_if (nearest_of p.rows path) m) (edits.Put right_row ∷ touch_if (nearest_of q.rows path) n)
          (subst (λ (missing : List (List ℕ)). ArePairs Differ (map (put_container m) missing) (map (put_container n) (missing_of q.rows path))) (sym (missing_same p.rows q.rows paths path))
          (containers_pairs (missing_of q.rows path) (missing_containers q.rows path)))
          (one_more (edits.Put left_row) (edits.Put right_row) (touch_if (nearest_of p.rows path) m) (touch_if (nearest_of q.rows path) n) (puts left_row right_row refl (inr differs))
          (subst (λ (o : Option (List ℕ)). ArePairs Differ (touch_if o m) (touch_if (nearest_of q.rows path) n)) (sym (nearest_same p.rows q.rows paths path))
          (touch_pairs (nearest_of q.rows path) (nearest_container q.rows path))))

      making_pairs : (exists : Bool) → ArePairs Differ (making_edits p left_row exists) (making_edits q right_row exists)
      making_pairs true = one_put
      making_pairs false = by_test (is_auxiliary path)
        where
          by_test : (b : Bool) → ArePairs Differ (cond b (put_edits left_row) (creation_edits p.rows left_row)) (cond b (put_edits right_row) (creation_edits q.rows right_row))
          by_test true = one_put
          by_test false = creation_pairs

      content_pairs : (es fs : List Edit) → es ≡ making_edits p left_row (is_row p.rows path) → fs ≡ making_edits q right_row (is_row q.rows path) → ArePairs Differ es fs
      content_pairs es fs h k =
          subst (λ (l : List Edit). ArePairs Differ l fs) (sym h)
          (subst (ArePairs Differ (making_edits p left_row (is_row p.rows path))) (sym (k ∙ ap (making_edits q right_row) (sym (is_row_same p.rows q.rows paths path))))
          (making_pairs (is_row p.rows path)))

    both_puts : (left right : Request) (es fs : List Edit) (x y : RequestBody) → PutEdits p left path m x es → PutEdits q right path n y fs → ArePairs Differ es fs
    both_puts left right es fs (bodies.Content c) (bodies.Content d) h k = content_pairs c d es fs h k
    both_puts left right es fs (bodies.Content c) bodies.Nothing h k = absurd k
    both_puts left right es fs (bodies.Content c) (bodies.Patch patch) h k = absurd k
    both_puts left right es fs (bodies.Content c) (bodies.Update named) h k = absurd k
    both_puts left right es fs bodies.Nothing y h k = absurd h
    both_puts left right es fs (bodies.Patch patch) y h k = absurd h
    both_puts left right es fs (bodies.Update named) y h k = absurd h

    -- the edits of a PUT of that path
    puts_of : (pod : Pod) (request : Request) (asked : AskedAgent) (modified : Moment) (list : List Edit) (h : Makes pod request asked modified list) → request.method ≡ Put
        → target_of pod.base request.method request.target ≡ Ok (Resource path) → PutEdits pod request path modified h.body list
    puts_of pod request asked modified list h method target =
        subst (λ (x : List ℕ). PutEdits pod request x modified h.body list) (path_is pod.base request asked h.path path h.target target)
        (subst (λ (x : Method). HasEdits pod request h.path modified x h.body list) method h.edits)

    pub puts_pairs : (left right : Request) (left_asked right_asked : AskedAgent) (es fs : List Edit) → Makes p left left_asked m es → Makes q right right_asked n fs
        → left.method ≡ Put → target_of p.base left.method left.target ≡ Ok (Resource path) → right.method ≡ Put → target_of q.base right.method right.target ≡ Ok (Resource path) → ArePairs Differ es fs
    puts_pairs left right left_asked right_asked es fs h k left_put left_target right_put right_target =
        both_puts left right es fs h.body k.body (puts_of p left left_asked m es h left_put left_target) (puts_of q right right_asked n fs k right_put right_target)
