-- What a GET or a HEAD is answered with.
use Rattle.std.proofs.Common.{◌≡◌, ℕ, Bool, true, false, true≢false, ◌||◌, List, [], ◌∷◌, ◌++◌, length, take, drop, Option, Some, None, Ok, refl, sym, ap, subst, ◌∙◌, codes}
use Rattle.std.specs.Prelude.{decimal, nat_eq, nat_le}
use Rattle.std.specs.List.{list_all, starts_with}
use Rattle.std.proofs.lemmas.Bool.{and_parts}
use Rattle.std.proofs.lemmas.List.{take-append-drop}
use Rattle.std.proofs.lemmas.Slice.Eq.{bytes_eq-Decides}
use Rattle.conditional_req.specs.Conditions.{conditions}
use Rattle.conditional_req.specs.declared.precondition_verdict.Verdict.{Verdict}
use Rattle.conditional_req.specs.declared.precondition_verdict.Verdict.TheVariants.{Go, NotModified, Failed}
use Rattle.http_out.specs.Text.{AreFieldLines}
use Rattle.pod_access.specs.AllowField.{allow_field, modes_at}
use Rattle.pod_base.specs.declared.agent.Agent.{Agent}
use Rattle.pod_base.specs.declared.agent.Agent.TheVariants.{Public}
use Rattle.pod_base.specs.declared.field.Field.{Field}
use Rattle.pod_base.specs.declared.moment.Moment.{Moment}
use Rattle.pod_base.specs.declared.moment.Stamp.{Stamp}
use Rattle.pod_base.specs.declared.request.Request.{Request}
use Rattle.pod_command.specs.declared.row.Content.{Content}
use Rattle.pod_command.specs.declared.row.Content.TheVariants as contents
use Rattle.pod_command.specs.declared.row.Kind.{Kind as RowKind}
use Rattle.pod_command.specs.declared.row.Kind.TheVariants as kinds
use Rattle.pod_command.specs.declared.row.Row.{Row}
use Rattle.pod_edits.proofs.FoundRows.{all_found}
use Rattle.pod_path.specs.Hierarchy.{is_acl, is_container, is_meta, without_end}
use Rattle.pod_path.specs.Norm.{norm}
use Rattle.pod_path.proofs.Names.{ends_is}
use Rattle.pod_path.proofs.NormalPaths.{norm_parts}
use Rattle.pod_reply.specs.ReadReplies.{chosen_read, found_read, judged_read, read_reply, row_read}
use Rattle.pod_reply.specs.Replies.{unchanged}
use Rattle.pod_representations.specs.Offers.{chosen, turtle_type, json_ld_type}
use Rattle.pod_representations.specs.Preconditions.{read_verdict}
use Rattle.pod_representations.specs.ReadResponses.{asked, content_range, multipart_type, multipart_response, part_response, parts_response, read_response, representation, response_for, whole_response}
use Rattle.pod_representations.specs.Representations.{content_as, graph_body, graph_mark, graph_shown, graph_type, represented, tag}
use Rattle.pod_representations.specs.declared.row_offers.Media.{Media}
use Rattle.pod_representations.specs.declared.row_offers.Media.TheVariants.{Turtle, JsonLd, Stored}
use Rattle.pod_representations.specs.declared.representation.Shown.{Shown}
use Rattle.pod_responses.specs.Links.{field}
use Rattle.pod_responses.specs.Responses.{validators, vary}
use Rattle.pod_rows.specs.Base.{is_authority_byte, is_base_of}
use Rattle.pod_rows.specs.Pod.{Pod, row_at}
use Rattle.pod_rows.specs.WellFormed.{WellFormed, fits_kind, has_right_kind, is_content_type, is_printable}
use Rattle.range_req.specs.Multipart.{free_boundary}
use Rattle.range_req.specs.RangeSets as sets
use Rattle.range_req.specs.declared.byte_range.Part.{Part}
use Rattle.rdf_graph.specs.declared.triple.Triple.{Triple}
use Rattle.request_fields.specs.Upgrades.{upgrade_key}
use Rattle.token_table.specs.Credentials.{AskedAgent}
use Rattle.reply_laws.specs.Granted.{is_change}
use Rattle.reply_laws.proofs.Fields.{first, joined, shown_are_lines, validators_are_lines}
use Rattle.reply_laws.proofs.ReplyKinds.{IsShown, Kind}
use Rattle.reply_laws.proofs.ReplyKinds.Kind.{refused, shown, upgrade}
use Rattle.reply_laws.proofs.Lines.{Stays, allow_stays, boundary_stays, both, decimal_stays, excluded_all, path_stays, tag_stays}

-- ---- a base and a path stay in their line

begun : (text prefix : List ℕ) → starts_with nat_eq text prefix ≡ true → prefix ++ drop (length prefix) text ≡ text
begun text prefix h =
    ap (λ (x : List ℕ). x ++ drop (length prefix) text) ((bytes_eq-Decides prefix (take (length prefix) text)).0 h)
    ∙ take-append-drop (length prefix) text

base_of_stays : (base scheme : List ℕ) → Stays scheme → is_base_of base scheme ≡ true → Stays base
base_of_stays base scheme s h =
    let parts = and_parts (starts_with nat_eq base scheme) _ h in
    let rest = drop (length scheme) base in
    let authority = (and_parts (nat_le 2 (length rest)) _ parts.1).1 in
    let ends = and_parts (is_container rest) (list_all is_authority_byte (without_end 1 rest)) authority in
    let rest_stays : Stays rest = subst Stays (sym (ends_is rest (codes "/") ends.0))
    (both (without_end 1 rest) (codes "/") (excluded_all is_authority_byte refl refl refl (without_end 1 rest) ends.1) refl) in
    subst Stays (begun base scheme parts.0) (both scheme rest s rest_stays)

pub base_stays : (pod : Pod) → WellFormed pod → Stays pod.base
base_stays pod w =
    by_scheme (is_base_of pod.base (codes "http://")) (is_base_of pod.base (codes "https://")) refl refl (and_parts (nat_le (length pod.base) _) _ w.base).1
  where
    by_scheme : (a b : Bool) → is_base_of pod.base (codes "http://") ≡ a → is_base_of pod.base (codes "https://") ≡ b → (a || b) ≡ true → Stays pod.base
    by_scheme true b ea eb h = base_of_stays pod.base (codes "http://") refl ea
    by_scheme false true ea eb h = base_of_stays pod.base (codes "https://") refl eb
    by_scheme false false ea eb h = absurd (true≢false (sym h))

pub normal_stays : (path : List ℕ) → norm path ≡ Ok path → Stays path
normal_stays path h = path_stays path (norm_parts path path h).characters

-- ---- representations

graph_tag_stays : (media : Media) (triples : List Triple) → Stays (tag (graph_type media) (graph_body media triples) (graph_mark media)).0
unfolding tag
graph_tag_stays Turtle triples = tag_stays turtle_type (graph_body Turtle triples) 116 refl
graph_tag_stays JsonLd triples = tag_stays json_ld_type (graph_body JsonLd triples) 106 refl
graph_tag_stays Stored triples = tag_stays turtle_type (graph_body Stored triples) 116 refl

bytes_tag_stays : (ctype bytes : List ℕ) → Stays (tag ctype bytes 98).0
unfolding tag
bytes_tag_stays ctype bytes = tag_stays ctype bytes 98 refl

content_tag_stays : (content : Content) (triples : List Triple) (media : Media) (modified : Moment) → Stays (content_as content triples media modified).tag.0
content_tag_stays (contents.Graph own) triples media modified = graph_tag_stays media triples
content_tag_stays (contents.Bytes ctype bytes) triples media modified = bytes_tag_stays ctype bytes

pub shown_tag_stays : (pod : Pod) (row : Row) (media : Media) → Stays (represented pod row media).tag.0
unfolding represented
shown_tag_stays pod row media = content_tag_stays row.content (graph_shown pod row) media row.modified

bytes_fit : (path : List ℕ) (kind : RowKind) (ctype bytes : List ℕ) → fits_kind path kind (contents.Bytes ctype bytes) ≡ true → is_content_type ctype ≡ true
bytes_fit path kinds.Container ctype bytes h = absurd (true≢false (sym (and_parts (is_container path) false h).1))
bytes_fit path kinds.Acl ctype bytes h = absurd (true≢false (sym (and_parts (is_acl path) false h).1))
bytes_fit path kinds.Meta ctype bytes h = absurd (true≢false (sym (and_parts (is_meta path) false h).1))
bytes_fit path kinds.Graph ctype bytes h = absurd (true≢false (sym (and_parts _ false h).1))
bytes_fit path kinds.Bytes ctype bytes h = (and_parts _ (is_content_type ctype) h).1

graph_type_stays : (media : Media) → Stays (graph_type media)
graph_type_stays Turtle = refl
graph_type_stays JsonLd = refl
graph_type_stays Stored = refl

content_type_stays : (path : List ℕ) (kind : RowKind) (content : Content) (triples : List Triple) (media : Media) (modified : Moment) → fits_kind path kind content ≡ true
    → Stays (content_as content triples media modified).ctype
content_type_stays path kind (contents.Graph own) triples media modified h = graph_type_stays media
content_type_stays path kind (contents.Bytes ctype bytes) triples media modified h =
    excluded_all is_printable refl refl refl ctype (and_parts (nat_le (length ctype) _) _ (bytes_fit path kind ctype bytes h)).1

shown_type_stays : (pod : Pod) (path : List ℕ) (row : Row) (media : Media) → WellFormed pod → row_at pod.rows path ≡ Some row → Stays (represented pod row media).ctype
unfolding represented
shown_type_stays pod path row media w here =
    content_type_stays row.path row.kind row.content (graph_shown pod row) media row.modified (all_found has_right_kind pod.rows path row w.kinds here)

granted_stays : (pod : Pod) (agent : Agent) (path : List ℕ) → Stays (allow_field pod agent path)
granted_stays pod agent path = allow_stays (modes_at pod agent path) (modes_at pod Public path)

-- ---- responses

range_stays : (part : Part) (size : ℕ) → Stays (content_range part size)
unfolding content_range
range_stays part size =
    let end = codes "/" ++ decimal size in
    let last = decimal part.last ++ end in
    let dash = codes "-" ++ last in
    both (codes "bytes ") (decimal part.first ++ dash) refl (both (decimal part.first) dash (decimal_stays part.first)
    (both (codes "-") last refl (both (decimal part.last) end (decimal_stays part.last) (both (codes "/") (decimal size) refl (decimal_stays size)))))

multipart_stays : (body : List ℕ) → Stays (multipart_type (free_boundary body))
unfolding multipart_type
multipart_stays body = both (codes "multipart/byteranges; boundary=") (free_boundary body) refl (boundary_stays body)

plain_not_modified : (text : List ℕ) (modified : ℕ) → Stays text → AreFieldLines (validators text modified ++ vary ∷ [])
plain_not_modified text modified h = joined (validators text modified) (vary ∷ []) (validators_are_lines text modified h) refl

module _ (pod : Pod) (path : List ℕ) (shows : Shown) (granted : List ℕ)
    (normal : norm path ≡ Ok path) (tagged : Stays shows.tag.0) (typed : WellFormed pod → Stays shows.ctype) (told : Stays granted) where
  whole_shown : IsShown pod (whole_response pod.base path shows granted)
  whole_shown = record {
    status = refl;
    fields = λ w. shown_are_lines pod.base path (representation shows.ctype shows granted) None (base_stays pod w) (normal_stays path normal) (typed w) tagged told tt;
  }

  part_shown : (part : Part) → IsShown pod (part_response pod.base path shows granted part)
  part_shown part = record {
    status = refl;
    fields = λ w. shown_are_lines pod.base path (representation shows.ctype shows granted) (Some (content_range part (length shows.body))) (base_stays pod w) (normal_stays path normal) (typed w) tagged told (range_stays part (length shows.body));
  }

  several_shown : (parts : List Part) → IsShown pod (multipart_response pod.base path shows granted parts)
  several_shown parts = record {
    status = refl;
    fields = λ w. shown_are_lines pod.base path (representation (multipart_type (free_boundary shows.body)) shows granted) None (base_stays pod w) (normal_stays path normal) (multipart_stays shows.body) tagged told tt;
  }

  parts_shown : (parts : List Part) → IsShown pod (parts_response pod.base path shows granted parts)
  parts_shown [] = several_shown []
  parts_shown (part ∷ []) = part_shown part
  parts_shown (part ∷ next ∷ more) = several_shown (part ∷ next ∷ more)

-- ---- the walk

module _ (pod : Pod) (request : Request) (asked_by : AskedAgent) (seq : ℕ) (stamp : Stamp) (path : List ℕ) (agent : Agent)
    (normal : norm path ≡ Ok path) (read : is_change request.method ≡ false) where
  range_kind : (shows : Shown) (fields : List Field) → Stays shows.tag.0 → (WellFormed pod → Stays shows.ctype) → (a : sets.Asked)
      → Kind pod request asked_by seq stamp (unchanged (response_for pod.base path shows (allow_field pod agent path) a))
  range_kind shows fields tagged typed sets.whole =
      shown _ read (whole_shown pod path shows (allow_field pod agent path) normal tagged typed (granted_stays pod agent path))
  range_kind shows fields tagged typed sets.unsatisfiable =
      refused _ (record {
        status = refl;
        fields = first (codes "Content-Type") (codes "text/plain") (field (codes "Content-Range") (codes "bytes */" ++ decimal (length shows.body)) ∷ []) refl refl
            (first (codes "Content-Range") (codes "bytes */" ++ decimal (length shows.body)) [] refl (both (codes "bytes */") (decimal (length shows.body)) refl (decimal_stays (length shows.body))) refl);
      })
  range_kind shows fields tagged typed (sets.parts parts) =
      shown _ read (parts_shown pod path shows (allow_field pod agent path) normal tagged typed (granted_stays pod agent path) parts)

  response_kind : (shows : Shown) → Stays shows.tag.0 → (WellFormed pod → Stays shows.ctype)
      → Kind pod request asked_by seq stamp (unchanged (read_response pod.base path shows (allow_field pod agent path) request.method request.fields))
  unfolding read_response
  response_kind shows tagged typed = range_kind shows request.fields tagged typed (asked shows request.method request.fields)

  judged_kind : (shows : Shown) (verdict : Verdict) → Stays shows.tag.0 → (WellFormed pod → Stays shows.ctype)
      → Kind pod request asked_by seq stamp (unchanged (judged_read pod request path agent shows verdict))
  judged_kind shows NotModified tagged typed =
      refused _ (record { status = refl; fields = plain_not_modified shows.tag.0 shows.modified.0 tagged })
  judged_kind shows Failed tagged typed = refused _ (record { status = refl; fields = refl })
  judged_kind shows Go tagged typed = response_kind shows tagged typed

  chosen_kind : (row : Row) (media : Option Media) → row_at pod.rows path ≡ Some row
      → Kind pod request asked_by seq stamp (unchanged (chosen_read pod request path agent row media))
  chosen_kind row None here = refused _ (record { status = refl; fields = refl })
  chosen_kind row (Some media) here =
      judged_kind (represented pod row media) (read_verdict (conditions request.fields) request.method (represented pod row media))
      (shown_tag_stays pod row media) (λ w. shown_type_stays pod path row media w here)

  row_kind : (row : Row) (key : Option (List ℕ)) → upgrade_key request ≡ key → row_at pod.rows path ≡ Some row
      → Kind pod request asked_by seq stamp (unchanged (row_read pod request path agent row key))
  row_kind row (Some key) is here = upgrade key read is
  row_kind row None is here = chosen_kind row (chosen row request.fields) here

  found_kind : (row : Option Row) → row_at pod.rows path ≡ row
      → Kind pod request asked_by seq stamp (unchanged (found_read pod request path agent row))
  found_kind None here = refused _ (record { status = refl; fields = refl })
  found_kind (Some row) here = row_kind row (upgrade_key request) refl here

  pub read_kind : Kind pod request asked_by seq stamp (unchanged (read_reply pod request path agent))
  unfolding read_reply
  read_kind = found_kind (row_at pod.rows path) refl
