-- What is put, posted or patched fits the row that it becomes.
use Rattle.std.proofs.Common.{◌≡◌, ℕ, Bool, true, false, true≢false, not, cond, ◌&&◌, ◌||◌, List, [], ◌∷◌, length, Some, Ok, inl, inr, refl, sym, ap, ◌∙◌}
use Rattle.std.specs.Prelude.{Contains, nat_lt}
use Rattle.std.specs.List.{list_all}
use Rattle.std.proofs.lemmas.Bool.{and_parts, and_from, or_parts}
use Rattle.std.proofs.lemmas.List.Folds.{list_all-append, list_all-map}
use Rattle.pod_base.specs.declared.method.Method.TheVariants.{Put, Post}
use Rattle.pod_base.specs.declared.moment.Moment.{Moment}
use Rattle.pod_base.specs.declared.request.Request.{Request}
use Rattle.pod_command.specs.declared.row.Content.{Content as RowContent}
use Rattle.pod_command.specs.declared.row.Content.TheVariants.{Graph, Bytes}
use Rattle.pod_edits.specs.Allowed.{IsFitting}
use Rattle.pod_edits.specs.Kinds.{may_hold}
use Rattle.pod_edits.specs.Refusals.{states_containment}
use Rattle.pod_edits.proofs.KindLaws.{kind_fits}
use Rattle.pod_path.specs.Hierarchy.{is_auxiliary, is_container}
use Rattle.pod_path.specs.Norm.{norm}
use Rattle.pod_rows.specs.GraphSets.{changed_graph, graph_of, has_triples}
use Rattle.pod_rows.specs.View.{triples_in}
use Rattle.pod_rows.specs.Vocabulary.{ldp_contains}
use Rattle.pod_rows.specs.WellFormed.{is_document, lacks_containment}
use Rattle.pod_rows.specs.WellFormed as rows
use Rattle.pod_rows.proofs.Sets.{graph_to, have_from}
use Rattle.pod_reply.specs.PutReplies.{row_of}
use Rattle.patch_outcome.specs.Outcomes.{IsOutcome, KeepsContainment}
use Rattle.patch_outcome.specs.Updates.{IsUpdateOutcome, is_containment, names_containment}
use Rattle.graph_patch.specs.Patch.{IsChangeOf}
use Rattle.graph_patch.specs.Pattern.{Binding, slot_term}
use Rattle.rdf_graph.specs.Term.{term_eq}
use Rattle.rdf_graph.specs.TermLaws.{term_eq_decides}
use Rattle.rdf_graph.specs.declared.change.Change.{Change}
use Rattle.graph_patch.specs.declared.patch.Patch.{Patch}
use Rattle.graph_patch.specs.declared.pattern.Pattern.{Pattern}
use Rattle.graph_patch.specs.declared.pattern.Slot.{Slot}
use Rattle.graph_patch.specs.declared.pattern.Slot.TheVariants.{Fixed, Var}
use Rattle.rdf_graph.specs.declared.term.Term.{Term}
use Rattle.rdf_graph.specs.declared.term.Term.TheVariants.{Iri}
use Rattle.rdf_graph.specs.declared.triple.Triple.{Triple}
use Rattle.rdf_graph.proofs.Members.{All-from_members, contains_cases, contains_here, contains_none, contains_there}
use Rattle.request_body.specs.Bodies.{Means}
use Rattle.request_body.specs.Syntaxes.{holds_graph}
use Rattle.request_body.specs.declared.body.RequestBody.TheVariants.{Content}
use Rattle.request_body.proofs.Fits.{has_content_type, posts_graph, puts_graph}
use Rattle.request_fields.specs.ContentTypes as fields
use Rattle.request_fields.specs.Links.{links_to_container}
use Rattle.sparql_patch.specs.NamedUpdate.{IsSpelledAt, has_word, if_last, is_named, last_named, pattern_of}
use Rattle.sparql_patch.specs.declared.named.Named.{Named}

-- ---- lists

pub all_each : {X : Type 0} (p : X → Bool) (xs : List X) → ((x : X) → Contains xs x → p x ≡ true) → list_all p xs ≡ true
all_each p [] h = refl
all_each p (x ∷ xs) h = and_from (p x) (list_all p xs) (h x (contains_here x xs)) (all_each p xs (λ y c. h y (contains_there x xs y c)))

pub each_all : {X : Type 0} (p : X → Bool) (xs : List X) → list_all p xs ≡ true → (x : X) → Contains xs x → p x ≡ true
each_all p [] h x c = absurd (contains_none x c)
each_all p (y ∷ ys) h x c =
    elim (contains_cases y ys x c) as (λ _. p x ≡ true) [
      | inl e ↦ ap p (sym e) ∙ (and_parts (p y) (list_all p ys) h).0
      | inr k ↦ each_all p ys (and_parts (p y) (list_all p ys) h).1 x k
    ]

-- ---- contents

content_type_is : (ctype : List ℕ) → fields.is_content_type ctype ≡ true → rows.is_content_type ctype ≡ true
content_type_is ctype h = (and_parts (nat_lt 0 (length ctype)) _ h).1

open_document : (path : List ℕ) → holds_graph path ≡ false → is_document path ≡ true
open_document path e = ap not e

bytes_held : (path ctype bytes : List ℕ) → is_document path ≡ true → fields.is_content_type ctype ≡ true → may_hold path (Bytes ctype bytes) ≡ true
bytes_held path ctype bytes d h = and_from (is_document path) (rows.is_content_type ctype) d (content_type_is ctype h)

pub put_held : (base path : List ℕ) (request : Request) (content : RowContent) → request.method ≡ Put
    → Means base path request (Ok (Content content)) → may_hold path content ≡ true
put_held base path request (Graph graph) is means = refl
put_held base path request (Bytes ctype bytes) is means = by_test (holds_graph path) refl
  where
    by_test : (b : Bool) → holds_graph path ≡ b → may_hold path (Bytes ctype bytes) ≡ true
    by_test true e = absurd (puts_graph base path request (Bytes ctype bytes) is e means)
    by_test false e = bytes_held path ctype bytes (open_document path e) (has_content_type base path request ctype bytes means)

-- A new member may hold what is posted.
pub post_held : (base path member : List ℕ) (request : Request) (content : RowContent) → request.method ≡ Post
    → is_container member ≡ links_to_container request.fields → is_auxiliary member ≡ false
    → Means base path request (Ok (Content content)) → may_hold member content ≡ true
post_held base path member request (Graph graph) is kind plain means = refl
post_held base path member request (Bytes ctype bytes) is kind plain means = by_test (links_to_container request.fields) refl
  where
    by_test : (b : Bool) → links_to_container request.fields ≡ b → may_hold member (Bytes ctype bytes) ≡ true
    by_test true e = absurd (posts_graph base path request (Bytes ctype bytes) is e means)
    by_test false e =
        bytes_held member ctype bytes (open_document member (ap (λ (c : Bool). c || is_auxiliary member) (kind ∙ e) ∙ plain)) (has_content_type base path request ctype bytes means)

-- The row at a path with a content that the path may hold is right by itself.
pub fitting_row : (path : List ℕ) (content : RowContent) (modified : Moment) → norm path ≡ Ok path → may_hold path content ≡ true
    → states_containment path (triples_in content) ≡ false → IsFitting (row_of path content modified)
fitting_row path content modified normal holds states = record {
  path = normal;
  kind = kind_fits path content holds;
  containment = states;
}

-- ---- containment

abbrev is_other : Triple → Bool
is_other t = not (term_eq t.p (Iri ldp_contains))

pub states_none : (path : List ℕ) (triples : List Triple) → (is_container path ≡ true → lacks_containment triples ≡ true) → states_containment path triples ≡ false
unfolding states_containment
states_none path triples h = by_test (is_container path) refl
  where
    by_test : (b : Bool) → is_container path ≡ b → (b && not (lacks_containment triples)) ≡ false
    by_test true e = ap not (h e)
    by_test false e = refl

pub lacks_from : (path : List ℕ) (triples : List Triple) → states_containment path triples ≡ false → is_container path ≡ true → lacks_containment triples ≡ true
unfolding states_containment
lacks_from path triples h closed = by_test (lacks_containment triples) (sym (ap (λ (b : Bool). b && not (lacks_containment triples)) closed) ∙ h)
  where
    by_test : (b : Bool) → not b ≡ false → b ≡ true
    by_test true e = refl
    by_test false e = absurd cc

-- the same triples as a graph
lacks_graph : (triples : List Triple) → lacks_containment triples ≡ true → lacks_containment (graph_of triples) ≡ true
lacks_graph triples h = all_each is_other (graph_of triples) (λ t c. each_all is_other triples h t (graph_to triples t c))

-- The graph of a new row, after a change that adds no containment.
pub new_graph_lacks : (change : Change) → lacks_containment change.added ≡ true → lacks_containment (changed_graph [] change.removed change.added) ≡ true
new_graph_lacks change h = lacks_graph change.added h

-- ---- patches

-- what the change removes is in the graph
pub removed_held : (g : List Triple) (patch : Patch) (change : Change) → IsChangeOf g patch change → has_triples g change.removed ≡ true
removed_held g patch change c = have_from g change.removed (All-from_members (Contains g) change.removed (λ x h. c.in_graph x ((c.removed x).0 h)))

patch_lacks : (container : Bool) (g : List Triple) (patch : Patch) (change : Change) → KeepsContainment container g patch → IsChangeOf g patch change
    → container ≡ true → lacks_containment change.added ≡ true
patch_lacks container g patch change keeps c closed = all_each is_other change.added (λ t h. by_test t h (term_eq t.p (Iri ldp_contains)) refl)
  where
    by_test : (t : Triple) → Contains change.added t → (b : Bool) → term_eq t.p (Iri ldp_contains) ≡ b → not b ≡ true
    by_test t h false e = refl
    by_test t h true e =
        let instance = (c.added t).0 h in
        let same : t.p ≡ Iri ldp_contains = (term_eq_decides t.p (Iri ldp_contains)).0 e in
        let named : slot_term c.mapping instance.0.p ≡ Some (Iri ldp_contains) = instance.2.p ∙ ap (λ (x : Term). Some x) same in
        absurd (keeps closed (inr (record { mapping = c.mapping; only = c.only; names = inr (instance.0, instance.1, named) })))

-- ---- updates

-- a slot with another term than `ldp:contains`
abbrev is_other_slot : Slot → Bool
is_other_slot (Fixed term) = not (term_eq term (Iri ldp_contains))
is_other_slot (Var name) = false

other_instance : (m : Binding) (slot : Slot) (term : Term) → is_other_slot slot ≡ true → slot_term m slot ≡ Some term → not (term_eq term (Iri ldp_contains)) ≡ true
other_instance m (Fixed fixed) term h e =
    let same : fixed ≡ term = cc in
    ap (λ (x : Term). not (term_eq x (Iri ldp_contains))) (sym same) ∙ h
other_instance m (Var name) term h e = absurd (true≢false (sym h))

unnamed_last : (x : Named) (xs : List Named) (b : Bool) → is_containment x ≡ false → list_all is_other (cond b (x.triple ∷ []) []) ≡ true
unnamed_last x xs true h = and_from (is_other x.triple) true (ap not h) refl
unnamed_last x xs false h = refl

unnamed : (named : List Named) → names_containment named ≡ false → list_all is_other (last_named true named) ≡ true
unnamed [] h = refl
unnamed (x ∷ xs) h =
    let parts = or_parts (is_containment x) (names_containment xs) h in
    list_all-append is_other (last_named true xs) (if_last true x xs)
    ∙ and_from (list_all is_other (last_named true xs)) (list_all is_other (if_last true x xs)) (unnamed xs parts.1)
    (unnamed_last x xs (has_word true x && not (is_named xs x.triple)) parts.0)

update_lacks : (g : List Triple) (named : List Named) (patch : Patch) (change : Change) → names_containment named ≡ false → IsSpelledAt g named patch → IsChangeOf g patch change
    → lacks_containment change.added ≡ true
update_lacks g named patch change h spelled c = all_each is_other change.added (λ t k.
    (let instance = (c.added t).0 k in
    other_instance c.mapping instance.0.p t.p (each_all (λ (pattern : Pattern). is_other_slot pattern.p) patch.insertions.items others instance.0 instance.1) instance.2.p))
  where
    others : list_all (λ (pattern : Pattern). is_other_slot pattern.p) patch.insertions.items ≡ true
    others =
        ap (list_all (λ (pattern : Pattern). is_other_slot pattern.p)) spelled.insertions
        ∙ list_all-map (λ (pattern : Pattern). is_other_slot pattern.p) pattern_of (last_named true named) ∙ unnamed named h

-- ---- both

-- A change of a graph that a body means: what it removes is there, and it adds no containment to a container.
pub record IsRightChange (container : Bool) (g : List Triple) (change : Change) : Type 0 where
  pub removed : has_triples g change.removed ≡ true
  pub lacks : container ≡ true → lacks_containment change.added ≡ true

pub patch_right : (container : Bool) (g : List Triple) (patch : Patch) (change : Change) → IsOutcome container g patch (Ok change) → IsRightChange container g change
patch_right container g patch change h = record {
  removed = removed_held g patch change h.1;
  lacks = patch_lacks container g patch change h.0 h.1;
}

pub update_right : (container : Bool) (g : List Triple) (named : List Named) (change : Change) → IsUpdateOutcome container g named (Ok change) → IsRightChange container g change
update_right container g named change (inl h) = absurd h.1
update_right container g named change (inr h) = record {
  removed = removed_held g h.1.patch change h.1.applied.1;
  lacks = λ closed. by_test closed (names_containment named) refl;
}
  where
    by_test : container ≡ true → (b : Bool) → names_containment named ≡ b → lacks_containment change.added ≡ true
    by_test closed true e = absurd (h.0 (and_from container (names_containment named) closed e))
    by_test closed false e = update_lacks g named h.1.patch change e h.1.spelled h.1.applied.1
