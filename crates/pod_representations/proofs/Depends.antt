-- What a representation depends on.
use Rattle.std.proofs.Common.{◌≡◌, ℕ, Bool, true, false, cond, List, [], ◌∷◌, ◌++◌, map, Some, sym, ap, ap₂, ◌∙◌}
use Rattle.conditional_req.specs.Conditions.{needs_read}
use Rattle.conditional_req.specs.Verdicts.{validators, verdict}
use Rattle.conditional_req.proofs.VerdictLemmas.{ignores_state}
use Rattle.pod_base.specs.declared.field.Field.{Field}
use Rattle.pod_base.specs.declared.method.Method.{Method}
use Rattle.pod_command.specs.declared.row.Content.TheVariants as contents
use Rattle.pod_command.specs.declared.row.Row.{Row}
use Rattle.pod_path.specs.Hierarchy.{uri_of}
use Rattle.pod_rows.specs.GraphSets.{graph_of}
use Rattle.pod_rows.specs.Pod.{Pod}
use Rattle.pod_rows.specs.View.{own_triples, triples_in, type_triples, contains_triples, view_of}
use Rattle.pod_rows.specs.WellFormed.{is_container_kind}
use Rattle.rdf_graph.specs.declared.triple.Triple.{Triple}
use Rattle.pod_representations.specs.Laws.{AgreeAt}
use Rattle.pod_representations.specs.Offers.{offers, offers_of}
use Rattle.pod_representations.specs.Preconditions.{change_verdict, offered_tags, offered_validators}
use Rattle.pod_representations.specs.Representations.{graph_shown, represented, content_as, graph_as, bytes_as, graph_tag, bytes_tag}
use Rattle.pod_representations.specs.declared.row_offers.Media.{Media}
use Rattle.pod_representations.specs.declared.row_offers.Media.TheVariants.{Turtle, JsonLd, Stored}
use Rattle.pod_representations.specs.declared.representation.Shown.{Shown}

-- the graph of a container, and of another row
pub container_graph : (pod : Pod) (row : Row) → is_container_kind row.kind ≡ true → graph_shown pod row ≡ view_of pod row.path
unfolding graph_shown
container_graph pod row h = ap (λ (b : Bool). cond b (view_of pod row.path) (triples_in row.content)) h

pub own_graph : (pod : Pod) (row : Row) → is_container_kind row.kind ≡ false → graph_shown pod row ≡ triples_in row.content
unfolding graph_shown
own_graph pod row h = ap (λ (b : Bool). cond b (view_of pod row.path) (triples_in row.content)) h

-- a representation by the graph of its row
pub by_graph : (pod : Pod) (row : Row) (media : Media) (own triples : List Triple) → row.content ≡ contents.Graph own
    → graph_shown pod row ≡ triples → represented pod row media ≡ graph_as media triples row.modified
unfolding represented
by_graph pod row media own triples is shows = λ i. content_as (is i) (shows i) media row.modified

pub by_bytes : (pod : Pod) (row : Row) (media : Media) (ctype bytes : List ℕ) → row.content ≡ contents.Bytes ctype bytes
    → represented pod row media ≡ bytes_as ctype bytes row.modified
unfolding represented
by_bytes pod row media ctype bytes is = ap (λ c. content_as c (graph_shown pod row) media row.modified) is

-- the tags of the offers of a graph, and of bytes
pub graph_tags : (pod : Pod) (row : Row) (own triples : List Triple) → row.content ≡ contents.Graph own
    → graph_shown pod row ≡ triples → offered_tags pod row ≡ graph_tag Turtle triples ∷ graph_tag JsonLd triples ∷ []
graph_tags pod row own triples is shows =
    ap (λ c. map (λ (m : Media). (represented pod row m).tag) (offers_of c)) is
    ∙ ap₂ (λ (s t : Shown). s.tag ∷ t.tag ∷ []) (by_graph pod row Turtle own triples is shows) (by_graph pod row JsonLd own triples is shows)

pub bytes_tags : (pod : Pod) (row : Row) (ctype bytes : List ℕ) → row.content ≡ contents.Bytes ctype bytes
    → offered_tags pod row ≡ bytes_tag ctype bytes ∷ []
bytes_tags pod row ctype bytes is =
    ap (λ c. map (λ (m : Media). (represented pod row m).tag) (offers_of c)) is
    ∙ ap (λ (s : Shown). s.tag ∷ []) (by_bytes pod row Stored ctype bytes is)

-- ---- laws

same_shown : (p q : Pod) (row : Row) (media : Media) → graph_shown p row ≡ graph_shown q row → represented p row media ≡ represented q row media
unfolding represented
same_shown p q row media e = ap (λ (ts : List Triple). content_as row.content ts media row.modified) e

pub shows_row_alone : (p q : Pod) (row : Row) (media : Media) → is_container_kind row.kind ≡ false → represented p row media ≡ represented q row media
shows_row_alone p q row media h = same_shown p q row media (own_graph p row h ∙ sym (own_graph q row h))

same_view : (p q : Pod) (path : List ℕ) → AgreeAt p q path → view_of p path ≡ view_of q path
same_view p q path a = λ i. graph_of (own_triples (a.row i) ++ (type_triples (uri_of (a.base i) path) ++ contains_triples (a.base i) path (a.children i)))

same_graph : (p q : Pod) (row : Row) → AgreeAt p q row.path → graph_shown p row ≡ graph_shown q row
unfolding graph_shown
same_graph p q row a = ap (λ (v : List Triple). cond (is_container_kind row.kind) v (triples_in row.content)) (same_view p q row.path a)

pub shows_alike : (p q : Pod) (row : Row) (media : Media) → AgreeAt p q row.path → represented p row media ≡ represented q row media
shows_alike p q row media a = same_shown p q row media (same_graph p q row a)

pub judge_alike : (p q : Pod) (row : Row) (fields : List Field) (method : Method) → AgreeAt p q row.path
    → change_verdict p (Some row) fields method ≡ change_verdict q (Some row) fields method
unfolding change_verdict
judge_alike p q row fields method a =
    λ i. verdict fields method (Some (validators (map (λ (m : Media). (shows_alike p q row m a i).tag) (offers row)) row.modified.0))

pub judge_unread : (p q : Pod) (row other : Row) (fields : List Field) (method : Method) → needs_read fields ≡ false
    → change_verdict p (Some row) fields method ≡ change_verdict q (Some other) fields method
unfolding change_verdict
judge_unread p q row other fields method h = ignores_state fields h method (offered_validators p row) (offered_validators q other)
