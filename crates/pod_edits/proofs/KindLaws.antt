-- The kind of a path and a content fits them.
use Rattle.std.proofs.Common.{◌≡◌, ℕ, Bool, true, false, not, cond, ◌||◌, List, refl, ap, ◌∙◌}
use Rattle.std.proofs.lemmas.Bool.{and_parts, and_from, or_parts, not-true}
use Rattle.pod_command.specs.declared.row.Content.{Content}
use Rattle.pod_command.specs.declared.row.Content.TheVariants as contents
use Rattle.pod_command.specs.declared.row.Kind.{Kind}
use Rattle.pod_command.specs.declared.row.Kind.TheVariants as kinds
use Rattle.pod_path.specs.Hierarchy.{is_acl, is_container, is_meta}
use Rattle.rdf_graph.specs.declared.triple.Triple.{Triple}
use Rattle.pod_rows.specs.WellFormed.{fits_kind, is_bytes_content, is_document}
use Rattle.pod_edits.specs.Kinds.{document_kind, kind_of, may_hold}

-- the kind, by the ends of the path
abbrev kind_by : Bool → Bool → Bool → Content → Kind
kind_by a b c content = cond a kinds.Container (cond b kinds.Acl (cond c kinds.Meta (document_kind content)))

kind_is : (path : List ℕ) (content : Content) (a b c : Bool) → is_container path ≡ a → is_acl path ≡ b → is_meta path ≡ c → kind_of path content ≡ kind_by a b c content
unfolding kind_of
kind_is path content a b c ea eb ec =
    ap (λ (x : Bool). kind_by x (is_acl path) (is_meta path) content) ea ∙ ap (λ (x : Bool). kind_by a x (is_meta path) content) eb ∙ ap (λ (x : Bool). kind_by a b x content) ec

document_is : (path : List ℕ) → is_container path ≡ false → is_acl path ≡ false → is_meta path ≡ false → is_document path ≡ true
document_is path ea eb ec = ap (λ (x : Bool). not (x || (is_acl path || is_meta path))) ea ∙ ap (λ (x : Bool). not (x || is_meta path)) eb ∙ ap not ec

graph_fits : (path : List ℕ) (triples : List Triple) (a b c : Bool) → is_container path ≡ a → is_acl path ≡ b → is_meta path ≡ c
    → fits_kind path (kind_by a b c (contents.Graph triples)) (contents.Graph triples) ≡ true
graph_fits path triples true b c ea eb ec = and_from (is_container path) true ea refl
graph_fits path triples false true c ea eb ec = and_from (is_acl path) true eb refl
graph_fits path triples false false true ea eb ec = and_from (is_meta path) true ec refl
graph_fits path triples false false false ea eb ec = and_from (is_document path) true (document_is path ea eb ec) refl

pub kind_fits : (path : List ℕ) (content : Content) → may_hold path content ≡ true → fits_kind path (kind_of path content) content ≡ true
kind_fits path (contents.Graph triples) h =
    ap (λ (k : Kind). fits_kind path k (contents.Graph triples)) (kind_is path (contents.Graph triples) (is_container path) (is_acl path) (is_meta path) refl refl refl)
    ∙ graph_fits path triples (is_container path) (is_acl path) (is_meta path) refl refl refl
kind_fits path (contents.Bytes ctype bytes) h =
    let document = (and_parts (is_document path) (is_bytes_content (contents.Bytes ctype bytes)) h).0 in
    let ends = or_parts (is_container path) (is_acl path || is_meta path) (not-true (is_container path || (is_acl path || is_meta path)) document) in
    let more = or_parts (is_acl path) (is_meta path) ends.1 in
    ap (λ (k : Kind). fits_kind path k (contents.Bytes ctype bytes)) (kind_is path (contents.Bytes ctype bytes) false false false ends.0 more.0 more.1) ∙ h
