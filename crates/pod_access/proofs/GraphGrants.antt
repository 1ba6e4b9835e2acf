-- The rules of a list are those of its graph, and the URI of what it is about is that of a path.
use Rattle.std.proofs.Common.{◌≡◌, ℕ, Bool, true, false, not, ◌&&◌, ◌||◌, List, [], ◌++◌, length, take, drop, Option, Some, None, Ok, inl, inr, length-append, refl, sym, ap, ◌∙◌, subst, arith}
use Rattle.std.specs.Prelude.{IsTrue, codes, nat_eq, nat_le}
use Rattle.std.specs.List.{list_all, starts_with}
use Rattle.std.proofs.lemmas.Bool.{and_parts, false≢true, or_cases, eqb-true}
use Rattle.std.proofs.lemmas.List.{take-append-drop, append-nil}
use Rattle.std.proofs.lemmas.Slice.Eq.{bytes_eq-Decides}
use Rattle.acl_rules.specs.Rules.{rules_of}
use Rattle.iri_ref.specs.Characters.{Lacks, is_hash}
use Rattle.iri_ref.proofs.Texts.{all_append, all_weaker}
use Rattle.pod_path.specs.Hierarchy.{is_container, without_end, uri_of, IsUriOf, subject_of}
use Rattle.pod_path.specs.Norm.{norm, IsPath}
use Rattle.pod_path.proofs.Ancestors.{uri_back}
use Rattle.pod_path.proofs.LimitLaws.{depth_slashes, slashes_more, smaller_normal}
use Rattle.pod_path.proofs.Names.{ends_is}
use Rattle.pod_path.proofs.NormalPaths.{parts_of, norm_parts, is_path}
use Rattle.pod_path.proofs.Subjects.{subject_path, acl_back}
use Rattle.pod_command.specs.declared.row.Content.{Content}
use Rattle.pod_command.specs.declared.row.Content.TheVariants as contents
use Rattle.pod_command.specs.declared.row.Row.{Row}
use Rattle.pod_rows.specs.Access.{Governs, effective_of, about, list_path, rules_at, rules_of_row, rules_in}
use Rattle.pod_rows.specs.Base.{is_base, is_base_of, is_authority_byte, is_authority_and_slash}
use Rattle.pod_rows.specs.Pod.{Pod, row_at}
use Rattle.pod_rows.specs.View.{own_triples, triples_in}
use Rattle.pod_rows.specs.WellFormed.{WellFormed}
use Rattle.pod_rows.specs.declared.limits.TheConstants.{BASE_BYTES_LIMIT}
use Rattle.pod_access.specs.PodGrants.{list_graph}
use Rattle.pod_access.proofs.GoverningLists.{own_row, row_normal}

no_rules : (base : List ℕ) → [] ≡ rules_of base []
unfolding rules_of
no_rules base = refl

pub rules_of_graph : (pod : Pod) (at : List ℕ) → rules_at pod at ≡ rules_of pod.base (list_graph pod at)
rules_of_graph pod at = by_row (row_at pod.rows (list_path at))
  where
    by_content : (content : Content) → rules_in pod.base content ≡ rules_of pod.base (triples_in content)
    by_content (contents.Graph triples) = refl
    by_content (contents.Bytes ctype bytes) = no_rules pod.base

    by_row : (o : Option Row) → rules_of_row pod.base o ≡ rules_of pod.base (own_triples o)
    by_row None = no_rules pod.base
    by_row (Some row) = by_content row.content

no_hash : (c : ℕ) → IsTrue (is_authority_byte c) → IsTrue (not (is_hash c))
no_hash c h = by_test (is_hash c) refl
  where
    by_test : (b : Bool) → is_hash c ≡ b → IsTrue (not b)
    by_test false e = refl
    by_test true e =
        let is : c ≡ 35 = eqb-true c 35 e in
        absurd (false≢true (subst (λ (x : ℕ). is_authority_byte x ≡ true) is h))

authority_lacks : (text : List ℕ) → IsTrue (is_authority_and_slash text) → Lacks is_hash text
authority_lacks text h =
    let parts = and_parts (nat_le 2 (length text)) (is_container text && list_all is_authority_byte (without_end 1 text)) h in
    let ends = and_parts (is_container text) (list_all is_authority_byte (without_end 1 text)) parts.1 in
    let whole : text ≡ without_end 1 text ++ codes "/" = ends_is text (codes "/") ends.0 in
    subst (Lacks is_hash) (sym whole) (all_append (λ c. not (is_hash c)) (without_end 1 text) (codes "/") (all_weaker is_authority_byte (λ c. not (is_hash c)) no_hash (without_end 1 text) ends.1) refl)

scheme_lacks : (base scheme : List ℕ) → Lacks is_hash scheme → IsTrue (is_base_of base scheme) → Lacks is_hash base
scheme_lacks base scheme lacks h =
    let parts = and_parts (starts_with nat_eq base scheme) (is_authority_and_slash (drop (length scheme) base)) h in
    let same : scheme ≡ take (length scheme) base = (bytes_eq-Decides scheme (take (length scheme) base)).0 parts.0 in
    let whole : base ≡ scheme ++ drop (length scheme) base = sym (take-append-drop (length scheme) base) ∙ ap (λ (x : List ℕ). x ++ drop (length scheme) base) (sym same) in
    subst (Lacks is_hash) (sym whole) (all_append (λ c. not (is_hash c)) scheme (drop (length scheme) base) lacks (authority_lacks (drop (length scheme) base) parts.1))

base_lacks : (base : List ℕ) → IsTrue (is_base base) → Lacks is_hash base
base_lacks base h =
    let parts = and_parts (nat_le (length base) BASE_BYTES_LIMIT) (is_base_of base (codes "http://") || is_base_of base (codes "https://")) h in
    elim (or_cases (is_base_of base (codes "http://")) (is_base_of base (codes "https://")) parts.1) [
      | inl http ↦ scheme_lacks base (codes "http://") refl http
      | inr https ↦ scheme_lacks base (codes "https://") refl https
    ]

-- what governs is a path that can be read
at_normal : (at : List ℕ) → norm (list_path at) ≡ Ok (list_path at) → norm at ≡ Ok at
at_normal at normal =
    let list : IsPath (list_path at) = is_path (list_path at) (norm_parts (list_path at) (list_path at) normal) in
    let path : IsPath at = subject_path (list_path at) at list (acl_back at) in
    smaller_normal at (list_path at) path (omega (arith, length-append at (codes ".acl")))
    (omega (arith, depth_slashes at (parts_of at path).characters, depth_slashes (list_path at) (parts_of (list_path at) list).characters, slashes_more at (codes ".acl"))) normal

pub uri_governs : (pod : Pod) (path : List ℕ) (g : Governs) → WellFormed pod → effective_of pod.rows path ≡ Some g → IsUriOf pod.base (uri_of pod.base g.at) g.at
uri_governs pod path g w h =
    let row = own_row pod.rows (about path (subject_of path)) g h in
    let normal = at_normal g.at (row_normal pod.rows (list_path g.at) w.paths row) in
    subst (λ (u : List ℕ). IsUriOf pod.base u g.at) (append-nil (uri_of pod.base g.at)) (uri_back pod.base g.at None (base_lacks pod.base w.base) normal)
