-- The owner keeps Control of the root.
use Rattle.std.proofs.Common.{◌≡◌, ◌⊎◌, ℕ, Bool, true, false, cond, ◌&&◌, List, [], ◌∷◌, ◌++◌, Option, Some, None, inl, inr, refl, sym, ap, subst, ◌∙◌}
use Rattle.std.specs.Prelude.{IsTrue, codes, is_some}
use Rattle.std.specs.List.{Contains, find}
use Rattle.std.proofs.lemmas.Bool.{and_parts, false≢true}
use Rattle.std.proofs.lemmas.List.{append-nil}
use Rattle.acl_rules.specs.Rules.{is_of, is_rule_statement}
use Rattle.acl_rules.specs.Statements.{States, IsRule, statement}
use Rattle.acl_rules.specs.Vocabulary.{acl_access_to, acl_agent, acl_authorization, acl_control, acl_mode, rdf_type}
use Rattle.acl_rules.specs.declared.rule.How.TheVariants.{Own}
use Rattle.pod_access.specs.Bases.{basis_of, bases_of, with_basis}
use Rattle.pod_access.specs.PodGrants.{GrantsBy, PodGrants, list_graph, membership}
use Rattle.pod_base.specs.declared.agent.Agent.TheVariants.{Known}
use Rattle.pod_base.specs.declared.agent.Mode.TheVariants.{Control}
use Rattle.pod_command.specs.declared.basis.Basis.{Basis}
use Rattle.pod_command.specs.declared.row.Content.{Content}
use Rattle.pod_command.specs.declared.row.Content.TheVariants as contents
use Rattle.pod_command.specs.declared.row.Row.{Row}
use Rattle.pod_path.specs.Hierarchy.{is_acl, root, subject_of}
use Rattle.pod_rows.specs.Access.{effective_of, governed, has_own_list, inherited}
use Rattle.pod_rows.specs.Tree.{ancestors}
use Rattle.pod_rows.specs.Guard.{gives_control, guards, has_value, is_guard}
use Rattle.pod_rows.specs.Pod.{Pod, row_at}
use Rattle.pod_rows.specs.View.{own_triples, triples_in}
use Rattle.pod_rows.specs.WellFormed.{WellFormed, guards_content, guards_row, has_first_rows, is_container_row}
use Rattle.pod_rows.proofs.Sets.{has_to}
use Rattle.rdf_graph.specs.Term.{term_eq}
use Rattle.rdf_graph.specs.TermLaws.{term_eq_decides}
use Rattle.rdf_graph.specs.declared.term.Term.TheVariants.{Iri}
use Rattle.rdf_graph.specs.declared.triple.Triple.{Triple}
use Rattle.pod_access.specs.Grants.{Grants}
use Rattle.pod_access.specs.Needs.{all_needs, description_needs, each_once, is_options, needs_of, on, tag_modes}
use Rattle.pod_access.specs.declared.request_needs.Need.{Need}
use Rattle.pod_access.specs.declared.request_needs.Shape.{Shape}
use Rattle.pod_access.proofs.Positions.{any_passes}
use Rattle.access_laws.proofs.Granted.{bases}

-- ---- Control of the root

-- a triple that says that its subject is a rule
rule_of_statement : (g : List Triple) (t : Triple) → Contains g t → is_rule_statement t ≡ true → IsRule g t.s
rule_of_statement g t h e =
    let parts = and_parts (is_of rdf_type t) (term_eq t.o (Iri acl_authorization)) e in
    let property : t.p ≡ Iri rdf_type = (term_eq_decides t.p (Iri rdf_type)).0 parts.0 in
    let object : t.o ≡ Iri acl_authorization = (term_eq_decides t.o (Iri acl_authorization)).0 parts.1 in
    subst (Contains g) (λ i. record { s = t.s; p = property i; o = object i }) h

-- what the guard finds grants the owner Control
guard_grants : (pod : Pod) (g : List Triple) → guards pod.base pod.owner g ≡ true → Grants (membership pod) pod.base g Own root (Known pod.owner) Control
guard_grants pod g h =
    let found = any_passes (is_guard pod.base pod.owner g) g h in
    let t = found.at in
    let one = and_parts (is_rule_statement t) (gives_control pod.base pod.owner g t.s) found.passes in
    let two = and_parts (has_value g t.s acl_access_to pod.base) (has_value g t.s acl_mode acl_control && has_value g t.s acl_agent pod.owner) one.1 in
    let three = and_parts (has_value g t.s acl_mode acl_control) (has_value g t.s acl_agent pod.owner) two.1 in
    let place : States g t.s acl_access_to pod.base = has_to g (statement t.s acl_access_to pod.base) two.0 in (
      t.s,
      record {
        rule = rule_of_statement g t found.member one.0;
        place = subst (States g t.s acl_access_to) (sym (append-nil pod.base)) place;
        grants = (Control, has_to g (statement t.s acl_mode acl_control) three.0, refl);
        covers = inr (inr (inl (has_to g (statement t.s acl_agent pod.owner) three.1)));
      },
    )

content_grants : (pod : Pod) (content : Content) → guards_content pod content ≡ true → Grants (membership pod) pod.base (triples_in content) Own root (Known pod.owner) Control
content_grants pod (contents.Graph triples) h = guard_grants pod triples h
content_grants pod (contents.Bytes ctype bytes) h = absurd (false≢true h)

-- the root has a list of its own
root_governs : (rows : List Row) (row : Row) → row_at rows (codes "/.acl") ≡ Some row → effective_of rows root ≡ Some (governed root Own)
root_governs rows row e =
    let own : has_own_list rows root ≡ true = ap is_some e in
    ap (λ b. cond b (Some (governed root Own)) (inherited (find (has_own_list rows) (ancestors root)))) own

pub owner_controls : (pod : Pod) → WellFormed pod → PodGrants pod (Known pod.owner) root Control
unfolding has_first_rows
owner_controls pod w =
    by_row (row_at pod.rows (codes "/.acl")) refl (and_parts (is_container_row (row_at pod.rows root)) (guards_row pod (row_at pod.rows (codes "/.acl"))) w.first_rows).1
  where
    by_row : (o : Option Row) → row_at pod.rows (codes "/.acl") ≡ o → guards_row pod o ≡ true → PodGrants pod (Known pod.owner) root Control
    by_row None e h = absurd (false≢true h)
    by_row (Some row) e h =
        let g : list_graph pod root ≡ triples_in row.content = ap own_triples e in
        subst (GrantsBy pod (Known pod.owner) Control) (sym (root_governs pod.rows row e))
        (subst (λ (x : List Triple). Grants (membership pod) pod.base x Own root (Known pod.owner) Control) (sym g) (content_grants pod row.content h))

-- ---- the needs of a request for the root's list

abbrev control : Need
control = record { path = root; mode = Control }

-- nothing, or Control of the root
list_needs : (shape : Shape) → shape.path ≡ codes "/.acl" → (needs_of shape ≡ []) ⊎ (needs_of shape ≡ control ∷ [])
list_needs shape e = by_method (is_options shape.method) refl
  where
    all : all_needs shape (subject_of shape.path) ≡ control ∷ []
    all = ap (λ (path : List ℕ). all_needs shape (subject_of path)) e
        ∙ ap (λ (path : List ℕ). cond (is_acl path) (control ∷ []) (description_needs shape.method shape root ++ on root (tag_modes shape))) e

    by_method : (b : Bool) → is_options shape.method ≡ b → (needs_of shape ≡ []) ⊎ (needs_of shape ≡ control ∷ [])
    by_method true is = inl (ap (λ b. cond b [] (each_once (all_needs shape (subject_of shape.path)))) is)
    by_method false is = inr (ap (λ b. cond b [] (each_once (all_needs shape (subject_of shape.path)))) is ∙ ap each_once all)

one_basis : (o : Option Basis) → is_some o ≡ true → IsTrue (is_some (with_basis o (Some [])))
one_basis None h = absurd (false≢true h)
one_basis (Some basis) h = refl

pub owner_changes : (pod : Pod) (shape : Shape) → WellFormed pod → shape.path ≡ codes "/.acl" → IsTrue (is_some (bases_of pod (Known pod.owner) (needs_of shape)))
owner_changes pod shape w e = by_needs (list_needs shape e)
  where
    by_needs : (needs_of shape ≡ []) ⊎ (needs_of shape ≡ control ∷ []) → IsTrue (is_some (bases_of pod (Known pod.owner) (needs_of shape)))
    by_needs (inl none) = subst (λ (needs : List Need). IsTrue (is_some (bases_of pod (Known pod.owner) needs))) (sym none) refl
    by_needs (inr one) =
        subst (λ (needs : List Need). IsTrue (is_some (bases_of pod (Known pod.owner) needs))) (sym one)
        (one_basis (basis_of pod (Known pod.owner) control) ((bases pod (Known pod.owner) control w).1 (owner_controls pod w)))
