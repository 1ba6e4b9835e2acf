-- What is among the needs of a request is granted where they have bases, and what is readable isn't hidden.
use Rattle.std.proofs.Common.{◌≡◌, ◌⊎◌, ℕ, Bool, true, false, cond, ◌||◌, List, [], ◌∷◌, ◌++◌, fold, Option, Some, None, refl, sym, ap, ◌∙◌, subst, inl, inr, ⊎_elim}
use Rattle.std.specs.Prelude.{bytes_eq, codes, is_some, option_and_then}
use Rattle.std.specs.List.{Contains, list_any}
use Rattle.std.proofs.lemmas.Bool.{and_parts, false≢true, true≢false}
use Rattle.std.proofs.lemmas.Slice.Eq.{bytes_eq-Decides}
use Rattle.std.proofs.lemmas.List.Elements.{Contains-append_left, Contains-append_right}
use Rattle.acl_rules.specs.declared.rule.Rule.{Rule}
use Rattle.pod_access.proofs.GraphGrants.{rules_of_graph, uri_governs}
use Rattle.pod_access.specs.Bases.{bases_of, basis_by, basis_of, ground_by, with_basis}
use Rattle.pod_access.specs.PodGrants.{GrantsBy, PodGrants, list_graph, membership}
use Rattle.pod_base.specs.declared.agent.Agent.{Agent}
use Rattle.pod_base.specs.declared.agent.Mode.{Mode}
use Rattle.pod_base.specs.declared.agent.Mode.TheVariants.{Read, Append, Write, Control}
use Rattle.pod_command.specs.declared.basis.Basis.{Basis}
use Rattle.pod_path.proofs.Subjects.{acl_undone, meta_undone}
use Rattle.pod_path.specs.Hierarchy.{is_acl, is_auxiliary, is_meta, subject_of, without_end}
use Rattle.pod_path.specs.Norm.{IsPath}
use Rattle.pod_rows.specs.Access.{Governs, about, effective_of, governs}
use Rattle.pod_rows.specs.Pod.{Pod, row_at}
use Rattle.pod_rows.specs.WellFormed.{WellFormed}
use Rattle.rdf_graph.proofs.Members.{contains_cases, contains_here, contains_none}
use Rattle.reply_laws.specs.Alike.{Alike}
use Rattle.pod_access.proofs.Granting.{some_is_granted}
use Rattle.pod_access.proofs.Positions.{any_passes}
use Rattle.pod_access.specs.Decision.{first_ground}
use Rattle.pod_access.specs.Needs.{each_once, mode_eq, need_eq, with_need}
use Rattle.pod_access.specs.declared.request_needs.Need.{Need}

-- ---- a need stands among the needs, each once

mode_same : (a b : Mode) → mode_eq a b ≡ true → a ≡ b
mode_same Read Read h = refl
mode_same Read Append h = absurd (false≢true h)
mode_same Read Write h = absurd (false≢true h)
mode_same Read Control h = absurd (false≢true h)
mode_same Append Read h = absurd (false≢true h)
mode_same Append Append h = refl
mode_same Append Write h = absurd (false≢true h)
mode_same Append Control h = absurd (false≢true h)
mode_same Write Read h = absurd (false≢true h)
mode_same Write Append h = absurd (false≢true h)
mode_same Write Write h = refl
mode_same Write Control h = absurd (false≢true h)
mode_same Control Read h = absurd (false≢true h)
mode_same Control Append h = absurd (false≢true h)
mode_same Control Write h = absurd (false≢true h)
mode_same Control Control h = refl

need_same : (a b : Need) → need_eq a b ≡ true → a ≡ b
need_same a b h =
    let parts = and_parts (mode_eq a.mode b.mode) (bytes_eq a.path b.path) h in
    let path_is : a.path ≡ b.path = (bytes_eq-Decides a.path b.path).0 parts.1 in
    let mode_is : a.mode ≡ b.mode = mode_same a.mode b.mode parts.0 in
    λ i. record { path = path_is i; mode = mode_is i }

kept : (needs : List Need) (need other : Need) → Contains needs other → Contains (with_need needs need) other
kept needs need other h = by_test (list_any (need_eq need) needs)
  where
    by_test : (b : Bool) → Contains (cond b needs (needs ++ need ∷ [])) other
    by_test true = h
    by_test false = Contains-append_left needs (need ∷ []) other h

added : (needs : List Need) (need : Need) → Contains (with_need needs need) need
added needs need = by_test (list_any (need_eq need) needs) refl
  where
    by_test : (b : Bool) → list_any (need_eq need) needs ≡ b → Contains (cond b needs (needs ++ need ∷ [])) need
    by_test true e =
        let one = any_passes (need_eq need) needs e in
        subst (Contains needs) (sym (need_same need one.at one.passes)) one.member
    by_test false e = Contains-append_right needs (need ∷ []) need (contains_here need [])

folded : (before needs : List Need) (need : Need) → Contains before need ⊎ Contains needs need → Contains (fold with_need before needs) need
folded before [] need h = ⊎_elim (λ old. old) (λ none. absurd (contains_none need none)) h
folded before (first ∷ needs) need h =
    folded (with_need before first) needs need
    (⊎_elim (λ old. inl (kept before first need old))
    (λ new. ⊎_elim (λ same. inl (subst (Contains (with_need before first)) same (added before first))) (λ more. inr more) (contains_cases first needs need new)) h)

pub once : (needs : List Need) (need : Need) → Contains needs need → Contains (each_once needs) need
once needs need h = folded [] needs need (inr h)

-- ---- each need of which there is a basis is granted

pub granted : (pod : Pod) (agent : Agent) (needs : List Need) (bases : List Basis) (need : Need) → bases_of pod agent needs ≡ Some bases
    → Contains needs need → is_some (basis_of pod agent need) ≡ true
granted pod agent [] bases need h member = absurd (contains_none need member)
granted pod agent (first ∷ needs) bases need h member =
    by_first (λ more e later. granted pod agent needs more need e later) (basis_of pod agent first) refl (bases_of pod agent needs) refl h
  where
    by_first : ((more : List Basis) → bases_of pod agent needs ≡ Some more → Contains needs need → is_some (basis_of pod agent need) ≡ true)
        → (o : Option Basis) → basis_of pod agent first ≡ o → (rest : Option (List Basis)) → bases_of pod agent needs ≡ rest → with_basis o rest ≡ Some bases
        → is_some (basis_of pod agent need) ≡ true
    by_first rest_of None e rest er g = absurd cc
    by_first rest_of (Some basis) e None er g = absurd cc
    by_first rest_of (Some basis) e (Some more) er g =
        ⊎_elim
        (λ same. ap (λ (n : Need). is_some (basis_of pod agent n)) (sym same) ∙ ap is_some e)
        (λ later. rest_of more er later)
        (contains_cases first needs need member)

some_before : {X Y : Type 0} (f : X → Option Y) (o : Option X) → is_some (option_and_then f o) ≡ true → is_some o ≡ true
some_before f None h = absurd (false≢true h)
some_before f (Some x) h = refl

pub grants : (pod : Pod) (agent : Agent) (need : Need) → WellFormed pod → is_some (basis_of pod agent need) ≡ true → PodGrants pod agent need.path need.mode
unfolding basis_of
grants pod agent need w h = by_list (effective_of pod.rows need.path) refl h
  where
    by_list : (o : Option Governs) → effective_of pod.rows need.path ≡ o → is_some (option_and_then (basis_by pod agent need.mode) o) ≡ true → GrantsBy pod agent need.mode o
    by_list None e g = absurd (false≢true g)
    by_list (Some list) e g =
        (some_is_granted (membership pod) pod.base (list_graph pod list.at) list.how list.at agent need.mode (uri_governs pod need.path list w e)).0
        (subst (λ (rules : List Rule). is_some (first_ground (membership pod) rules list.how list.at agent need.mode) ≡ true) (rules_of_graph pod list.at)
        (some_before _ (ground_by pod agent need.mode list) g))

-- ---- who may read a path is who may read what it is about

pub subject_alone : (path subject : List ℕ) → IsPath path → subject_of path ≡ Some subject → subject_of subject ≡ None
subject_alone path subject is h = by_kind (is_acl path) refl (is_meta path) refl
  where
    alone : is_auxiliary subject ≡ false → subject_of subject ≡ None
    alone e =
        let parts = or_parts (is_acl subject) (is_meta subject) e in
        λ i. cond (parts.0 i) (Some (without_end 4 subject)) (cond (parts.1 i) (Some (without_end 5 subject)) None)
      where
        or_parts : (a b : Bool) → (a || b) ≡ false → (a ≡ false) × (b ≡ false)
        or_parts true b g = absurd (true≢false g)
        or_parts false b g = (refl, g)

    unless_auxiliary : (b : Bool) (x : List ℕ) → cond b None (Some x) ≡ Some path → b ≡ false
    unless_auxiliary true x g = absurd cc
    unless_auxiliary false x g = refl

    by_kind : (a : Bool) → is_acl path ≡ a → (b : Bool) → is_meta path ≡ b → subject_of subject ≡ None
    by_kind true e b f = alone (unless_auxiliary (is_auxiliary subject) (subject ++ codes ".acl") (acl_undone path subject is e h))
    by_kind false e true f = alone (unless_auxiliary (is_auxiliary subject) (subject ++ codes ".meta") (meta_undone path subject is f h))
    by_kind false e false f = absurd (none_is (sym h ∙ (λ i. cond (e i) (Some (without_end 4 path)) (cond (f i) (Some (without_end 5 path)) None))))
      where
        none_is : Some subject ≡ None → ⊥
        none_is g = absurd cc

-- the path that a request of a path is judged on
abbrev pub judged_on : List ℕ → List ℕ
judged_on path = about path (subject_of path)

pub same_governs : (pod : Pod) (path : List ℕ) → IsPath path → effective_of pod.rows (judged_on path) ≡ effective_of pod.rows path
same_governs pod path is = by_subject (subject_of path) refl
  where
    by_subject : (o : Option (List ℕ)) → subject_of path ≡ o → governs pod.rows (about (about path o) (subject_of (about path o))) ≡ governs pod.rows (about path o)
    by_subject None e = ap (λ (o : Option (List ℕ)). governs pod.rows (about path o)) e
    by_subject (Some subject) e = ap (λ (o : Option (List ℕ)). governs pod.rows (about subject o)) (subject_alone path subject is e)

-- ---- what may be read is the same in both pods

pub read_is_same : (agent : Agent) (p q : Pod) → Alike agent p q → WellFormed p → (path : List ℕ) → IsPath path
    → is_some (basis_of p agent (record { path = judged_on path; mode = Read })) ≡ true → row_at p.rows path ≡ row_at q.rows path
read_is_same agent p q alike w path is h =
    ⊎_elim
    (λ same. same)
    (λ hidden. absurd (hidden.0.unread
    (subst (GrantsBy p agent Read) (same_governs p path is) (grants p agent (record { path = judged_on path; mode = Read }) w h))))
    (alike.rows path)

pub list_is_same : (agent : Agent) (p q : Pod) → Alike agent p q → (path : List ℕ) → is_acl path ≡ true → row_at p.rows path ≡ row_at q.rows path
list_is_same agent p q alike path h =
    ⊎_elim (λ same. same) (λ hidden. absurd (true≢false (sym h ∙ hidden.0.no_list))) (alike.rows path)
