-- The basis of a need, by the access list that governs its path.
use Rattle.std.proofs.Common.{◌≡◌, ℕ, ◌<◌, true, List, [], ◌∷◌, ◌++◌, length, Option, Some, None, refl, sym, ap, ◌∙◌, subst, append_assoc, arith, inl, inr}
use Rattle.std.specs.Prelude.{is_some, option_and_then, slice_get, IfSome}
use Rattle.std.proofs.lemmas.Option.{slice_get_cases}
use Rattle.acl_rules.specs.declared.rule.How.{How}
use Rattle.acl_rules.specs.declared.rule.Rule.{Rule}
use Rattle.acl_rules.specs.declared.rule.Subject.{Subject}
use Rattle.pod_base.specs.declared.agent.Agent.{Agent}
use Rattle.pod_command.specs.declared.basis.Basis.{Basis}
use Rattle.pod_access.specs.Decision.{basis_at, basis_in, subjects_at, subjects_of}
use Rattle.pod_access.specs.declared.granting_rules.Ground.{Ground}
use Rattle.pod_access.specs.declared.request_needs.Need.{Need}
use Rattle.pod_rows.specs.Access.{Governs, governed, effective_of, list_path, rules_at}
use Rattle.pod_rows.specs.Pod.{Pod}
use Rattle.pod_access.specs.Bases.{ground_by, basis_by, basis_of, bases_of, with_basis}

-- by the list that governs, whose ground it is
by_list : (pod : Pod) (agent : Agent) (need : Need) (at : List ℕ) (how : How) (ground : Option Ground)
    → effective_of pod.rows need.path ≡ Some (governed at how)
    → ground ≡ ground_by pod agent need.mode (governed at how)
    → option_and_then (λ (x : Ground). basis_at (rules_at pod at) x (list_path at)) ground ≡ basis_of pod agent need
unfolding basis_of
by_list pod agent need at how ground governs is =
    ap (option_and_then (λ (x : Ground). basis_at (rules_at pod at) x (list_path at))) is
    ∙ sym (ap (option_and_then (basis_by pod agent need.mode)) governs)

pub some_basis : (pod : Pod) (agent : Agent) (need : Need) (at : List ℕ) (how : How) (rules : List Rule) (ground : Ground) (list : List ℕ) (basis : Basis)
    → effective_of pod.rows need.path ≡ Some (governed at how) → rules ≡ rules_at pod at
    → Some ground ≡ ground_by pod agent need.mode (governed at how) → list ≡ list_path at
    → basis_at rules ground list ≡ Some basis → Some basis ≡ basis_of pod agent need
some_basis pod agent need at how rules ground list basis governs are is path found =
    sym found ∙ (λ i. basis_at (are i) ground (path i)) ∙ by_list pod agent need at how (Some ground) governs is

pub no_basis : (pod : Pod) (agent : Agent) (need : Need) (at : List ℕ) (how : How)
    → effective_of pod.rows need.path ≡ Some (governed at how)
    → None ≡ ground_by pod agent need.mode (governed at how) → None ≡ basis_of pod agent need
no_basis pod agent need at how governs is = by_list pod agent need at how None governs is

within : {X : Type 0} (xs : List X) (i : ℕ) → i < length xs → (x : X) × (slice_get xs i ≡ Some x)
within xs i h = elim (slice_get_cases xs i).1 [ inl c ↦ (c.0, c.2) | inr c ↦ absurd (omega (arith, h, c.0)) ]

pub has_basis : (pod : Pod) (agent : Agent) (need : Need) (at : List ℕ) (how : How) (rules : List Rule) (ground : Option Ground)
    → effective_of pod.rows need.path ≡ Some (governed at how) → rules ≡ rules_at pod at
    → ground ≡ ground_by pod agent need.mode (governed at how)
    → IfSome ground (λ g. g.rule < length rules) → IfSome ground (λ g. g.subject < length (subjects_at rules g.rule))
    → is_some ground ≡ is_some (basis_of pod agent need)
has_basis pod agent need at how rules None governs are is rule subject = ap is_some (by_list pod agent need at how None governs is)
has_basis pod agent need at how rules (Some g) governs are is rule subject =
    let r = within rules g.rule rule in
    let s = within (subjects_at rules g.rule) g.subject subject in
    let named : slice_get r.0.subjects g.subject ≡ Some s.0 = subst (λ (o : Option Rule). slice_get (subjects_of o) g.subject ≡ Some s.0) r.1 s.1 in
    let found : is_some (basis_at rules g (list_path at)) ≡ true =
    ap (λ (o : Option Rule). is_some (option_and_then (λ (x : Rule). basis_in x (list_path at) (slice_get x.subjects g.subject)) o)) r.1
    ∙ ap (λ (o : Option Subject). is_some (basis_in r.0 (list_path at) o)) named in
    sym found ∙ ap (λ (rs : List Rule). is_some (basis_at rs g (list_path at))) are ∙ ap is_some (by_list pod agent need at how (Some g) governs is)

-- the path of the list, in the words of a caller
pub of_governed : (pod : Pod) (path list at : List ℕ) (how : How) → effective_of pod.rows path ≡ Some (governed at how)
    → IfSome (effective_of pod.rows path) (λ (g : Governs). list ≡ list_path g.at) → list ≡ list_path at
of_governed pod path list at how e h = subst (λ (o : Option Governs). IfSome o (λ (g : Governs). list ≡ list_path g.at)) e h

pub if_governed : (pod : Pod) (path list at : List ℕ) (how : How) → effective_of pod.rows path ≡ Some (governed at how)
    → list ≡ list_path at → IfSome (effective_of pod.rows path) (λ (g : Governs). list ≡ list_path g.at)
if_governed pod path list at how e h = subst (λ (o : Option Governs). IfSome o (λ (g : Governs). list ≡ list_path g.at)) (sym e) h

-- bases of needs, with those of the needs before them
abbrev pub prepended : List Basis → Option (List Basis) → Option (List Basis)
prepended before None = None
prepended before (Some bases) = Some (before ++ bases)

pub none_before : (pod : Pod) (agent : Agent) (before : List Basis) (need : Need) (needs : List Need) → None ≡ basis_of pod agent need
    → prepended before (bases_of pod agent (need ∷ needs)) ≡ None
none_before pod agent before need needs h = ap (λ (o : Option Basis). prepended before (with_basis o (bases_of pod agent needs))) (sym h)

pub one_more : (pod : Pod) (agent : Agent) (before : List Basis) (need : Need) (needs : List Need) (basis : Basis) → Some basis ≡ basis_of pod agent need
    → prepended before (bases_of pod agent (need ∷ needs)) ≡ prepended (before ++ basis ∷ []) (bases_of pod agent needs)
one_more pod agent before need needs basis h =
    ap (λ (o : Option Basis). prepended before (with_basis o (bases_of pod agent needs))) (sym h) ∙ joined (bases_of pod agent needs)
  where
    joined : (o : Option (List Basis)) → prepended before (with_basis (Some basis) o) ≡ prepended (before ++ basis ∷ []) o
    joined None = refl
    joined (Some bases) = ap (λ (l : List Basis). Some l) (sym (append_assoc before (basis ∷ []) bases))

pub prepended_none : (o : Option (List Basis)) → prepended [] o ≡ o
prepended_none None = refl
prepended_none (Some bases) = refl
