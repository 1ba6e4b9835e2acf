-- Decisions, and the lines that come of them.
use Rattle.std.proofs.Common.{◌≡◌, ℕ, Bool, true, false, cond, List, [], ◌∷◌, ◌++◌, append-nil, Option, Some, None, refl, sym, ap, ◌∙◌, subst}
use Rattle.std.specs.Prelude.{All, bytes_eq, option_and_then}
use Rattle.std.specs.List.{find}
use Rattle.std.proofs.lemmas.Bool.{and_parts, false≢true}
use Rattle.std.proofs.lemmas.List.Elements.{All-head, All-tail}
use Rattle.std.proofs.lemmas.Slice.Eq.{bytes_eq-Decides}
use Rattle.acl_rules.specs.declared.rule.How.{How}
use Rattle.acl_rules.specs.declared.rule.How.TheVariants.{Own, Inherited}
use Rattle.acl_rules.specs.declared.rule.Rule.{Rule}
use Rattle.pod_access.specs.Bases.{basis_by, basis_of}
use Rattle.pod_access.specs.PodGrants.{membership}
use Rattle.pod_base.specs.declared.agent.Agent.{Agent}
use Rattle.pod_base.specs.declared.agent.Mode.{Mode}
use Rattle.pod_base.specs.declared.agent.Mode.TheVariants.{Read, Write, Append, Control}
use Rattle.pod_command.specs.declared.basis.Basis.{Basis}
use Rattle.pod_rows.specs.Access.{effective_of, governed, list_path, rules_at}
use Rattle.pod_rows.specs.Pod.{Pod}
use Rattle.pod_access.specs.Decision.{basis_at, first_ground}
use Rattle.pod_access.specs.declared.granting_rules.Ground.{Ground}
use Rattle.access_report.specs.Decisions.{IsDecision, how_eq, is_of, lines_by}
use Rattle.access_report.specs.Reports.{line_at, lines_at, need}
use Rattle.access_report.specs.declared.decision.Decision.{Decision}
use Rattle.access_report.specs.declared.line.Line.{Line}

-- the basis of a mode in one list
pub basis_found : (pod : Pod) (agent : Agent) (mode : Mode) (at : List ℕ) (how : How) (rules : List Rule) (ground : Ground) (list : List ℕ) (basis : Basis)
    → rules ≡ rules_at pod at → Some ground ≡ first_ground (membership pod) rules how at agent mode → list ≡ list_path at
    → basis_at rules ground list ≡ Some basis → Some basis ≡ basis_by pod agent mode (governed at how)
basis_found pod agent mode at how rules ground list basis are is path found =
    sym found ∙ (λ i. basis_at (are i) ground (path i))
    ∙ ap (option_and_then (λ (x : Ground). basis_at (rules_at pod at) x (list_path at))) (is ∙ ap (λ (rs : List Rule). first_ground (membership pod) rs how at agent mode) are)

pub no_basis : (pod : Pod) (agent : Agent) (mode : Mode) (at : List ℕ) (how : How) (rules : List Rule)
    → rules ≡ rules_at pod at → None ≡ first_ground (membership pod) rules how at agent mode → None ≡ basis_by pod agent mode (governed at how)
no_basis pod agent mode at how rules are is =
    ap (option_and_then (λ (x : Ground). basis_at (rules_at pod at) x (list_path at))) (is ∙ ap (λ (rs : List Rule). first_ground (membership pod) rs how at agent mode) are)

-- a basis by the list that governs is that of the need
same_basis : (pod : Pod) (agent : Agent) (path at : List ℕ) (how : How) (mode : Mode) (basis : Option Basis) → effective_of pod.rows path ≡ Some (governed at how)
    → basis ≡ basis_by pod agent mode (governed at how) → basis ≡ basis_of pod agent (need path mode)
unfolding basis_of
same_basis pod agent path at how mode basis governs e = e ∙ sym (ap (option_and_then (basis_by pod agent mode)) governs)

-- the lines by the decision of the list that governs
pub lines_decided : (pod : Pod) (agent : Agent) (path : List ℕ) (d : Decision) → IsDecision pod agent d → effective_of pod.rows path ≡ Some (governed d.at d.how)
    → lines_by path d ≡ lines_at pod agent path
lines_decided pod agent path d is governs =
    let r = same_basis pod agent path d.at d.how Read d.read governs is.read in
    let w = same_basis pod agent path d.at d.how Write d.write governs is.write in
    let a = same_basis pod agent path d.at d.how Append d.append governs is.append in
    let c = same_basis pod agent path d.at d.how Control d.control governs is.control in
    (λ i. line_at path Read (r i) ++ (line_at path Write (w i) ++ (line_at path Append (a i) ++ line_at path Control (c i))))
    ∙ ap (λ (l : List Line). line_at path Read (basis_of pod agent (need path Read)) ++ (line_at path Write (basis_of pod agent (need path Write)) ++ (line_at path Append (basis_of pod agent (need path Append)) ++ l)))
    (sym (append-nil (line_at path Control (basis_of pod agent (need path Control)))))

-- what is found is among the decisions, and is that of the list
pub record Found (P : Decision → Type 0) (at : List ℕ) (how : How) (d : Decision) : Type 0 where
  pub holds : P d
  pub at_is : d.at ≡ at
  pub how_is : d.how ≡ how

how_is : (a b : How) → how_eq a b ≡ true → a ≡ b
how_is Own Own e = refl
how_is Own Inherited e = absurd (false≢true e)
how_is Inherited Own e = absurd (false≢true e)
how_is Inherited Inherited e = refl

pub found_decision : (P : Decision → Type 0) (at : List ℕ) (how : How) (ds : List Decision) (d : Decision) → All P ds → Some d ≡ find (is_of at how) ds → Found P at how d
found_decision P at how [] d all e = absurd cc
found_decision P at how (x ∷ xs) d all e = by_test (found_decision P at how xs d (All-tail P x xs all)) (is_of at how x) refl e
  where
    by_test : (Some d ≡ find (is_of at how) xs → Found P at how d) → (b : Bool) → is_of at how x ≡ b → Some d ≡ cond b (Some x) (find (is_of at how) xs) → Found P at how d
    by_test more true t h =
        let same : x ≡ d = cc in
        let parts = and_parts (how_eq x.how how) (bytes_eq x.at at) t in
        subst (Found P at how) same (record {
          holds = All-head P x xs all;
          at_is = (bytes_eq-Decides x.at at).0 parts.1;
          how_is = how_is x.how how parts.0;
        })
    by_test more false t h = more h

-- the list that governs, by what was found
pub governs_found : (pod : Pod) (path at at_2 : List ℕ) (how how_2 : How) → effective_of pod.rows path ≡ Some (governed at how) → at_2 ≡ at → how_2 ≡ how
    → effective_of pod.rows path ≡ Some (governed at_2 how_2)
governs_found pod path at at_2 how how_2 e same same_2 = e ∙ (λ i. Some (governed (sym same i) (sym same_2 i)))
