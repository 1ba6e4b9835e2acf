use Rattle.std.proofs.Common.{◌≡◌, ℕ, List, subst}
use Rattle.std.specs.Prelude.{IsTrue, ◌↔◌, is_some}
use Rattle.acl_rules.specs.Rules.{rules_of}
use Rattle.pod_path.specs.Hierarchy.{uri_of, IsUriOf}
use Rattle.rdf_graph.specs.declared.triple.Triple.{Triple}
use Rattle.pod_access.specs.Grants.{Grants, Membership}
use Rattle.pod_access.specs.PodGrants.{membership}
use Rattle.pod_access.proofs.granted_needs.ground_in.Goals as goal

pub returns-clause-grants : goal.returns-clause-grants
returns-clause-grants g c =
    let same : g.S.Groups.is_member c.args.state.now ≡ membership (g.S.PodState.pod c.args.state.now) =
    λ i doc group agent. g.met.S.PodState.members_are c.args.state.now doc group agent i in
    subst (λ (m : Membership). (base : List ℕ) (t : List Triple) → c.args.rules.now.list ≡ rules_of base t → IsUriOf base (uri_of base c.args.at.now) c.args.at.now
    → IsTrue (is_some c.granted.result) ↔ Grants m base t c.args.how c.args.at.now c.args.agent.now c.args.mode) same c.granted.ensures.grants
