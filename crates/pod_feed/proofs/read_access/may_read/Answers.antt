use Rattle.std.proofs.Common.{ℕ, List, subst}
use Rattle.std.specs.Prelude.{◌↔◌, IsTrue}
use Rattle.pod_base.specs.declared.agent.Mode.{Mode}
use Rattle.pod_access.specs.PodGrants.{PodGrants}
use Rattle.pod_feed.specs.News.{read_path}
use Rattle.pod_feed.proofs.read_access.may_read.Goals as goal

pub returns : goal.returns
returns c =
    let pod = c.args.version.now.pod in
    let granted = c.is_granted.result in
    subst (λ (m : Mode). IsTrue granted ↔ PodGrants pod c.args.agent.now (read_path c.args.topic.now) m) c.read_mode-mode.ensures
    (subst (λ (p : List ℕ). IsTrue granted ↔ PodGrants pod c.args.agent.now p c.read_mode-mode.result) c.in_ok-path.ensures c.is_granted.ensures.grants)
