use Rattle.std.proofs.Common.{◌≡◌, Ok, rules}
use Rattle.std.specs.Prelude.{IfOk, IfErr}
use Rattle.std.proofs.lemmas.Result.{IfOk-weaker, IfErr-weaker}
use Rattle.pod_path.specs.Norm.{norm, FailsAs, IsPath}
use Rattle.pod_path.specs.Hierarchy.{member_text}
use Rattle.pod_path.proofs.Ancestors.{child_text, child_parent, child_container, plain_member}
use Rattle.pod_path.proofs.LimitLaws.{read_itself, only_limits}
use Rattle.pod_path.proofs.path.Path.child.Goals as goal

pub returns-clause-parent : goal.returns-clause-parent
returns-clause-parent c = λ n.
    let read : IfOk c.read.result (λ path. norm (member_text c.args.self.now c.args.name.now c.args.container) ≡ Ok path) = search rules in
    IfOk-weaker c.read.result _ _ (λ path e. child_parent c.args.self.now c.args.container path c.requires (child_text c.args.self.now c.args.name.now c.args.container path c.as_str.ensures.path c.requires n e)) read

pub returns-clause-container : goal.returns-clause-container
returns-clause-container c = λ n.
    let read : IfOk c.read.result (λ path. norm (member_text c.args.self.now c.args.name.now c.args.container) ≡ Ok path) = search rules in
    IfOk-weaker c.read.result _ _ (λ path e. child_container c.args.self.now c.args.container path (child_text c.args.self.now c.args.name.now c.args.container path c.as_str.ensures.path c.requires n e)) read

pub returns-clause-plain : goal.returns-clause-plain
returns-clause-plain c = λ n.
    let read : IfOk c.read.result (λ path. norm (member_text c.args.self.now c.args.name.now c.args.container) ≡ Ok path) = search rules in
    let is : IsPath (member_text c.args.self.now c.args.name.now c.args.container) = plain_member c.args.self.now c.args.name.now c.args.container c.as_str.ensures.path c.requires n in
    IfOk-weaker c.read.result _ _ (λ path e. read_itself (member_text c.args.self.now c.args.name.now c.args.container) path is e) read

pub returns-clause-limits : goal.returns-clause-limits
returns-clause-limits c = λ n.
    let fails : IfErr c.read.result (λ fault. FailsAs fault (norm (member_text c.args.self.now c.args.name.now c.args.container))) = search rules in
    let is : IsPath (member_text c.args.self.now c.args.name.now c.args.container) = plain_member c.args.self.now c.args.name.now c.args.container c.as_str.ensures.path c.requires n in
    IfErr-weaker c.read.result _ _ (λ fault e. only_limits (member_text c.args.self.now c.args.name.now c.args.container) fault is e) fails
