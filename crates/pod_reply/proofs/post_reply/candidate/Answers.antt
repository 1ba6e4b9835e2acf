use Rattle.std.proofs.Common.{◌≡◌, sym, subst}
use Rattle.pod_path.specs.Hierarchy.{member_text}
use Rattle.pod_path.specs.Norm.{IsPath}
use Rattle.pod_path.proofs.Ancestors.{plain_member}
use Rattle.pod_reply.proofs.post_reply.candidate.Goals as goal

pub unreachable-requires : goal.unreachable-requires
unreachable-requires c =
    let text : c.as_str-3.result.now ≡ member_text c.args.container.now c.in_ok-stem.stem c.args.folder =
    cc (c.in_ok-push_str-2.ensures.bytes, c.in_ok-push_str.ensures.bytes, c.in_ok-text.ensures.ok) in
    let none = rw c.in-None.is at c.in_ok-path.ensures.none in
    none (subst IsPath (sym text) (plain_member c.args.container.now c.in_ok-stem.stem c.args.folder
    c.as_str.ensures.path c.requires (c.in_ok-stem.ensures.plain c.args.folder)))
