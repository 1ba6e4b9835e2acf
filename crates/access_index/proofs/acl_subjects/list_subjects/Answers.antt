use Rattle.std.proofs.Common.{arith, sym, subst}
use Rattle.access_index.specs.Tables.{list_subject}
use Rattle.pod_rows.proofs.Steps.{filter_map_more}
use Rattle.access_index.specs.Tables.{ArePlain}
use Rattle.access_index.proofs.AclSubjects.{plain_more}
use Rattle.access_index.proofs.acl_subjects.list_subjects.Goals as goal

pub loop-path-preserved : goal.loop-path-preserved
loop-path-preserved c =
    let more = filter_map_more list_subject c.args.paths.now c.loop-path.path-index c.path-item.result c.loop-path-test.true in
    let pushed = c.in_ok-push_some.ensures in
    record {
      subjects = grind (arith, more, c.path-item.is, c.loop-path.invariant.subjects, pushed, c.in_ok-subject.ensures.subject);
      plain = subst ArePlain (sym pushed) (plain_more c.loop-path.subjects.items c.in_ok-subject.subject c.loop-path.invariant.plain c.in_ok-subject.ensures.plain);
    }
