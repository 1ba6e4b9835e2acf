use Rattle.access_index.proofs.AclSubjects.{list_plain}
use Rattle.access_index.proofs.acl_subjects.list_subject.Goals as goal

pub returns-clause-plain : goal.returns-clause-plain
returns-clause-plain c = list_plain c.args.path.now c.in_ok-subject.subject c.as_str-text.ensures.path c.in_ok-subject.ensures.subject
