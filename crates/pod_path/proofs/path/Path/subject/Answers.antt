use Rattle.std.proofs.Common.{◌≡◌, Some, ap, ◌∙◌, rules}
use Rattle.pod_path.specs.Hierarchy.{subject_of, acl_of, meta_of}
use Rattle.pod_path.proofs.Subjects.{subject_path, acl_undone, meta_undone}
use Rattle.pod_path.proofs.path.Path.subject.Goals as goal

pub from_text-requires : goal.from_text-requires
from_text-requires c =
    let is : subject_of c.args.self.now ≡ Some c.in-Some.text.now = search rules in
    subject_path c.args.self.now c.in-Some.text.now c.as_str.ensures.path is

pub returns-in_ok-subject-in-Some-clause-acl_back : goal.returns-in_ok-subject-in-Some-clause-acl_back
returns-in_ok-subject-in-Some-clause-acl_back c = λ e.
    let is : subject_of c.args.self.now ≡ Some c.in-Some.text.now = search rules in
    ap acl_of c.in_ok-subject-in-Some.ensures ∙ acl_undone c.args.self.now c.in-Some.text.now c.as_str.ensures.path e is

pub returns-in_ok-subject-in-Some-clause-meta_back : goal.returns-in_ok-subject-in-Some-clause-meta_back
returns-in_ok-subject-in-Some-clause-meta_back c = λ e.
    let is : subject_of c.args.self.now ≡ Some c.in-Some.text.now = search rules in
    ap meta_of c.in_ok-subject-in-Some.ensures ∙ meta_undone c.args.self.now c.in-Some.text.now c.as_str.ensures.path e is
