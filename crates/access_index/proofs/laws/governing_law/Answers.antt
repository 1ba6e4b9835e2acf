use Rattle.access_index.proofs.Governance.{same_effective, own_list, from_parent, from_subject, some_effective}
use Rattle.access_index.proofs.laws.governing_law.Goals as goal

pub returns : goal.returns
returns c = record {
  same = same_effective;
  own = own_list;
  parent = from_parent;
  auxiliary = from_subject;
  some = some_effective;
}
