use Rattle.access_index.proofs.Governance.{unreached, nearer_stays, other_stays, lost_list, new_list}
use Rattle.access_index.proofs.laws.changes_law.Goals as goal

pub returns : goal.returns
returns c = record {
  stays = unreached;
  nearer = nearer_stays;
  other = other_stays;
  removed = lost_list;
  added = new_list;
}
