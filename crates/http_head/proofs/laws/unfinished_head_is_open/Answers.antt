use Rattle.http_head.proofs.HeadEndLaws.{not_yet_short, prefix_not_yet, ends_later}
use Rattle.http_head.proofs.laws.unfinished_head_is_open.Goals as goal

pub returns : goal.returns
returns c = record {
  short = not_yet_short;
  prefix = prefix_not_yet;
  ends_later = ends_later;
}
