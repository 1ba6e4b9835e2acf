use Rattle.http_head.proofs.HeadEndLaws.{whole_stays, blank_stays, whole_within, whole_prefix}
use Rattle.http_head.proofs.laws.complete_head_stays.Goals as goal

pub returns : goal.returns
returns c = record {
  stays = whole_stays;
  blank = blank_stays;
  within = whole_within;
  alone = whole_prefix;
}
