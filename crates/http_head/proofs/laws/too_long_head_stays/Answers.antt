use Rattle.http_head.proofs.HeadEndLaws.{long_stays}
use Rattle.http_head.proofs.laws.too_long_head_stays.Goals as goal

pub returns : goal.returns
returns c = long_stays
