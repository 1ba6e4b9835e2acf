use Rattle.http_conn.proofs.LongerTexts.{events_stay_first}
use Rattle.http_conn.proofs.laws.events_stay.Goals as goal

pub returns : goal.returns
returns c = events_stay_first
