use Rattle.pod_feed.proofs.EachChangeLemmas.{tells_each_change}
use Rattle.pod_feed.proofs.laws.each_change_is_told_once.Goals as goal

pub returns : goal.returns
returns c = λ opened topic agent last before look looks after old apply le continues reports.
    tells_each_change opened topic agent old last before look looks after apply le continues reports
