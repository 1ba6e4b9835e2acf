use Rattle.http_payload.proofs.LawLemmas.{fault_stays}
use Rattle.http_payload.proofs.laws.fault_stays.Goals as goal

pub returns : goal.returns
returns c = fault_stays
