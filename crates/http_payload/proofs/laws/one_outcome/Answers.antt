use Rattle.http_payload.proofs.LawLemmas.{one_outcome, one_fault, no_fault_at_body, no_fault_at_partial, no_body_at_partial}
use Rattle.http_payload.proofs.laws.one_outcome.Goals as goal

pub returns : goal.returns
returns c = record {
  one_end = one_outcome;
  one_fault = one_fault;
  body = no_fault_at_body;
  partial_fault = no_fault_at_partial;
  partial_body = no_body_at_partial;
}
