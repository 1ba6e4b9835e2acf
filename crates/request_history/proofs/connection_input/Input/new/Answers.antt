use Rattle.std.proofs.Common.{[]}
use Rattle.http_conn.proofs.StepLemmas.{represents_messages}
use Rattle.http_conn.specs.ParserStates.{rest_of}
use Rattle.std.proofs.Common.{refl}
use Rattle.request_history.proofs.Fed.{messages_as, represents_as}
use Rattle.request_history.proofs.connection_input.Input.new.Goals as goal

pub invariant_of-result : goal.invariant_of-result
invariant_of-result c = represents_as c.new-parser.result c.new-parser.result [] c.new-bytes.result [] c.new-events.result.items refl c.new-bytes.ensures c.new-events.ensures.items c.new-parser.ensures

pub returns-clause-is : goal.returns-clause-is
returns-clause-is c = λ i. record { bytes = c.new-bytes.ensures i; events = c.new-events.ensures.items i }

pub returns-clause-parsed : goal.returns-clause-parsed
returns-clause-parsed c = (
  rest_of c.new-parser.result,
  messages_as [] c.new-bytes.result [] c.new-events.result.items (rest_of c.new-parser.result) c.new-bytes.ensures c.new-events.ensures.items
      (represents_messages c.new-parser.result [] [] c.new-parser.ensures),
)
