use Rattle.std.proofs.Common.{sym, ap, subst, ◌∙◌}
use Rattle.http_conn.specs.Messages.{Messages}
use Rattle.http_conn.specs.ParserStates.{rest_of}
use Rattle.http_conn.proofs.StepLemmas.{represents_messages}
use Rattle.http_conn.proofs.conn.Conn.rest.Goals as goal

-- it is that of the text
pub returns-clause-messages : goal.returns-clause-messages
returns-clause-messages c = λ text events s.
    subst (λ n. Messages text events n) (sym (c.rest_of.ensures ∙ ap rest_of c.self.view_is)) (represents_messages c.args.self.now text events s)
