use Rattle.std.proofs.Common.{◌++◌, sym, subst, ◌∙◌}
use Rattle.http_conn.specs.ParserStates.{Represents}
use Rattle.http_conn.proofs.StepLemmas.{represents_messages}
use Rattle.http_conn.proofs.conn.Conn.feed.Goals as goal

-- it represents the longer text
pub returns-clause-represents : goal.returns-clause-represents
returns-clause-represents c = λ text events s.
    c.in_ok-next.ensures.represents text events (subst (λ held. Represents held text events) (sym (c.replace-state.ensures.value ∙ c.self.view_is)) s)

-- and its events are those of Messages
pub returns-clause-messages : goal.returns-clause-messages
returns-clause-messages c = λ text events s.
    represents_messages c.in_ok-next.next (text ++ c.args.piece.now) (events ++ c.in_ok-next.events.items)
    (c.in_ok-next.ensures.represents text events (subst (λ held. Represents held text events) (sym (c.replace-state.ensures.value ∙ c.self.view_is)) s))
