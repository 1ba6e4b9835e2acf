use Rattle.std.proofs.Common.{◌≡◌, ◌++◌, sym, ap, subst, ◌∙◌}
use Rattle.std.proofs.lemmas.List.{append-nil}
use Rattle.http_conn.specs.ParserStates.{Represents}
use Rattle.http_conn.proofs.parse_piece.parse_events.Goals as goal

-- the events before, and those of the piece
pub returns-clause-represents : goal.returns-clause-represents
returns-clause-represents c = λ text events s.
    let none : events ++ c.new-events.result.items ≡ events = ap (λ h. events ++ h) c.new-events.ensures.items ∙ append-nil events in
    c.in_ok-next.ensures.parses text events (subst (Represents c.args.state text) (sym none) s)
