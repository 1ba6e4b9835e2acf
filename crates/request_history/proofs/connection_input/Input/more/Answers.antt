use Rattle.std.proofs.Common.{◌∙◌, ◌++◌, ap, refl, sym}
use Rattle.http_conn.specs.ParserStates.{rest_of}
use Rattle.request_history.proofs.Fed.{messages_as, represents_as}
use Rattle.request_history.specs.Connections.{InputState}
use Rattle.request_history.proofs.connection_input.Input.more.Goals as goal

pub invariant_of-result : goal.invariant_of-result
invariant_of-result c =
    let i = c.self.inside in
    let new = c.in_ok-new.new in
    let before = represents_as i.parser c.in_ok-parser.parser i.bytes i.bytes i.events.items i.events.items c.in_ok-parser.ensures refl refl c.self.invariant in
    let all = c.in_ok-events.ensures ∙ ap (λ l. l ++ c.into_vec.result.items) c.as_slice.ensures.value ∙ ap (λ l. i.events.items ++ l) c.into_vec.ensures in
    represents_as c.feed.new.self c.feed.new.self (i.bytes ++ c.args.piece.now) c.in_ok-bytes.bytes (i.events.items ++ new.items) c.in_ok-events.events.items refl c.in_ok-bytes.ensures all
    (c.in_ok-new.ensures.represents i.bytes i.events.items before)

pub returns-clause-bytes : goal.returns-clause-bytes
returns-clause-bytes c = c.in_ok-bytes.ensures ∙ ap (λ (s : InputState). s.bytes ++ c.args.piece.now) c.self.view_is

pub returns-clause-events : goal.returns-clause-events
returns-clause-events c =
    let all = c.in_ok-events.ensures ∙ ap (λ l. l ++ c.into_vec.result.items) c.as_slice.ensures.value in
    (c.into_vec.result.items, ap (λ (s : InputState). s.events ++ c.into_vec.result.items) (sym c.self.view_is) ∙ sym all)

pub returns-clause-parsed : goal.returns-clause-parsed
returns-clause-parsed c =
    let i = c.self.inside in
    let new = c.in_ok-new.new in
    let before = represents_as i.parser c.in_ok-parser.parser i.bytes i.bytes i.events.items i.events.items c.in_ok-parser.ensures refl refl c.self.invariant in
    let all = c.in_ok-events.ensures ∙ ap (λ l. l ++ c.into_vec.result.items) c.as_slice.ensures.value ∙ ap (λ l. i.events.items ++ l) c.into_vec.ensures in (
      rest_of c.feed.new.self,
      messages_as (i.bytes ++ c.args.piece.now) c.in_ok-bytes.bytes (i.events.items ++ new.items) c.in_ok-events.events.items (rest_of c.feed.new.self) c.in_ok-bytes.ensures all
          (c.in_ok-new.ensures.messages i.bytes i.events.items before),
    )
