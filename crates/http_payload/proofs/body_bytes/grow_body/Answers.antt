use Rattle.std.proofs.Common.{◌++◌, List, ℕ, take, IfOk, sym, subst}
use Rattle.http_head.specs.declared.body_form.BodyForm.{BodyForm as Form}
use Rattle.http_payload.specs.PayloadState.{payload_state, RepresentsBody}
use Rattle.http_payload.specs.BodyBytes.{bytes_of_body}
use Rattle.http_payload.proofs.body_bytes.grow_body.Goals as goal

pub returns-in-Growing-clause-represents : goal.returns-in-Growing-clause-represents
returns-in-Growing-clause-represents c =
    subst (λ b. IfOk c.feed_piece.result (λ step. (form : Form) (text : List ℕ)
    → RepresentsBody form (payload_state c.args.stage c.args.line.now.items (bytes_of_body b)) text
    → RepresentsBody form (payload_state step.stage c.feed_piece.new.line.items c.feed_piece.new.body.items) (text ++ take step.taken c.args.piece.now)))
    (sym c.in-Growing.is) c.feed_piece.ensures.represents
