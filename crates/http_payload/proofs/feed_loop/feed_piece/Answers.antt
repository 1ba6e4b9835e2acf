use Rattle.std.proofs.Common.{◌++◌, ◌∙◌, List, ℕ, take, drop, refl, ap, sym, subst, arith, append_assoc}
use Rattle.std.proofs.lemmas.Result.{err_from_is_err_and}
use Rattle.std.proofs.lemmas.List.{take-append-drop, length-drop}
use Rattle.http_payload.specs.Bodies.{IsFault}
use Rattle.http_payload.specs.PayloadState.{payload_state, RepresentsBody}
use Rattle.http_payload.specs.Steps.{Blocks, Advances}
use Rattle.http_payload.proofs.RunSteps.{take-add, rest_of}
use Rattle.http_payload.proofs.Representation.{represents_on, fault_of_text}
use Rattle.http_payload.proofs.feed_loop.feed_piece.Goals as goal

pub returns-in_err-step-clause-fault : goal.returns-in_err-step-clause-fault
returns-in_err-step-clause-fault c =
    let p = err_from_is_err_and c.from_residual.result c.from_residual.ensures.1 in
    let piece = c.args.piece.now in
    let taken = c.loop-taken.taken in
    let before = payload_state c.loop-taken.stage c.loop-taken.line.items c.loop-taken.body.items in
    let fault = c.in_err-step.field-0.0 in
    let blocks = subst (λ t. Blocks before t fault) (rest_of piece taken) c.in_err-step.ensures.fault in
    rw (p.1, p.2) (λ memory form text represents.
    subst (λ t. IsFault form t fault)
    (append_assoc text (take taken piece) (drop taken piece) ∙ ap (λ (t : List ℕ). text ++ t) (take-append-drop taken piece))
    (fault_of_text form before (text ++ take taken piece) (drop taken piece) fault (c.loop-taken.invariant.represents form text represents)
    c.loop-taken.invariant.sound (c.if-not-is_end.ensures.no refl) blocks memory))

pub loop-taken-preserved : goal.loop-taken-preserved
loop-taken-preserved c =
    let piece = c.args.piece.now in
    let taken = c.loop-taken.taken in
    let more = c.in_ok-step.step.taken in
    let before = payload_state c.loop-taken.stage c.loop-taken.line.items c.loop-taken.body.items in
    let later = payload_state c.in_ok-step.step.stage c.feed_step.new.line.items c.feed_step.new.body.items in
    let advances = subst (λ t. Advances before t more later) (rest_of piece taken) c.in_ok-step.ensures.ok in
    record {
      within = omega (arith, advances.within, length-drop taken piece, c.loop-taken.invariant.within);
      sound = advances.sound;
      no_fault = advances.no_fault;
      represents = λ form text represents.
          subst (λ (t : List ℕ). RepresentsBody form later t)
          (append_assoc text (take taken piece) (take more (drop taken piece))
          ∙ ap (λ (t : List ℕ). text ++ t) (sym (take-add taken more piece c.loop-taken.invariant.within)))
          (represents_on (c.loop-taken.invariant.represents form text represents) advances.steps advances.no_fault);
      whole = λ first. absurd (c.if-not-is_end.ensures.no refl (c.loop-taken.invariant.whole first).1);
    }
