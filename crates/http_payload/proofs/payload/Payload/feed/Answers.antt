use Rattle.std.proofs.Common.{◌≡◌, ◌++◌, ◌∙◌, List, ℕ, take, refl, ap, sym, subst, false, IsTrue}
use Rattle.http_head.specs.declared.body_form.BodyForm.{BodyForm}
use Rattle.http_payload.specs.Bodies.{IsBody, IsPartial}
use Rattle.http_payload.specs.PayloadState.{PayloadState, payload_state, RepresentsBody, fault_of}
use Rattle.http_payload.specs.BodyBytes.{bytes_of_body}
use Rattle.http_payload.proofs.Representation.{body_of}
use Rattle.http_payload.proofs.Feeding.{partial_at, whole_told, partial_told, fault_told, Blames, whole_failed, partial_failed, fault_failed, no_fault_at, same_held, must_be_true, same_fed, nothing_again, no_truth}
use Rattle.http_payload.proofs.payload.Payload.feed.Goals as goal

-- what the payload holds after the run
later : goal.After-is_end → PayloadState
later c = payload_state c.in-Ok.step.stage c.feed_body.new.line.items (bytes_of_body c.feed_body.new.body)

represents_after : (c : goal.After-is_end) (form : BodyForm) (text : List ℕ) → RepresentsBody form c.args.self.now text
    → RepresentsBody form (later c) (text ++ take c.in-Ok.step.taken c.args.piece.now)
unfolding later
represents_after c form text represents =
    c.in-Ok.ensures.represents form text (subst (λ h. RepresentsBody form h text) (sym c.self.view_is) represents)

whole_after : (c : goal.After-is_end) (form : BodyForm) (text : List ℕ) → RepresentsBody form c.args.self.now text
    → IsTrue c.is_end.result → IsBody form (text ++ take c.in-Ok.step.taken c.args.piece.now) (bytes_of_body c.feed_body.new.body)
unfolding later
whole_after c form text represents known =
    body_of form (later c) (text ++ take c.in-Ok.step.taken c.args.piece.now) (represents_after c form text represents) (c.is_end.ensures.yes known)

partial_after : (c : goal.After-is_end) (form : BodyForm) (text : List ℕ) → RepresentsBody form c.args.self.now text
    → c.is_end.result ≡ false → IsPartial form (text ++ c.args.piece.now)
unfolding later
partial_after c form text represents known =
    let not_done = c.is_end.ensures.no known in
    partial_at form (later c) text c.args.piece.now c.in-Ok.step.taken (represents_after c form text represents) c.in-Ok.ensures.sound
    not_done (c.in-Ok.ensures.all not_done)

pub returns-in-Ok : goal.returns-in-Ok
unfolding later
returns-in-Ok c = record {
  within = c.in-Ok.ensures.within;
  represents = represents_after c;
  done = c.is_end.ensures.yes;
  whole = λ known form text represents. whole_after c form text represents known;
  all = λ known. c.in-Ok.ensures.all (c.is_end.ensures.no known);
  partial = λ known form text represents. partial_after c form text represents known;
  fault = tt;
  exact_whole = λ form text prefix rest body represents e is_body.
      whole_told form text c.args.piece.now c.in-Ok.step.taken c.is_end.result (bytes_of_body c.feed_body.new.body) c.in-Ok.ensures.within
      (whole_after c form text represents) (partial_after c form text represents) prefix rest body e is_body;
  exact_partial = λ form text represents partial.
      partial_told form text c.args.piece.now c.in-Ok.step.taken c.is_end.result (bytes_of_body c.feed_body.new.body)
      (whole_after c form text represents) (λ known. c.in-Ok.ensures.all (c.is_end.ensures.no known)) partial;
  exact_fault = λ form text fault represents is_fault.
      fault_told form text c.args.piece.now c.in-Ok.step.taken c.is_end.result (bytes_of_body c.feed_body.new.body) fault
      (whole_after c form text represents) (partial_after c form text represents) is_fault;
  ended = λ done.
      let kept = c.in-Ok.ensures.done (ap (λ h. h.stage) c.self.view_is ∙ done) in
      let stage = kept.1 ∙ sym (ap (λ h. h.stage) c.self.view_is ∙ done) in (
        same_held stage kept.2 kept.3 ∙ c.self.view_is,
        same_fed kept.0 (must_be_true c.is_end.result (λ known. c.is_end.ensures.no known kept.1)),
      );
  again = nothing_again _ _ (ap fault_of (sym c.self.view_is) ∙ no_fault_at c.self.inside.stage c.in_default.not-Failed);
  failed = tt;
}

blames_after : (c : goal.After-self-in-Err-1) (form : BodyForm) (text : List ℕ) → RepresentsBody form c.args.self.now text
    → Blames form (text ++ c.args.piece.now) c.in-Err.fault
blames_after c form text represents memory =
    c.in-Err.ensures.fault memory form text (subst (λ h. RepresentsBody form h text) (sym c.self.view_is) represents)

pub returns-in-Err : goal.returns-in-Err
returns-in-Err c = record {
  within = tt;
  represents = tt;
  done = tt;
  whole = tt;
  all = tt;
  partial = tt;
  fault = λ memory form text represents. blames_after c form text represents memory;
  exact_whole = λ form text prefix rest body represents e is_body.
      whole_failed form text c.args.piece.now c.in-Err.fault _ (blames_after c form text represents) prefix rest body e is_body;
  exact_partial = λ form text represents partial.
      partial_failed form text c.args.piece.now c.in-Err.fault _ (blames_after c form text represents) partial;
  exact_fault = λ form text fault represents is_fault.
      fault_failed form text c.args.piece.now c.in-Err.fault fault (blames_after c form text represents) is_fault;
  ended = λ done. no_truth (c.in-Err.ensures.not_failed (ap (λ h. h.stage) c.self.view_is ∙ done));
  again = nothing_again _ _ (ap fault_of (sym c.self.view_is) ∙ no_fault_at c.self.inside.stage c.in_default.not-Failed);
  failed = refl;
}
