use Rattle.std.proofs.Common.{◌≡◌, ◌-◌, ◌≤◌, ◌++◌, List, ℕ, length, take, None}
use Rattle.http_head.specs.declared.body_form.BodyForm.{BodyForm}
use Rattle.http_payload.specs.declared.body_stage.Stage.TheVariants.{Rest}
use Rattle.http_payload.specs.PayloadState.{payload_state, IsSoundAt, RepresentsBody, fault_at}
use Rattle.http_payload.proofs.feed_loop.feed_piece.Given as goal

-- What was taken so far was read: the texts that it represented grow by these bytes. A complete body takes nothing.
abbrev pub invariant-loop-taken : goal.invariant-loop-taken
invariant-loop-taken l = record {
  within : l.taken ≤ length l.piece;
  sound : IsSoundAt l.stage l.line.items l.body.items;
  no_fault : fault_at l.stage ≡ None;
  represents : (form : BodyForm) (text : List ℕ) → RepresentsBody form (payload_state l.initial.stage l.initial.line.items l.initial.body.items) text
      → RepresentsBody form (payload_state l.stage l.line.items l.body.items) (text ++ take l.taken l.piece);
  whole : l.initial.stage ≡ Rest 0 → (l.taken ≡ 0) × (l.stage ≡ Rest 0) × (l.line.items ≡ l.initial.line.items)
      × (l.body.items ≡ l.initial.body.items);
}

abbrev pub decreases-loop-taken : goal.decreases-loop-taken
decreases-loop-taken l = length l.initial.piece - l.taken
