use Rattle.std.proofs.Common.{◌-◌, sym, subst}
use Rattle.http_payload.specs.declared.body_stage.Stage.TheVariants.{Chunk}
use Rattle.http_payload.specs.PayloadState.{payload_state, IsSoundAt}
use Rattle.http_payload.specs.Steps.{Advances}
use Rattle.http_payload.proofs.RunSteps.{chunk_advances}
use Rattle.http_payload.proofs.feed_loop.feed_step.Goals as goal

pub returns-in_ok-taken-in-Chunk-clause-ok : goal.returns-in_ok-taken-in-Chunk-clause-ok
returns-in_ok-taken-in-Chunk-clause-ok c =
    let sound = subst (λ s. IsSoundAt s c.args.line.now.items c.args.body.now.items) c.in-Chunk.is c.requires.sound in
    subst (λ s. Advances (payload_state s c.args.line.now.items c.args.body.now.items) c.args.bytes.now c.in_ok-taken-in-Chunk.taken
    (payload_state (Chunk (c.in-Chunk.left - c.in_ok-taken-in-Chunk.taken)) c.args.line.now.items c.append_up_to-in-Chunk.new.body.items))
    (sym c.in-Chunk.is)
    (chunk_advances c.in-Chunk.left c.in_ok-taken-in-Chunk.taken c.args.line.now.items c.args.body.now.items c.args.bytes.now
    c.append_up_to-in-Chunk.new.body.items c.if-left-gt0.true c.requires.some sound.0 sound.1
    c.in_ok-taken-in-Chunk.ensures.taken c.in_ok-taken-in-Chunk.ensures.appended)
