use Rattle.std.proofs.Common.{rules, arith, ap, length, sym, subst}
use Rattle.podctl_commands.specs.FollowEnds.{IsUnfinished}
use Rattle.podctl_commands.specs.Steps.{FollowedTo}
use Rattle.podctl_commands.proofs.ManyFrames.{followed_more, followed_none, last_is, stopped_in, stopped_too_long}
use Rattle.podctl_commands.proofs.Running.{frame_some}
use Rattle.podctl_commands.proofs.frame_input.Following.take_frames.Goals as goal

pub loop-body-init : goal.loop-body-init
loop-body-init g c = (followed_none c.args.self.now c.args.bytes.now (g.K.Sink.taken c.args.output.now), omega arith)

pub loop-body-preserved : goal.loop-body-preserved
loop-body-preserved g c = (
  followed_more c.args.self.now c.loop-body.self c.take_frame.new.self c.args.bytes.now c.loop-body.rest.now c.in-Some.body.now c.in-Some.more.now (g.K.Sink.taken c.args.output.now) (g.K.Sink.taken c.loop-body.output) (g.K.Sink.taken c.take_frame.new.output)
      c.loop-body.invariant.0 c.in-Some.ensures.some c.in-Ok.ensures.followed c.in-Ok.ensures.frames,
  omega (arith, c.loop-body.invariant.1, c.in-Ok.ensures.counts),
)

pub loop-body-smaller : goal.loop-body-smaller
loop-body-smaller g c = omega (arith, ap length c.in-Some.ensures.some, frame_some c.in-Some.body.now c.in-Some.more.now)

pub returns-in-Err-clause-stopped : goal.returns-in-Err-clause-stopped
returns-in-Err-clause-stopped g c =
    stopped_in c.in-Err.fault c.args.self.now c.loop-body.self c.take_frame.new.self c.args.bytes.now c.loop-body.rest.now c.in-Some.body.now c.in-Some.more.now (g.K.Sink.taken c.args.output.now) (g.K.Sink.taken c.loop-body.output) (g.K.Sink.taken c.take_frame.new.output)
    c.loop-body.invariant.0 c.in-Some.ensures.some c.in-Err.ensures.stopped c.in-Err.ensures.kept

pub returns-then-is_too_long-clause-stopped : goal.returns-then-is_too_long-clause-stopped
returns-then-is_too_long-clause-stopped g c =
    stopped_too_long c.args.self.now c.loop-body.self c.args.bytes.now c.loop-body.rest.now (g.K.Sink.taken c.args.output.now) (g.K.Sink.taken c.loop-body.output) c.loop-body.invariant.0
    (record { no_frame = c.split_frame.ensures.none (search (rules, c.in_default.is)); too_long = c.is_too_long.ensures.yes c.if-is_too_long.true })

pub returns-clause-followed : goal.returns-clause-followed
returns-clause-followed g c =
    let f = c.loop-body.invariant.0 in
    subst (λ rest. FollowedTo c.args.self.now c.args.bytes.now rest c.loop-body.self (g.K.Sink.taken c.args.output.now) (g.K.Sink.taken c.loop-body.output)) (sym (last_is c.args.bytes.now _ c.loop-body.rest.now f.parts)) f

pub returns-clause-unfinished : goal.returns-clause-unfinished
returns-clause-unfinished g c =
    let f = c.loop-body.invariant.0 in
    subst IsUnfinished (sym (last_is c.args.bytes.now _ c.loop-body.rest.now f.parts))
    (record { no_frame = c.split_frame.ensures.none (search (rules, c.in_default.is)); not_too_long = c.is_too_long.ensures.no c.if-is_too_long.false })
