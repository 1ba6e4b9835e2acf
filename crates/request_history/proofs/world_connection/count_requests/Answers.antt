use Rattle.std.proofs.Common.{◌<◌, length, arith}
use Rattle.request_history.proofs.Events.{one_at_most, requests_left}
use Rattle.request_history.proofs.world_connection.count_requests.Goals as goal

pub loop-event-preserved : goal.loop-event-preserved
loop-event-preserved c =
    let l = c.loop-event in
    let events = c.args.events.now in
    let event = c.event-item.result in
    let within : l.event-index < length events = omega arith in
    record {
      all = omega (arith, l.invariant.all, requests_left events l.event-index event within c.event-item.is, c.counted-count.ensures);
      most = omega (arith, l.invariant.most, c.counted-count.ensures, one_at_most event);
    }
