use Rattle.std.proofs.Common.{rules, ◌++◌, codes, decimal}
use Rattle.pod_io.proofs.Extending.{writes_after, writes_part}
use Rattle.podctl_commands.proofs.check_command.write_counts.Goals as goal

pub returns-in_err-write_number-clause-writes : goal.returns-in_err-write_number-clause-writes
returns-in_err-write_number-clause-writes g c =
    let ones = codes "rows=" ++ decimal c.args.rows in
    let twos = codes " entries=" ++ decimal c.args.entries in
    let threes = codes " next=" ++ decimal c.args.next in
    writes_part c.from_residual.result (g.K.Sink.taken c.args.output.now) (g.K.Sink.taken c.write_number.new.output) ones (twos ++ (threes ++ codes "\n")) (search rules) c.in_err-write_number.ensures.writes.part

pub returns-in_err-write_number-2-clause-writes : goal.returns-in_err-write_number-2-clause-writes
returns-in_err-write_number-2-clause-writes g c =
    let ones = codes "rows=" ++ decimal c.args.rows in
    let twos = codes " entries=" ++ decimal c.args.entries in
    let threes = codes " next=" ++ decimal c.args.next in
    let failed = c.from_residual-in_err-write_number-2.result in
    writes_after failed (g.K.Sink.taken c.args.output.now) (g.K.Sink.taken c.write_number.new.output) (g.K.Sink.taken c.write_number-2.new.output) ones (twos ++ (threes ++ codes "\n")) c.in_ok-write_number.ensures.writes.whole
    (writes_part failed (g.K.Sink.taken c.write_number.new.output) (g.K.Sink.taken c.write_number-2.new.output) twos (threes ++ codes "\n") (search rules) c.in_err-write_number-2.ensures.writes.part)

pub returns-in_err-write_number-3-clause-writes : goal.returns-in_err-write_number-3-clause-writes
returns-in_err-write_number-3-clause-writes g c =
    let ones = codes "rows=" ++ decimal c.args.rows in
    let twos = codes " entries=" ++ decimal c.args.entries in
    let threes = codes " next=" ++ decimal c.args.next in
    let failed = c.from_residual-in_err-write_number-3.result in
    let at = g.K.Sink.taken c.write_number-3.new.output in
    writes_after failed (g.K.Sink.taken c.args.output.now) (g.K.Sink.taken c.write_number.new.output) at ones (twos ++ (threes ++ codes "\n")) c.in_ok-write_number.ensures.writes.whole
    (writes_after failed (g.K.Sink.taken c.write_number.new.output) (g.K.Sink.taken c.write_number-2.new.output) at twos (threes ++ codes "\n") c.in_ok-write_number-2.ensures.writes.whole
    (writes_part failed (g.K.Sink.taken c.write_number-2.new.output) at threes (codes "\n") (search rules) c.in_err-write_number-3.ensures.writes.part))

pub returns-clause-writes : goal.returns-clause-writes
returns-clause-writes g c =
    let ones = codes "rows=" ++ decimal c.args.rows in
    let twos = codes " entries=" ++ decimal c.args.entries in
    let threes = codes " next=" ++ decimal c.args.next in
    let at = g.K.Sink.taken c.write_all.new.output in
    writes_after c.write_all.result (g.K.Sink.taken c.args.output.now) (g.K.Sink.taken c.write_number.new.output) at ones (twos ++ (threes ++ codes "\n")) c.in_ok-write_number.ensures.writes.whole
    (writes_after c.write_all.result (g.K.Sink.taken c.write_number.new.output) (g.K.Sink.taken c.write_number-2.new.output) at twos (threes ++ codes "\n") c.in_ok-write_number-2.ensures.writes.whole
    (writes_after c.write_all.result (g.K.Sink.taken c.write_number-2.new.output) (g.K.Sink.taken c.write_number-3.new.output) at threes (codes "\n") c.in_ok-write_number-3.ensures.writes.whole c.write_all.ensures.writes))
