use Rattle.std.proofs.Common.{◌++◌, length, take, drop, ◌-◌, length-drop, ap, ◌∙◌, arith}
use Rattle.std.specs.Option.{option_map}
use Rattle.std.proofs.lemmas.List.{take_rest}
use Rattle.pod_io.proofs.Extending.{nothing_added, written_more}
use Rattle.conn_talk.proofs.response_writing.write_text.Goals as goal

pub loop-at-init : goal.loop-at-init
loop-at-init g c = (
  omega arith,
  nothing_added (g.K.Output.taken c.args.output.now),
  omega arith,
  g.met.K.Output.still c.args.output.now,
)

-- one write more
pub loop-at-preserved : goal.loop-at-preserved
loop-at-preserved g c =
    let text = c.args.text.now in
    let at = c.loop-at.at in
    let count = c.in_ok-at.field-0 in (
      omega (arith, c.in_ok-at.ensures.len, ap length (take_rest text at), length-drop at text),
      c.in_ok-at.ensures.taken.added
          ∙ ap (option_map (λ bytes. bytes ++ take count (take (length text - at) (drop at text)))) c.loop-at.invariant.1
          ∙ written_more (g.K.Output.taken c.args.output.now) text at count,
      omega (arith, c.loop-at.invariant.2, c.in_ok-at.ensures.faults.no_fewer),
      g.met.K.Output.joins c.args.output.now c.loop-at.output c.write.new.self c.loop-at.invariant.3 c.in_ok-at.ensures.follows,
    )

pub returns-in_err-at-clause-follows : goal.returns-in_err-at-clause-follows
returns-in_err-at-clause-follows g c = g.met.K.Output.joins c.args.output.now c.loop-at.output c.write.new.self c.loop-at.invariant.3 c.in_err-at.ensures.follows
