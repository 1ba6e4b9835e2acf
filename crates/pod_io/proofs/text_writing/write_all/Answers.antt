use Rattle.std.proofs.Common.{◌++◌, length, take, drop, ◌-◌, length-drop, ap, ◌∙◌, arith}
use Rattle.std.specs.Option.{option_map}
use Rattle.std.proofs.lemmas.List.{take_rest}
use Rattle.pod_io.proofs.Extending.{written_more}
use Rattle.pod_io.proofs.text_writing.write_all.Goals as goal

-- one write more
pub loop-at-preserved : goal.loop-at-preserved
loop-at-preserved g c =
    let text = c.args.text.now in
    let at = c.loop-at.at in
    let count = c.in_ok-at.field-0 in (
      omega (arith, c.in_ok-at.ensures.len, ap length (take_rest text at), length-drop at text),
      c.in_ok-at.ensures.taken.added
          ∙ ap (option_map (λ bytes. bytes ++ take count (take (length text - at) (drop at text)))) c.loop-at.invariant.1
          ∙ written_more (g.K.Sink.taken c.args.output.now) text at count,
      omega (arith, c.loop-at.invariant.2, c.in_ok-at.ensures.faults.no_fewer),
    )
