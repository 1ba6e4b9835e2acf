use Rattle.std.proofs.Common.{◌≡◌, [], ◌++◌, refl, length, take, drop, sym, subst, arith}
use Rattle.pod_io.specs.Writing.{ExtendsBy}
use Rattle.pod_io.proofs.Extending.{extends_more, nothing_added}
use Rattle.conn_talk.proofs.WritesLemmas.{given_is, still_whole, part_is, part_less}
use Rattle.conn_talk.proofs.response_writing.write_out.Goals as goal

pub pieces-init : goal.pieces-init
pieces-init g c = (
  ([], refl, nothing_added (g.K.Output.taken c.args.output.now)),
  omega arith,
  g.met.K.Output.still c.args.output.now,
)

-- one piece more
pub pieces-preserved : goal.pieces-preserved
pieces-preserved g c =
    let i = c.pieces.invariant.0 in
    let count = c.next-count.result in
    let given = take count c.next-count.new.into in
    let whole = given_is c.pieces.out c.pieces.piece c.next-count.new.into count c.next-count.ensures.count c.next-count.ensures.given in (
      (
        i.0 ++ given,
        subst (λ left. (i.0 ++ given) ++ left ≡ c.args.out) (sym c.next-count.ensures.left) (still_whole i.0 given c.pieces.out (drop count c.pieces.out) c.args.out i.1 whole),
        extends_more (g.K.Output.taken c.args.output.now) (g.K.Output.taken c.pieces.output) (g.K.Output.taken c.write_text.new.output) i.0 given i.2 c.in-Ok.ensures.writes.whole,
      ),
      omega (arith, c.pieces.invariant.1, c.in-Ok.ensures.faults.no_fewer),
      g.met.K.Output.joins c.args.output.now c.pieces.output c.write_text.new.output c.pieces.invariant.2 c.in-Ok.ensures.follows,
    )

-- a prefix of it
pub returns-in-Err-clause-writes : goal.returns-in-Err-clause-writes
returns-in-Err-clause-writes g c =
    let i = c.pieces.invariant.0 in
    let count = c.next-count.result in
    let given = take count c.next-count.new.into in
    let whole = given_is c.pieces.out c.pieces.piece c.next-count.new.into count c.next-count.ensures.count c.next-count.ensures.given in
    let part = c.in-Err.ensures.writes.part in
    let front = i.0 ++ take part.0 given in
    record {
      whole = tt;
      part = (
        length front,
        part_less i.0 given (drop count c.pieces.out) c.args.out part.0 (still_whole i.0 given c.pieces.out (drop count c.pieces.out) c.args.out i.1 whole) part.1,
        subst (λ text. ExtendsBy text (g.K.Output.taken c.args.output.now) (g.K.Output.taken c.write_text.new.output))
            (part_is i.0 given (drop count c.pieces.out) c.args.out part.0 (still_whole i.0 given c.pieces.out (drop count c.pieces.out) c.args.out i.1 whole))
            (extends_more (g.K.Output.taken c.args.output.now) (g.K.Output.taken c.pieces.output) (g.K.Output.taken c.write_text.new.output) i.0 (take part.0 given) i.2 part.2),
      );
    }

pub returns-in-Err-clause-follows : goal.returns-in-Err-clause-follows
returns-in-Err-clause-follows g c = g.met.K.Output.joins c.args.output.now c.pieces.output c.write_text.new.output c.pieces.invariant.2 c.in-Err.ensures.follows
