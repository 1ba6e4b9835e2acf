use Rattle.std.proofs.Common.{ℕ, List, ◌+◌, refl, rules, take, inl, inr, sym, ap, subst, ◌∙◌, arith}
use Rattle.pod_io.specs.Counts.{next_count}
use Rattle.pod_pipe.proofs.ReadsLemmas.{all_counted, ended_at, fails_counted, few_counted, met_end, met_no_end, none_counted, one_more, reads_more, reads_none, some_read}
use Rattle.podctl_commands.specs.FollowEnds.{CountsFrames, FollowsInput}
use Rattle.podctl_commands.proofs.Running.{Running, at_the_end, begins, begun, counts_at_end, counts_at_fault, emptiness, empty_is, faulted, goes_on, never_reads, never_reads_at, never_writes_at, read_fault, read_limit, some_is, write_is}
use Rattle.podctl_commands.proofs.follow_command.take_input.Goals as goal

pub reads-init : goal.reads-init
reads-init g c = (
  subst (λ (kept : List ℕ). Running (g.S.Source.rest c.args.input.now) (g.S.Source.rest c.args.input.now) begun kept (g.K.Sink.taken c.args.output.now) (g.K.Sink.taken c.args.output.now) 0) (sym c.new-kept.ensures.items)
      (begins (g.S.Source.rest c.args.input.now) (g.K.Sink.taken c.args.output.now)),
  omega arith,
  omega arith,
  none_counted (g.S.Source.reads c.args.input.now),
  refl,
)

-- a read failed
pub returns-in_default-clause-follows : goal.returns-in_default-clause-follows
returns-in_default-clause-follows g c =
    read_fault (g.S.Source.rest c.args.input.now) (g.S.Source.rest c.reads.input) c.reads.following c.reads.kept.items (g.K.Sink.taken c.args.output.now) (g.K.Sink.taken c.reads.output) c.reads.counter c.reads.invariant.0
    (g.S.Source.rest c.read.new.self) c.in_default.ensures.rest.whole

-- the input ended
pub returns-then-count-eq0-clause-follows : goal.returns-then-count-eq0-clause-follows
returns-then-count-eq0-clause-follows g c =
    let r = c.reads.invariant.0 in
    let read = c.in-Ok.ensures in
    subst (λ end. FollowsInput end (g.S.Source.rest c.args.input.now) (g.S.Source.rest c.read.new.self) (g.K.Sink.taken c.args.output.now) (g.K.Sink.taken c.reads.output)) (sym c.at_end.ensures)
    (at_the_end (g.S.Source.rest c.args.input.now) (g.S.Source.rest c.reads.input) c.reads.following c.reads.kept.items (g.K.Sink.taken c.args.output.now) (g.K.Sink.taken c.reads.output) c.reads.counter r
    (g.S.Source.rest c.read.new.self)
    (reads_none r.read c.reads.piece c.read.new.into c.in-Ok.count (g.S.Source.rest c.args.input.now) (g.S.Source.rest c.reads.input) (g.S.Source.rest c.read.new.self) c.if-count-eq0.true r.reads read.bytes read.rest.taken)
    (ended_at c.reads.piece c.read.new.into c.in-Ok.count (g.S.Source.rest c.reads.input) (g.S.Source.rest c.read.new.self) c.if-count-eq0.true read.bytes read.rest.taken)
    c.is_empty.result
    (empty_is c.reads.kept.items c.is_empty.result (emptiness c.reads.kept.items c.as_slice.result.now c.is_empty.result c.as_slice.ensures.value c.is_empty.ensures))
    (some_is c.reads.kept.items c.is_empty.result (emptiness c.reads.kept.items c.as_slice.result.now c.is_empty.result c.as_slice.ensures.value c.is_empty.ensures)))

-- frames are no longer taken
pub returns-in-Err-clause-follows : goal.returns-in-Err-clause-follows
returns-in-Err-clause-follows g c =
    let r = c.reads.invariant.0 in
    let read = c.in-Ok.ensures in
    subst (λ end. FollowsInput end (g.S.Source.rest c.args.input.now) (g.S.Source.rest c.read.new.self) (g.K.Sink.taken c.args.output.now) (g.K.Sink.taken c.take_piece.new.output)) (sym c.fault_end.ensures)
    (faulted (g.S.Source.rest c.args.input.now) (g.S.Source.rest c.reads.input) c.reads.following c.reads.kept.items (g.K.Sink.taken c.args.output.now) (g.K.Sink.taken c.reads.output) c.reads.counter r
    (take c.in-Ok.count c.read.new.into) (g.S.Source.rest c.read.new.self)
    (reads_more r.read c.reads.piece c.read.new.into c.in-Ok.count (g.S.Source.rest c.args.input.now) (g.S.Source.rest c.reads.input) (g.S.Source.rest c.read.new.self) r.reads read.bytes read.rest.taken)
    c.take_piece.new.self (g.K.Sink.taken c.take_piece.new.output) c.in-Err.fault c.in-Err.ensures.stopped)

pub reads-preserved : goal.reads-preserved
reads-preserved g c =
    let r = c.reads.invariant.0 in
    let read = c.in-Ok.ensures in (
      goes_on (g.S.Source.rest c.args.input.now) (g.S.Source.rest c.reads.input) c.reads.following c.reads.kept.items (g.K.Sink.taken c.args.output.now) (g.K.Sink.taken c.reads.output) c.reads.counter r
          (take c.in-Ok.count c.read.new.into) (g.S.Source.rest c.read.new.self)
          (reads_more r.read c.reads.piece c.read.new.into c.in-Ok.count (g.S.Source.rest c.args.input.now) (g.S.Source.rest c.reads.input) (g.S.Source.rest c.read.new.self) r.reads read.bytes read.rest.taken)
          c.take_piece.new.self (g.K.Sink.taken c.take_piece.new.output) c.take_piece.new.kept.items c.in-Ok-take_piece.ensures.followed c.in-Ok-take_piece.ensures.unfinished
          (some_read c.read.new.into c.in-Ok.count (search rules) c.if-count-eq0.false),
      omega (arith, c.reads.invariant.1, read.faults.no_fewer),
      omega (arith, c.reads.invariant.2, c.in-Ok-take_piece.ensures.counts),
      one_more (g.S.Source.reads c.args.input.now) (g.S.Source.reads c.reads.input) (g.S.Source.reads c.read.new.self) c.reads.counter c.reads.invariant.3 (omega (arith, c.reads-test.true)) read.reads.no_fewer read.reads.read,
      met_no_end (g.S.Source.ends c.reads.input) (g.S.Source.ends c.read.new.self) c.in-Ok.count c.if-count-eq0.false read.ends.read ∙ c.reads.invariant.4,
    )

-- each read gave a byte
pub returns-clause-follows : goal.returns-clause-follows
returns-clause-follows g c =
    read_limit (g.S.Source.rest c.args.input.now) (g.S.Source.rest c.reads.input) c.reads.following c.reads.kept.items (g.K.Sink.taken c.args.output.now) (g.K.Sink.taken c.reads.output) c.reads.counter c.reads.invariant.0 (omega (arith, c.reads-test.false))

-- ---- the counts of the input

pub returns-in_default-clause-counts : goal.returns-in_default-clause-counts
returns-in_default-clause-counts g c = record {
  reads = fails_counted (g.S.Source.reads c.args.input.now) (g.S.Source.reads c.reads.input) (g.S.Source.reads c.read.new.self) c.reads.counter c.reads.invariant.3 c.in_default.ensures.reads.failed;
  limit = λ e. absurd cc;
  ends = c.in_default.ensures.ends.failed ∙ c.reads.invariant.4;
}

pub returns-then-count-eq0-clause-counts : goal.returns-then-count-eq0-clause-counts
returns-then-count-eq0-clause-counts g c =
    let read = c.in-Ok.ensures in
    let counted = one_more (g.S.Source.reads c.args.input.now) (g.S.Source.reads c.reads.input) (g.S.Source.reads c.read.new.self) c.reads.counter c.reads.invariant.3 (omega (arith, c.reads-test.true)) read.reads.no_fewer read.reads.read in
    subst (λ end. CountsFrames end (g.S.Source.reads c.args.input.now) (g.S.Source.reads c.read.new.self) (g.S.Source.ends c.args.input.now) (g.S.Source.ends c.read.new.self)) (sym c.at_end.ensures)
    (counts_at_end c.reads.following c.is_empty.result (g.S.Source.reads c.args.input.now) (g.S.Source.reads c.read.new.self) (g.S.Source.ends c.args.input.now) (g.S.Source.ends c.read.new.self) (few_counted _ _ _ counted)
    (met_end (g.S.Source.ends c.reads.input) (g.S.Source.ends c.read.new.self) c.in-Ok.count c.if-count-eq0.true read.ends.read ∙ ap next_count c.reads.invariant.4))

pub returns-in-Err-clause-counts : goal.returns-in-Err-clause-counts
returns-in-Err-clause-counts g c =
    let read = c.in-Ok.ensures in
    let counted = one_more (g.S.Source.reads c.args.input.now) (g.S.Source.reads c.reads.input) (g.S.Source.reads c.read.new.self) c.reads.counter c.reads.invariant.3 (omega (arith, c.reads-test.true)) read.reads.no_fewer read.reads.read in
    subst (λ end. CountsFrames end (g.S.Source.reads c.args.input.now) (g.S.Source.reads c.read.new.self) (g.S.Source.ends c.args.input.now) (g.S.Source.ends c.read.new.self)) (sym c.fault_end.ensures)
    (counts_at_fault c.in-Err.fault c.take_piece.new.self.frames (g.S.Source.reads c.args.input.now) (g.S.Source.reads c.read.new.self) (g.S.Source.ends c.args.input.now) (g.S.Source.ends c.read.new.self) (few_counted _ _ _ counted)
    (met_no_end (g.S.Source.ends c.reads.input) (g.S.Source.ends c.read.new.self) c.in-Ok.count c.if-count-eq0.false read.ends.read ∙ c.reads.invariant.4))

pub returns-clause-counts : goal.returns-clause-counts
returns-clause-counts g c = record {
  reads = few_counted _ _ _ c.reads.invariant.3;
  limit = λ e. all_counted _ _ _ c.reads.invariant.3 (omega (arith, c.reads-test.false));
  ends = c.reads.invariant.4;
}

-- ---- faults

pub returns-then-count-eq0-clause-read_fault : goal.returns-then-count-eq0-clause-read_fault
returns-then-count-eq0-clause-read_fault g c = λ e. absurd (never_reads c.reads.following c.is_empty.result (sym c.at_end.ensures ∙ e))

pub returns-then-count-eq0-clause-write_fault : goal.returns-then-count-eq0-clause-write_fault
returns-then-count-eq0-clause-write_fault g c = λ e. absurd (never_writes_at c.reads.following c.is_empty.result (sym c.at_end.ensures ∙ e))

pub returns-in-Err-clause-read_fault : goal.returns-in-Err-clause-read_fault
returns-in-Err-clause-read_fault g c = λ e. absurd (never_reads_at c.in-Err.fault c.take_piece.new.self.frames (sym c.fault_end.ensures ∙ e))

pub returns-in-Err-clause-write_fault : goal.returns-in-Err-clause-write_fault
returns-in-Err-clause-write_fault g c = λ e below.
    let rose = c.in-Err.ensures.failed (write_is c.in-Err.fault c.take_piece.new.self.frames (sym c.fault_end.ensures ∙ e)) below in
    omega (arith, c.reads.invariant.2, rose)
