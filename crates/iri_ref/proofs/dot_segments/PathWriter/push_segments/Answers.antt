use Rattle.std.proofs.Common.{List, ℕ, length, sym, ap, ◌∙◌, lit<, arith}
use Rattle.std.proofs.lemmas.Iterator.Splits.{YieldsList-from_str_split}
use Rattle.std.proofs.lemmas.Iterator.Consumers.{YieldsList-turn, YieldsList-end}
use Rattle.std.proofs.lemmas.List.{length_push, take_all}
use Rattle.iri_ref.specs.Characters.{slash}
use Rattle.iri_ref.specs.Segments.{segments}
use Rattle.iri_ref.specs.PathWriter.{after_segments, ends_in_dot_segment}
use Rattle.iri_ref.proofs.PathWriting.{with_path, writes_on, dots_on}
use Rattle.iri_ref.proofs.dot_segments.PathWriter.push_segments.Goals as goal

pub loop-segment-preserved : goal.loop-segment-preserved
loop-segment-preserved c =
    let all = segments c.args.path.now in
    let turn = YieldsList-turn (YieldsList-from_str_split {s = c.into_iter-segment-iterator.result} slash c.args.path.now (lit< tt) (cc) (cc) (cc)) c.loop-segment.yielded _ c.loop-segment.yielded_by _ _ c.in-Some.segment c.in-Some.is c.next.ensures.steps in
    let next = length_push c.loop-segment.yielded c.in-Some.segment in
    record {
      written = writes_on c.args.self.now c.loop-segment.self c.push.new.self all (length c.loop-segment.yielded) _ c.in-Some.segment.now next turn.0 turn.1 c.loop-segment.invariant.written c.in_ok-push.ensures;
      dots = c.is_dot_segment-dots.ensures ∙ sym (dots_on all (length c.loop-segment.yielded) _ c.in-Some.segment.now next turn.0 turn.1);
    }

pub returns-clause-written : goal.returns-clause-written
returns-clause-written c =
    let all = segments c.args.path.now in
    let end = YieldsList-end (YieldsList-from_str_split {s = c.into_iter-segment-iterator.result} slash c.args.path.now (lit< tt) (cc) (cc) (cc)) c.loop-segment.yielded _ c.loop-segment.yielded_by _ _ c.in-None.is c.next.ensures.steps in
    c.loop-segment.invariant.written ∙ ap (λ (t : List (List ℕ)). with_path c.args.self.now (after_segments c.args.self.now.path t)) (take_all (length c.loop-segment.yielded) all (omega (arith, end.1)))

pub returns-clause-dots : goal.returns-clause-dots
returns-clause-dots c =
    let all = segments c.args.path.now in
    let end = YieldsList-end (YieldsList-from_str_split {s = c.into_iter-segment-iterator.result} slash c.args.path.now (lit< tt) (cc) (cc) (cc)) c.loop-segment.yielded _ c.loop-segment.yielded_by _ _ c.in-None.is c.next.ensures.steps in
    c.loop-segment.invariant.dots ∙ ap ends_in_dot_segment (take_all (length c.loop-segment.yielded) all (omega (arith, end.1)))
