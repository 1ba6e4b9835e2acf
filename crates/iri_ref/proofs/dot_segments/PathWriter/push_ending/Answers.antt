use Rattle.std.proofs.Common.{sym, ap, ◌∙◌}
use Rattle.std.proofs.lemmas.Result.{on_ok_weaker}
use Rattle.iri_ref.specs.Segments.{segments}
use Rattle.iri_ref.specs.PathWriter.{after_segments}
use Rattle.iri_ref.proofs.PathWriting.{with_path, closes, last_plain}
use Rattle.iri_ref.proofs.dot_segments.PathWriter.push_ending.Goals as goal

pub returns-then-branch : goal.returns-then-branch
returns-then-branch c =
    let all = segments c.args.path.now in
    on_ok_weaker c.push.result (λ one. closes c.args.self.now c.push_segments.new.self c.push.new.self all (sym c.in_ok-push_segments.ensures.dots ∙ c.if-branch.true) c.in_ok-push_segments.ensures.written one) c.push.ensures

pub returns : goal.returns
returns c =
    let all = segments c.args.path.now in
    c.in_ok-push_segments.ensures.written ∙ ap (λ t. with_path c.args.self.now (after_segments c.args.self.now.path t)) (sym (last_plain all (sym c.in_ok-push_segments.ensures.dots ∙ c.if-branch.false)))
