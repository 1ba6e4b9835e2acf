use Rattle.std.proofs.Common.{ℕ, List, ◌++◌, ◌∙◌, ap, sym, length, length-append, append_assoc, arith}
use Rattle.std.specs.List.{concat}
use Rattle.pod_base.proofs.RopeLemmas.{concat_last}
use Rattle.pod_base.proofs.rope.Rope.push.Goals as goal

-- the sizes add up
pub invariant_of-self-in-Some : goal.invariant_of-self-in-Some
invariant_of-self-in-Some c =
    let first = c.self.inside.first in
    let old = concat c.self.inside.more.items in
    let new = ap concat c.in_ok-push-in-Some.ensures.items ∙ concat_last c.self.inside.more.items c.args.piece in
    omega (arith, c.in-Some.ensures, c.len.ensures, c.self.invariant, ap length new, length-append first (concat c.push.new.self.items), length-append first old, length-append old c.args.piece)

pub returns-in_ok-push-in-Some-clause-appended : goal.returns-in_ok-push-in-Some-clause-appended
returns-in_ok-push-in-Some-clause-appended c =
    let first = c.self.inside.first in
    let old = concat c.self.inside.more.items in
    ap (λ (t : List ℕ). first ++ t) (ap concat c.in_ok-push-in-Some.ensures.items ∙ concat_last c.self.inside.more.items c.args.piece)
    ∙ sym (append_assoc first old c.args.piece) ∙ ap (λ (t : List ℕ). t ++ c.args.piece) c.self.view_is
