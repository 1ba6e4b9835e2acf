use Rattle.std.proofs.Common.{true, false, sym, ap, ◌∙◌}
use Rattle.pod_reply.specs.Replies.{unchanged}
use Rattle.pod_reply.proofs.EntryLemmas.{bounded}
use Rattle.pod_reply.proofs.response_and_entry.change_reply.Goals as goal

pub returns-then-is_too_large : goal.returns-then-is_too_large
returns-then-is_too_large g c =
    ap unchanged c.in_ok-refusal.ensures
    ∙ bounded c.args.response c.in_ok-entry.entry _ true (sym c.if-is_too_large.true ∙ c.is_too_large.ensures) c.in_ok-entry.ensures

pub returns : goal.returns
returns g c =
    bounded c.args.response c.in_ok-entry.entry _ false (sym c.if-is_too_large.false ∙ c.is_too_large.ensures) c.in_ok-entry.ensures
