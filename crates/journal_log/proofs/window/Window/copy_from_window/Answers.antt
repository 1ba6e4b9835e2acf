use Rattle.std.proofs.Common.{◌≡◌, ◌-◌, ℕ, List, length, take, drop, ◌∙◌, ap, arith}
use Rattle.journal_log.proofs.WindowReads.{part_is}
use Rattle.journal_log.proofs.window.Window.copy_from_window.Goals as goal

pub returns : goal.returns
returns c = λ disk shown.
    let copied : c.copy_from_slice.new.self ≡ take (length c.args.into.now) (drop (c.args.at - c.args.self.now.at) c.args.self.now.buffer.items) =
    c.copy_from_slice.ensures.after
    ∙ ap (λ (n : ℕ). take n (drop (c.args.at - c.args.self.now.at) c.deref.result.now)) (omega arith)
    ∙ ap (λ (l : List ℕ). take (length c.args.into.now) (drop (c.args.at - c.args.self.now.at) l)) c.deref.ensures.value in
    copied ∙ part_is c.args.self.now.buffer.items disk c.args.self.now.filled c.args.self.now.at (c.args.at - c.args.self.now.at) (length c.args.into.now) c.args.at shown.bytes (omega (arith, c.requires.from, c.requires.to)) (omega (arith, c.requires.from))
