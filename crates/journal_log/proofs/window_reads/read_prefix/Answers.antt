use Rattle.std.proofs.Common.{◌≡◌, ℕ, length, take, drop, ◌∙◌, ap, rules}
use Rattle.std.proofs.lemmas.List.{length-take-le}
use Rattle.std.proofs.lemmas.Result.{on_ok_weaker}
use Rattle.journal_log.proofs.WindowReads.{prefix_is}
use Rattle.journal_log.proofs.window_reads.read_prefix.Goals as goal

pub returns-clause-bytes : goal.returns-clause-bytes
returns-clause-bytes g c = on_ok_weaker c.read.result (λ read b visible.
    let len : length (take c.args.len c.args.buffer.now) ≡ c.args.len = length-take-le c.args.len c.args.buffer.now c.requires.room in
    prefix_is c.read.new.into _ (drop c.args.at b) c.args.len (search rules) (read b visible ∙ ap (λ (n : ℕ). take n (drop c.args.at b)) len))
    c.read.ensures.bytes
