use Rattle.std.proofs.Common.{◌≡◌, ◌∙◌, ◌+◌, ◌-◌, ◌<◌, ℕ, length, take, drop, sym, subst, arith}
use Rattle.pod_disk.specs.NotedCalls.{content_at}
use Rattle.pod_disk.specs.Tears.{left_torn, crash_of}
use Rattle.pod_disk.proofs.Crashing.{skipped_to}
use Rattle.pod_disk.proofs.crash_image.synced_calls.Goals as goal

pub returns-then-is_synced-clause-skipped : goal.returns-then-is_synced-clause-skipped
returns-then-is_synced-clause-skipped c first all =
    let calls = c.args.calls.now in
    let count = c.loop-count.count in
    let one_more : count - 1 + 1 ≡ count = omega arith in
    let inside : count - 1 < length calls = omega arith in
    subst
    (λ (k : ℕ). crash_of first calls all ≡ left_torn all (content_at first (take k calls)) (content_at first (take k calls)) (drop k calls) all) one_more
    (skipped_to first all calls (count - 1) c.index-calls-count.result inside c.index-calls-count.is (sym c.is_synced.ensures ∙ c.if-is_synced.true))
