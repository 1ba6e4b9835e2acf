use Rattle.std.proofs.Common.{◌≡◌, ◌∙◌, List, ℕ, take, drop, sym, ap, subst, rules}
use Rattle.std.proofs.lemmas.Result.{IfOk-weaker}
use Rattle.pod_disk.specs.NotedCalls.{IsCrashImage, content_at}
use Rattle.pod_disk.specs.Tears.{left_torn, crash_of}
use Rattle.pod_disk.specs.declared.call.NotedCall.{NotedCall}
use Rattle.pod_disk.specs.declared.torn_call.Tear.{Tear}
use Rattle.pod_disk.proofs.Crashing.{crash_is_image}
use Rattle.pod_disk.proofs.crash_image.crashed.Goals as goal

-- the walk over the calls behind those that were skipped
from_content : (first content : List ℕ) (all : List Tear) (calls synced unsynced : List NotedCall) (k : ℕ)
    → synced ≡ take k calls → unsynced ≡ drop k calls → content ≡ content_at first synced
    → crash_of first calls all ≡ left_torn all (content_at first (take k calls)) (content_at first (take k calls)) (drop k calls) all
    → left_torn all content content unsynced all ≡ crash_of first calls all
from_content first content all calls synced unsynced k front behind is skipped =
    ap (λ (b : List ℕ). left_torn all b b unsynced all) (is ∙ ap (content_at first) front)
    ∙ ap (λ (l : List NotedCall). left_torn all (content_at first (take k calls)) (content_at first (take k calls)) l all) behind
    ∙ sym skipped

pub returns-clause-tears : goal.returns-clause-tears
returns-clause-tears c =
    let first = c.args.first.now in
    let all = c.args.tears.now in
    let calls = c.args.calls.now in
    let k = c.synced_calls.result in
    let synced = c.split_at.result.0.now in
    let unsynced = c.split_at.result.1.now in
    let content = c.replay.new.content.items in
    let front : synced ≡ take k calls = search rules in
    let behind : unsynced ≡ drop k calls = search rules in
    let is : content ≡ content_at first synced = search rules in
    IfOk-weaker c.left_after.result _ _ (λ image left. left ∙ from_content first content all calls synced unsynced k front behind is (c.synced_calls.ensures.skipped first all)) c.left_after.ensures

pub returns-clause-image : goal.returns-clause-image
returns-clause-image c =
    let first = c.args.first.now in
    let calls = c.args.calls.now in
    let all = c.args.tears.now in
    IfOk-weaker c.left_after.result _ _ (λ image is. subst (λ (d : List ℕ). IsCrashImage first calls d) (sym is) (crash_is_image first calls all)) (returns-clause-tears c)
