use Rattle.std.proofs.Common.{◌∙◌, ◌++◌, ◌∷◌, [], ap}
use Rattle.request_history.proofs.JournalImages.{joined}
use Rattle.request_history.proofs.world_journal.with_record.Goals as goal

pub returns : goal.returns
returns c =
    let journal = c.args.journal.now in
    let body = c.args.body.now in
    let len = c.to_be_bytes.result in
    let one = c.in_ok-append.ensures.appended ∙ ap (λ l. l ++ journal) c.new-longer.ensures in
    let two = c.in_ok-append-2.ensures.appended ∙ ap (λ l. l ++ 1 ∷ []) one in
    let three = c.in_ok-append-3.ensures.appended ∙ ap (λ l. l ++ len) two in
    let four = c.in_ok-append-4.ensures.appended ∙ ap (λ l. l ++ body) three in
    c.in_ok-bytes.ensures.ok ∙ four ∙ joined journal body len c.to_be_bytes.ensures
