use Rattle.std.proofs.Common.{◌≡◌, ℕ, ◌++◌, List, take, drop, sym, ap, ◌∙◌, append_assoc}
use Rattle.std.proofs.lemmas.List.{take-append-drop}
use Rattle.http_conn.proofs.StepLemmas.{goes_on}
use Rattle.http_conn.proofs.parse_piece.parse_piece.Goals as goal

-- one step more
pub loop-rest-preserved : goal.loop-rest-preserved
loop-rest-preserved c =
    let partial = c.loop-rest.invariant.1 in
    let done : List ℕ = partial.0 in
    let rest : List ℕ = c.loop-rest.rest.now in
    let taken : ℕ = c.in_ok-found.found.0 in
    let front : List ℕ = take taken rest in
    let text_is : c.args.piece.now ≡ (done ++ front) ++ c.suffix-rest.result.now =
    partial.1 ∙ ap (λ r. done ++ r) (sym (take-append-drop taken rest)) ∙ sym (append_assoc done front (drop taken rest)) ∙ ap (λ r. (done ++ front) ++ r) (sym c.suffix-rest.ensures) in
    (c.in_ok-found.ensures.sound, (done ++ front, text_is, goes_on c.args.state c.loop-rest.state c.in_ok-found.found.1 c.args.events.now.items c.loop-rest.events.items c.parse_step.new.events.items done front partial.2 c.in_ok-found.ensures.parses))
