use Rattle.std.proofs.Common.{◌≡◌, ℕ, ◌++◌, List, [], ◌∷◌, length, take, refl, sym, ap, subst, arith}
use Rattle.std.proofs.lemmas.Result.{IfOk-weaker}
use Rattle.std.proofs.lemmas.Bool.{eqb-true}
use Rattle.http_conn.specs.ParserSteps.{StepsAfter}
use Rattle.http_conn.proofs.StepLemmas.{head_goes}
use Rattle.http_conn.proofs.head_step.head_step.Goals as goal

no_items : (xs : List ℕ) → length xs ≡ 0 → xs ≡ []
no_items [] h = refl
no_items (x ∷ xs) h = absurd (omega arith)

pub returns-then-is_empty-clause-parses : goal.returns-then-is_empty-clause-parses
returns-then-is_empty-clause-parses c =
    let items : List ℕ = c.args.partial.bytes in
    let zero : length c.args.partial.bytes ≡ 0 = eqb-true (length c.args.partial.bytes) 0 (sym c.if-is_empty.ensures) in
    let none : items ≡ [] = no_items items (omega (arith, zero)) in
    let old_events = c.args.events.now.items in
    let events = c.start_head.new.events.items in
    IfOk-weaker c.start_head.result _ _
    (λ r goes. head_goes c.args.partial (take r.0 c.args.bytes.now) old_events events r.1
    (subst (λ left. StepsAfter c.args.partial.count left old_events r.1 events) (ap (λ kept. kept ++ take r.0 c.args.bytes.now) (sym none)) goes))
    c.start_head.ensures.parses

pub returns-else-is_empty-clause-parses : goal.returns-else-is_empty-clause-parses
returns-else-is_empty-clause-parses c =
    IfOk-weaker c.continue_head.result _ _
    (λ r goes. head_goes c.args.partial (take r.0 c.args.bytes.now) c.args.events.now.items c.continue_head.new.events.items r.1 goes)
    c.continue_head.ensures.parses
