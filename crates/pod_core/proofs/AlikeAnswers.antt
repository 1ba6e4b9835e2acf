-- Equal responses at equal moments give equal bytes.
use Rattle.std.proofs.Common.{◌≡◌, ℕ, ◌==◌, if◌then◌else◌, List, [], ◌∷◌, ◌++◌, refl, ap}
use Rattle.http_out.specs.Text.{response_text, interim_text}
use Rattle.http_out.specs.Calendar.{date_text}
use Rattle.pod_base.specs.declared.heard.Heard.TheVariants as heard
use Rattle.pod_base.specs.declared.request.Request.{Request}
use Rattle.pod_base.specs.declared.response.Response.{Response}
use Rattle.pod_core.specs.Laws.{EndsAlike, AlikeWritesSame}
use Rattle.pod_core.specs.Output.{closes_after, outcome_text}
use Rattle.pod_core.specs.Session.{Outcome, answered, no_memory, disk_fault, Item, upgrades}

-- the bytes of an outcome of a request with that number and that moment
abbrev text_at : Request → ℕ → ℕ → Response → List ℕ
text_at request number moment response = response_text response (date_text moment) (closes_after request number)

alike_text : (item other : Item) (o p : Outcome) → item.request ≡ other.request → item.number ≡ other.number → item.moment ≡ other.moment → EndsAlike o p
    → outcome_text item o ≡ outcome_text other p
alike_text item other (answered n reply) (answered m replied) r k t h = λ i. text_at (r i) (k i) (t i) (h i)
alike_text item other (answered n reply) no_memory r k t h = absurd h
alike_text item other (answered n reply) disk_fault r k t h = absurd h
alike_text item other no_memory (answered m replied) r k t h = absurd h
alike_text item other no_memory no_memory r k t h = refl
alike_text item other no_memory disk_fault r k t h = absurd h
alike_text item other disk_fault (answered m replied) r k t h = absurd h
alike_text item other disk_fault no_memory r k t h = absurd h
alike_text item other disk_fault disk_fault r k t h = refl

alike_end : (o p : Outcome) → EndsAlike o p → upgrades o ≡ upgrades p
alike_end (answered n reply) (answered m replied) h = ap (λ (r : Response). r.status == 101) h
alike_end (answered n reply) no_memory h = absurd h
alike_end (answered n reply) disk_fault h = absurd h
alike_end no_memory (answered m replied) h = absurd h
alike_end no_memory no_memory h = refl
alike_end no_memory disk_fault h = absurd h
alike_end disk_fault (answered m replied) h = absurd h
alike_end disk_fault no_memory h = absurd h
alike_end disk_fault disk_fault h = refl

pub alike_writes_same : AlikeWritesSame
alike_writes_same [] items others refused h = refl
alike_writes_same (heard.Interim ∷ events) items others refused h = ap (λ text. interim_text ++ text) (alike_writes_same events items others refused h)
alike_writes_same (heard.Request r ∷ events) [] [] refused h = refl
alike_writes_same (heard.Request r ∷ events) [] (other ∷ others) refused h = absurd h
alike_writes_same (heard.Request r ∷ events) (item ∷ items) [] refused h = absurd h
alike_writes_same (heard.Request r ∷ events) (item ∷ items) (other ∷ others) refused h =
    let one = alike_text item other item.outcome other.outcome h.0.request h.0.number h.0.moment h.0.outcome in
    let end = alike_end item.outcome other.outcome h.0.outcome in
    let rest = alike_writes_same events items others refused h.1 in
    λ i. one i ++ (if end i then [] else rest i)
alike_writes_same (heard.Bad status ∷ events) items others refused h = refl
