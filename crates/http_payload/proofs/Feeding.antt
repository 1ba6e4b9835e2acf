-- Each result of a feed is right, and no other comes.
use Rattle.std.proofs.Common.{◌≡◌, ◌≢◌, ℕ, ◌-◌, ◌≤◌, Bool, true, false, IsTrue, List, ◌++◌, length, take, drop, refl, sym, ap, ◌∙◌, subst, arith, length-append, append_assoc, inl, inr, None, Option, Result, Ok, Err, IfSome}
use Rattle.std.proofs.lemmas.List.{take-append-drop, length-take-le, take_all}
use Rattle.http_head.specs.declared.body_form.BodyForm.{BodyForm}
use Rattle.http_payload.specs.declared.payload_fault.PayloadFault.{PayloadFault}
use Rattle.http_payload.specs.declared.payload_fault.PayloadFault.TheVariants.{Malformed, TooLarge, NoMemory}
use Rattle.http_payload.specs.declared.payload.Fed.{Fed}
use Rattle.http_payload.specs.declared.body_stage.Stage.{Stage}
use Rattle.http_payload.specs.declared.body_stage.Stage.TheVariants.{Rest, Line, Chunk, ChunkEnd, Trailers, Trailer, TrailerEnd, LastEnd, Failed}
use Rattle.http_payload.specs.Chunks.{Whole}
use Rattle.http_payload.specs.Bodies.{IsBody, IsFault, IsPartial, IsOrOutOfMemory}
use Rattle.http_payload.specs.PayloadState.{PayloadState, payload_state, IsSoundPayload, RepresentsBody, IsDone, fault_at}
use Rattle.http_payload.proofs.Representation.{partial_of}
use Rattle.http_payload.proofs.LawLemmas.{one_outcome, no_fault_at_body, one_fault, no_fault_at_partial, no_body_at_partial}

abbrev pub fed : ℕ → Bool → Fed
fed taken done = record { taken = taken; done = done }

-- a whole piece that was taken without an end
pub partial_at : (form : BodyForm) (new : PayloadState) (text piece : List ℕ) (taken : ℕ) → RepresentsBody form new (text ++ take taken piece)
    → IsSoundPayload new → (IsDone new → ⊥) → taken ≡ length piece → IsPartial form (text ++ piece)
partial_at form new text piece taken represents sound not_done all =
    subst (λ (t : List ℕ). IsPartial form (text ++ t)) (take_all taken piece (omega arith))
    (partial_of form new (text ++ take taken piece) represents sound not_done)

-- the prefix that was taken, and the rest
whole_piece : (text piece : List ℕ) (taken : ℕ) → (text ++ take taken piece) ++ drop taken piece ≡ text ++ piece
whole_piece text piece taken =
    append_assoc text (take taken piece) (drop taken piece) ∙ ap (λ (t : List ℕ). text ++ t) (take-append-drop taken piece)

pub whole_told : (form : BodyForm) (text piece : List ℕ) (taken : ℕ) (done : Bool) (decodes : List ℕ) → taken ≤ length piece
    → (IsTrue done → IsBody form (text ++ take taken piece) decodes) → (done ≡ false → IsPartial form (text ++ piece))
    → (prefix rest body : List ℕ) → text ++ piece ≡ prefix ++ rest → IsBody form prefix body
    → IsOrOutOfMemory {A = Fed} (Ok (fed taken done)) (Ok (fed (length prefix - length text) true))
whole_told form text piece taken true decodes within whole partial prefix rest body e is_body =
    let one = one_outcome form (text ++ take taken piece) prefix (drop taken piece) rest (Whole decodes) (Whole body) (whole refl) is_body
    (whole_piece text piece taken ∙ e) in
    let size : taken ≡ length prefix - length text =
    omega (arith, ap length one.0, length-append text (take taken piece), length-take-le taken piece within) in
    inl (ap (λ n. Ok (fed n true)) size)
whole_told form text piece taken false decodes within whole partial prefix rest body e is_body =
    absurd (no_body_at_partial form prefix rest body (subst (IsPartial form) e (partial refl)) is_body)

pub partial_told : (form : BodyForm) (text piece : List ℕ) (taken : ℕ) (done : Bool) (decodes : List ℕ)
    → (IsTrue done → IsBody form (text ++ take taken piece) decodes) → (done ≡ false → taken ≡ length piece)
    → IsPartial form (text ++ piece) → IsOrOutOfMemory {A = Fed} (Ok (fed taken done)) (Ok (fed (length piece) false))
partial_told form text piece taken true decodes whole all partial =
    absurd (no_body_at_partial form (text ++ take taken piece) (drop taken piece) decodes
    (subst (IsPartial form) (sym (whole_piece text piece taken)) partial) (whole refl))
partial_told form text piece taken false decodes whole all partial = inl (ap (λ n. Ok (fed n false)) (all refl))

pub fault_told : (form : BodyForm) (text piece : List ℕ) (taken : ℕ) (done : Bool) (decodes : List ℕ) (fault : PayloadFault)
    → (IsTrue done → IsBody form (text ++ take taken piece) decodes) → (done ≡ false → IsPartial form (text ++ piece))
    → IsFault form (text ++ piece) fault → IsOrOutOfMemory {A = Fed} (Ok (fed taken done)) (Err fault)
fault_told form text piece taken true decodes fault whole partial is_fault =
    absurd (no_fault_at_body form (text ++ take taken piece) (drop taken piece) decodes fault (whole refl)
    (subst (λ t. IsFault form t fault) (sym (whole_piece text piece taken)) is_fault))
fault_told form text piece taken false decodes fault whole partial is_fault =
    absurd (no_fault_at_partial form (text ++ piece) fault (partial refl) is_fault)

-- ---- after a fault

abbrev pub Blames : BodyForm → List ℕ → PayloadFault → Type 0
Blames form text fault = fault ≢ NoMemory → IsFault form text fault

pub whole_failed : (form : BodyForm) (text piece : List ℕ) (fault : PayloadFault) (answer : Fed) → Blames form (text ++ piece) fault
    → (prefix rest body : List ℕ) → text ++ piece ≡ prefix ++ rest → IsBody form prefix body → IsOrOutOfMemory (Err fault) (Ok answer)
whole_failed form text piece NoMemory answer blames prefix rest body e is_body = inr refl
whole_failed form text piece Malformed answer blames prefix rest body e is_body =
    absurd (no_fault_at_body form prefix rest body Malformed is_body
    (subst (λ t. IsFault form t Malformed) e (blames (λ (same : Malformed ≡ NoMemory). cc))))
whole_failed form text piece TooLarge answer blames prefix rest body e is_body =
    absurd (no_fault_at_body form prefix rest body TooLarge is_body
    (subst (λ t. IsFault form t TooLarge) e (blames (λ (same : TooLarge ≡ NoMemory). cc))))

pub partial_failed : (form : BodyForm) (text piece : List ℕ) (fault : PayloadFault) (answer : Fed)
    → Blames form (text ++ piece) fault → IsPartial form (text ++ piece) → IsOrOutOfMemory (Err fault) (Ok answer)
partial_failed form text piece NoMemory answer blames partial = inr refl
partial_failed form text piece Malformed answer blames partial =
    absurd (no_fault_at_partial form (text ++ piece) Malformed partial (blames (λ (same : Malformed ≡ NoMemory). cc)))
partial_failed form text piece TooLarge answer blames partial =
    absurd (no_fault_at_partial form (text ++ piece) TooLarge partial (blames (λ (same : TooLarge ≡ NoMemory). cc)))

pub fault_failed : (form : BodyForm) (text piece : List ℕ) (fault other : PayloadFault)
    → Blames form (text ++ piece) fault → IsFault form (text ++ piece) other → IsOrOutOfMemory {A = Fed} (Err fault) (Err other)
fault_failed form text piece NoMemory other blames is_fault = inr refl
fault_failed form text piece Malformed other blames is_fault =
    inl (ap Err (one_fault form (text ++ piece) Malformed other (blames (λ (same : Malformed ≡ NoMemory). cc)) is_fault))
fault_failed form text piece TooLarge other blames is_fault =
    inl (ap Err (one_fault form (text ++ piece) TooLarge other (blames (λ (same : TooLarge ≡ NoMemory). cc)) is_fault))

-- a stage that isn't a fault
pub no_fault_at : (stage : Stage) → ((fault : PayloadFault) → stage ≡ Failed fault → ⊥) → fault_at stage ≡ None
no_fault_at (Rest n) other = refl
no_fault_at Line other = refl
no_fault_at (Chunk n) other = refl
no_fault_at ChunkEnd other = refl
no_fault_at (Trailers used) other = refl
no_fault_at (Trailer used) other = refl
no_fault_at (TrailerEnd used) other = refl
no_fault_at LastEnd other = refl
no_fault_at (Failed fault) other = absurd (other fault refl)

pub same_held : {s t : Stage} {l m b d : List ℕ} → s ≡ t → l ≡ m → b ≡ d → payload_state s l b ≡ payload_state t m d
same_held {s} {t} {l} {m} {b} {d} stage line body =
    ap (λ x. payload_state x l b) stage ∙ ap (λ x. payload_state t x b) line ∙ ap (λ x. payload_state t m x) body

pub must_be_true : (b : Bool) → (b ≡ false → ⊥) → b ≡ true
must_be_true true other = refl
must_be_true false other = absurd (other refl)

pub same_fed : {n m : ℕ} {a b : Bool} → n ≡ m → a ≡ b → ◌≡◌ {A = Result Fed PayloadFault} (Ok (fed n a)) (Ok (fed m b))
same_fed {n} {m} {a} {b} taken done = ap (λ k. Ok (fed k a)) taken ∙ ap (λ k. Ok (fed m k)) done

pub nothing_again : (fault : Option PayloadFault) (P : PayloadFault → Type 0) → fault ≡ None → IfSome fault P
nothing_again fault P none = subst (λ o. IfSome o P) (sym none) tt

pub no_truth : {A : Type 0} → false ≡ true → A
no_truth e = absurd (cc)
