-- The results of a payload, for the texts that it represents.
use Rattle.std.proofs.Common.{◌≡◌, ◌≢◌, ℕ, ◌+◌, ◌≤◌, List, [], ◌∷◌, ◌++◌, length, zero, suc, refl, sym, ap, ◌∙◌, subst, arith, length-append, append_assoc, append-nil, inl, inr, None, Some}
use Rattle.std.proofs.lemmas.Bool.{cases_lt, cases_eq}
use Rattle.httparse.specs.Grammar.{chunk_size}
use Rattle.http_head.specs.declared.body_form.BodyForm.{BodyForm}
use Rattle.http_head.specs.declared.body_form.BodyForm.TheVariants.{Empty, Length, Chunked}
use Rattle.http_payload.specs.declared.payload_fault.PayloadFault.{PayloadFault}
use Rattle.http_payload.specs.declared.payload_fault.PayloadFault.TheVariants.{Malformed, TooLarge, NoMemory}
use Rattle.http_payload.specs.declared.body_stage.Stage.{Stage}
use Rattle.http_payload.specs.declared.body_stage.Stage.TheVariants.{Rest, Line, Chunk, ChunkEnd, Trailers, Trailer, TrailerEnd, LastEnd, Failed}
use Rattle.http_head.specs.declared.content_length.TheConstants.{BODY_LIMIT}
use Rattle.http_payload.specs.Chunks.{crlf, trailer_texts, Ending, Whole, Over, EndsInChunks}
use Rattle.http_payload.specs.Bodies.{Ends, IsBody, HasNoEnd, IsFault, IsPartial}
use Rattle.http_payload.specs.PayloadState.{PayloadState, payload_state, Left, LeftAt, IsSoundPayload, IsSoundAt, IsOpenLine, RepresentsBody, IsDone, fault_of, fault_at, first_stage}
use Rattle.http_payload.specs.Steps.{Steps, Blocks}
use Rattle.http_payload.proofs.Prefixes.{prefixes}
use Rattle.http_payload.proofs.LineFacts.{zero_line, zero_text, zero_is_line, open_at_first}
use Rattle.http_payload.proofs.TrailerSteps.{empty_line}
use Rattle.http_payload.proofs.ByteSteps.{some_end}
use Rattle.http_payload.proofs.ChunkSteps.{line_first, closed_last, closed_over, from_size}
use Rattle.http_payload.proofs.LawLemmas.{one_outcome}

-- a payload that took bytes represents the longer text
pub represents_on : {form : BodyForm} {old new : PayloadState} {text bytes : List ℕ} → RepresentsBody form old text → Steps old bytes new
    → fault_of new ≡ None → RepresentsBody form new (text ++ bytes)
represents_on {form} {old} {new} {text} {bytes} represents steps no_fault = record {
  no_fault = no_fault;
  left = λ more ending h.
      steps.left more ending (represents.left (bytes ++ more) ending (subst (λ t. Ends form t ending) (append_assoc text bytes more) h));
  ends = λ more ending h.
      subst (λ t. Ends form t ending) (sym (append_assoc text bytes more)) (represents.ends (bytes ++ more) ending (steps.back more ending h));
}

-- something that is left
pub record GoesOn (h : PayloadState) : Type 0 where
  pub more : List ℕ
  pub ending : Ending
  pub left : Left h more ending

zeros : ℕ → List ℕ
zeros zero = []
zeros (suc n) = 0 ∷ zeros n

length-zeros : (n : ℕ) → length (zeros n) ≡ n
unfolding zeros
length-zeros zero = refl
length-zeros (suc n) = ap suc (length-zeros n)

-- the last line and the empty line
abbrev pub shortest_end : List ℕ
shortest_end = 48 ∷ 13 ∷ 10 ∷ 13 ∷ 10 ∷ []

ends_shortly : (body : List ℕ) → length body ≤ BODY_LIMIT → EndsInChunks body shortest_end (Whole body)
ends_shortly body fits = closed_last (record {
  line = zero_line;
  after = crlf;
  is_line = zero_is_line;
  zero = refl;
  trailers = empty_line 0 (omega arith);
  text_is = ap (λ (t : List ℕ). t ++ crlf) (sym zero_text);
}) fits

chunk_goes_on : (n : ℕ) (line body : List ℕ) → length body + n ≤ BODY_LIMIT → GoesOn (payload_state (Chunk n) line body)
chunk_goes_on n line body fits = record {
  more = zeros n ++ (crlf ++ shortest_end);
  ending = Whole (body ++ zeros n);
  left = record {
    bytes = zeros n;
    rest = shortest_end;
    size = length-zeros n;
    ends = ends_shortly (body ++ zeros n) (omega (arith, fits, length-append body (zeros n), length-zeros n));
    text_is = refl;
  };
}

line_goes_on : (line body : List ℕ) → IsOpenLine line → length body ≤ BODY_LIMIT → GoesOn (payload_state Line line body)
line_goes_on line body is_open fits =
    elim (cases_eq (chunk_size is_open.line) 0) [
      | inl none ↦ record {
        more = is_open.more ++ crlf;
        ending = Whole body;
        left = closed_last (record {
          line = is_open.line;
          after = crlf;
          is_line = is_open.is_line;
          zero = none;
          trailers = empty_line 0 (omega arith);
          text_is = sym (append_assoc line is_open.more crlf) ∙ ap (λ (t : List ℕ). t ++ crlf) is_open.continues;
        }) fits;
      }
      | inr some ↦ elim (cases_lt BODY_LIMIT (length body + chunk_size is_open.line)) [
        | inl over ↦ record {
          more = is_open.more;
          ending = Over;
          left = closed_over (record { line = is_open.line; is_line = is_open.is_line; over = over; text_is = is_open.continues }) fits;
        }
        | inr room ↦
            let chunk = chunk_goes_on (chunk_size is_open.line) [] body room in
            record {
              more = is_open.more ++ chunk.more;
              ending = chunk.ending;
              left = subst (λ t. EndsInChunks body t chunk.ending)
                  (ap (λ (t : List ℕ). t ++ chunk.more) (sym is_open.continues) ∙ append_assoc line is_open.more chunk.more)
                  (from_size is_open.line is_open.is_line (omega (arith, some)) chunk.left);
            }
      ]
    ]

goes_on_at : (stage : Stage) (line body : List ℕ) → IsSoundAt stage line body → fault_at stage ≡ None → GoesOn (payload_state stage line body)
goes_on_at (Rest n) line body sound no_fault =
    record { more = zeros n; ending = Whole (body ++ zeros n); left = (length-zeros n, refl) }
goes_on_at Line line body sound no_fault = line_goes_on line body sound.0 sound.1
goes_on_at (Chunk n) line body sound no_fault = chunk_goes_on n line body sound.1
goes_on_at ChunkEnd line body sound no_fault =
    record { more = 10 ∷ shortest_end; ending = Whole body; left = (shortest_end, refl, ends_shortly body sound.1) }
goes_on_at (Trailers used) line body sound no_fault =
    record { more = crlf; ending = Whole body; left = (empty_line used sound, refl) }
goes_on_at (Trailer used) line body sound no_fault = record {
  more = crlf ++ crlf;
  ending = Whole body;
  left = (
    record { bytes = []; rest = crlf; stay = tt; others = empty_line (used + 0 + 2) (omega (arith, sound)); text_is = refl },
    refl,
  );
}
goes_on_at (TrailerEnd used) line body sound no_fault =
    record { more = 10 ∷ crlf; ending = Whole body; left = (crlf, refl, empty_line (used + 1) sound, refl) }
goes_on_at LastEnd line body sound no_fault = record { more = 10 ∷ []; ending = Whole body; left = (refl, refl) }
goes_on_at (Failed fault) line body sound no_fault = absurd (let e : Some fault ≡ None = no_fault in cc)

pub continues : (h : PayloadState) → IsSoundPayload h → fault_of h ≡ None → GoesOn h
continues h sound no_fault = goes_on_at h.stage h.line h.body sound no_fault

-- what isn't done has no end yet
not_ended_at : (stage : Stage) (line body : List ℕ) → IsSoundAt stage line body → (stage ≡ Rest 0 → ⊥) → (ending : Ending)
    → LeftAt stage line body [] ending → ⊥
not_ended_at (Rest n) line body sound not_done ending h = not_done (ap Rest (sym h.0))
not_ended_at Line line body sound not_done ending h =
    let first = line_first h in
    sound.0.none first.line first.rest first.is_line (sym (append-nil line) ∙ first.text_is)
not_ended_at (Chunk n) line body sound not_done ending h = some_end h.bytes (10 ∷ h.rest) 13 h.text_is
not_ended_at ChunkEnd line body sound not_done ending h = let e = h.1 in cc
not_ended_at (Trailers used) line body sound not_done ending h =
    some_end (trailer_texts h.0.lines) (10 ∷ []) 13 h.0.text_is
not_ended_at (Trailer used) line body sound not_done ending h = some_end h.0.bytes (10 ∷ h.0.rest) 13 h.0.text_is
not_ended_at (TrailerEnd used) line body sound not_done ending h = let e = h.1 in cc
not_ended_at LastEnd line body sound not_done ending h = let e = h.0 in cc
not_ended_at (Failed fault) line body sound not_done ending h = h

-- the text of what isn't done has no end
no_end_before : (form : BodyForm) (h : PayloadState) (text : List ℕ) → RepresentsBody form h text → IsSoundPayload h
    → ((ending : Ending) → Left h [] ending → ⊥) → HasNoEnd form text
no_end_before form h text represents sound open_now prefix rest ending text_is ends =
    let on = continues h sound represents.no_fault in
    let one = one_outcome form prefix (text ++ on.more) (rest ++ on.more) [] ending on.ending ends (represents.ends on.more on.ending on.left)
    (sym (append_assoc prefix rest on.more) ∙ ap (λ (t : List ℕ). t ++ on.more) (sym text_is) ∙ sym (append-nil (text ++ on.more))) in
    let nothing : on.more ≡ [] = tail_nothing rest on.more one.1 in
    open_now on.ending (subst (λ t. Left h t on.ending) nothing on.left)
  where
    tail_nothing : (a b : List ℕ) → a ++ b ≡ [] → b ≡ []
    tail_nothing [] b e = e
    tail_nothing (x ∷ a) b e = absurd (let n : ◌≡◌ {A = List ℕ} (x ∷ (a ++ b)) [] = e in cc)

-- what isn't done is partial
pub partial_of : (form : BodyForm) (h : PayloadState) (text : List ℕ) → RepresentsBody form h text → IsSoundPayload h → (IsDone h → ⊥) → IsPartial form text
partial_of form h text represents sound not_done =
    let on = continues h sound represents.no_fault in
    record {
      no_end = no_end_before form h text represents sound (not_ended_at h.stage h.line h.body sound not_done);
      more = on.more;
      ending = on.ending;
      continues = represents.ends on.more on.ending on.left;
    }

-- what is done is complete
pub body_of : (form : BodyForm) (h : PayloadState) (text : List ℕ) → RepresentsBody form h text → IsDone h → IsBody form text h.body
body_of form h text represents done =
    let left : Left h [] (Whole h.body) = subst (λ s. LeftAt s h.line h.body [] (Whole h.body)) (sym done)
    (refl, ap Whole (sym (append-nil h.body))) in
    subst (λ t. Ends form t (Whole h.body)) (append-nil text) (represents.ends [] (Whole h.body) left)

-- what blocks a payload is a fault of the text
pub fault_of_text : (form : BodyForm) (h : PayloadState) (text bytes : List ℕ) (fault : PayloadFault) → RepresentsBody form h text → IsSoundPayload h
    → (IsDone h → ⊥) → Blocks h bytes fault → fault ≢ NoMemory → IsFault form (text ++ bytes) fault
fault_of_text form h text bytes Malformed represents sound not_done never memory =
    λ more prefix rest ending same ends. elim (cases_lt (length prefix) (length text)) [
      | inl shorter ↦
          let cut = prefixes prefix text rest (bytes ++ more) (sym same ∙ append_assoc text bytes more) (omega arith) in
          no_end_before form h text represents sound (not_ended_at h.stage h.line h.body sound not_done) prefix cut.0 ending cut.1 ends
      | inr longer ↦
          let cut = prefixes text prefix (bytes ++ more) rest (sym (append_assoc text bytes more) ∙ same) longer in
          never more cut.0 rest ending cut.2 (represents.left cut.0 ending (subst (λ t. Ends form t ending) cut.1 ends))
    ]
fault_of_text form h text bytes TooLarge represents sound not_done passes memory = (
  text ++ passes.0,
  passes.1,
  ap (λ (t : List ℕ). text ++ t) passes.2 ∙ sym (append_assoc text passes.0 passes.1),
  represents.ends passes.0 Over passes.3,
)
fault_of_text form h text bytes NoMemory represents sound not_done blocks memory = absurd (memory refl)

-- a payload at the start of a body
represents_at_first : (form : BodyForm) → RepresentsBody form (payload_state (first_stage form) [] []) []
represents_at_first Empty = record {
  no_fault = refl;
  left = λ more ending h. (ap length h.0, h.1 ∙ ap Whole (sym h.0));
  ends = λ more ending h. (nothing more h.0, h.1 ∙ ap Whole (nothing more h.0));
}
  where
    nothing : (t : List ℕ) → length t ≡ 0 → t ≡ []
    nothing [] e = refl
    nothing (x ∷ t) e = absurd (omega arith)
represents_at_first (Length n) = record { no_fault = refl; left = λ more ending h. h; ends = λ more ending h. h }
represents_at_first Chunked = record { no_fault = refl; left = λ more ending h. h; ends = λ more ending h. h }

pub represents_first : (form : BodyForm) (h : PayloadState) → h ≡ payload_state (first_stage form) [] [] → RepresentsBody form h []
represents_first form h e = subst (λ k. RepresentsBody form k []) (sym e) (represents_at_first form)

pub sound_first : (form : BodyForm) → IsSoundAt (first_stage form) [] []
sound_first Empty = tt
sound_first (Length n) = tt
sound_first Chunked = (open_at_first, omega arith)
