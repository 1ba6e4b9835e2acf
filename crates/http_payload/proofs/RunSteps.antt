-- The steps of a feed, from the clauses of its calls.
use Rattle.std.proofs.Common.{◌≡◌, ℕ, ◌+◌, ◌-◌, ◌<◌, ◌≤◌, List, [], ◌++◌, length, take, drop, min, refl, sym, ap, ◌∙◌, subst, arith, length-append, Ok, Err}
use Rattle.std.proofs.lemmas.List.{take-append-drop, length-take-le, length-drop, take_all}
use Rattle.std.proofs.Math.Seq.{take-append-add}
use Rattle.http_payload.specs.declared.payload_fault.PayloadFault.{PayloadFault}
use Rattle.http_payload.specs.declared.payload_fault.PayloadFault.TheVariants.{Malformed, TooLarge, NoMemory}
use Rattle.http_payload.specs.declared.body_stage.Stage.{Stage}
use Rattle.http_payload.specs.declared.body_stage.Stage.TheVariants.{Rest, Line, Chunk, ChunkEnd, Trailers, Trailer, TrailerEnd, LastEnd, Failed}
use Rattle.http_head.specs.declared.content_length.TheConstants.{BODY_LIMIT}
use Rattle.http_payload.specs.PayloadState.{payload_state}
use Rattle.http_payload.specs.ChunkLines.{LineFault, IsLineOf}
use Rattle.http_payload.specs.Steps.{Steps, Blocks, AfterLine, Advances}
use Rattle.http_payload.proofs.ChunkSteps.{never_line, over_line_passes, last_line_step, size_line_step, chunk_bytes_step}

-- what stops a line stops the body
pub line_blocks : (line body bytes : List ℕ) (fault : PayloadFault) → LineFault (line ++ bytes) fault
    → Blocks (payload_state Line line body) bytes fault
line_blocks line body bytes Malformed never = never_line line body bytes never
line_blocks line body bytes TooLarge never = absurd never
line_blocks line body bytes NoMemory always = tt

-- so does a size that is too large
pub size_blocks : (line body bytes : List ℕ) (taken size : ℕ) (fault : PayloadFault) → length body ≤ BODY_LIMIT
    → IsLineOf (line ++ take taken bytes) size → AfterLine (length body) size (Err fault) → Blocks (payload_state Line line body) bytes fault
size_blocks line body bytes taken size Malformed fits is_line never = absurd never
size_blocks line body bytes taken size TooLarge fits is_line over = over_line_passes line body bytes taken size is_line over fits
size_blocks line body bytes taken size NoMemory fits is_line never = absurd never

-- the end of a line
pub line_advances : (line body bytes new : List ℕ) (taken size : ℕ) (stage : Stage) → length body ≤ BODY_LIMIT
    → 0 < taken → taken ≤ length bytes → IsLineOf (line ++ take taken bytes) size → new ≡ []
    → AfterLine (length body) size (Ok stage) → Advances (payload_state Line line body) bytes taken (payload_state stage new body)
line_advances line body bytes new taken size (Rest n) fits some within is_line empty never = absurd never
line_advances line body bytes new taken size Line fits some within is_line empty never = absurd never
line_advances line body bytes new taken size (Chunk n) fits some within is_line empty h =
    subst (λ l. Advances (payload_state Line line body) bytes taken (payload_state (Chunk n) l body)) (sym empty)
    (subst (λ k. Advances (payload_state Line line body) bytes taken (payload_state (Chunk k) [] body)) (sym h.0) (record {
      some = some;
      within = within;
      steps = size_line_step line body (take taken bytes) size is_line h.1 h.2;
      sound = (refl, h.2);
      no_fault = refl;
    }))
line_advances line body bytes new taken size ChunkEnd fits some within is_line empty never = absurd never
line_advances line body bytes new taken size (Trailers n) fits some within is_line empty h =
    subst (λ l. Advances (payload_state Line line body) bytes taken (payload_state (Trailers n) l body)) (sym empty)
    (subst (λ k. Advances (payload_state Line line body) bytes taken (payload_state (Trailers k) [] body)) (sym h.1) (record {
      some = some;
      within = within;
      steps = last_line_step line body (take taken bytes) (subst (IsLineOf (line ++ take taken bytes)) h.0 is_line) fits;
      sound = omega arith;
      no_fault = refl;
    }))
line_advances line body bytes new taken size (Trailer n) fits some within is_line empty never = absurd never
line_advances line body bytes new taken size (TrailerEnd n) fits some within is_line empty never = absurd never
line_advances line body bytes new taken size LastEnd fits some within is_line empty never = absurd never
line_advances line body bytes new taken size (Failed fault) fits some within is_line empty never = absurd never

-- bytes of a chunk
pub chunk_advances : (left taken : ℕ) (line body bytes new : List ℕ) → 0 < left → 0 < length bytes → line ≡ []
    → length body + left ≤ BODY_LIMIT → taken ≡ min left (length bytes) → new ≡ body ++ take taken bytes
    → Advances (payload_state (Chunk left) line body) bytes taken (payload_state (Chunk (left - taken)) line new)
chunk_advances left taken line body bytes new some some_bytes empty fits is_taken is_new =
    let read : length (take taken bytes) ≡ taken = length-take-le taken bytes (omega arith) in
    subst (λ b. Advances (payload_state (Chunk left) line body) bytes taken (payload_state (Chunk (left - taken)) line b)) (sym is_new) (record {
      some = omega arith;
      within = omega arith;
      steps = subst (λ k. Steps (payload_state (Chunk left) line body) (take taken bytes) (payload_state (Chunk (left - k)) line (body ++ take taken bytes)))
          read (chunk_bytes_step left line body (take taken bytes) (omega arith));
      sound = (empty, omega (arith, fits, read, length-append body (take taken bytes)));
      no_fault = refl;
    })

pub take-add : (a b : ℕ) (xs : List ℕ) → a ≤ length xs → take (a + b) xs ≡ take a xs ++ take b (drop a xs)
take-add a b xs within =
    ap (λ (t : List ℕ). take (a + b) t) (sym (take-append-drop a xs))
    ∙ ap (λ k. take (k + b) (take a xs ++ drop a xs)) (sym (length-take-le a xs within))
    ∙ take-append-add (take a xs) (drop a xs) b

-- the rest of a piece
pub rest_of : (piece : List ℕ) (taken : ℕ) → take (length piece - taken) (drop taken piece) ≡ drop taken piece
rest_of piece taken = take_all (length piece - taken) (drop taken piece) (omega (arith, length-drop taken piece))
