-- The state of a payload, and the texts that it represents.
use Rattle.std.specs.Prelude.{ℕ, ◌≡◌, ◌+◌, ◌≤◌, List, [], ◌∷◌, ◌++◌, length, Option, Some, None, ⊤}
use Rattle.httparse.specs.Grammar.{ChunkLine, print_chunk_line}
use Rattle.http_head.specs.declared.body_form.BodyForm.{BodyForm}
use Rattle.http_head.specs.declared.body_form.BodyForm.TheVariants.{Empty, Length, Chunked}
use Rattle.http_payload.specs.declared.payload_fault.PayloadFault.{PayloadFault}
use Rattle.http_payload.specs.declared.body_stage.Stage.{Stage}
use Rattle.http_payload.specs.declared.body_stage.Stage.TheVariants.{Rest, Line, Chunk, ChunkEnd}
use Rattle.http_payload.specs.declared.body_stage.Stage.TheVariants.{Trailers, Trailer, TrailerEnd}
use Rattle.http_payload.specs.declared.body_stage.Stage.TheVariants.{LastEnd, Failed}
use Rattle.http_head.specs.declared.content_length.TheConstants.{BODY_LIMIT}
use Rattle.http_payload.specs.declared.body_stage.TheConstants.{TRAILERS_LIMIT}
use Rattle.http_payload.specs.Chunks.{Ending, Whole, IsShortLine, IsTrailers, InTrailer, InChunk}
use Rattle.http_payload.specs.Chunks.{EndsInChunks}
use Rattle.http_payload.specs.Bodies.{Ends}

-- the state of a payload: its stage, what has come of the line before a chunk, and the content so
-- far
pub record PayloadState : Type 0 where
  pub stage : Stage
  pub line : List ℕ
  pub body : List ℕ

abbrev pub payload_state : Stage → List ℕ → List ℕ → PayloadState
payload_state stage line body = record { stage = stage; line = line; body = body }

-- The body is complete.
abbrev pub IsDone : PayloadState → Type 0
IsDone h = h.stage ≡ Rest 0

-- the fault that was returned
abbrev pub fault_at : Stage → Option PayloadFault
fault_at (Rest n) = None
fault_at Line = None
fault_at (Chunk n) = None
fault_at ChunkEnd = None
fault_at (Trailers used) = None
fault_at (Trailer used) = None
fault_at (TrailerEnd used) = None
fault_at LastEnd = None
fault_at (Failed fault) = Some fault

abbrev pub fault_of : PayloadState → Option PayloadFault
fault_of h = fault_at h.stage

-- the first stage of a body of that form
abbrev pub first_stage : BodyForm → Stage
first_stage Empty = Rest 0
first_stage (Length n) = Rest n
first_stage Chunked = Line

-- what is still to come, and how it ends then
abbrev pub LeftAt : Stage → List ℕ → List ℕ → List ℕ → Ending → Type 0
LeftAt (Rest n) line body more ending = (length more ≡ n) × (ending ≡ Whole (body ++ more))
LeftAt Line line body more ending = EndsInChunks body (line ++ more) ending
LeftAt (Chunk n) line body more ending = InChunk n body more ending
LeftAt ChunkEnd line body more ending = (rest : List ℕ) × (more ≡ 10 ∷ rest)
    × EndsInChunks body rest ending
LeftAt (Trailers used) line body more ending = IsTrailers used more × (ending ≡ Whole body)
LeftAt (Trailer used) line body more ending = InTrailer used more × (ending ≡ Whole body)
LeftAt (TrailerEnd used) line body more ending =
    (rest : List ℕ) × (more ≡ 10 ∷ rest) × IsTrailers (used + 1) rest × (ending ≡ Whole body)
LeftAt LastEnd line body more ending = (more ≡ 10 ∷ []) × (ending ≡ Whole body)
LeftAt (Failed fault) line body more ending = ⊥

abbrev pub Left : PayloadState → List ℕ → Ending → Type 0
Left h more ending = LeftAt h.stage h.line h.body more ending

-- A prefix of a line before a chunk: no line is a prefix of it, and something that follows makes a
-- line of it.
pub record IsOpenLine (text : List ℕ) : Type 0 where
  pub none : (line : ChunkLine) (rest : List ℕ) → IsShortLine line
      → text ≡ print_chunk_line line ++ rest → ⊥
  pub more : List ℕ
  pub line : ChunkLine
  pub is_line : IsShortLine line
  pub continues : text ++ more ≡ print_chunk_line line

-- what is true of each payload, so that its text can still be a body
abbrev pub IsSoundAt : Stage → List ℕ → List ℕ → Type 0
IsSoundAt (Rest n) line body = ⊤
IsSoundAt Line line body = IsOpenLine line × (length body ≤ BODY_LIMIT)
IsSoundAt (Chunk n) line body = (line ≡ []) × (length body + n ≤ BODY_LIMIT)
IsSoundAt ChunkEnd line body = (line ≡ []) × (length body ≤ BODY_LIMIT)
IsSoundAt (Trailers used) line body = used ≤ TRAILERS_LIMIT
IsSoundAt (Trailer used) line body = used + 2 ≤ TRAILERS_LIMIT
IsSoundAt (TrailerEnd used) line body = used + 1 ≤ TRAILERS_LIMIT
IsSoundAt LastEnd line body = ⊤
IsSoundAt (Failed fault) line body = ⊤

-- a stage that takes bytes one by one, its count of trailer bytes within the limit
abbrev pub TakesBytes : Stage → Type 0
TakesBytes (Rest n) = ⊥
TakesBytes Line = ⊥
TakesBytes (Chunk n) = n ≡ 0
TakesBytes ChunkEnd = ⊤
TakesBytes (Trailers used) = used ≤ TRAILERS_LIMIT
TakesBytes (Trailer used) = used + 2 ≤ TRAILERS_LIMIT
TakesBytes (TrailerEnd used) = used + 1 ≤ TRAILERS_LIMIT
TakesBytes LastEnd = ⊤
TakesBytes (Failed fault) = ⊥

abbrev pub IsSoundPayload : PayloadState → Type 0
IsSoundPayload h = IsSoundAt h.stage h.line h.body

-- The payload is in the state after this text of that form: whatever follows, the text continues to
-- an end exactly where what is left does. After a fault it represents no text.
pub record RepresentsBody (form : BodyForm) (h : PayloadState) (text : List ℕ) : Type 0 where
  pub no_fault : fault_of h ≡ None
  pub left : (more : List ℕ) (ending : Ending) → Ends form (text ++ more) ending
      → Left h more ending
  pub ends : (more : List ℕ) (ending : Ending) → Left h more ending
      → Ends form (text ++ more) ending
