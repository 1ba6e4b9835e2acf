-- One step over the bytes of a piece.
use Rattle.std.specs.Prelude.{ℕ, ◌≡◌, ◌+◌, ◌<◌, ◌≤◌, List, [], ◌∷◌, ◌++◌, length, take, None}
use Rattle.std.specs.Prelude.{Result, Ok, Err, ⊤}
use Rattle.http_payload.specs.declared.payload_fault.PayloadFault.{PayloadFault}
use Rattle.http_payload.specs.declared.payload_fault.PayloadFault.TheVariants.{Malformed, TooLarge}
use Rattle.http_payload.specs.declared.payload_fault.PayloadFault.TheVariants.{NoMemory}
use Rattle.http_payload.specs.declared.body_stage.Stage.TheVariants.{Trailers, Chunk}
use Rattle.http_head.specs.declared.content_length.TheConstants.{BODY_LIMIT}
use Rattle.http_payload.specs.Chunks.{Ending, Over}
use Rattle.http_payload.specs.declared.body_stage.Stage.{Stage}
use Rattle.http_payload.specs.PayloadState.{PayloadState, payload_state, Left, IsSoundPayload}
use Rattle.http_payload.specs.PayloadState.{IsSoundAt}
use Rattle.http_payload.specs.PayloadState.{fault_of, fault_at}

-- Where the bytes were read, what is left is the same, whatever follows.
pub record Steps (old : PayloadState) (bytes : List ℕ) (new : PayloadState) : Type 0 where
  pub left : (more : List ℕ) (ending : Ending) → Left old (bytes ++ more) ending
      → Left new more ending
  pub back : (more : List ℕ) (ending : Ending) → Left new more ending
      → Left old (bytes ++ more) ending

-- nothing with this prefix leads to an end
abbrev pub Never : PayloadState → List ℕ → Type 0
Never old bytes = (more prefix rest : List ℕ) (ending : Ending)
    → bytes ++ more ≡ prefix ++ rest → Left old prefix ending → ⊥

-- a line in the bytes has too large a size
abbrev pub HasTooLargeChunk : PayloadState → List ℕ → Type 0
HasTooLargeChunk old bytes = (prefix : List ℕ) × (rest : List ℕ) × (bytes ≡ prefix ++ rest)
    × Left old prefix Over

-- why no step is taken
abbrev pub Blocks : PayloadState → List ℕ → PayloadFault → Type 0
Blocks old bytes Malformed = Never old bytes
Blocks old bytes TooLarge = HasTooLargeChunk old bytes
Blocks old bytes NoMemory = ⊤

-- one step: some of the first bytes are read
pub record Advances (old : PayloadState) (bytes : List ℕ) (taken : ℕ) (new : PayloadState)
    : Type 0 where
  pub some : 0 < taken
  pub within : taken ≤ length bytes
  pub steps : Steps old (take taken bytes) new
  pub sound : IsSoundPayload new
  pub no_fault : fault_of new ≡ None

-- a stage takes a byte, and the next stage is the one after it
abbrev pub TakesByte : Stage → ℕ → Stage → Type 0
TakesByte stage byte next = (line body : List ℕ) → IsSoundAt stage line body
    → Steps (payload_state stage line body) (byte ∷ []) (payload_state next line body)
    × IsSoundAt next line body × (fault_at next ≡ None)

-- the stage after a line of that size, after so many bytes of chunks
abbrev pub AfterLine : ℕ → ℕ → Result Stage PayloadFault → Type 0
AfterLine used size (Ok (Trailers counted)) = (size ≡ 0) × (counted ≡ 0)
AfterLine used size (Ok (Chunk left)) = (left ≡ size) × (0 < size) × (used + size ≤ BODY_LIMIT)
AfterLine used size (Ok _) = ⊥
AfterLine used size (Err TooLarge) = BODY_LIMIT < used + size
AfterLine used size (Err _) = ⊥
