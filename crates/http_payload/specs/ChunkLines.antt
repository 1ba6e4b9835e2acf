-- The line before a chunk, as its bytes come in.
use Rattle.std.specs.Prelude.{ℕ, ◌≡◌, ◌<◌, ◌≤◌, ◌⊎◌, List, [], ◌++◌, length, take, slice_index}
use Rattle.std.specs.Prelude.{Option, Some, None, ⊤}
use Rattle.httparse.specs.Grammar.{ChunkLine, print_chunk_line, chunk_size}
use Rattle.http_payload.specs.declared.payload_fault.PayloadFault.{PayloadFault}
use Rattle.http_payload.specs.declared.payload_fault.PayloadFault.TheVariants.{Malformed, TooLarge}
use Rattle.http_payload.specs.declared.payload_fault.PayloadFault.TheVariants.{NoMemory}
use Rattle.http_payload.specs.Chunks.{IsShortLine}
use Rattle.http_payload.specs.PayloadState.{IsOpenLine}

-- A prefix of a line leaves room for CR LF, or it ends in CR and leaves room for LF.
abbrev pub CanEnd : List ℕ → Type 0
CanEnd text = (length text < 255) ⊎ ((length text ≡ 255) × (slice_index text 254 ≡ 13))

-- The text has no line of at most CHUNK_LINE_LIMIT bytes as a prefix, whatever follows.
abbrev pub NeverLine : List ℕ → Type 0
NeverLine text = (more rest : List ℕ) (line : ChunkLine) → IsShortLine line
    → text ++ more ≡ print_chunk_line line ++ rest → ⊥

-- the text is a line of that size
pub record IsLineOf (text : List ℕ) (size : ℕ) : Type 0 where
  pub line : ChunkLine
  pub is_line : IsShortLine line
  pub size_is : chunk_size line ≡ size
  pub text_is : text ≡ print_chunk_line line

-- a line is a prefix of the text
pub record BeginsWithLine (text : List ℕ) (len size : ℕ) : Type 0 where
  pub within : len ≤ length text
  pub line : IsLineOf (take len text) size

-- The line continues in the bytes: it ends in them, or it is still open after those taken.
abbrev pub LineContinues : List ℕ → List ℕ → ℕ → Option ℕ → List ℕ → Type 0
LineContinues old bytes taken (Some size) new = IsLineOf (old ++ take taken bytes) size × (new ≡ [])
LineContinues old bytes taken None new = (new ≡ old ++ take taken bytes) × IsOpenLine new

-- why a line can't continue: no line does so, or it is out of memory
abbrev pub LineFault : List ℕ → PayloadFault → Type 0
LineFault text Malformed = NeverLine text
LineFault text TooLarge = ⊥
LineFault text NoMemory = ⊤
