-- A body in chunks (RFC 9112, section 7.1). A line before a chunk is one to sixteen hexadecimal
-- digits, then blanks, then optionally a semicolon and any bytes but CR and LF, then CR LF:
-- `ChunkLine` holds its parts.
use Rattle.std.specs.Prelude.{ℕ, ◌≡◌, ◌+◌, ◌<◌, ◌≤◌, ◌==◌, ◌||◌, not, Bool, IsTrue, List, [], ◌∷◌}
use Rattle.std.specs.Prelude.{◌++◌, length}
use Rattle.std.specs.List.{flat_map, AllByRecursion}
use Rattle.http_head.specs.declared.content_length.TheConstants.{BODY_LIMIT}
use Rattle.http_payload.specs.declared.chunk_line.TheConstants.{CHUNK_LINE_LIMIT}
use Rattle.http_payload.specs.declared.body_stage.TheConstants.{TRAILERS_LIMIT}
use Rattle.httparse.specs.Grammar.{ChunkLine, IsChunkLine, print_chunk_line, chunk_size}

-- CR LF
abbrev pub crlf : List ℕ
crlf = 13 ∷ 10 ∷ []

-- a line before a chunk, and it isn't too long
pub record IsShortLine (line : ChunkLine) : Type 0 where
  pub grammar : IsChunkLine line
  pub short : length (print_chunk_line line) ≤ CHUNK_LINE_LIMIT

-- a chunk: its line, and its bytes
pub record Chunk : Type 0 where
  pub line : ChunkLine
  pub bytes : List ℕ

abbrev pub chunk_text : Chunk → List ℕ
chunk_text chunk = print_chunk_line chunk.line ++ (chunk.bytes ++ crlf)

-- A chunk has as many bytes as its line says, at least one.
pub record IsChunk (chunk : Chunk) : Type 0 where
  pub line : IsShortLine chunk.line
  pub size : chunk_size chunk.line ≡ length chunk.bytes
  pub some : 0 < length chunk.bytes

-- the texts of chunks, one after the other, and their bytes
abbrev pub chunk_texts : List Chunk → List ℕ
chunk_texts chunks = flat_map chunk_text chunks

abbrev pub chunk_bytes : List Chunk → List ℕ
chunk_bytes chunks = flat_map (λ chunk. chunk.bytes) chunks

-- any byte but CR and LF
abbrev pub is_line_byte : ℕ → Bool
is_line_byte b = not (b == 13 || b == 10)

abbrev pub AreLineBytes : List ℕ → Type 0
AreLineBytes bytes = AllByRecursion (λ b. IsTrue (is_line_byte b)) bytes

-- a trailer line without its end: it isn't empty
abbrev pub IsTrailer : List ℕ → Type 0
IsTrailer line = (0 < length line) × AreLineBytes line

abbrev pub trailer_texts : List (List ℕ) → List ℕ
trailer_texts lines = flat_map (λ line. line ++ crlf) lines

-- The text is trailer lines and the empty line. With `used` bytes of trailer lines before it, it
-- isn't too long.
pub record IsTrailers (used : ℕ) (text : List ℕ) : Type 0 where
  pub lines : List (List ℕ)
  pub each : AllByRecursion IsTrailer lines
  pub fits : used + length (trailer_texts lines) ≤ TRAILERS_LIMIT
  pub text_is : text ≡ trailer_texts lines ++ crlf

-- what follows in a trailer line after `used` bytes of trailer lines: the rest of it, its end, and
-- the others
pub record InTrailer (used : ℕ) (text : List ℕ) : Type 0 where
  pub bytes : List ℕ
  pub rest : List ℕ
  pub stay : AreLineBytes bytes
  pub others : IsTrailers (used + length bytes + 2) rest
  pub text_is : text ≡ bytes ++ (crlf ++ rest)

-- The text is the last line, whose size is 0, and the trailers.
pub record IsLast (text : List ℕ) : Type 0 where
  pub line : ChunkLine
  pub after : List ℕ
  pub is_line : IsShortLine line
  pub zero : chunk_size line ≡ 0
  pub trailers : IsTrailers 0 after
  pub text_is : text ≡ print_chunk_line line ++ after

-- The text is a line whose size is too large after `used` bytes of chunks.
pub record IsOverLine (used : ℕ) (text : List ℕ) : Type 0 where
  pub line : ChunkLine
  pub is_line : IsShortLine line
  pub over : BODY_LIMIT < used + chunk_size line
  pub text_is : text ≡ print_chunk_line line

-- How a text ends: as a complete body with this content, or at a line whose size is too large.
pub data Ending : Type 0 where
  Whole : List ℕ → Ending
  Over : Ending

-- what follows chunks with this content
abbrev pub EndsAs : List ℕ → List ℕ → Ending → Type 0
EndsAs bytes text (Whole body) = IsLast text × (body ≡ bytes)
EndsAs bytes text Over = IsOverLine (length bytes) text

-- After chunks with the content `before`, the text is chunks and such an ending.
pub record EndsInChunks (before text : List ℕ) (ending : Ending) : Type 0 where
  pub chunks : List Chunk
  pub after : List ℕ
  pub each : AllByRecursion IsChunk chunks
  pub fits : length (before ++ chunk_bytes chunks) ≤ BODY_LIMIT
  pub ends : EndsAs (before ++ chunk_bytes chunks) after ending
  pub text_is : text ≡ chunk_texts chunks ++ after

-- what follows in a chunk of which `left` bytes are still to come, after the bytes before: these,
-- the end, and the rest
pub record InChunk (left : ℕ) (before text : List ℕ) (ending : Ending) : Type 0 where
  pub bytes : List ℕ
  pub rest : List ℕ
  pub size : length bytes ≡ left
  pub ends : EndsInChunks (before ++ bytes) rest ending
  pub text_is : text ≡ bytes ++ (crlf ++ rest)
