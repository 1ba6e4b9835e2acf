-- The line before a chunk: its beginnings, and its limit.
use Rattle.std.proofs.Common.{◌≡◌, ◌≤◌, IsTrue, [], ◌∷◌, ◌++◌, length, refl, sym, ap, arith, length-append, None}
use Rattle.std.proofs.lemmas.List.Elements.{All-nil, All-cons}
use Rattle.httparse.specs.Grammar.{ChunkLine, IsChunkLine, print_chunk_line, print_extension, print_end, crlf, is_ows}
use Rattle.std.specs.Char.{is_ascii_hexdigit}
use Rattle.http_payload.specs.Chunks.{IsShortLine}
use Rattle.http_payload.specs.PayloadState.{IsOpenLine}

-- a line has a digit and its end
pub length-print_chunk_line : (line : ChunkLine) → IsChunkLine line → 3 ≤ length (print_chunk_line line)
unfolding print_chunk_line
length-print_chunk_line line grammar =
    let digits = line.digits in
    let pad = line.pad in
    let extension = print_extension line.extension in
    omega (
      arith,
      grammar.digits.0,
      length-append ((digits ++ pad) ++ extension) (print_end crlf),
      length-append (digits ++ pad) extension,
      length-append digits pad,
    )

-- the line of size 0
abbrev pub zero_line : ChunkLine
zero_line = record { digits = 48 ∷ []; pad = []; extension = None }

pub zero_text : print_chunk_line zero_line ≡ 48 ∷ 13 ∷ 10 ∷ []
unfolding print_chunk_line
zero_text = refl

pub zero_is_line : IsShortLine zero_line
zero_is_line = record {
  grammar = record {
    digits = (omega arith, omega arith, All-cons (λ b. IsTrue (is_ascii_hexdigit b)) 48 [] refl (All-nil (λ b. IsTrue (is_ascii_hexdigit b))));
    pad = All-nil (λ b. IsTrue (is_ows b));
    extension = tt;
  };
  short = rw zero_text (omega arith);
}

-- nothing has come of a line
pub open_at_first : IsOpenLine []
open_at_first = record {
  none = λ line rest is_line e.
      omega (arith, length-print_chunk_line line is_line.grammar, ap length e, length-append (print_chunk_line line) rest);
  more = 48 ∷ 13 ∷ 10 ∷ [];
  line = zero_line;
  is_line = zero_is_line;
  continues = sym zero_text;
}
