-- The line before a chunk and the chunk, read in pieces.
use Rattle.std.proofs.Common.{◌≡◌, ℕ, ◌+◌, ◌-◌, ◌<◌, ◌≤◌, List, [], ◌∷◌, ◌++◌, length, take, drop, refl, sym, ap, ◌∙◌, subst, arith, length-append, append_assoc, append-nil}
use Rattle.std.proofs.lemmas.List.{take-append-drop}
use Rattle.std.specs.List.{AllByRecursion}
use Rattle.httparse.specs.Grammar.{ChunkLine, print_chunk_line, chunk_size}
use Rattle.httparse.proofs.ChunkLemmas.{chunk_line_unique}
use Rattle.http_payload.specs.declared.body_stage.Stage.TheVariants.{Rest, Line, Chunk as InTheChunk, Trailers}
use Rattle.http_head.specs.declared.content_length.TheConstants.{BODY_LIMIT}
use Rattle.http_payload.specs.Chunks.{crlf, IsShortLine, Chunk, chunk_text, IsChunk, chunk_texts, chunk_bytes, IsTrailers, IsLast, IsOverLine, Ending, Whole, Over, EndsAs, EndsInChunks, InChunk}
use Rattle.http_payload.specs.PayloadState.{payload_state}
use Rattle.http_payload.specs.ChunkLines.{NeverLine, IsLineOf}
use Rattle.http_payload.specs.Steps.{Steps, Never, HasTooLargeChunk}
use Rattle.http_payload.proofs.Prefixes.{prefixes}

-- one line is a prefix of a text
pub one_line : (l k : ChunkLine) (r q : List ℕ) → IsShortLine l → IsShortLine k
    → print_chunk_line l ++ r ≡ print_chunk_line k ++ q → (l ≡ k) × (r ≡ q)
one_line l k r q is_l is_k e =
    chunk_line_unique (print_chunk_line l ++ r) l k r q (is_l.grammar, refl) (is_k.grammar, e)

-- how a text of chunks begins
pub data Opens (before text : List ℕ) (ending : Ending) : Type 0 where
  at_last : IsLast text → ending ≡ Whole before → length before ≤ BODY_LIMIT → Opens before text ending
  at_over : IsOverLine (length before) text → ending ≡ Over → length before ≤ BODY_LIMIT → Opens before text ending
  at_chunk : (chunk : Chunk) (rest : List ℕ) → IsChunk chunk → text ≡ chunk_text chunk ++ rest
      → EndsInChunks (before ++ chunk.bytes) rest ending → Opens before text ending

pub opens_as : (before text : List ℕ) (ending : Ending) (chunks : List Chunk) (after : List ℕ)
    → AllByRecursion IsChunk chunks → length (before ++ chunk_bytes chunks) ≤ BODY_LIMIT
    → EndsAs (before ++ chunk_bytes chunks) after ending → text ≡ chunk_texts chunks ++ after → Opens before text ending
opens_as before text (Whole body) [] after each fits ends text_is =
    let same : before ++ [] ≡ before = append-nil before in
    at_last (subst IsLast (sym text_is) ends.0) (ap Whole (ends.1 ∙ same)) (omega (arith, fits, ap length same))
opens_as before text Over [] after each fits ends text_is =
    let same : before ++ [] ≡ before = append-nil before in
    at_over (subst (λ t. IsOverLine (length before) t) (sym text_is) (subst (λ (t : List ℕ). IsOverLine (length t) after) same ends))
    refl (omega (arith, fits, ap length same))
opens_as before text ending (c ∷ chunks) after each fits ends text_is =
    let regroup : before ++ (c.bytes ++ chunk_bytes chunks) ≡ (before ++ c.bytes) ++ chunk_bytes chunks =
    sym (append_assoc before c.bytes (chunk_bytes chunks)) in
    at_chunk c (chunk_texts chunks ++ after) each.0 (text_is ∙ append_assoc (chunk_text c) (chunk_texts chunks) after)
    (record {
      chunks = chunks;
      after = after;
      each = each.1;
      fits = subst (λ (t : List ℕ). length t ≤ BODY_LIMIT) regroup fits;
      ends = subst (λ t. EndsAs t after ending) regroup ends;
      text_is = refl;
    })

pub opened : {before text : List ℕ} {ending : Ending} → EndsInChunks before text ending → Opens before text ending
opened {before} {text} {ending} h = opens_as before text ending h.chunks h.after h.each h.fits h.ends h.text_is

-- and back
pub closed_last : {before text : List ℕ} → IsLast text → length before ≤ BODY_LIMIT → EndsInChunks before text (Whole before)
closed_last {before} {text} last fits =
    let same : before ++ [] ≡ before = append-nil before in
    record {
      chunks = [];
      after = text;
      each = tt;
      fits = subst (λ (t : List ℕ). length t ≤ BODY_LIMIT) (sym same) fits;
      ends = (last, sym same);
      text_is = refl;
    }

pub closed_over : {before text : List ℕ} → IsOverLine (length before) text → length before ≤ BODY_LIMIT
    → EndsInChunks before text Over
closed_over {before} {text} over fits =
    let same : before ++ [] ≡ before = append-nil before in
    record {
      chunks = [];
      after = text;
      each = tt;
      fits = subst (λ (t : List ℕ). length t ≤ BODY_LIMIT) (sym same) fits;
      ends = subst (λ (t : List ℕ). IsOverLine (length t) text) (sym same) over;
      text_is = refl;
    }

pub closed_chunk : {before rest : List ℕ} {ending : Ending} (chunk : Chunk) → IsChunk chunk
    → EndsInChunks (before ++ chunk.bytes) rest ending → EndsInChunks before (chunk_text chunk ++ rest) ending
closed_chunk {before} {rest} {ending} c is_chunk h =
    let regroup : (before ++ c.bytes) ++ chunk_bytes h.chunks ≡ before ++ (c.bytes ++ chunk_bytes h.chunks) =
    append_assoc before c.bytes (chunk_bytes h.chunks) in
    record {
      chunks = c ∷ h.chunks;
      after = h.after;
      each = (is_chunk, h.each);
      fits = subst (λ (t : List ℕ). length t ≤ BODY_LIMIT) regroup h.fits;
      ends = subst (λ t. EndsAs t h.after ending) regroup h.ends;
      text_is = ap (λ (t : List ℕ). chunk_text c ++ t) h.text_is ∙ sym (append_assoc (chunk_text c) (chunk_texts h.chunks) h.after);
    }

-- a text of chunks begins with a line
pub record LineFirst (text : List ℕ) : Type 0 where
  pub line : ChunkLine
  pub rest : List ℕ
  pub is_line : IsShortLine line
  pub text_is : text ≡ print_chunk_line line ++ rest

pub line_first : {before text : List ℕ} {ending : Ending} → EndsInChunks before text ending → LineFirst text
line_first {before} {text} {ending} h = by_case (opened h)
  where
    by_case : Opens before text ending → LineFirst text
    by_case (at_last last whole fits) = record { line = last.line; rest = last.after; is_line = last.is_line; text_is = last.text_is }
    by_case (at_over over is_over fits) =
        record { line = over.line; rest = []; is_line = over.is_line; text_is = over.text_is ∙ sym (append-nil (print_chunk_line over.line)) }
    by_case (at_chunk c rest is_chunk text_is ends) = record {
      line = c.line;
      rest = (c.bytes ++ crlf) ++ rest;
      is_line = is_chunk.line;
      text_is = text_is ∙ append_assoc (print_chunk_line c.line) (c.bytes ++ crlf) rest;
    }

-- after a line of size 0 come the trailers
pub after_zero : {before rest : List ℕ} {ending : Ending} (line : ChunkLine) → IsShortLine line → chunk_size line ≡ 0
    → EndsInChunks before (print_chunk_line line ++ rest) ending → IsTrailers 0 rest × (ending ≡ Whole before)
after_zero {before} {rest} {ending} line is_line zero h = by_case (opened h)
  where
    by_case : Opens before (print_chunk_line line ++ rest) ending → IsTrailers 0 rest × (ending ≡ Whole before)
    by_case (at_last last whole fits) =
        let same = one_line line last.line rest last.after is_line last.is_line last.text_is in
        (subst (IsTrailers 0) (sym same.1) last.trailers, whole)
    by_case (at_over over is_over fits) =
        let same = one_line line over.line rest [] is_line over.is_line (over.text_is ∙ sym (append-nil (print_chunk_line over.line))) in
        absurd (omega (arith, over.over, ap chunk_size same.0, zero, fits))
    by_case (at_chunk c later is_chunk text_is ends) =
        let same = one_line line c.line rest ((c.bytes ++ crlf) ++ later) is_line is_chunk.line
        (text_is ∙ append_assoc (print_chunk_line c.line) (c.bytes ++ crlf) later) in
        absurd (omega (arith, is_chunk.some, is_chunk.size, ap chunk_size same.0, zero))

-- after a line of another size that fits comes the chunk
pub after_size : {before rest : List ℕ} {ending : Ending} (line : ChunkLine) → IsShortLine line → 0 < chunk_size line
    → length before + chunk_size line ≤ BODY_LIMIT
    → EndsInChunks before (print_chunk_line line ++ rest) ending → InChunk (chunk_size line) before rest ending
after_size {before} {rest} {ending} line is_line some room h = by_case (opened h)
  where
    by_case : Opens before (print_chunk_line line ++ rest) ending → InChunk (chunk_size line) before rest ending
    by_case (at_last last whole fits) =
        let same = one_line line last.line rest last.after is_line last.is_line last.text_is in
        absurd (omega (arith, last.zero, ap chunk_size same.0, some))
    by_case (at_over over is_over fits) =
        let same = one_line line over.line rest [] is_line over.is_line (over.text_is ∙ sym (append-nil (print_chunk_line over.line))) in
        absurd (omega (arith, over.over, ap chunk_size same.0, room))
    by_case (at_chunk c later is_chunk text_is ends) =
        let same = one_line line c.line rest ((c.bytes ++ crlf) ++ later) is_line is_chunk.line
        (text_is ∙ append_assoc (print_chunk_line c.line) (c.bytes ++ crlf) later) in
        record {
          bytes = c.bytes;
          rest = later;
          size = sym is_chunk.size ∙ sym (ap chunk_size same.0);
          ends = ends;
          text_is = same.1 ∙ append_assoc c.bytes crlf later;
        }

pub from_size : {before rest : List ℕ} {ending : Ending} (line : ChunkLine) → IsShortLine line → 0 < chunk_size line
    → InChunk (chunk_size line) before rest ending → EndsInChunks before (print_chunk_line line ++ rest) ending
from_size {before} {rest} {ending} line is_line some h =
    let chunk : Chunk = record { line = line; bytes = h.bytes } in
    let text : chunk_text chunk ++ h.rest ≡ print_chunk_line line ++ rest =
    append_assoc (print_chunk_line line) (h.bytes ++ crlf) h.rest
    ∙ ap (λ (t : List ℕ). print_chunk_line line ++ t) (append_assoc h.bytes crlf h.rest ∙ sym h.text_is) in
    subst (λ t. EndsInChunks before t ending) text
    (closed_chunk chunk (record { line = is_line; size = sym h.size; some = omega (arith, some, h.size) }) h.ends)

-- ---- the steps

-- bytes of a chunk
pub chunk_bytes_step : (n : ℕ) (line body bytes : List ℕ) → length bytes ≤ n
    → Steps (payload_state (InTheChunk n) line body) bytes (payload_state (InTheChunk (n - length bytes)) line (body ++ bytes))
chunk_bytes_step n line body bytes fits = record {
  left = λ more ending h.
      let cut = prefixes bytes h.bytes more (crlf ++ h.rest) h.text_is (omega (arith, fits, h.size)) in
      let regroup : body ++ h.bytes ≡ (body ++ bytes) ++ cut.0 =
      ap (λ (t : List ℕ). body ++ t) cut.1 ∙ sym (append_assoc body bytes cut.0) in
      record {
        bytes = cut.0;
        rest = h.rest;
        size = omega (arith, h.size, ap length cut.1, length-append bytes cut.0);
        ends = subst (λ t. EndsInChunks t h.rest ending) regroup h.ends;
        text_is = cut.2;
      };
  back = λ more ending h. record {
    bytes = bytes ++ h.bytes;
    rest = h.rest;
    size = omega (arith, h.size, length-append bytes h.bytes, fits);
    ends = subst (λ t. EndsInChunks t h.rest ending) (append_assoc body bytes h.bytes) h.ends;
    text_is = ap (λ (t : List ℕ). bytes ++ t) h.text_is ∙ sym (append_assoc bytes h.bytes (crlf ++ h.rest));
  };
}

-- bytes of a body of a known length
pub rest_step : (n : ℕ) (line body bytes : List ℕ) → length bytes ≤ n
    → Steps (payload_state (Rest n) line body) bytes (payload_state (Rest (n - length bytes)) line (body ++ bytes))
rest_step n line body bytes fits = record {
  left = λ more ending h. (
    omega (arith, h.0, length-append bytes more),
    h.1 ∙ ap Whole (sym (append_assoc body bytes more)),
  );
  back = λ more ending h. (
    omega (arith, h.0, length-append bytes more, fits),
    h.1 ∙ ap Whole (append_assoc body bytes more),
  );
}

-- more bytes of a line
pub line_step : (line body bytes new : List ℕ) → new ≡ line ++ bytes → Steps (payload_state Line line body) bytes (payload_state Line new body)
line_step line body bytes new is_new = record {
  left = λ more ending h.
      subst (λ t. EndsInChunks body t ending) (sym (append_assoc line bytes more) ∙ ap (λ (t : List ℕ). t ++ more) (sym is_new)) h;
  back = λ more ending h.
      subst (λ t. EndsInChunks body t ending) (ap (λ (t : List ℕ). t ++ more) is_new ∙ append_assoc line bytes more) h;
}

-- the end of the last line
pub last_line_step : (line body bytes : List ℕ) → IsLineOf (line ++ bytes) 0 → length body ≤ BODY_LIMIT
    → Steps (payload_state Line line body) bytes (payload_state (Trailers 0) [] body)
last_line_step line body bytes l fits =
    let text = λ (more : List ℕ). sym (append_assoc line bytes more) ∙ ap (λ (t : List ℕ). t ++ more) l.text_is in
    record {
      left = λ more ending h. after_zero l.line l.is_line l.size_is (subst (λ t. EndsInChunks body t ending) (text more) h);
      back = λ more ending h.
          subst (λ e. EndsInChunks body (line ++ (bytes ++ more)) e) (sym h.1)
          (subst (λ t. EndsInChunks body t (Whole body)) (sym (text more))
          (closed_last (record { line = l.line; after = more; is_line = l.is_line; zero = l.size_is; trailers = h.0; text_is = refl }) fits));
    }

-- the end of another line
pub size_line_step : (line body bytes : List ℕ) (size : ℕ) → IsLineOf (line ++ bytes) size → 0 < size
    → length body + size ≤ BODY_LIMIT → Steps (payload_state Line line body) bytes (payload_state (InTheChunk size) [] body)
size_line_step line body bytes size l some room =
    let text = λ (more : List ℕ). sym (append_assoc line bytes more) ∙ ap (λ (t : List ℕ). t ++ more) l.text_is in
    let is_some : 0 < chunk_size l.line = omega (arith, some, l.size_is) in
    record {
      left = λ more ending h.
          subst (λ n. InChunk n body more ending) l.size_is
          (after_size l.line l.is_line is_some (omega (arith, room, l.size_is)) (subst (λ t. EndsInChunks body t ending) (text more) h));
      back = λ more ending h.
          subst (λ t. EndsInChunks body t ending) (sym (text more))
          (from_size l.line l.is_line is_some (subst (λ n. InChunk n body more ending) (sym l.size_is) h));
    }

-- a line whose size is too large
pub over_line_passes : (line body bytes : List ℕ) (taken size : ℕ) → IsLineOf (line ++ take taken bytes) size
    → BODY_LIMIT < length body + size → length body ≤ BODY_LIMIT → HasTooLargeChunk (payload_state Line line body) bytes
over_line_passes line body bytes taken size l over fits = (
  take taken bytes,
  drop taken bytes,
  sym (take-append-drop taken bytes),
  closed_over (record { line = l.line; is_line = l.is_line; over = omega (arith, over, l.size_is); text_is = l.text_is }) fits,
)

-- where no line continues so, no body does
pub never_line : (line body bytes : List ℕ) → NeverLine (line ++ bytes) → Never (payload_state Line line body) bytes
never_line line body bytes never more prefix rest ending e h =
    let first = line_first h in
    never more (first.rest ++ rest) first.line first.is_line
    (append_assoc line bytes more ∙ ap (λ (t : List ℕ). line ++ t) e ∙ sym (append_assoc line prefix rest)
    ∙ ap (λ (t : List ℕ). t ++ rest) first.text_is ∙ append_assoc (print_chunk_line first.line) first.rest rest)
