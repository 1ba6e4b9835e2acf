-- Reading on in the line before a chunk.
use Rattle.std.proofs.Common.{◌≡◌, ℕ, ◌+◌, ◌-◌, ◌<◌, ◌≤◌, List, ◌++◌, length, take, drop, sym, ap, ◌∙◌, arith, length-append, append_assoc, inl, inr}
use Rattle.std.proofs.lemmas.Bool.{cases_lt}
use Rattle.std.proofs.Math.Seq.{take-append_seam}
use Rattle.std.proofs.lemmas.List.{take-append-drop, length-take-le}
use Rattle.httparse.specs.Grammar.{print_chunk_line}
use Rattle.http_payload.specs.declared.payload_fault.PayloadFault.{PayloadFault}
use Rattle.http_payload.specs.declared.payload_fault.PayloadFault.TheVariants.{Malformed, TooLarge, NoMemory}
use Rattle.http_payload.specs.PayloadState.{IsOpenLine}
use Rattle.http_payload.specs.ChunkLines.{LineFault, IsLineOf, BeginsWithLine}
use Rattle.http_payload.proofs.Prefixes.{prefixes}
use Rattle.http_payload.proofs.LineFacts.{length-print_chunk_line}

-- a fault of a window is one of the bytes that it begins
pub fault_wider : (old bytes : List ℕ) (n : ℕ) (fault : PayloadFault) → LineFault (old ++ take n bytes) fault
    → LineFault (old ++ bytes) fault
fault_wider old bytes n Malformed never = λ more rest line is_line e.
    never (drop n bytes ++ more) rest line is_line
    (sym (append_assoc (old ++ take n bytes) (drop n bytes) more)
    ∙ ap (λ (t : List ℕ). t ++ more) (append_assoc old (take n bytes) (drop n bytes)
    ∙ ap (λ (t : List ℕ). old ++ t) (take-append-drop n bytes)) ∙ e)
fault_wider old bytes n TooLarge never = never
fault_wider old bytes n NoMemory always = tt

-- a line in a window, of which the first bytes were kept
pub record KeptLine (old bytes : List ℕ) (len size : ℕ) : Type 0 where
  pub after : length old < len
  pub within : len ≤ length old + length bytes
  pub line : IsLineOf (old ++ take (len - length old) bytes) size

pub kept_line : (old bytes : List ℕ) (n len size : ℕ) → IsOpenLine old → BeginsWithLine (old ++ take n bytes) len size
    → n ≤ length bytes → KeptLine old bytes len size
kept_line old bytes n len size is_open begins fits =
    let text : List ℕ = old ++ take n bytes in
    let sizes : length text ≡ length old + n = length-append old (take n bytes) ∙ ap (λ k. length old + k) (length-take-le n bytes fits) in
    let printed : length (take len text) ≡ len = length-take-le len text begins.within in
    let whole : text ≡ print_chunk_line begins.line.line ++ drop len text =
    sym (take-append-drop len text) ∙ ap (λ (t : List ℕ). t ++ drop len text) begins.line.text_is in
    let past : length old < len = elim (cases_lt (length old) len) [
      | inl past ↦ past
      | inr short ↦
          let cut = prefixes (print_chunk_line begins.line.line) old (drop len text) (take n bytes) (sym whole)
          (omega (arith, short, printed, ap length begins.line.text_is)) in
          absurd (is_open.none begins.line.line cut.0 begins.line.is_line cut.1)
    ] in
    let cut = prefixes old (take len text) (take n bytes) (drop len text) (sym (take-append-drop len text)) (omega (arith, past, printed)) in
    let more : length cut.0 ≡ len - length old = omega (arith, printed, ap length cut.1, length-append old cut.0) in
    let taken : cut.0 ≡ take (len - length old) bytes =
    sym (take-append_seam cut.0 (drop len text ++ drop n bytes)) ∙ ap (λ k. take k (cut.0 ++ (drop len text ++ drop n bytes))) more
    ∙ ap (λ (t : List ℕ). take (len - length old) t)
    (sym (append_assoc cut.0 (drop len text) (drop n bytes)) ∙ ap (λ (t : List ℕ). t ++ drop n bytes) (sym cut.2) ∙ take-append-drop n bytes) in
    record {
      after = past;
      within = omega (arith, begins.within, sizes, fits);
      line = record {
        line = begins.line.line;
        is_line = begins.line.is_line;
        size_is = begins.line.size_is;
        text_is = ap (λ (t : List ℕ). old ++ t) (sym taken) ∙ sym cut.1 ∙ begins.line.text_is;
      };
    }

-- a line has some bytes
pub some_line : (text : List ℕ) (len size : ℕ) → BeginsWithLine text len size → (0 < len) × (len ≤ length text)
some_line text len size begins = (
  omega (
    arith,
    length-take-le len text begins.within,
    ap length begins.line.text_is,
    length-print_chunk_line begins.line.line begins.line.is_line.grammar,
  ),
  begins.within,
)
