use Rattle.std.proofs.Common.{◌≡◌, ◌++◌, length, string_bytes}
use Rattle.slug_naming.specs.Stems.{fitting}
use Rattle.slug_naming.specs.PlainTexts.{IsPlainText}
use Rattle.slug_naming.proofs.stems.push_fitting.Given as goal

abbrev pub invariant-loop-byte : goal.invariant-loop-byte
invariant-loop-byte l = record {
  text : string_bytes l.text ++ fitting l.room l.rest ≡ string_bytes l.fn.text ++ fitting 128 l.bytes;
  plain : IsPlainText (string_bytes l.fn.text) → IsPlainText (string_bytes l.text);
}

abbrev pub decreases-loop-byte : goal.decreases-loop-byte
decreases-loop-byte l = length l.rest
