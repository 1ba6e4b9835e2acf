use Rattle.std.proofs.Common.{◌++◌, ◌-◌, sym, ◌∙◌, ap, subst, string_bytes}
use Rattle.slug_naming.specs.Stems.{fitting, escaped}
use Rattle.slug_naming.specs.PlainTexts.{IsPlainText}
use Rattle.slug_naming.proofs.FittingLemmas.{one_fits, none_fits}
use Rattle.slug_naming.proofs.PlainLemmas.{both_plain}
use Rattle.slug_naming.proofs.stems.push_fitting.Goals as goal

-- one byte more
pub loop-byte-preserved : goal.loop-byte-preserved
loop-byte-preserved c = record {
  text =
      ap (λ text. text ++ fitting (c.loop-byte.room - c.escaped_len-len.result) c.in-Some.more.now) c.in_ok-push_escaped.ensures.text
      ∙ one_fits (string_bytes c.loop-byte.text) c.loop-byte.room c.escaped_len-len.result c.in-Some.byte.now c.in-Some.more.now c.escaped_len-len.ensures c.if-len-room.false
      ∙ ap (λ rest. string_bytes c.loop-byte.text ++ fitting c.loop-byte.room rest) (sym c.in-Some.ensures.cases.0)
      ∙ c.loop-byte.invariant.text;
  plain = λ p. subst IsPlainText (sym c.in_ok-push_escaped.ensures.text) (both_plain (string_bytes c.loop-byte.text) (escaped c.in-Some.byte.now) (c.loop-byte.invariant.plain p) c.in_ok-push_escaped.ensures.plain);
}

-- the next byte has no room
pub returns-then-len-room-clause-text : goal.returns-then-len-room-clause-text
returns-then-len-room-clause-text c =
    none_fits (string_bytes c.loop-byte.text) c.loop-byte.room c.escaped_len-len.result c.in-Some.byte.now c.in-Some.more.now c.escaped_len-len.ensures c.if-len-room.true
    ∙ ap (λ rest. string_bytes c.loop-byte.text ++ fitting c.loop-byte.room rest) (sym c.in-Some.ensures.cases.0)
    ∙ c.loop-byte.invariant.text
