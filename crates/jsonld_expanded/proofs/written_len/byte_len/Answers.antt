use Rattle.std.proofs.Common.{ap, sym, ◌∙◌}
use Rattle.rdf_graph.specs.Size.{saturated}
use Rattle.jsonld_expanded.proofs.Widths.{escaped_control_width, letter_width, other_width}
use Rattle.jsonld_expanded.proofs.written_len.byte_len.Goals as goal

pub returns-then-has_letter : goal.returns-then-has_letter
returns-then-has_letter c = c.len_of.ensures ∙ ap saturated (sym (letter_width c.args.byte (sym c.has_letter.ensures ∙ c.if-has_letter.true)))

pub returns-then-byte-lt32 : goal.returns-then-byte-lt32
returns-then-byte-lt32 c = c.len_of-then-byte-lt32.ensures ∙ ap saturated (sym (escaped_control_width c.args.byte (sym c.has_letter.ensures ∙ c.if-has_letter.false) c.if-byte-lt32.true))

pub returns : goal.returns
returns c = c.len_of-2.ensures ∙ ap saturated (sym (other_width c.args.byte (sym c.has_letter.ensures ∙ c.if-has_letter.false) c.if-byte-lt32.false))
