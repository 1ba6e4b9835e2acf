use Rattle.std.proofs.Common.{◌∙◌, ◌==◌, ap, length, drop}
use Rattle.std.specs.Prelude.{count_by}
use Rattle.memchr.proofs.lemmas.CallerLemmas.{length-places}
use Rattle.memchr.specs.Find.{is_byte}
use Rattle.http_head.proofs.head_parser.line_count.Goals as goal

pub returns : goal.returns
returns c =
    c.count.ensures ∙ ap length c.memchr_iter.ensures.value ∙ length-places (is_byte 10) c.suffix_from-lines.result.now ∙ ap (count_by (λ b. b == 10)) c.suffix_from-lines.ensures
    ∙ ap (λ n. count_by (λ b. b == 10) (drop n c.args.head.now)) c.blank_length.ensures.exact
