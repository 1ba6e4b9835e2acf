use Rattle.std.proofs.Common.{◌≡◌, ◌∙◌, ◌==◌, ◌&&◌, List, Bool, true, false, length, codes, sym, ap, arith}
use Rattle.std.proofs.lemmas.Bool.Decides.{nat_tests}
use Rattle.std.specs.List.{list_all}
use Rattle.std.specs.Str.{str_eq_ignore_ascii_case}
use Rattle.std.proofs.lemmas.List.Sums.{length-filter}
use Rattle.pod_base.specs.Fields.{is_named}
use Rattle.pod_base.specs.declared.field.Field.{Field}
use Rattle.http_head.specs.BodyFraming.{codings}
use Rattle.http_head.proofs.BodyFramingLemmas.{one_coding}
use Rattle.http_head.proofs.body_framing.is_chunked.Goals as goal

pub returns-then-count-eq1 : goal.returns-then-count-eq1
returns-then-count-eq1 c =
    let all : List Field = codings c.args.fields.now in
    let each : Bool = list_all (λ (f : Field). str_eq_ignore_ascii_case f.value (codes "chunked")) all in
    let count : length all ≡ 1 = length-filter (is_named (codes "transfer-encoding")) c.args.fields.now ∙ sym c.count.ensures ∙ c.if-count-eq1.true in
    let one : (length all == 1) ≡ true = grind (arith, nat_tests, count) in
    c.are_chunked.ensures ∙ sym (ap (λ x. x && each) one) ∙ one_coding all

pub returns-else-count-eq1 : goal.returns-else-count-eq1
returns-else-count-eq1 c =
    let all : List Field = codings c.args.fields.now in
    let each : Bool = list_all (λ (f : Field). str_eq_ignore_ascii_case f.value (codes "chunked")) all in
    let count : length all ≡ c.count.result = length-filter (is_named (codes "transfer-encoding")) c.args.fields.now ∙ sym c.count.ensures in
    let none : (c.count.result == 1) ≡ false = grind (arith, nat_tests, c.if-count-eq1.false) in
    let same : (length all == 1) ≡ false = ap (λ n. n == 1) count ∙ none in
    none ∙ sym (ap (λ x. x && each) same) ∙ one_coding all
