use Rattle.std.proofs.Common.{◌≡◌, ◌∷◌, ◌||◌, ◌+◌, length, false, true, sym, ap, ◌∙◌, lit<, arith, rules, length-append}
use Rattle.std.proofs.lemmas.Str.Pattern.{split_parts}
use Rattle.iri_ref.specs.Characters.{slash}
use Rattle.iri_ref.specs.Segments.{segments, is_dot_segment}
use Rattle.iri_ref.proofs.Texts.{lacks_from_reads}
use Rattle.pod_path.specs.Norm.{is_empty, is_auxiliary_name, is_reserved_name}
use Rattle.pod_path.proofs.SegmentCount.{goes_on, goes_one_on, ends_in_dots, ends}
use Rattle.pod_path.proofs.segments.count_segments.Goals as goal

pub loop-segment-preserved : goal.loop-segment-preserved
loop-segment-preserved c =
    let rest = c.loop-segment.rest.now in
    let prefix = c.in-Some.segment.now in
    let found = split_parts slash rest c.split_once.result c.split_once.ensures.cases (lit< tt) in
    let parts = rw c.in-Some.is at found in
    let lacks = lacks_from_reads slash prefix parts.1 in
    let fine : (is_empty prefix || is_dot_segment prefix) ≡ false = sym c.is_empty_or_dot_segment.ensures ∙ c.if-is_empty_or_dot_segment.false in
    let reserved : c.is_either-reserved.result ≡ (c.loop-segment.reserved || is_auxiliary_name prefix) = c.is_either-reserved.ensures ∙ ap (λ b. c.loop-segment.reserved || b) c.is_auxiliary_name.ensures in
    record {
      utf8 = search rules;
      short = omega (arith, ap length parts.0, length-append prefix (slash ∷ c.in-Some.after.now), c.loop-segment.invariant.short);
      same =
          ap (λ b. goes_on b (c.loop-segment.count + 1) (segments c.in-Some.after.now)) reserved
          ∙ sym (goes_one_on c.loop-segment.reserved c.loop-segment.count rest prefix c.in-Some.after.now parts.0 lacks fine)
          ∙ c.loop-segment.invariant.same;
    }

pub returns-then-is_dot_segment : goal.returns-then-is_dot_segment
returns-then-is_dot_segment c =
    let rest = c.loop-segment.rest.now in
    let found = split_parts slash rest c.split_once.result c.split_once.ensures.cases (lit< tt) in
    let none = rw c.in_default.is at found in
    sym (ends_in_dots c.loop-segment.reserved c.loop-segment.count rest (lacks_from_reads slash rest none) (sym c.is_dot_segment.ensures ∙ c.if-is_dot_segment.true)) ∙ c.loop-segment.invariant.same

pub returns-then-is_either : goal.returns-then-is_either
returns-then-is_either c =
    let rest = c.loop-segment.rest.now in
    let found = split_parts slash rest c.split_once.result c.split_once.ensures.cases (lit< tt) in
    let none = rw c.in_default.is at found in
    let reserved : (c.loop-segment.reserved || is_reserved_name rest) ≡ true = ap (λ b. c.loop-segment.reserved || b) (sym c.is_reserved_name.ensures) ∙ sym c.is_either.ensures ∙ c.if-is_either.true in
    sym (ends c.loop-segment.reserved c.loop-segment.count rest true (lacks_from_reads slash rest none) (sym c.is_dot_segment.ensures ∙ c.if-is_dot_segment.false) reserved) ∙ c.loop-segment.invariant.same

pub returns : goal.returns
returns c =
    let rest = c.loop-segment.rest.now in
    let found = split_parts slash rest c.split_once.result c.split_once.ensures.cases (lit< tt) in
    let none = rw c.in_default.is at found in
    let free : (c.loop-segment.reserved || is_reserved_name rest) ≡ false = ap (λ b. c.loop-segment.reserved || b) (sym c.is_reserved_name.ensures) ∙ sym c.is_either.ensures ∙ c.if-is_either.false in
    sym (ends c.loop-segment.reserved c.loop-segment.count rest false (lacks_from_reads slash rest none) (sym c.is_dot_segment.ensures ∙ c.if-is_dot_segment.false) free) ∙ c.loop-segment.invariant.same
