use Rattle.std.proofs.Common.{◌≡◌, ℕ, ◌+◌, List, ◌++◌, ◌∙◌, ap, append_assoc, length}
use Rattle.std.specs.Prelude.{slice_range}
use Rattle.range_req.specs.Multipart.{delimiter, part_fields}
use Rattle.range_req.proofs.multipart_body.push_part.Goals as goal

three_pieces : (old head bytes end first second third : List ℕ) → first ≡ old ++ head → second ≡ first ++ bytes → third ≡ second ++ end
    → third ≡ old ++ (head ++ (bytes ++ end))
three_pieces old head bytes end first second third a b c =
    c ∙ ap (λ (t : List ℕ). t ++ end) (b ∙ ap (λ (t : List ℕ). t ++ bytes) a)
    ∙ append_assoc (old ++ head) bytes end ∙ append_assoc old head (bytes ++ end)

pub returns : goal.returns
returns c =
    let old = c.args.text.now in
    let boundary = c.args.boundary.now in
    let head = c.in_ok-head.head in
    let bytes = c.in_ok-bytes.bytes in
    let end = c.from_static.result in
    three_pieces old head bytes end c.push.new.self c.push-2.new.self c.push-3.new.self
    c.in_ok-push.ensures.appended c.in_ok-push-2.ensures.appended c.in_ok-push-3.ensures.appended
    ∙ ap (λ (t : List ℕ). old ++ (t ++ (bytes ++ end)))
    (c.in_ok-head.ensures ∙ ap (λ n. delimiter boundary ++ part_fields c.args.ctype.now c.args.part.now n) c.len.ensures)
    ∙ ap (λ (t : List ℕ). old ++ ((delimiter boundary ++ part_fields c.args.ctype.now c.args.part.now (length c.args.body.now)) ++ (t ++ end))) c.in_ok-bytes.ensures
    ∙ ap (λ (t : List ℕ). old ++ ((delimiter boundary ++ part_fields c.args.ctype.now c.args.part.now (length c.args.body.now))
    ++ (slice_range c.args.body.now c.args.part.now.first (c.args.part.now.last + 1) ++ t))) c.from_static.ensures
