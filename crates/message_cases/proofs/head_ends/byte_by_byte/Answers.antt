use Rattle.std.proofs.Common.{ℕ, ◌+◌, ◌++◌, List, take, drop, sym, ap, ◌∙◌, arith}
use Rattle.std.proofs.lemmas.List.{take-take, take-append-drop}
use Rattle.message_cases.proofs.head_ends.byte_by_byte.Goals as goal

-- the bytes so far are a prefix of those with one more
pub scan-found-requires : goal.scan-found-requires
scan-found-requires c =
    let text : List ℕ = c.args.text.now in
    let i : ℕ = c.loop-i.i in
    let longer : List ℕ = take (i + 1) text in
    let rest : List ℕ = drop i longer in
    record {
      scanned = take i text;
      more = rest;
      is = sym (take-append-drop i longer) ∙ ap (λ prefix. prefix ++ rest) (take-take i (i + 1) text (omega arith));
      scanned_it = c.loop-i.invariant;
    }
