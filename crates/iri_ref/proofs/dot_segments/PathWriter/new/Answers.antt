use Rattle.std.proofs.Common.{◌≡◌, length, sym, subst, arith, rules}
use Rattle.std.specs.Prelude.{string_bytes, IsUtf8}
use Rattle.std.proofs.lemmas.List.{take_all}
use Rattle.std.proofs.lemmas.Str.{IsUtf8-string_bytes}
use Rattle.iri_ref.proofs.dot_segments.PathWriter.new.Goals as goal

pub invariant_of-result : goal.invariant_of-result
invariant_of-result c =
    let len : length (string_bytes c.args.text) ≡ c.len.result = search rules in
    (omega arith, subst IsUtf8 (sym (take_all c.len.result (string_bytes c.args.text) (omega arith))) (IsUtf8-string_bytes c.args.text), λ _. len)
