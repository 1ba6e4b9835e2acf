use Rattle.std.proofs.Common.{◌≡◌, ◌∙◌, sym, ap, subst, take}
use Rattle.std.proofs.lemmas.Bool.{false≢true}
use Rattle.std.proofs.lemmas.List.{take_all}
use Rattle.std.specs.Str.{IsUtf8}
use Rattle.turtle_terms.proofs.Decoding.{without, without_utf8}
use Rattle.turtle_terms.proofs.iris.without_backslashes.Goals as goal

pub unreachable-requires : goal.unreachable-requires
unreachable-requires c =
    let items = c.as_bytes-byte-items.result.now in
    let all : take c.loop-byte.byte-index items ≡ items = take_all c.loop-byte.byte-index items c.loop-byte-test.false in
    let rest : c.loop-byte.rest.items ≡ without c.args.text.now = c.loop-byte.invariant ∙ ap without (all ∙ c.as_bytes-byte-items.ensures.value) in
    false≢true (c.in-Err.ensures.succeeds (subst IsUtf8 (sym rest) (without_utf8 c.args.text.now c.utf8.text)))
