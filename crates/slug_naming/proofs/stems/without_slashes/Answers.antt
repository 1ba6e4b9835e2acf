use Rattle.std.proofs.Common.{sym, ◌∙◌, ap, ◌++◌}
use Rattle.slug_naming.specs.Stems.{without_slashes}
use Rattle.slug_naming.proofs.SlashLemmas.{one_more}
use Rattle.slug_naming.proofs.stems.without_slashes.Goals as goal

-- one byte more
pub loop-byte-preserved : goal.loop-byte-preserved
loop-byte-preserved c =
    ap (λ kept. kept ++ without_slashes c.in-Some.more.now) c.in_ok-push_unless_slash.ensures
    ∙ one_more c.loop-byte.kept.items c.in-Some.byte.now c.in-Some.more.now
    ∙ ap (λ rest. c.loop-byte.kept.items ++ without_slashes rest) (sym c.in-Some.ensures.cases.0)
    ∙ c.loop-byte.invariant
