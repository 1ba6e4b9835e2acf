use Rattle.std.proofs.Common.{sym, subst}
use Rattle.http_head.specs.HeadScan.{Passed}
use Rattle.http_head.proofs.HeadScanLemmas.{scanned_prefix}
use Rattle.http_head.proofs.head_search.HeadSearch.scan.Goals as goal

-- what was scanned of a prefix holds of the text
pub length_in-requires : goal.length_in-requires
length_in-requires c = subst (Passed c.args.self.now) (sym c.prefix_of.ensures.exact) (scanned_prefix c.args.self.now c.args.text.now c.requires)
