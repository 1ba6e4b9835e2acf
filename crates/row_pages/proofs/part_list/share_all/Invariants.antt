use Rattle.std.proofs.Common.{◌≡◌, ◌++◌, take}
use Rattle.row_pages.proofs.part_list.share_all.Given as goal

abbrev pub invariant-loop-part : goal.invariant-loop-part
invariant-loop-part g l = l.into.items ≡ l.fn.into.items ++ take l.part-index l.parts
