-- How a list lends its items to be changed.
use Rattle.std.specs.Prelude.{List, length}
use Rattle.std.specs.List.{refill}
use Rattle.std.specs.Borrow.{Lends, MutBor, Fml}
use denote.RattleType.{RattleType}
use denote.Array.{Array}
use Rattle.pod_base.specs.Listed.{Listed, listed}
use Rattle.pod_base.specs.contracts.list.List.{the_row}

-- A list lends its items: at the end it has the items that were written through the slice, and its
-- room.
abbrev pub LendsItems : (T : RattleType) → MutBor (Listed T.Denot) → MutBor (List T.Denot) → Fml
LendsItems T list slice =
    Lends (the_row T) (Array T 0) list slice
    (λ written. listed (refill (length list.now.items) list.now.items written) list.now.room)
