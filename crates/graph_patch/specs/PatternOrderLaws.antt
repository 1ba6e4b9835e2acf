-- The orders of slots and patterns are total.
use Rattle.std.proofs.lemmas.Cmp.{nat_list_cmp_total, on_total, then_total}
use Rattle.std.specs.Cmp.{IsTotalOrder}
use Rattle.graph_patch.specs.PatternOrder.{pattern_cmp, slot_cmp, slot_text}

pub slot_cmp_total : IsTotalOrder slot_cmp
unfolding slot_cmp
slot_cmp_total = on_total slot_text nat_list_cmp_total

pub pattern_cmp_total : IsTotalOrder pattern_cmp
unfolding pattern_cmp
pattern_cmp_total =
    then_total (on_total (λ c. c.s) slot_cmp_total)
    (then_total (on_total (λ c. c.p) slot_cmp_total) (on_total (λ c. c.o) slot_cmp_total))
