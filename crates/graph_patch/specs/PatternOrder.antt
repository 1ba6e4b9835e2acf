-- The order of slots and patterns: the byte order of their texts.
use Rattle.std.specs.Prelude.{ℕ, List, ◌++◌, codes}
use Rattle.std.specs.declared.cmp.Ordering.{Ordering}
use Rattle.std.specs.Ordering.{on, then_cmp}
use Rattle.rdf_graph.specs.Term.{text}
use Rattle.rdf_graph.specs.Triple.{bytes_cmp}
use Rattle.graph_patch.specs.declared.pattern.Pattern.{Pattern}
use Rattle.graph_patch.specs.declared.pattern.Slot.{Slot}
use Rattle.graph_patch.specs.declared.pattern.Slot.TheVariants.{Fixed, Var}

-- the text of a term, or `?` and the name of a variable
abbrev pub slot_text : Slot → List ℕ
slot_text (Fixed term) = text term
slot_text (Var name) = codes "?" ++ name

unfoldable pub slot_cmp : Slot → Slot → Ordering
slot_cmp = on slot_text bytes_cmp

-- subject first, then predicate, then object
unfoldable pub pattern_cmp : Pattern → Pattern → Ordering
pattern_cmp =
    then_cmp (on (λ c. c.s) slot_cmp) (then_cmp (on (λ c. c.p) slot_cmp) (on (λ c. c.o) slot_cmp))
