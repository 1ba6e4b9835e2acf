-- The elements of a list that commas separate (RFC 9110, section 5.6.1).
use Rattle.std.specs.Prelude.{ℕ, nat_lt, List, length, map, filter}
use Rattle.httparse.specs.Grammar.{trim_ows}
use Rattle.field_list.specs.Parts.{parts, parts_rest}
use Rattle.field_list.specs.declared.quoting.Quoting.{Quoting}
use Rattle.field_list.specs.declared.elements.Elements.{Elements}

abbrev pub comma : ℕ
comma = 44

-- the parts without the blanks around them, but for the empty ones
abbrev pub elements_of_parts : List (List ℕ) → List (List ℕ)
elements_of_parts parts = filter (λ element. nat_lt 0 (length element)) (map trim_ows parts)

-- the elements of a field's value
abbrev pub elements : Quoting → List ℕ → List (List ℕ)
elements quoting value = elements_of_parts (parts quoting comma value)

-- the elements that are still to come
abbrev pub elements_rest : Elements → List (List ℕ)
elements_rest e = elements_of_parts (parts_rest e.parts)
