-- What follows from the definitions. The law is the contract of a function of `laws`.
use Rattle.std.specs.Prelude.{◌≡◌, ℕ, Bool, List}
use Rattle.slug_naming.specs.Names.{IsFreeName}

-- A new member of a container has at most one path.
abbrev pub HasOneName : Type 0
HasOneName = (is_row : List ℕ → Bool) (container stem : List ℕ) (folder : Bool) (p q : List ℕ)
    → IsFreeName is_row container stem folder p → IsFreeName is_row container stem folder q → p ≡ q
