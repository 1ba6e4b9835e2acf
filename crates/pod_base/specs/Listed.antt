-- What contracts see of a list.
use Rattle.std.specs.Prelude.{ℕ, List, refl}
use Rattle.std.specs.Coded.{Coded, code_by, coded×, coded_list, coded_ℕ}

-- a list: its items, and how many more it has room for without taking memory
pub record Listed (X : Type 0) : Type 0 where
  pub items : List X
  pub room : ℕ

-- the list of these items with this room
abbrev pub listed : {X : Type 0} → List X → ℕ → Listed X
listed items room = record { items = items; room = room }

-- two lists differ where their items or their rooms do
abbrev pub listed_code : {X : Type 0} → Coded X → Coded (Listed X)
listed_code {X} code =
    code_by (List X × ℕ) (coded× (coded_list code) coded_ℕ) (λ l. (l.items, l.room)) (λ p. listed p.0 p.1) (λ _. refl)
