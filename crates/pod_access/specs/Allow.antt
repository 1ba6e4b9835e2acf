-- The text of `WAC-Allow`.
use Rattle.std.specs.Prelude.{ℕ, Bool, List, [], ◌∷◌, ◌++◌, map, filter, codes}
use Rattle.std.specs.List.{zip, join_with_byte}

abbrev pub space : ℕ
space = 32

-- The words of the modes, in their order.
abbrev pub words : List (List ℕ)
words = codes "read" ∷ codes "write" ∷ codes "append" ∷ codes "control" ∷ []

-- The words that are granted, with one space between.
abbrev pub granted_words : List Bool → List ℕ
granted_words granted =
    join_with_byte space (map (λ pair. pair.1) (filter (λ pair. pair.0) (zip granted words)))

-- `user="..",public=".."`
abbrev pub allow_text : List Bool → List Bool → List ℕ
allow_text user public = codes "user=\"" ++ (granted_words user
    ++ (codes "\",public=\"" ++ (granted_words public ++ codes "\"")))
