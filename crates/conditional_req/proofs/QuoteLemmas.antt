-- What is before a quote at the end of a text.
use Rattle.std.proofs.Common.{◌≡◌, ℕ, Bool, true, false, cond, List, [], ◌∷◌, ◌++◌, Some, None, ◌==◌, refl, ap, ◌∙◌}
use Rattle.std.specs.Option.{option_map}
use Rattle.field_list.specs.Places.{quote}
use Rattle.conditional_req.specs.EntityTags.{before_quote}

map-if : (b : Bool) (first : ℕ) (rest : List ℕ) → option_map (λ r. first ∷ r) (cond b (Some rest) None) ≡ cond b (Some (first ∷ rest)) None
map-if true first rest = refl
map-if false first rest = refl

-- the last byte decides
pub before-last : (rest : List ℕ) (last : ℕ) → before_quote (rest ++ last ∷ []) ≡ cond (last == quote) (Some rest) None
before-last [] last = refl
before-last (b ∷ []) last = map-if (last == quote) b []
before-last (b ∷ c ∷ rest) last =
    ap (option_map (λ r. b ∷ r)) (before-last (c ∷ rest) last) ∙ map-if (last == quote) b (c ∷ rest)
