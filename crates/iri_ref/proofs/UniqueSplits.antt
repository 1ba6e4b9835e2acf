-- Texts have one cut before the first character that passes a test.
use Rattle.std.proofs.Common.{◌≡◌, ℕ, Bool, true, false, not, List, [], ◌∷◌, ◌++◌, refl, sym, subst}
use Rattle.std.specs.Prelude.{IsTrue}
use Rattle.std.specs.List.{list_all}
use Rattle.iri_ref.specs.Characters.{Lacks}
use Rattle.iri_ref.proofs.Texts.{and_left, and_right}

-- nothing, or a text whose first character passes the test
abbrev pub Starts : (ℕ → Bool) → List ℕ → Type 0
Starts test [] = Unit {0}
Starts test (c ∷ cs) = IsTrue (test c)

not_both : (b : Bool) → IsTrue (not b) → IsTrue b → ⊥
not_both true h k = absurd cc
not_both false h k = absurd cc

pub starts_nowhere : (test : ℕ → Bool) (c : ℕ) (a x : List ℕ) → Lacks test (c ∷ a) → (y : List ℕ) → Starts test y → y ≡ c ∷ (a ++ x) → ⊥
starts_nowhere test c a x h [] s e = absurd cc
starts_nowhere test c a x h (d ∷ y) s e =
    let same : d ≡ c = cc in
    not_both (test c) (and_left _ (list_all (λ d. not (test d)) a) h) (subst (λ (n : ℕ). IsTrue (test n)) same s)

pub one_cut : (test : ℕ → Bool) (a b x y : List ℕ) → Lacks test a → Lacks test b → Starts test x → Starts test y → a ++ x ≡ b ++ y → (a ≡ b) × (x ≡ y)
one_cut test [] [] x y ha hb sx sy e = (refl, e)
one_cut test [] (d ∷ b) x y ha hb sx sy e = absurd (starts_nowhere test d b y hb x sx e)
one_cut test (c ∷ a) [] x y ha hb sx sy e = absurd (starts_nowhere test c a x ha y sy (sym e))
one_cut test (c ∷ a) (d ∷ b) x y ha hb sx sy e =
    let heads : c ≡ d = cc in
    let rests : a ++ x ≡ b ++ y = cc in
    let below = one_cut test a b x y (and_right (not (test c)) _ ha) (and_right (not (test d)) _ hb) sx sy rests in
    (cc, below.1)
