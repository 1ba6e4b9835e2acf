-- Bytes that have room, one after another.
use Rattle.std.proofs.Common.{◌≡◌, ℕ, ◌-◌, ◌<◌, ◌≤◌, true, false, cond, nat_le, List, [], ◌∷◌, ◌++◌, sym, ap, ◌∙◌, arith, append_assoc}
use Rattle.std.proofs.lemmas.Bool.Decides.{nat_tests}
use Rattle.std.proofs.lemmas.List.{append-nil}
use Rattle.slug_naming.specs.Stems.{escaped, escaped_length, fitting}

le-true : (a b : ℕ) → a ≤ b → nat_le a b ≡ true
le-true a b h = grind (arith, nat_tests)

gt-false : (a b : ℕ) → b < a → nat_le a b ≡ false
gt-false a b h = grind (arith, nat_tests)

-- the next byte has room
pub one_fits : (text : List ℕ) (room len b : ℕ) (more : List ℕ) → len ≡ escaped_length b → len ≤ room → (text ++ escaped b) ++ fitting (room - len) more ≡ text ++ fitting room (b ∷ more)
one_fits text room len b more is fits =
    let h : escaped_length b ≤ room = omega arith in
    append_assoc text (escaped b) (fitting (room - len) more)
    ∙ ap (λ n. text ++ (escaped b ++ fitting (room - n) more)) is
    ∙ ap (λ x. text ++ cond x (escaped b ++ fitting (room - escaped_length b) more) []) (sym (le-true (escaped_length b) room h))

-- it has none
pub none_fits : (text : List ℕ) (room len b : ℕ) (more : List ℕ) → len ≡ escaped_length b → room < len → text ≡ text ++ fitting room (b ∷ more)
none_fits text room len b more is full =
    let h : room < escaped_length b = omega arith in
    sym (append-nil text) ∙ ap (λ x. text ++ cond x (escaped b ++ fitting (room - escaped_length b) more) []) (sym (gt-false (escaped_length b) room h))
