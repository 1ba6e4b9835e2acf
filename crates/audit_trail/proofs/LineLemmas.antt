-- A line is its first word, each other word after a space, and LF.
use Rattle.std.proofs.Common.{◌≡◌, ℕ, List, [], ◌∷◌, ◌++◌, length, map, refl, sym, ap, ◌∙◌, append_assoc}
use Rattle.std.specs.List.{flat_map, join_with_byte}
use Rattle.std.proofs.lemmas.List.{append-nil}
use Rattle.pod_command.specs.declared.basis.Basis.{Basis}
use Rattle.audit_trail.specs.Lines.{spaced, line, basis_text, bases_words}

pub join-spaced : (first : List ℕ) (words : List (List ℕ)) → join_with_byte 32 (first ∷ words) ≡ first ++ spaced words
join-spaced first [] = sym (append-nil first)
join-spaced first (word ∷ words) = ap (λ text. first ++ 32 ∷ text) (join-spaced word words)

spaced-append : (words more : List (List ℕ)) → spaced (words ++ more) ≡ spaced words ++ spaced more
spaced-append [] more = refl
spaced-append (word ∷ words) more =
    ap (λ text. (32 ∷ word) ++ text) (spaced-append words more)
    ∙ sym (append_assoc (32 ∷ word) (spaced words) (spaced more))

-- the first word, three times further words, and LF
pub line-of-parts : (first : List ℕ) (a b c : List (List ℕ)) → (((first ++ spaced a) ++ spaced b) ++ spaced c) ++ 10 ∷ [] ≡ line (first ∷ (a ++ (b ++ c)))
line-of-parts first a b c =
    ap (λ text. text ++ 10 ∷ [])
    (ap (λ text. text ++ spaced c) (append_assoc first (spaced a) (spaced b))
    ∙ append_assoc first (spaced a ++ spaced b) (spaced c)
    ∙ ap (λ text. first ++ text) (append_assoc (spaced a) (spaced b) (spaced c) ∙ ap (λ text. spaced a ++ text) (sym (spaced-append b c)) ∙ sym (spaced-append a (b ++ c)))
    ∙ sym (join-spaced first (a ++ (b ++ c))))

spaced-each : (bases : List Basis) → flat_map (λ b. 32 ∷ basis_text b) bases ≡ spaced (map basis_text bases)
spaced-each [] = refl
spaced-each (b ∷ bases) = ap (λ text. (32 ∷ basis_text b) ++ text) (spaced-each bases)

-- there is a basis
pub spaced-bases : (bases : List Basis) → (length bases ≡ 0 → ⊥) → flat_map (λ b. 32 ∷ basis_text b) bases ≡ spaced (bases_words bases)
spaced-bases [] some = absurd (some refl)
spaced-bases (b ∷ bases) some = spaced-each (b ∷ bases)
