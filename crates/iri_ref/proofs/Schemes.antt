-- A scheme precedes the first colon of a text.
use Rattle.std.proofs.Common.{◌≡◌, ℕ, Bool, true, false, not, eqb, List, [], ◌∷◌, ◌++◌, refl, sym, ap, subst, ◌∙◌, inl, inr}
use Rattle.std.specs.Prelude.{IsTrue}
use Rattle.std.specs.List.{list_all}
use Rattle.std.proofs.lemmas.Bool.Decides.{eqb_tells}
use Rattle.iri_ref.specs.Characters.{colon, is_colon, is_letter, is_scheme_character, is_scheme, Lacks}
use Rattle.iri_ref.specs.Components.{HasScheme}
use Rattle.iri_ref.proofs.Texts.{and_left, and_right, and_both, all_right, all_weaker}
use Rattle.iri_ref.proofs.UniqueSplits.{one_cut}

-- a character of a kind that leaves out another one
pub other_kind : (test : ℕ → Bool) (d : ℕ) → test d ≡ false → (c : ℕ) → IsTrue (test c) → IsTrue (not (eqb c d))
other_kind test d out c h =
    elim (eqb_tells c d) [
      | inl w ↦ (let no : false ≡ true = sym out ∙ ap test (sym w.1) ∙ h in absurd cc)
      | inr w ↦ ap not w.0
    ]

pub scheme_lacks_colon : (scheme : List ℕ) → IsTrue (is_scheme scheme) → Lacks is_colon scheme
scheme_lacks_colon [] h = absurd cc
scheme_lacks_colon (c ∷ cs) h =
    and_both _ _ (other_kind is_letter colon refl c (and_left _ (list_all is_scheme_character cs) h))
    (all_weaker is_scheme_character (λ c. not (is_colon c)) (other_kind is_scheme_character colon refl) cs (and_right (is_letter c) _ h))

pub no_colon_no_scheme : (text : List ℕ) → Lacks is_colon text → HasScheme text → ⊥
no_colon_no_scheme text lacks h =
    let after : Lacks is_colon (colon ∷ h.1) = all_right (λ c. not (is_colon c)) h.0 (colon ∷ h.1) (subst (λ (t : List ℕ). Lacks is_colon t) h.2.whole lacks) in
    cc

-- two cuts of a text before its first colon are one
pub one_colon : (a b x y : List ℕ) → Lacks is_colon a → Lacks is_colon b → a ++ colon ∷ x ≡ b ++ colon ∷ y → (a ≡ b) × (x ≡ y)
one_colon a b x y ha hb e =
    let cut = one_cut is_colon a b (colon ∷ x) (colon ∷ y) ha hb refl refl e in
    let tails : colon ∷ x ≡ colon ∷ y = cut.1 in
    (cut.0, cc)

pub other_front : (text prefix rest : List ℕ) → text ≡ prefix ++ colon ∷ rest → Lacks is_colon prefix → is_scheme prefix ≡ false → HasScheme text → ⊥
other_front text prefix rest e lacks not_one h =
    let same = one_colon h.0 prefix h.1 rest (scheme_lacks_colon h.0 h.2.is_one) lacks (sym h.2.whole ∙ e) in
    let no : true ≡ false = sym h.2.is_one ∙ ap is_scheme same.0 ∙ not_one in
    cc
