-- A word that is followed byte by byte is found where a text between blanks is the word.
use Rattle.std.proofs.Common.{◌≡◌, ℕ, Bool, true, false, cond, ◌&&◌, ◌||◌, List, [], ◌∷◌, Option, Some, None, refl, sym, ap, ◌∙◌}
use Rattle.std.specs.Char.{eq_ignore_ascii_case}
use Rattle.std.specs.List.{list_any, slice_split, onto_first}
use Rattle.std.specs.Str.{str_eq_ignore_ascii_case}
use Rattle.httparse.specs.Grammar.{is_ows}
use Rattle.request_fields.specs.RelationTypes.{has_relation}
use Rattle.request_fields.specs.Progress.{left_after, is_complete, completes}

-- the text is what is left of the word
abbrev reaches : Option (List ℕ) → List ℕ → Bool
reaches None text = false
reaches (Some left) text = str_eq_ignore_ascii_case text left

-- the first text is what is left of the word, or another one is the word
abbrev joins : List ℕ → Option (List ℕ) → List (List ℕ) → Bool
joins word left [] = reaches left []
joins word left (text ∷ texts) = reaches left text || list_any (λ t. str_eq_ignore_ascii_case t word) texts

complete-reaches : (left : Option (List ℕ)) → is_complete left ≡ reaches left []
complete-reaches None = refl
complete-reaches (Some []) = refl
complete-reaches (Some (c ∷ left)) = refl

reaches-after : (left : Option (List ℕ)) (b : ℕ) (text : List ℕ) → reaches left (b ∷ text) ≡ reaches (left_after left b) text
reaches-after None b text = refl
reaches-after (Some []) b text = refl
reaches-after (Some (c ∷ left)) b text =
    elim (eq_ignore_ascii_case b c) as (λ same. (same && str_eq_ignore_ascii_case text left) ≡ reaches (cond same (Some left) None) text) [
      | true ↦ refl
      | false ↦ refl
    ]

joins-onto : (word : List ℕ) (left : Option (List ℕ)) (b : ℕ) (texts : List (List ℕ)) → joins word left (onto_first b texts) ≡ joins word (left_after left b) texts
joins-onto word left b [] = sym (or-false (reaches left (b ∷ []))) ∙ reaches-after left b []
  where
    or-false : (x : Bool) → x ≡ (x || false)
    or-false true = refl
    or-false false = refl
joins-onto word left b (text ∷ texts) = ap (λ r. r || list_any (λ t. str_eq_ignore_ascii_case t word) texts) (reaches-after left b text)

-- a list of parts has a first one
any-joins : (word text : List ℕ) → joins word (Some word) (slice_split is_ows text) ≡ has_relation word text
any-joins word [] = refl
any-joins word (b ∷ text) = step (is_ows b) (slice_split is_ows text)
  where
    step : (s : Bool) (texts : List (List ℕ)) → joins word (Some word) (cond s ([] ∷ texts) (onto_first b texts)) ≡ list_any (λ t. str_eq_ignore_ascii_case t word) (cond s ([] ∷ texts) (onto_first b texts))
    step true texts = refl
    step false [] = refl
    step false (first ∷ texts) = refl

completes-joins : (word : List ℕ) (left : Option (List ℕ)) (text : List ℕ) → completes word left text ≡ joins word left (slice_split is_ows text)
completes-joins word left [] = complete-reaches left ∙ or-false (reaches left [])
  where
    or-false : (x : Bool) → x ≡ (x || false)
    or-false true = refl
    or-false false = refl
completes-joins word left (b ∷ text) =
    elim (is_ows b) as (λ s. cond s (is_complete left || completes word (Some word) text) (completes word (left_after left b) text) ≡ joins word left (cond s ([] ∷ slice_split is_ows text) (onto_first b (slice_split is_ows text)))) [
      | true ↦ ap (λ r. r || completes word (Some word) text) (complete-reaches left)
          ∙ ap (λ r. reaches left [] || r) (completes-joins word (Some word) text ∙ any-joins word text)
      | false ↦ completes-joins word (left_after left b) text ∙ sym (joins-onto word left b (slice_split is_ows text))
    ]

-- nothing of the word is found yet
pub completes-all : (word text : List ℕ) → completes word (Some word) text ≡ has_relation word text
completes-all word text = completes-joins word (Some word) text ∙ any-joins word text

-- a blank ends the word
pub found : (word : List ℕ) (left : Option (List ℕ)) (whole rest more : List ℕ) (b : ℕ) → rest ≡ b ∷ more → is_ows b ≡ true → is_complete left ≡ true
    → completes word left rest ≡ completes word (Some word) whole → true ≡ has_relation word whole
found word left whole rest more b next blank done same =
    sym (ap (λ s. cond s (is_complete left || completes word (Some word) more) (completes word (left_after left b) more)) blank
    ∙ ap (λ d. d || completes word (Some word) more) done)
    ∙ ap (completes word left) (sym next)
    ∙ same
    ∙ completes-all word whole

-- the text ends
pub ended : (word : List ℕ) (left : Option (List ℕ)) (whole rest : List ℕ) → rest ≡ []
    → completes word left rest ≡ completes word (Some word) whole → is_complete left ≡ has_relation word whole
ended word left whole rest end same = ap (completes word left) (sym end) ∙ same ∙ completes-all word whole
