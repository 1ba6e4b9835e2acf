use Rattle.std.proofs.Common.{◌≡◌, ◌≤◌, ◌==◌, ℕ, ◌++◌, Bool, List, [], ◌∷◌, Some, None, refl, arith, codes, length, subst}
use Rattle.std.specs.Prelude.{MatchBool}
use Rattle.std.proofs.lemmas.Bool.{ne_eqb}
use Rattle.turtle_lex.specs.Laws.{IsTextOf}
use Rattle.turtle_lex.specs.Pattern.{MatchesLongest}
use Rattle.turtle_lex.specs.Terminals.{lang_tag}
use Rattle.turtle_lex.proofs.Matching.{word_found}
use Rattle.turtle_lex.proofs.RunLemmas.{no_tag, tag_longest}
use Rattle.turtle_lex.proofs.texts.is_lang_tag.Goals as goal

-- the longest tag is the whole text exactly where nothing is left
whole : (s rest : List ℕ) (b : Bool) → MatchesLongest lang_tag s (Some rest) → b ≡ (length rest == 0) → MatchBool b (IsTextOf lang_tag s) (IsTextOf lang_tag s → ⊥)
whole s [] b h e = rw e h.found
whole s (x ∷ rest) b h e = rw (e, ne_eqb (length (x ∷ rest)) 0 (λ z. omega (arith, z))) (λ m. let none : length (x ∷ rest) ≤ 0 = h.longest [] m in omega (arith, none))

pub returns-in-Some : goal.returns-in-Some
returns-in-Some c =
    let text = c.as_bytes.result.now in
    let rest = c.strip_tag_parts.result.now in
    whole (64 ∷ c.args.text.now) rest c.is_empty.result
    (subst (λ (s : List ℕ). MatchesLongest lang_tag (64 ∷ s) (Some rest)) c.as_bytes.ensures.value
    (tag_longest (64 ∷ text) text c.in-Some.rest.now rest (word_found (codes "@") (64 ∷ text) text refl) c.in-Some.ensures.found c.strip_tag_parts.ensures))
    c.is_empty.ensures

pub returns-in-None : goal.returns-in-None
returns-in-None c =
    let text = c.as_bytes.result.now in
    let none : MatchesLongest lang_tag (64 ∷ c.args.text.now) None =
    subst (λ (s : List ℕ). MatchesLongest lang_tag (64 ∷ s) None) c.as_bytes.ensures.value
    (no_tag (64 ∷ text) text (word_found (codes "@") (64 ∷ text) text refl) c.in-None.ensures.none) in
    λ h. none.longest [] h
