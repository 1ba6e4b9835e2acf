-- The texts of a case hold each of its rows.
use Rattle.std.proofs.Common.{◌≡◌, ℕ, ◌<◌, ◌≤◌, true, List, length, sym, ap, subst, ◌∙◌}
use Rattle.std.specs.Prelude.{bytes_eq, map}
use Rattle.std.specs.Borrow.{Bor}
use Rattle.std.specs.List.{Contains}
use Rattle.std.proofs.lemmas.List.{length-map, get_or-map}
use Rattle.std.proofs.lemmas.List.Folds.{Any-from_list_any}
use Rattle.std.proofs.lemmas.Slice.Eq.{bytes_eq-Decides}
use Rattle.slug_naming.specs.Names.{HasFewRows}
use Rattle.message_cases.specs.Rows.{is_row_of}

pub few_rows : (texts : List (Bor (List ℕ))) → length texts ≤ 65_536 → HasFewRows (is_row_of texts)
few_rows texts few = (
  map (λ t. t.now) texts,
  record {
    few = subst (λ (n : ℕ). n ≤ 65_536) (sym (length-map texts (λ (t : Bor (List ℕ)). t.now))) few;
    all = all;
  },
)
  where
    all : (text : List ℕ) → is_row_of texts text ≡ true → Contains (map (λ t. t.now) texts) text
    all text h =
        let at = Any-from_list_any (λ (t : Bor (List ℕ)). bytes_eq t.now text) texts h in (
          at.0,
          subst (λ (n : ℕ). at.0 < n) (sym (length-map texts (λ (t : Bor (List ℕ)). t.now))) at.2,
          get_or-map (λ (t : Bor (List ℕ)). t.now) texts at.0 at.1 text at.2 ∙ ap (λ (t : Bor (List ℕ)). t.now) at.3 ∙ (bytes_eq-Decides at.1.now text).0 at.4,
        )
