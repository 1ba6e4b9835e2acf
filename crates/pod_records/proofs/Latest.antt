-- What was made of a path last.
use Rattle.std.proofs.Common.{◌≡◌, ℕ, Bool, true, false, cond, List, [], ◌∷◌, Some, refl, sym, ap, ◌∙◌}
use Rattle.std.specs.Prelude.{bytes_eq}
use Rattle.std.specs.List.{list_all}
use Rattle.std.proofs.lemmas.Bool.{and_parts}
use Rattle.std.proofs.lemmas.Slice.Eq.{bytes_eq-Decides}
use Rattle.pod_command.specs.declared.row.Row.{Row}
use Rattle.pod_rows.specs.Pod.{row_at}
use Rattle.pod_records.specs.Made.{latest, row_now, found_in}
use Rattle.pod_records.specs.declared.edited_rows.Made.{Made}

-- after one more
pub found_more : (old : List Row) (made : List Made) (one : Made) (path : List ℕ) → found_in old (one ∷ made) path ≡ cond (bytes_eq one.path path) one.row (found_in old made path)
found_more old made one path = by_test (bytes_eq one.path path)
  where
    by_test : (b : Bool) → row_now (cond b (Some one) (latest made path)) (row_at old path) ≡ cond b one.row (found_in old made path)
    by_test true = refl
    by_test false = refl

-- what holds of the path of each is so at a path of which something was made
pub latest_all : (p : List ℕ → Bool) (made : List Made) (path : List ℕ) (m : Made) → list_all (λ (one : Made). p one.path) made ≡ true → latest made path ≡ Some m → p path ≡ true
latest_all p [] path m h e = absurd cc
latest_all p (x ∷ xs) path m h e = by_test (bytes_eq x.path path) refl e (latest_all p xs path m parts.1)
  where
    parts : (p x.path ≡ true) × (list_all (λ (one : Made). p one.path) xs ≡ true)
    parts = and_parts (p x.path) (list_all (λ (one : Made). p one.path) xs) h

    by_test : (b : Bool) → bytes_eq x.path path ≡ b → cond b (Some x) (latest xs path) ≡ Some m → (latest xs path ≡ Some m → p path ≡ true) → p path ≡ true
    by_test true t k more = ap p (sym ((bytes_eq-Decides x.path path).0 t)) ∙ parts.0
    by_test false t k more = more k
