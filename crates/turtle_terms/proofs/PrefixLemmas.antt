-- The finite map that declared prefixes are seen as, beside the tree that keeps them.
use Rattle.std.proofs.Common.{◌≡◌, ℕ, cond, List, [], ◌∷◌, Option, Some, String, refl, sym, ap, ◌∙◌, map}
use Rattle.std.specs.Ordering.{nat_cmp, eq_by_cmp, is_eq}
use Rattle.std.specs.Cmp.{eq_by_cmp_equiv}
use Rattle.std.specs.Cmp.Lexicographic.{slice_cmp, nat_list_cmp_total}
use Rattle.std.specs.FinMap.{FinMap, find, from_entries, get, insert, get-from_entries, get-insert, same_map, slice_cmp-IsAntisymmetric, nat_cmp-IsAntisymmetric}
use Rattle.std.specs.Str.{bytes_eq}
use Rattle.std.specs.Map.{lookup}
use Rattle.std.specs.BTreeMap.{is_at}
use Rattle.std.specs.String.{string_bytes}
use Rattle.std.proofs.lemmas.Map.Text.{is_eq-slice_cmp}

-- an entry of the tree, with its key as a list
abbrev pub listed : {Y X : Type 0} → String Y × X → List ℕ × X
listed e = (string_bytes e.0, e.1)

-- what the tree has at a text
abbrev pub at_text : {Y X : Type 0} → List (String Y × X) → List ℕ → Option X
at_text es q = lookup (is_at (λ k. slice_cmp nat_cmp q (string_bytes k))) es

-- the map of the tree's entries
abbrev pub prefixes_of : {Y X : Type 0} → List (String Y × X) → FinMap (slice_cmp nat_cmp) X
prefixes_of es = from_entries (map listed es)

find_listed : {Y X : Type 0} (es : List (String Y × X)) (q : List ℕ) → find (slice_cmp nat_cmp) q (map listed es) ≡ at_text es q
find_listed [] q = refl
find_listed (e ∷ es) q = ap (cond (is_eq (slice_cmp nat_cmp q (string_bytes e.0))) (Some e.1)) (find_listed es q)

-- the map has at a text what the tree has there
pub get_listed : {Y X : Type 0} (es : List (String Y × X)) (q : List ℕ) → get (prefixes_of es) q ≡ at_text es q
get_listed es q = get-from_entries nat_list_cmp_total (map listed es) q ∙ find_listed es q

-- trees that differ at one text make maps that differ there
pub one_put : {Y X : Type 0} (es fs : List (String Y × X)) (k : List ℕ) (v : X) → ((q : List ℕ) → at_text fs q ≡ cond (bytes_eq k q) (Some v) (at_text es q)) → prefixes_of fs ≡ insert (prefixes_of es) k v
one_put es fs k v h = same_map nat_list_cmp_total (slice_cmp-IsAntisymmetric nat_cmp-IsAntisymmetric) _ _ (λ q.
    get_listed fs q ∙ h q
    ∙ ap (λ b. cond b (Some v) (at_text es q)) (sym (is_eq-slice_cmp k q) ∙ (eq_by_cmp_equiv nat_list_cmp_total).symm k q)
    ∙ sym (get-insert nat_list_cmp_total (prefixes_of es) k v q ∙ ap (cond (eq_by_cmp (slice_cmp nat_cmp) q k) (Some v)) (get_listed es q)))
