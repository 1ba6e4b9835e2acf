-- Where the tokens of a table are.
use Rattle.std.specs.Prelude.{◌≡◌, ℕ, suc, if◌then◌else◌, bytes_eq, List, [], ◌∷◌, Option, Some}
use Rattle.std.specs.Prelude.{None, String}
use Rattle.std.specs.List.{All}
use Rattle.std.specs.Option.{option_map}
use Rattle.std.specs.Str.{IsUtf8}
use Rattle.std.specs.BTreeMap.{BTreeMap, get_by_text}
use Rattle.token_table.specs.declared.table_line.TokenEntry.{TokenEntry}

-- the place of the first entry with this token
abbrev pub place_of : List ℕ → List TokenEntry → Option ℕ
place_of token [] = None
place_of token (e ∷ es) =
    if bytes_eq e.token token then Some 0 else option_map suc (place_of token es)

-- the tree has the place of each token
pub record AreFiled {Y : Type 0} (entries : List TokenEntry)
    (places : BTreeMap (String Y) ℕ) : Type 0 where
  pub filed : (token : List ℕ) → get_by_text places token ≡ place_of token entries
  pub texts : All (λ e. IsUtf8 e.token) entries
