-- How far a table has been read.
use Rattle.std.specs.Prelude.{◌≡◌, ℕ, ◌+◌, ◌≤◌, List, ◌++◌, length}
use Rattle.token_table.specs.declared.table_line.TokenEntry.{TokenEntry}
use Rattle.token_table.specs.declared.table.TheConstants.{TABLE_LIMIT}
use Rattle.token_table.specs.TableLines.{lines_of, entries, size_of, AreSound}

-- the lines before the rest are sound, and have these entries, this size and this number
pub record IsRead (bytes rest : List ℕ) (table : List TokenEntry) (start number : ℕ) : Type 0 where
  pub before : List (List ℕ)
  pub whole : lines_of bytes ≡ before ++ lines_of rest
  pub table_is : table ≡ entries before
  pub start_is : start ≡ size_of before
  pub number_is : number ≡ length before
  pub sound : AreSound before
  pub within : start ≤ TABLE_LIMIT + 1
  pub fewer : number ≤ start
