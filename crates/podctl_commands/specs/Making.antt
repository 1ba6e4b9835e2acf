-- What a disk shows before a store is made on it.
use Rattle.std.specs.Prelude.{◌≡◌, ◌<◌, ℕ, List, length, Option, Some}

-- the disk shows that it holds bytes
pub record HoldsBytes (content : Option (List ℕ)) : Type 0 where
  pub bytes : List ℕ
  pub shown : content ≡ Some bytes
  pub some : 0 < length bytes
