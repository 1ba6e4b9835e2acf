-- The digest of a content type and a body.
use Rattle.std.specs.Prelude.{ℕ, List, [], ◌∷◌, ◌++◌}
use Rattle.sha2.specs.Sha256.{sha256}

-- SHA-256 of the content type, a zero byte and the body.
abbrev pub digest_of : List ℕ → List ℕ → List ℕ
digest_of ctype body = sha256 ((ctype ++ 0 ∷ []) ++ body)
