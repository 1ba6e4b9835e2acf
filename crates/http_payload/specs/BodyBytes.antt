-- The bytes of a body, at either of the places where a payload holds them.
use Rattle.std.specs.Prelude.{ℕ, ◌≡◌, ◌≢◌, List}
use Rattle.http_payload.specs.declared.body_bytes.BodyBytes.{BodyBytes}
use Rattle.http_payload.specs.declared.body_bytes.BodyBytes.TheVariants.{Growing, Complete}
use Rattle.http_payload.specs.declared.body_stage.Stage.{Stage}
use Rattle.http_payload.specs.declared.body_stage.Stage.TheVariants.{Rest}

-- the bytes, wherever they are
abbrev pub bytes_of_body : BodyBytes → List ℕ
bytes_of_body (Growing bytes) = bytes.items
bytes_of_body (Complete bytes) = bytes

-- The bytes are shared exactly where the body is complete.
abbrev pub IsKeptAt : Stage → BodyBytes → Type 0
IsKeptAt stage (Growing bytes) = stage ≢ Rest 0
IsKeptAt stage (Complete bytes) = stage ≡ Rest 0
