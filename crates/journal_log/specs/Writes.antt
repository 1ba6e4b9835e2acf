-- What a write leaves.
use Rattle.std.specs.Prelude.{◌≡◌, ℕ, List, Option, Some}
use Rattle.pod_disk.specs.Disk.{overwritten, Torn}

-- one of these images, but for a write of that many bytes at this offset, which a crash may have
-- cut short
abbrev pub IsTornFrom : (List ℕ → Type 0) → ℕ → ℕ → List ℕ → Type 0
IsTornFrom images at count image = (from : List ℕ) × images from × Torn at count from image

-- what the disk held, with these bytes at this offset
abbrev pub IsOverwritten : Option (List ℕ) → ℕ → List ℕ → List ℕ → Type 0
IsOverwritten content at bytes image = (was : List ℕ) × (content ≡ Some was)
    × (image ≡ overwritten at bytes was)
