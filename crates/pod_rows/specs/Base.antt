-- The base of a pod: `http://` or `https://`, an authority, and `/`.
use Rattle.std.specs.Prelude.{ℕ, Bool, ◌&&◌, ◌||◌, nat_eq, nat_le, List, length, drop, codes}
use Rattle.std.specs.Char.{is_ascii_alphanumeric}
use Rattle.std.specs.List.{list_any, list_all, starts_with}
use Rattle.pod_path.specs.Hierarchy.{is_container, without_end}
use Rattle.pod_rows.specs.declared.limits.TheConstants.{BASE_BYTES_LIMIT}

-- A letter, a digit, or one of `-.:[]`.
abbrev pub is_authority_byte : ℕ → Bool
is_authority_byte byte = is_ascii_alphanumeric byte || list_any (nat_eq byte) (codes "-.:[]")

-- One such byte or more, and then a slash.
abbrev pub is_authority_and_slash : List ℕ → Bool
is_authority_and_slash text = nat_le 2 (length text)
    && (is_container text && list_all is_authority_byte (without_end 1 text))

-- The text has the scheme, and then such an authority and a slash.
abbrev pub is_base_of : List ℕ → List ℕ → Bool
is_base_of base scheme = starts_with nat_eq base scheme
    && is_authority_and_slash (drop (length scheme) base)

abbrev pub is_base : List ℕ → Bool
is_base base = nat_le (length base) BASE_BYTES_LIMIT
    && (is_base_of base (codes "http://") || is_base_of base (codes "https://"))
