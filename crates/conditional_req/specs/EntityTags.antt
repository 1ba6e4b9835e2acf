-- The entity tags of a field, and how they compare (RFC 9110, sections 8.8.3 and 8.8.3.2).
use Rattle.std.specs.Prelude.{ℕ, Bool, false, not, ◌&&◌, ◌||◌, ◌==◌, nat_eq, nat_le, if◌then◌else◌}
use Rattle.std.specs.Prelude.{List, [], ◌∷◌, drop, Option, Some, None, is_some, codes, bytes_eq}
use Rattle.std.specs.List.{list_all, list_any, starts_with}
use Rattle.std.specs.Option.{option_map, option_and_then}
use Rattle.field_list.specs.Places.{quote}
use Rattle.conditional_req.specs.declared.tag.Tag.{Tag}

-- an entity tag: whether it is weak, and what is between its quotes
pub record EntityTag : Type 0 where
  pub weak : Bool
  pub opaque : List ℕ

abbrev pub entity_tag_of : Bool → List ℕ → EntityTag
entity_tag_of weak opaque = record { weak = weak; opaque = opaque }

-- etagc: a visible character but the quote, or a byte past ASCII
abbrev pub is_tag_byte : ℕ → Bool
is_tag_byte b = b == 33 || ((nat_le 35 b && nat_le b 126) || nat_le 128 b)

-- what is before a quote at the end
abbrev pub before_quote : List ℕ → Option (List ℕ)
before_quote [] = None
before_quote (b ∷ []) = if b == quote then Some [] else None
before_quote (b ∷ c ∷ text) = option_map (λ rest. b ∷ rest) (before_quote (c ∷ text))

-- what is between a quote at the beginning and one at the end
abbrev pub unquoted : List ℕ → Option (List ℕ)
unquoted [] = None
unquoted (b ∷ text) = if b == quote then before_quote text else None

-- opaque-tag: bytes of a tag in quotes
abbrev pub opaque_tag : List ℕ → Option (List ℕ)
opaque_tag text = option_and_then (λ opaque. if list_all is_tag_byte opaque then Some opaque
    else None) (unquoted text)

abbrev pub is_weak : List ℕ → Bool
is_weak text = starts_with nat_eq text (codes "W/")

abbrev pub without_weak : List ℕ → List ℕ
without_weak text = if is_weak text then drop 2 text else text

-- the entity tag that an element is: an opaque tag, with `W/` before it where it is weak
abbrev pub entity_tag : List ℕ → Option EntityTag
entity_tag element = option_map (entity_tag_of (is_weak element))
    (opaque_tag (without_weak element))

abbrev pub is_entity_tag : List ℕ → Bool
is_entity_tag element = is_some (entity_tag element)

-- the opaque tag is that of one of these
abbrev pub is_among : List Tag → List ℕ → Bool
is_among tags opaque = list_any (λ t. bytes_eq opaque t.0) tags

-- It is strongly equal to one of these strong tags: it isn't weak, and the opaque tags are equal.
abbrev pub is_strong_match : List Tag → Option EntityTag → Bool
is_strong_match tags None = false
is_strong_match tags (Some tag) = not tag.weak && is_among tags tag.opaque

-- It is weakly equal to one of these: the opaque tags are equal.
abbrev pub is_weak_match : List Tag → Option EntityTag → Bool
is_weak_match tags None = false
is_weak_match tags (Some tag) = is_among tags tag.opaque
