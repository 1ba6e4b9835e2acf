-- Resolution of a reference against a base (RFC 3986, section 5.2), strict.
use Rattle.std.specs.Prelude.{◌≡◌, ℕ, if◌then◌else◌, List, [], ◌∷◌, ◌++◌, Option, Some, None}
use Rattle.std.specs.List.{list_any}
use Rattle.iri_ref.specs.Characters.{slash, is_slash}
use Rattle.iri_ref.specs.Components.{Components, HasComponents, recomposed}
use Rattle.iri_ref.specs.Segments.{remove_dot_segments, HasNoDotSegments}

-- A path up to its last slash and with it: all but its last segment.
abbrev pub up_to_last_slash : List ℕ → List ℕ
up_to_last_slash [] = []
up_to_last_slash (c ∷ cs) = if list_any is_slash (c ∷ cs) then c ∷ up_to_last_slash cs else []

-- The reference's path in place of the base's last segment (section 5.2.3).
abbrev pub merged : Option (List ℕ) → List ℕ → List ℕ → List ℕ
merged (Some authority) [] path = slash ∷ path
merged (Some authority) (c ∷ cs) path = up_to_last_slash (c ∷ cs) ++ path
merged None base_path path = up_to_last_slash base_path ++ path

-- The target's path where the reference has neither scheme nor authority.
abbrev pub path_from : Components → List ℕ → List ℕ
path_from base [] = base.path
path_from base (c ∷ cs) = remove_dot_segments (if is_slash c then c ∷ cs
    else merged base.authority base.path (c ∷ cs))

-- The base's query counts only under an empty path with no query of its own.
abbrev pub query_from : Components → List ℕ → Option (List ℕ) → Option (List ℕ)
query_from base [] None = base.query
query_from base [] (Some query) = Some query
query_from base (c ∷ cs) query = query

-- The transform of section 5.2.2, by whether the reference has an authority ..
abbrev pub in_scheme_of : Components → Components → Option (List ℕ) → Components
in_scheme_of base ref (Some authority) = record {
  scheme = base.scheme;
  authority = Some authority;
  path = remove_dot_segments ref.path;
  query = ref.query;
  fragment = ref.fragment;
}
in_scheme_of base ref None = record {
  scheme = base.scheme;
  authority = base.authority;
  path = path_from base ref.path;
  query = query_from base ref.path ref.query;
  fragment = ref.fragment;
}

-- .. and by whether it has a scheme.
abbrev pub by_scheme : Components → Components → Option (List ℕ) → Components
by_scheme base ref (Some scheme) = record {
  scheme = Some scheme;
  authority = ref.authority;
  path = remove_dot_segments ref.path;
  query = ref.query;
  fragment = ref.fragment;
}
by_scheme base ref None = in_scheme_of base ref ref.authority

abbrev pub transformed : Components → Components → Components
transformed base ref = by_scheme base ref ref.scheme

-- The text is the reference, resolved against the base.
pub record IsResolved (base ref text : List ℕ) : Type 0 where
  pub base_parts : Components
  pub ref_parts : Components
  pub base_has : HasComponents base base_parts
  pub ref_has : HasComponents ref ref_parts
  pub whole : text ≡ recomposed (transformed base_parts ref_parts)

-- The first where there is one, else the second.
abbrev pub first_of : Option (List ℕ) → Option (List ℕ) → Option (List ℕ)
first_of (Some text) other = Some text
first_of None other = other

-- The text has the reference's scheme, or the base's where the reference has none.
abbrev pub TakesScheme : List ℕ → List ℕ → List ℕ → Type 0
TakesScheme base ref text = (base_parts ref_parts parts : Components)
    → HasComponents base base_parts → HasComponents ref ref_parts → HasComponents text parts
    → parts.scheme ≡ first_of ref_parts.scheme base_parts.scheme

-- Resolved against the base, a text whose path has no dot segments is itself.
abbrev pub StaysResolved : List ℕ → List ℕ → Type 0
StaysResolved base text = (parts : Components) → HasComponents text parts
    → HasNoDotSegments parts.path → IsResolved base text text
