-- The five components of a reference (RFC 3986, section 3 and appendix B).
use Rattle.std.specs.Prelude.{◌≡◌, ℕ, Bool, ◌||◌, IsTrue, codes, List, [], ◌∷◌, ◌++◌, Option, Some}
use Rattle.std.specs.Prelude.{None, IfSome, IfNone, OnSome}
use Rattle.iri_ref.specs.Characters.{slash, colon, is_slash, is_question_mark, is_hash, is_scheme}
use Rattle.iri_ref.specs.Characters.{Lacks, AllAllowed}

-- The components without the delimiters that end or begin them.
pub record Components : Type 0 where
  pub scheme : Option (List ℕ)
  pub authority : Option (List ℕ)
  pub path : List ℕ
  pub query : Option (List ℕ)
  pub fragment : Option (List ℕ)

-- A scheme with its colon, or nothing.
abbrev pub scheme_text : Option (List ℕ) → List ℕ
scheme_text None = []
scheme_text (Some scheme) = scheme ++ colon ∷ []

-- A component after its mark, or nothing.
abbrev pub prefixed : List ℕ → Option (List ℕ) → List ℕ
prefixed mark None = []
prefixed mark (Some text) = mark ++ text

abbrev pub authority_text : Option (List ℕ) → List ℕ
authority_text authority = prefixed (codes "//") authority

abbrev pub query_text : Option (List ℕ) → List ℕ
query_text query = prefixed (codes "?") query

abbrev pub fragment_text : Option (List ℕ) → List ℕ
fragment_text fragment = prefixed (codes "#") fragment

-- The text of these components (section 5.3).
abbrev pub recomposed : Components → List ℕ
recomposed c = scheme_text c.scheme ++
    (authority_text c.authority ++ (c.path ++ (query_text c.query ++ fragment_text c.fragment)))

-- A scheme, and a colon after it, begin the text.
pub record BeginsWithScheme (text scheme rest : List ℕ) : Type 0 where
  pub is_one : IsTrue (is_scheme scheme)
  pub whole : text ≡ scheme ++ colon ∷ rest

abbrev pub HasScheme : List ℕ → Type 0
HasScheme text = (scheme : List ℕ) × (rest : List ℕ) × BeginsWithScheme text scheme rest

-- An IRI that can be a base or a name: it has a scheme and no forbidden character.
pub record IsAbsolute (text : List ℕ) : Type 0 where
  pub scheme : HasScheme text
  pub allowed : AllAllowed text

abbrev pub ends_authority : ℕ → Bool
ends_authority c = is_slash c || (is_question_mark c || is_hash c)

abbrev pub ends_path : ℕ → Bool
ends_path c = is_question_mark c || is_hash c

abbrev pub IsEmptyOrRooted : List ℕ → Type 0
IsEmptyOrRooted [] = Unit {0}
IsEmptyOrRooted (c ∷ cs) = c ≡ slash

-- These are the components of the text: what the expression of appendix B matches, where a scheme
-- is a letter and letters, digits, + - and . before the first colon.
pub record HasComponents (text : List ℕ) (c : Components) : Type 0 where
  pub whole : text ≡ recomposed c
  -- A scheme is taken wherever there is one.
  pub scheme : IfSome c.scheme (λ scheme. IsTrue (is_scheme scheme))
  pub no_scheme : IfNone c.scheme (HasScheme text → ⊥)
  -- An authority is taken wherever two slashes come next, and ends at the next slash.
  pub authority : IfSome c.authority (λ authority. Lacks ends_authority authority)
  pub no_authority : IfNone c.authority ((rest : List ℕ) → c.path ≡ slash ∷ slash ∷ rest → ⊥)
  pub rooted : OnSome c.authority (IsEmptyOrRooted c.path)
  -- The path ends at the first question mark or hash, the query at the first hash.
  pub path : Lacks ends_path c.path
  pub query : IfSome c.query (λ query. Lacks is_hash query)
