-- The literals that value objects stand for.
use Rattle.std.specs.Prelude.{◌≡◌, ◌⊎◌, ◌++◌, ℕ, codes, List, Bool, true, false, map, Option, Some}
use Rattle.std.specs.Prelude.{None, option_and_then}
use Rattle.std.specs.Char.{to_ascii_lowercase}
use Rattle.iri_ref.specs.Components.{IsAbsolute}
use Rattle.turtle_lex.specs.Laws.{IsTextOf}
use Rattle.turtle_lex.specs.Terminals.{lang_tag}
use Rattle.rdf_graph.specs.declared.term.Term.{Term}
use Rattle.rdf_graph.specs.declared.term.Term.TheVariants.{Literal, Tagged}
use Rattle.serde_json.specs.Data.{Data, null, boolean, number, string, array, object, Members}
use Rattle.serde_json.specs.Events.{members_len}
use Rattle.serde_json.specs.Find.{as_str, get_member, is_float}
use Rattle.serde_json.specs.Written.{number_text}
use Rattle.jsonld_expanded.specs.Vocabulary.{xsd_boolean, xsd_integer, xsd_string}

abbrev pub truth_text : Bool → List ℕ
truth_text true = codes "true"
truth_text false = codes "false"

-- the literal of a string, a truth value or a whole number
abbrev pub IsPlain : Data → Term → Type 0
IsPlain null t = ⊥
IsPlain (boolean b) t = t ≡ Literal (truth_text b) xsd_boolean
IsPlain (number n) t = (is_float n ≡ false) × (t ≡ Literal (number_text n) xsd_integer)
IsPlain (string text) t = t ≡ Literal text xsd_string
IsPlain (array ds) t = ⊥
IsPlain (object ms) t = ⊥

-- the string at the key, if it has one
abbrev pub text_at : List ℕ → Members → Option (List ℕ)
text_at key ms = option_and_then as_str (get_member key ms)

-- `@value` alone
pub record IsPlainObject (ms : Members) (t : Term) : Type 0 where
  pub value : Data
  pub count : members_len ms ≡ 1
  pub has_value : get_member (codes "@value") ms ≡ Some value
  pub literal : IsPlain value t

-- a string with a datatype
pub record IsTypedObject (ms : Members) (t : Term) : Type 0 where
  pub lexical : List ℕ
  pub datatype : List ℕ
  pub count : members_len ms ≡ 2
  pub has_value : text_at (codes "@value") ms ≡ Some lexical
  pub has_type : text_at (codes "@type") ms ≡ Some datatype
  pub absolute : IsAbsolute datatype
  pub literal : t ≡ Literal lexical datatype

-- a string with a language tag
pub record IsTaggedObject (ms : Members) (t : Term) : Type 0 where
  pub lexical : List ℕ
  pub lang : List ℕ
  pub count : members_len ms ≡ 2
  pub has_value : text_at (codes "@value") ms ≡ Some lexical
  pub no_type : text_at (codes "@type") ms ≡ None
  pub has_language : text_at (codes "@language") ms ≡ Some lang
  pub is_tag : IsTextOf lang_tag (codes "@" ++ lang)
  pub literal : t ≡ Tagged lexical (map to_ascii_lowercase lang)

-- the literal of a value object
abbrev pub IsLiteralOf : Members → Term → Type 0
IsLiteralOf ms t = IsPlainObject ms t ⊎ (IsTypedObject ms t ⊎ IsTaggedObject ms t)
