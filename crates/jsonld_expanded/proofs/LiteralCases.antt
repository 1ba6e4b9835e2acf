-- The cases of value objects.
use Rattle.std.proofs.Common.{◌≡◌, ◌++◌, ℕ, ⊎_elim, inl, inr, Bool, true, false, List, Option, Some, None, codes, map, option_map, option_and_then, refl, sym, ap, ◌∙◌, arith, subst}
use Rattle.std.specs.Char.{to_ascii_lowercase}
use Rattle.iri_ref.specs.Components.{IsAbsolute}
use Rattle.turtle_lex.specs.Laws.{IsTextOf}
use Rattle.turtle_lex.specs.Terminals.{lang_tag}
use Rattle.rdf_graph.specs.declared.term.Term.{Term}
use Rattle.rdf_graph.specs.declared.term.Term.TheVariants.{Literal, Tagged}
use Rattle.serde_json.specs.Data.{Data, Members, object}
use Rattle.serde_json.specs.Events.{members_len}
use Rattle.serde_json.specs.Find.{as_str, get, get_member}
use Rattle.jsonld_expanded.specs.Literals.{IsPlain, IsLiteralOf, text_at}

-- what was found in an object by a key
pub found_at : (key : List ℕ) (ms : Members) (d : Data) (o : Option (List ℕ)) → d ≡ object ms → o ≡ option_and_then as_str (get key d) → text_at key ms ≡ o
found_at key ms d o is e = sym (e ∙ ap (λ v. option_and_then as_str (get key v)) is)

pub value_at : (key : List ℕ) (ms : Members) (d : Data) (o : Option Data) → d ≡ object ms → o ≡ get key d → get_member key ms ≡ o
value_at key ms d o is e = sym (e ∙ ap (get key) is)

some_none : {A : Type 0} (o : Option A) (x : A) → o ≡ Some x → o ≡ None → ⊥
some_none o x d e = absurd cc

same_some : {A : Type 0} (o : Option A) (x y : A) → o ≡ Some x → o ≡ Some y → x ≡ y
same_some o x y d e = cc

two_not_one : (n : ℕ) → n ≡ 2 → n ≡ 1 → ⊥
two_not_one n d e = omega (arith, d, e)

module _ (ms : Members) where
  pub other_count : (members_len ms ≡ 1 → ⊥) → (members_len ms ≡ 2 → ⊥) → (t : Term) → IsLiteralOf ms t → ⊥
  other_count one two t (inl x) = one x.count
  other_count one two t (inr (inl x)) = two x.count
  other_count one two t (inr (inr x)) = two x.count

  pub plain : (value : Data) (t : Term) → members_len ms ≡ 1 → get_member (codes "@value") ms ≡ Some value → IsPlain value t → IsLiteralOf ms t
  plain value t count has literal = inl (record { value = value; count = count; has_value = has; literal = literal })

  pub not_plain : (value : Data) → members_len ms ≡ 1 → get_member (codes "@value") ms ≡ Some value → ((t : Term) → IsPlain value t → ⊥) → (t : Term) → IsLiteralOf ms t → ⊥
  not_plain value count has none t (inl x) = none t (subst (λ (d : Data). IsPlain d t) (same_some (get_member (codes "@value") ms) x.value value x.has_value has) x.literal)
  not_plain value count has none t (inr (inl x)) = two_not_one _ x.count count
  not_plain value count has none t (inr (inr x)) = two_not_one _ x.count count

  pub no_value : members_len ms ≡ 1 → get_member (codes "@value") ms ≡ None → (t : Term) → IsLiteralOf ms t → ⊥
  no_value count none t (inl x) = some_none _ _ x.has_value none
  no_value count none t (inr (inl x)) = two_not_one _ x.count count
  no_value count none t (inr (inr x)) = two_not_one _ x.count count

  pub no_lexical : members_len ms ≡ 2 → text_at (codes "@value") ms ≡ None → (t : Term) → IsLiteralOf ms t → ⊥
  no_lexical count none t (inl x) = two_not_one _ count x.count
  no_lexical count none t (inr (inl x)) = some_none (text_at (codes "@value") ms) _ x.has_value none
  no_lexical count none t (inr (inr x)) = some_none (text_at (codes "@value") ms) _ x.has_value none

  pub typed : (lexical datatype : List ℕ) (t : Term) → members_len ms ≡ 2 → text_at (codes "@value") ms ≡ Some lexical → text_at (codes "@type") ms ≡ Some datatype
      → IsAbsolute datatype × (t ≡ Literal lexical datatype) → IsLiteralOf ms t
  typed lexical datatype t count value kind h = inr (inl (record { lexical = lexical; datatype = datatype; count = count; has_value = value; has_type = kind; absolute = h.0; literal = h.1 }))

  pub not_typed : (datatype : List ℕ) → members_len ms ≡ 2 → text_at (codes "@type") ms ≡ Some datatype → (IsAbsolute datatype → ⊥) → (t : Term) → IsLiteralOf ms t → ⊥
  not_typed datatype count kind none t (inl x) = two_not_one _ count x.count
  not_typed datatype count kind none t (inr (inl x)) = none (subst IsAbsolute (same_some (text_at (codes "@type") ms) x.datatype datatype x.has_type kind) x.absolute)
  not_typed datatype count kind none t (inr (inr x)) = some_none (text_at (codes "@type") ms) _ kind x.no_type

  pub tagged : (lexical lang : List ℕ) (t : Term) → members_len ms ≡ 2 → text_at (codes "@value") ms ≡ Some lexical → text_at (codes "@type") ms ≡ None → text_at (codes "@language") ms ≡ Some lang
      → IsTextOf lang_tag (codes "@" ++ lang) → t ≡ Tagged lexical (map to_ascii_lowercase lang) → IsLiteralOf ms t
  tagged lexical lang t count value no_type language is_tag is = inr (inr (record {
    lexical = lexical;
    lang = lang;
    count = count;
    has_value = value;
    no_type = no_type;
    has_language = language;
    is_tag = is_tag;
    literal = is;
  }))

  pub no_tag : members_len ms ≡ 2 → text_at (codes "@type") ms ≡ None → text_at (codes "@language") ms ≡ None → (t : Term) → IsLiteralOf ms t → ⊥
  no_tag count no_type none t (inl x) = two_not_one _ count x.count
  no_tag count no_type none t (inr (inl x)) = some_none (text_at (codes "@type") ms) _ x.has_type no_type
  no_tag count no_type none t (inr (inr x)) = some_none (text_at (codes "@language") ms) _ x.has_language none

  pub not_tagged : (lang : List ℕ) → members_len ms ≡ 2 → text_at (codes "@type") ms ≡ None → text_at (codes "@language") ms ≡ Some lang → (IsTextOf lang_tag (codes "@" ++ lang) → ⊥) → (t : Term) → IsLiteralOf ms t → ⊥
  not_tagged lang count no_type language none t (inl x) = two_not_one _ count x.count
  not_tagged lang count no_type language none t (inr (inl x)) = some_none (text_at (codes "@type") ms) _ x.has_type no_type
  not_tagged lang count no_type language none t (inr (inr x)) = none (subst (λ (s : List ℕ). IsTextOf lang_tag (codes "@" ++ s)) (same_some (text_at (codes "@language") ms) x.lang lang x.has_language language) x.is_tag)
