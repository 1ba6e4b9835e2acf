-- What an update of SPARQL data means (SPARQL 1.1 Update, sections 3.1.1 and 3.1.2): of the triples
-- that it names, each is inserted or deleted by its last naming.
use Rattle.std.specs.Prelude.{◌≡◌, Bool, true, false, not, ◌&&◌, List, [], ◌∷◌, ◌++◌, map}
use Rattle.std.specs.Prelude.{if◌then◌else◌, Option, Some, None}
use Rattle.std.specs.List.{filter, list_any}
use Rattle.rdf_graph.specs.Term.{term_eq}
use Rattle.rdf_graph.specs.declared.triple.Triple.{Triple}
use Rattle.graph_patch.specs.declared.patch.Patch.{Patch}
use Rattle.graph_patch.specs.declared.pattern.Pattern.{Pattern}
use Rattle.graph_patch.specs.declared.pattern.Slot.TheVariants.{Fixed}
use Rattle.sparql_patch.specs.declared.named.Named.{Named}

-- whether two triples are equal
abbrev pub triple_eq : Triple → Triple → Bool
triple_eq t u = term_eq t.s u.s && (term_eq t.p u.p && term_eq t.o u.o)

abbrev pub has_triple : List Triple → Triple → Bool
has_triple triples t = list_any (triple_eq t) triples

-- whether one of these names the triple
abbrev pub is_named : List Named → Triple → Bool
is_named named t = has_triple (map (λ x. x.triple) named) t

-- The word of a triple's last naming, `true` for INSERT, if it is named.
abbrev pub last_word : List Named → Triple → Option Bool
last_word [] t = None
last_word (x ∷ xs) t = if is_named xs t then last_word xs t
    else if triple_eq t x.triple then Some x.insert else None

-- whether a naming is with that word
abbrev pub has_word : Bool → Named → Bool
has_word true x = x.insert
has_word false x = not x.insert

-- the triple of a naming with that word after which no other names it
abbrev pub if_last : Bool → Named → List Named → List Triple
if_last insert x others =
    if has_word insert x && not (is_named others x.triple) then x.triple ∷ [] else []

-- the triples whose last naming is with that word, each once, from the last naming on
abbrev pub last_named : Bool → List Named → List Triple
last_named insert [] = []
last_named insert (x ∷ xs) = last_named insert xs ++ if_last insert x xs

-- the pattern of a triple, without variables
abbrev pub pattern_of : Triple → Pattern
pattern_of t = record { s = Fixed t.s; p = Fixed t.p; o = Fixed t.o }

-- The patch that an update spells at a graph g: it deletes the triples of g whose last naming is
-- with DELETE, and inserts those whose last naming is with INSERT.
pub record IsSpelledAt (g : List Triple) (named : List Named) (patch : Patch) : Type 0 where
  pub conditions : patch.conditions.items ≡ []
  pub deletions : patch.deletions.items
      ≡ map pattern_of (filter (has_triple g) (last_named false named))
  pub insertions : patch.insertions.items ≡ map pattern_of (last_named true named)
