-- What is collected of an update as it is read.
use Rattle.std.specs.Prelude.{◌≡◌, ◌≤◌, ◌||◌, Bool, false, not, List, Option, Some, None}
use Rattle.std.specs.Prelude.{IfSome, is_some}
use Rattle.std.specs.List.{list_any}
use Rattle.rdf_graph.specs.declared.size.TheConstants.{TRIPLES_LIMIT}
use Rattle.rdf_graph.specs.declared.term.Term.{Term}
use Rattle.rdf_graph.specs.Size.{saturated}
use Rattle.turtle_reader.specs.declared.referent.Referent.{Referent}
use Rattle.turtle_reader.specs.declared.referent.Referent.TheVariants as referent_of
use Rattle.turtle_reader.specs.declared.referent.ResolvedTriple.{ResolvedTriple}
use Rattle.turtle_reader.specs.Handed.{AreEach}
use Rattle.sparql_patch.specs.declared.collected_triples.Collected.{Collected}
use Rattle.sparql_patch.specs.declared.named.Named.{Named}
use Rattle.sparql_patch.specs.UpdateSpells.{is_blank_referent, is_insert, named_size}

-- The referent is this term, or a blank node where there is none.
pub record IsTermOrBlank (referent : Referent) (term : Option Term) : Type 0 where
  pub blank : is_blank_referent (Some referent) ≡ not (is_some term)
  pub is_term : IfSome term (λ t. referent ≡ referent_of.Term t)

-- the naming of these terms
abbrev pub naming_from : Option Term → Option Term → Option Term → Bool → Option Named
naming_from (Some s) (Some p) (Some o) insert =
    Some (record { triple = record { s = s; p = p; o = o }; insert = insert })
naming_from s p o insert = None

-- whether one of the nodes is a blank node
abbrev pub blank_in : ResolvedTriple → Bool
blank_in t = is_blank_referent (Some t.subject)
    || (is_blank_referent (Some t.predicate) || is_blank_referent (Some t.object))

abbrev pub any_blank : List ResolvedTriple → Bool
any_blank triples = list_any blank_in triples

-- The naming is the triple of these referents.
pub record IsNaming (resolved : ResolvedTriple) (naming : Named) : Type 0 where
  pub subject : resolved.subject ≡ referent_of.Term naming.triple.s
  pub predicate : resolved.predicate ≡ referent_of.Term naming.triple.p
  pub object : resolved.object ≡ referent_of.Term naming.triple.o
  pub word : naming.insert ≡ is_insert resolved.within

-- It is that, or one of them is a blank node.
pub record IsNamingOrBlank (resolved : ResolvedTriple) (naming : Option Named) : Type 0 where
  pub blank : blank_in resolved ≡ not (is_some naming)
  pub is_naming : IfSome naming (IsNaming resolved)

-- The size is that of these namings, which are kept where they keep the limit.
pub record IsCounted (all : List Named) (collected : Collected) : Type 0 where
  pub size_is : collected.size ≡ saturated (named_size all)
  pub kept : named_size all ≤ TRIPLES_LIMIT → collected.named.items ≡ all

-- the namings of triples, as they are counted
pub record AreCounted (handed : List ResolvedTriple) (collected : Collected) : Type 0 where
  pub all : List Named
  pub are_named : AreEach IsNaming handed all
  pub counted : IsCounted all collected

-- What is collected of these triples.
pub record IsCollected (handed : List ResolvedTriple) (collected : Collected) : Type 0 where
  pub blank : collected.has_blank ≡ any_blank handed
  pub named : any_blank handed ≡ false → AreCounted handed collected
