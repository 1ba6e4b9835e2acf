-- The naming of the nodes of a triple, by what they refer to.
use Rattle.std.proofs.Common.{◌≡◌, ℕ, Bool, false, not, ◌||◌, List, [], ◌∷◌, Option, Some, None, is_some, sym, ap, ◌∙◌, subst}
use Rattle.rdf_graph.specs.declared.term.Term.{Term}
use Rattle.turtle_grammar.specs.declared.production.SymbolicTriple.{SymbolicTriple}
use Rattle.turtle_grammar.specs.declared.production.Production.{Production}
use Rattle.turtle_grammar.specs.declared.production.Production.TheVariants.{Prefix, Base, Triple}
use Rattle.turtle_grammar.specs.declared.symbol.Start.TheVariants.{Update}
use Rattle.turtle_reader.specs.declared.meaning.Meaning.{Meaning}
use Rattle.turtle_reader.specs.declared.referent.Referent.{Referent}
use Rattle.turtle_reader.specs.declared.referent.Referent.TheVariants as referent_of
use Rattle.turtle_reader.specs.declared.referent.ResolvedTriple.{ResolvedTriple}
use Rattle.turtle_reader.specs.Handed.{AreEach, AreResolved}
use Rattle.turtle_reader.specs.Referents.{referent, IsResolved}
use Rattle.turtle_reader.proofs.Handing.{made_each, one_made}
use Rattle.turtle_reader.proofs.OneText.{one_text}
use Rattle.sparql_patch.specs.declared.named.Named.{Named}
use Rattle.sparql_patch.specs.Laws.{HasOneNaming}
use Rattle.sparql_patch.specs.Reading.{IsTermOrBlank, naming_from, IsNaming, IsNamingOrBlank, blank_in, any_blank}
use Rattle.sparql_patch.specs.UpdateSpells.{is_blank_referent, has_blank_node, has_blank, is_insert, AreNamingsOf, IsNamingOf, IsUpdate, Names}

abbrev got : Referent → Option Referent
got r = Some r

-- The naming of referents

module _ (r : ResolvedTriple) (insert : Bool) (word : insert ≡ is_insert r.within) where
  blank_by : (s p o : Option Term) → IsTermOrBlank r.subject s → IsTermOrBlank r.predicate p → IsTermOrBlank r.object o
      → blank_in r ≡ (not (is_some s) || (not (is_some p) || not (is_some o)))
  blank_by s p o h k l = cc

  pub named_from : (s p o : Option Term) → IsTermOrBlank r.subject s → IsTermOrBlank r.predicate p → IsTermOrBlank r.object o
      → IsNamingOrBlank r (naming_from s p o insert)
  named_from (Some a) (Some b) (Some c) h k l = record {
    blank = blank_by (Some a) (Some b) (Some c) h k l;
    is_naming = record { subject = h.is_term; predicate = k.is_term; object = l.is_term; word = word };
  }
  named_from None p o h k l = record { blank = blank_by None p o h k l; is_naming = tt }
  named_from (Some a) None o h k l = record { blank = blank_by (Some a) None o h k l; is_naming = tt }
  named_from (Some a) (Some b) None h k l = record { blank = blank_by (Some a) (Some b) None h k l; is_naming = tt }

-- The naming of nodes

module _ (ms : List Meaning) where
  naming_is : (s : SymbolicTriple) (r : ResolvedTriple) (n : Named) → IsResolved ms s r → IsNaming r n → IsNamingOf ms s n
  naming_is s r n h k = record {
    subject = h.subject ∙ ap got k.subject;
    predicate = h.predicate ∙ ap got k.predicate;
    object = h.object ∙ ap got k.object;
    word = k.word ∙ ap is_insert h.within;
  }

  pub namings_are : (ps : List Production) (rs : List ResolvedTriple) (ns : List Named) → AreResolved ms ps rs → AreEach IsNaming rs ns → AreNamingsOf ms ps ns
  namings_are ps rs ns h k = made_each (IsResolved ms) IsNaming (IsNamingOf ms) naming_is ps rs ns h k

  blank_of : (s : SymbolicTriple) (r : ResolvedTriple) → IsResolved ms s r → has_blank_node ms s ≡ blank_in r
  blank_of s r h = cc

  pub blank_is : (ps : List Production) (rs : List ResolvedTriple) → AreResolved ms ps rs → has_blank ms ps ≡ any_blank rs
  blank_is [] rs h = sym (ap any_blank h)
  blank_is (Prefix i k ∷ ps) rs h = blank_is ps rs h
  blank_is (Base i ∷ ps) rs h = blank_is ps rs h
  blank_is (Triple s ∷ ps) rs (r, more, e, is, rest) =
      ap (λ (b : Bool). b || has_blank ms ps) (blank_of s r is) ∙ ap (λ (b : Bool). blank_in r || b) (blank_is ps more rest) ∙ sym (ap any_blank e)

-- Nodes have one naming, and a text one list of them

same_term : (a b : Term) (o : Option Referent) → o ≡ Some (referent_of.Term a) → o ≡ Some (referent_of.Term b) → a ≡ b
same_term a b o e f = cc

abbrev naming_with : Term → Term → Term → Bool → Named
naming_with s p o insert = record { triple = record { s = s; p = p; o = o }; insert = insert }

one_naming : (ms : List Meaning) (s : SymbolicTriple) (a b : Named) → IsNamingOf ms s a → IsNamingOf ms s b → a ≡ b
one_naming ms s a b h k =
    let s' = same_term a.triple.s b.triple.s (referent ms s.subject) h.subject k.subject in
    let p' = same_term a.triple.p b.triple.p (referent ms s.predicate) h.predicate k.predicate in
    let o' = same_term a.triple.o b.triple.o (referent ms s.object) h.object k.object in
    let w' : a.insert ≡ b.insert = h.word ∙ sym k.word in
    let same : naming_with a.triple.s a.triple.p a.triple.o a.insert ≡ naming_with b.triple.s b.triple.p b.triple.o b.insert = cc in same

-- what a text names is one list
pub one_named : HasOneNaming
one_named base bytes a b h k =
    let (ps, ms) = one_text Update base bytes h.productions k.productions h.meanings k.meanings h.is_update k.is_update in
    one_made (IsNamingOf h.meanings) (one_naming h.meanings) h.productions a b h.are_named
    (subst (λ (z : List Meaning). AreNamingsOf z h.productions b) ms (subst (λ (z : List Production). AreNamingsOf k.meanings z b) ps k.are_named))

-- in which there is no blank node, or there is one
pub one_blank : (base bytes : List ℕ) (ps : List Production) (ms : List Meaning) (named : List Named) → Names base bytes named → IsUpdate base bytes ps ms
    → has_blank ms ps ≡ false
one_blank base bytes ps ms named h update =
    let (same, same') = one_text Update base bytes h.productions ps h.meanings ms h.is_update update in
    ap (has_blank ms) same ∙ ap (λ (z : List Meaning). has_blank z h.productions) same' ∙ h.without_blank
