-- The triples of a document, by the referents that are handed out, are one list.
use Rattle.std.proofs.Common.{◌≡◌, ℕ, List, Option, Some, None, sym, ap, ◌∙◌, subst}
use Rattle.rdf_graph.specs.declared.term.Term.TheVariants.{Blank}
use Rattle.turtle_grammar.specs.declared.production.SymbolicTriple.{SymbolicTriple}
use Rattle.turtle_grammar.specs.declared.production.Production.{Production}
use Rattle.turtle_grammar.specs.declared.symbol.Start.TheVariants.{Patch}
use Rattle.turtle_reader.proofs.DocumentLemmas.{one_label_of}
use Rattle.turtle_reader.specs.declared.meaning.Meaning.{Meaning}
use Rattle.turtle_reader.specs.declared.referent.Referent.{Referent}
use Rattle.turtle_reader.specs.declared.referent.Referent.TheVariants as referent_of
use Rattle.turtle_reader.specs.declared.referent.ResolvedTriple.{ResolvedTriple}
use Rattle.turtle_reader.specs.Languages.{KeepsText}
use Rattle.turtle_reader.specs.Referents.{referent, IsResolved}
use Rattle.turtle_reader.proofs.Handing.{made_each, one_made}
use Rattle.turtle_reader.proofs.OneText.{one_text}
use Rattle.n3_patch.specs.declared.collected_triples.Made.{Made}
use Rattle.n3_patch.specs.declared.triples.PatchNode.{PatchNode}
use Rattle.n3_patch.specs.declared.triples.PatchNode.TheVariants as patch_node
use Rattle.n3_patch.specs.declared.triples.PatchTriple.{PatchTriple}
use Rattle.n3_patch.specs.Spells.{IsReferentNode, IsTripleOf, AreTriplesOf, SpellsTriples, within_formula}
use Rattle.n3_patch.specs.Reading.{AreMade, IsReferentTriple}
use Rattle.n3_patch.specs.Rules.{IsJudged}
use Rattle.n3_patch.specs.Laws.{HasOneSpelledPatch}
use Rattle.n3_patch.proofs.RuleLemmas.{one_patch}

one_referent_node : (bytes : List ℕ) (o : Option Referent) (a b : PatchNode) → IsReferentNode bytes o a → IsReferentNode bytes o b → a ≡ b
one_referent_node bytes None a b h k = absurd h
one_referent_node bytes (Some (referent_of.Unnamed n)) a b (l, is, e) (m, is', f) = e ∙ ap (λ z. patch_node.Term (Blank z)) (one_label_of bytes n l m is is') ∙ sym f
one_referent_node bytes (Some _) a b h k = h ∙ sym k

abbrev triple_with : PatchNode → PatchNode → PatchNode → Option ℕ → PatchTriple
triple_with s p o f = record { subject = s; predicate = p; object = o; formula = f }

module _ (bytes : List ℕ) (ms : List Meaning) where
  -- the triple of referents is that of their nodes
  resolved_triple : (s : SymbolicTriple) (r : ResolvedTriple) (t : PatchTriple) → IsResolved ms s r → IsReferentTriple bytes r t → IsTripleOf bytes ms s t
  resolved_triple s r t h k = record {
    subject = subst (λ (z : Option Referent). IsReferentNode bytes z t.subject) (sym h.subject) k.subject;
    predicate = subst (λ (z : Option Referent). IsReferentNode bytes z t.predicate) (sym h.predicate) k.predicate;
    object = subst (λ (z : Option Referent). IsReferentNode bytes z t.object) (sym h.object) k.object;
    formula = k.formula ∙ ap within_formula h.within;
  }

  one_triple : (s : SymbolicTriple) (a b : PatchTriple) → IsTripleOf bytes ms s a → IsTripleOf bytes ms s b → a ≡ b
  one_triple s a b h k =
      let s' = one_referent_node bytes (referent ms s.subject) a.subject b.subject h.subject k.subject in
      let p' = one_referent_node bytes (referent ms s.predicate) a.predicate b.predicate h.predicate k.predicate in
      let o' = one_referent_node bytes (referent ms s.object) a.object b.object h.object k.object in
      let f' : a.formula ≡ b.formula = h.formula ∙ sym k.formula in
      let same : triple_with a.subject a.predicate a.object a.formula ≡ triple_with b.subject b.predicate b.object b.formula = cc in same

-- a text whose triples were kept
pub spells_kept : (base bytes : List ℕ) (made : Made) → KeepsText (λ (b : List ℕ) (handed : List ResolvedTriple) (m : Made). AreMade b handed m.list.items) Patch base bytes made → SpellsTriples base bytes made.list.items
spells_kept base bytes made k = record {
  productions = k.productions;
  meanings = k.meanings;
  text = k.text;
  are_triples =
      made_each (IsResolved k.meanings) (IsReferentTriple bytes) (IsTripleOf bytes k.meanings) (resolved_triple bytes k.meanings)
      k.productions k.handed made.list.items k.resolved k.is_kept;
}

-- the triples of a text are one list
pub one_spelled : (base bytes : List ℕ) (ts us : List PatchTriple) → SpellsTriples base bytes ts → SpellsTriples base bytes us → ts ≡ us
one_spelled base bytes ts us h k =
    let same = one_text Patch base bytes h.productions k.productions h.meanings k.meanings h.text k.text in
    one_made (IsTripleOf bytes h.meanings) (one_triple bytes h.meanings) h.productions ts us h.are_triples
    (subst (λ (z : List Meaning). AreTriplesOf bytes z h.productions us) same.1
    (subst (λ (z : List Production). AreTriplesOf bytes k.meanings z us) same.0 k.are_triples))

pub one_spelled_patch : HasOneSpelledPatch
one_spelled_patch base bytes a b x y =
    let same = one_spelled base bytes x.triples y.triples x.spells y.spells in
    one_patch y.triples a b (subst (λ (ts : List PatchTriple). IsJudged ts a) same x.judged) y.judged
