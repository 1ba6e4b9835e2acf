-- Whether complete triples are too large.
use Rattle.std.proofs.Common.{◌≡◌, ℕ, ◌+◌, ◌-◌, ◌^◌, ◌<◌, ◌≤◌, Bool, true, false, nat_lt, min, lit<, List, [], ◌∷◌, ◌++◌, Option, Some, None, inl, inr, refl, sym, ap, ◌∙◌, subst, arith}
use Rattle.std.proofs.lemmas.Bool.{ltb-true, ltb-false, lt-ltb, le-ltb, cases_lt}
use Rattle.rdf_graph.specs.declared.size.TheConstants.{TRIPLES_LIMIT}
use Rattle.rdf_graph.specs.declared.term.Term.{Term}
use Rattle.rdf_graph.specs.declared.term.Term.TheVariants.{Blank}
use Rattle.rdf_graph.specs.declared.triple.Triple.{Triple as RdfTriple}
use Rattle.rdf_graph.specs.Size.{saturated, triple_size, triples_size}
use Rattle.turtle_grammar.specs.declared.symbol.Start.TheVariants as start_of
use Rattle.turtle_reader.proofs.DocumentLemmas.{one_label_of}
use Rattle.turtle_reader.specs.declared.lexeme.Lexeme.{Lexeme}
use Rattle.turtle_reader.specs.declared.referent.Referent.{Referent}
use Rattle.turtle_reader.specs.declared.referent.Referent.TheVariants as referent_of
use Rattle.turtle_reader.specs.declared.referent.ResolvedTriple.{ResolvedTriple}
use Rattle.turtle_reader.specs.Languages.{IsJudged, Judges}
use Rattle.turtle_reader.specs.Texts.{AreComplete}
use Rattle.turtle_reader.proofs.Handing.{each_more, one_each}
use Rattle.turtle_reader.proofs.OneText.{one_complete}
use Rattle.turtle_text.specs.declared.document_triples.Triples.{Triples}
use Rattle.turtle_text.specs.Triples.{IsReferentTerm, IsReferentTriple, AreReferentTriples}
use Rattle.turtle_text.specs.Faults.{HasSize, IsLarge}
use Rattle.turtle_text.specs.Progress.{IsKept}
use Rattle.turtle_text.proofs.Sums.{size_more}

pub one_term : (bytes : List ℕ) (o : Option Referent) (a b : Term) → IsReferentTerm bytes o a → IsReferentTerm bytes o b → a ≡ b
one_term bytes (Some (referent_of.Term t)) a b h k = h ∙ sym k
one_term bytes (Some (referent_of.Unnamed n)) a b (l, is, e) (m, is', f) = e ∙ ap Blank (one_label_of bytes n l m is is') ∙ sym f
one_term bytes _ a b h k = absurd h

abbrev triple_with : Term → Term → Term → RdfTriple
triple_with s p o = record { s = s; p = p; o = o }

pub same_triple : (a b : RdfTriple) → a.s ≡ b.s → a.p ≡ b.p → a.o ≡ b.o → a ≡ b
same_triple a b s p o =
    ap (λ (z : Term). triple_with z a.p a.o) s ∙ ap (λ (z : Term). triple_with b.s z a.o) p ∙ ap (λ (z : Term). triple_with b.s b.p z) o

one_triple : (bytes : List ℕ) (r : ResolvedTriple) (a b : RdfTriple) → IsReferentTriple bytes r a → IsReferentTriple bytes r b → a ≡ b
one_triple bytes r a b h k =
    same_triple a b (one_term bytes (Some r.subject) a.s b.s h.subject k.subject) (one_term bytes (Some r.predicate) a.p b.p h.predicate k.predicate)
    (one_term bytes (Some r.object) a.o b.o h.object k.object)

-- The triples that are complete with some lexemes have one size.
one_size : (base bytes : List ℕ) (ls : List Lexeme) (m n : ℕ) → HasSize base bytes ls m → HasSize base bytes ls n → m ≡ n
one_size base bytes ls m n h k =
    let resolved : k.resolved ≡ h.resolved = one_complete start_of.Document base bytes ls k.resolved h.resolved k.complete h.complete in
    let triples : AreReferentTriples bytes h.resolved k.triples = subst (λ (z : List ResolvedTriple). AreReferentTriples bytes z k.triples) resolved k.are_triples in
    h.size_is ∙ ap triples_size (one_each (IsReferentTriple bytes) (one_triple bytes) h.resolved h.triples k.triples h.are_triples triples) ∙ sym k.size_is

large_by : (limit n : ℕ) → limit < 2 ^ 64 - 1 → nat_lt limit (saturated n) ≡ nat_lt limit n
unfolding saturated
large_by limit n low = elim (cases_lt limit n) [
  | inl high ↦ lt-ltb limit (min n (2 ^ 64 - 1)) (omega (arith, low, high)) ∙ sym (lt-ltb limit n high)
  | inr small ↦ le-ltb limit (min n (2 ^ 64 - 1)) (omega (arith, small)) ∙ sym (le-ltb limit n small)
]

low_high : (limit m n : ℕ) → m ≤ limit → limit < n → m ≡ n → ⊥
low_high limit m n low high same = omega (arith, low, high, same)

by_size : (base bytes : List ℕ) (ls : List Lexeme) (size : ℕ) (large : Bool) → HasSize base bytes ls size → large ≡ nat_lt TRIPLES_LIMIT size
    → IsJudged large (IsLarge base bytes ls)
by_size base bytes ls size true has is = (size, has, ltb-true TRIPLES_LIMIT size (sym is))
by_size base bytes ls size false has is = λ (other, has', high).
    low_high TRIPLES_LIMIT size other (ltb-false TRIPLES_LIMIT size (sym is)) high (one_size base bytes ls size other has has')

-- a size that stands at its type's end is too large as well
judged : (base bytes : List ℕ) (ls : List Lexeme) (resolved : List ResolvedTriple) (ts : List RdfTriple) (size : ℕ) → AreComplete start_of.Document base bytes ls resolved
    → AreReferentTriples bytes resolved ts → size ≡ saturated (triples_size ts) → IsJudged (nat_lt TRIPLES_LIMIT size) (IsLarge base bytes ls)
judged base bytes ls resolved ts size complete are is =
    by_size base bytes ls (triples_size ts) (nat_lt TRIPLES_LIMIT size)
    (record { resolved = resolved; triples = ts; complete = complete; are_triples = are; size_is = refl })
    (ap (nat_lt TRIPLES_LIMIT) is ∙ large_by TRIPLES_LIMIT (triples_size ts) (lit< tt))

module _ (bytes : List ℕ) (kept : Triples) where
  abbrev Judged : Option ResolvedTriple → ℕ → Type 0
  Judged waiting size = Judges start_of.Document IsKept IsLarge bytes waiting kept (nat_lt TRIPLES_LIMIT size)

  -- with the triple that waits
  pub judges_one : (one : ResolvedTriple) (t : RdfTriple) (size : ℕ) → IsReferentTriple bytes one t
      → ((m : ℕ) → kept.size ≡ saturated m → size ≡ saturated (m + triple_size t)) → (waiting : Option ResolvedTriple) → waiting ≡ Some one → Judged waiting size
  judges_one one t size is sum waiting some = subst (λ (w : Option ResolvedTriple). Judged w size) (sym some) (λ base ls handed h complete.
      judged base bytes ls (handed ++ one ∷ []) (kept.list.items ++ t ∷ []) size complete
      (each_more (IsReferentTriple bytes) handed one kept.list.items t h.are_triples is)
      (sum (triples_size kept.list.items) h.size_is ∙ ap saturated (sym (size_more kept.list.items t))))

  -- and without one
  pub judges_none : (waiting : Option ResolvedTriple) → waiting ≡ None → Judged waiting kept.size
  judges_none waiting none = subst (λ (w : Option ResolvedTriple). Judged w kept.size) (sym none) (λ base ls handed h complete.
      judged base bytes ls handed kept.list.items kept.size complete h.are_triples h.size_is)
