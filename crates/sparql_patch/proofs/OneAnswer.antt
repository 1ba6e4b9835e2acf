-- A text is read in one way, and as what the code returns.
use Rattle.std.proofs.Common.{◌≡◌, ℕ, ◌<◌, ◌≤◌, true, false, List, Result, Ok, Err, IfOk, IfErr, refl, sym, ap, ◌∙◌, subst, arith}
use Rattle.std.proofs.lemmas.Bool.{false≢true}
use Rattle.pod_base.specs.Listed.{Listed}
use Rattle.rdf_graph.specs.declared.size.TheConstants.{TRIPLES_LIMIT}
use Rattle.turtle_grammar.specs.declared.symbol.Start.TheVariants.{Update}
use Rattle.turtle_terms.specs.declared.fault.TurtleFault.{TurtleFault}
use Rattle.turtle_reader.specs.declared.referent.ResolvedTriple.{ResolvedTriple}
use Rattle.turtle_reader.specs.FirstFaults.{IsShallow, NeverLarge}
use Rattle.turtle_reader.specs.LanguageFaults.{IsFirstSyntaxFault}
use Rattle.turtle_reader.specs.Languages.{KeepsText}
use Rattle.turtle_reader.proofs.OneFault.{one_first_fault}
use Rattle.turtle_reader.proofs.OneText.{no_fault, nowhere_large}
use Rattle.sparql_patch.specs.declared.collected_triples.Collected.{Collected}
use Rattle.sparql_patch.specs.declared.fault.SparqlFault.{SparqlFault}
use Rattle.sparql_patch.specs.declared.fault.SparqlFault.TheVariants.{Syntax, Blank, TooLarge, NoMemory}
use Rattle.sparql_patch.specs.declared.named.Named.{Named}
use Rattle.sparql_patch.specs.Laws.{IsReadAs}
use Rattle.sparql_patch.specs.Reading.{AreCounted, IsCollected}
use Rattle.sparql_patch.specs.UpdateSpells.{has_blank, Names, named_size}
use Rattle.sparql_patch.specs.UpdateFaults.{HasNoFault, HasOnlyNamed, IsSparqlFault, told_as}
use Rattle.sparql_patch.proofs.Counting.{over_limit, within_limit}
use Rattle.sparql_patch.proofs.Namings.{blank_is, namings_are, one_blank, one_named}

abbrev Answer : Type 0
Answer = Result (List Named) SparqlFault

abbrev answered : List Named → Answer
answered named = Ok named

abbrev refused : SparqlFault → Answer
refused fault = Err fault

pub no_refusal : (f : SparqlFault) (named : List Named) → answered named ≡ refused f → ⊥
no_refusal f named e = cc

pub same_items : (a b : List Named) → answered a ≡ answered b → a ≡ b
same_items a b e = cc

pub same_fault : (f g : SparqlFault) → refused f ≡ refused g → f ≡ g
same_fault f g e = cc

module _ (base bytes : List ℕ) where
  never : (f : TurtleFault) → HasNoFault base bytes → IsFirstSyntaxFault Update base bytes f → ⊥
  never f none first = none first.index f first.has

  not_blank : (named : List Named) → Names base bytes named → IsSparqlFault base bytes Blank → ⊥
  not_blank named h (ps, ms, update, none, blank) = false≢true (sym (one_blank base bytes ps ms named h update) ∙ blank)

  not_large : (named : List Named) → Names base bytes named → named_size named ≤ TRIPLES_LIMIT → IsSparqlFault base bytes TooLarge → ⊥
  not_large named h fits (other, k, none, large) =
      let same : named_size named ≡ named_size other = ap named_size (one_named base bytes named other h k) in omega (arith, same, fits, large)

  pub one_answer : (a b : Answer) → IsReadAs base bytes a → IsReadAs base bytes b → a ≡ b
  one_answer (Ok a) (Ok b) h k = ap answered (one_named base bytes a b h.0 k.0)
  one_answer (Ok a) (Err (Syntax at)) h (f, first, is) = absurd (never f h.1 first)
  one_answer (Ok a) (Err Blank) h k = absurd (not_blank a h.0 k)
  one_answer (Ok a) (Err TooLarge) h k = absurd (not_large a h.0 h.2 k)
  one_answer a (Err NoMemory) h k = absurd k
  one_answer (Err (Syntax at)) (Ok b) (f, first, is) k = absurd (never f k.1 first)
  one_answer (Err (Syntax at)) (Err (Syntax at')) (f, first, is) (g, first', is') =
      ap refused (sym is ∙ ap told_as (one_first_fault NeverLarge Update base bytes f g first first') ∙ is')
  one_answer (Err (Syntax at)) (Err Blank) (f, first, is) (ps, ms, update, none, blank) = absurd (never f none first)
  one_answer (Err (Syntax at)) (Err TooLarge) (f, first, is) (named, k, none, large) = absurd (never f none first)
  one_answer (Err Blank) (Ok b) h k = absurd (not_blank b k.0 h)
  one_answer (Err Blank) (Err (Syntax at)) (ps, ms, update, none, blank) (f, first, is) = absurd (never f none first)
  one_answer (Err Blank) (Err Blank) h k = refl
  one_answer (Err Blank) (Err TooLarge) h (named, k, none, large) = absurd (not_blank named k h)
  one_answer (Err TooLarge) (Ok b) h k = absurd (not_large b k.0 k.2 h)
  one_answer (Err TooLarge) (Err (Syntax at)) (named, h, none, large) (f, first, is) = absurd (never f none first)
  one_answer (Err TooLarge) (Err Blank) (named, h, none, large) k = absurd (not_blank named h k)
  one_answer (Err TooLarge) (Err TooLarge) h k = refl
  one_answer (Err NoMemory) b h k = absurd h

  -- Of a text that names triples within the limits only these are returned.

  module _ (named : List Named) (h : Names base bytes named) (shallow : IsShallow NeverLarge Update base bytes) (fits : named_size named ≤ TRIPLES_LIMIT) where
    read_as : IsReadAs base bytes (Ok named)
    read_as = (h, no_fault NeverLarge Update base bytes h.productions h.meanings h.is_update shallow (nowhere_large Update base bytes), fits)

    only_memory : (f : SparqlFault) → IsSparqlFault base bytes f → f ≡ NoMemory
    only_memory NoMemory is = refl
    only_memory f is = absurd (no_refusal f named (one_answer (Ok named) (Err f) read_as is))

  pub only : (r : Result (Listed Named) SparqlFault) → IfOk r (λ list. Names base bytes list.items) → IfErr r (IsSparqlFault base bytes) → HasOnlyNamed base bytes r
  only (Ok found) names fault named h shallow fits = one_named base bytes found.items named names h
  only (Err f) names fault named h shallow fits = only_memory named h shallow fits f fault

  -- What the code returns

  module _ (c : Collected) (k : KeepsText (λ (b : List ℕ) (handed : List ResolvedTriple) (c : Collected). IsCollected handed c) Update base bytes c)
      (sound : HasNoFault base bytes) where
    blank : has_blank k.meanings k.productions ≡ c.has_blank
    blank = blank_is k.meanings k.productions k.handed k.resolved ∙ sym k.is_kept.blank

    pub blank_told : c.has_blank ≡ true → IsSparqlFault base bytes Blank
    blank_told some = (k.productions, k.meanings, k.text, sound, blank ∙ some)

    module _ (none : c.has_blank ≡ false) where
      counted : AreCounted k.handed c
      counted = k.is_kept.named (sym k.is_kept.blank ∙ none)

      names_all : Names base bytes counted.all
      names_all = record {
        productions = k.productions;
        meanings = k.meanings;
        is_update = k.text;
        without_blank = blank ∙ none;
        are_named = namings_are k.meanings k.productions k.handed counted.all k.resolved counted.are_named;
      }

      pub large_told : TRIPLES_LIMIT < c.size → IsSparqlFault base bytes TooLarge
      large_told over = (counted.all, names_all, sound, over_limit c.size (named_size counted.all) counted.counted.size_is over)

      module _ (within : c.size ≤ TRIPLES_LIMIT) where
        small : named_size counted.all ≤ TRIPLES_LIMIT
        small = within_limit c.size (named_size counted.all) counted.counted.size_is within

        pub names_kept : Names base bytes c.named.items
        names_kept = subst (Names base bytes) (sym (counted.counted.kept small)) names_all

        pub size_kept : named_size c.named.items ≤ TRIPLES_LIMIT
        size_kept = subst (λ (ns : List Named). named_size ns ≤ TRIPLES_LIMIT) (sym (counted.counted.kept small)) small
