-- A document of Turtle has one outcome.
use Rattle.std.proofs.Common.{◌≡◌, ◌⊎◌, ℕ, List, refl, sym, ap, ◌∙◌, inl, inr, Ok, Err}
use Rattle.rdf_graph.specs.declared.triple.Triple.{Triple}
use Rattle.pod_command.specs.declared.row.Content.TheVariants.{Graph}
use Rattle.turtle_grammar.specs.declared.symbol.Start.TheVariants as start_of
use Rattle.turtle_terms.specs.declared.fault.TurtleFault.{TurtleFault}
use Rattle.turtle_terms.specs.declared.fault.TurtleFault.TheVariants.{Bad, TooLarge, NoMemory}
use Rattle.turtle_reader.proofs.OneFault.{one_first_fault}
use Rattle.turtle_text.specs.Spells.{Spells}
use Rattle.turtle_text.specs.Faults.{IsLarge, HasNoFault, IsFirstFault}
use Rattle.turtle_text.proofs.Spelling.{one_graph}
use Rattle.request_body.specs.declared.body.RequestBody.TheVariants.{Content}
use Rattle.request_body.specs.declared.fault.BodyFault.TheVariants.{Syntax, GraphSize}
use Rattle.request_body.specs.Bodies.{Outcome, IsTurtleBody}
use Rattle.request_body.specs.Laws.{SameOutcome}
use Rattle.request_body.proofs.Same.{same}

abbrev told : TurtleFault → Outcome
told (Bad at kind) = Err (Syntax at)
told (TooLarge at) = Err GraphSize
told NoMemory = Err GraphSize

abbrev graph : List Triple → Outcome
graph g = Ok (Content (Graph g))

module _ (base bytes : List ℕ) where
  abbrev End : Outcome → Type 0
  End o = ((g : List Triple) × (o ≡ graph g) × Spells base bytes g × HasNoFault base bytes)
      ⊎ ((f : TurtleFault) × (o ≡ told f) × IsFirstFault base bytes f)

  ends : (o : Outcome) → IsTurtleBody base bytes o → End o
  ends (Ok (Content (Graph g))) (spells, sound) = inl (g, refl, spells, sound)
  ends (Err (Syntax at)) (kind, first) = inr (Bad at kind, refl, first)
  ends (Err GraphSize) (at, first) = inr (TooLarge at, refl, first)
  ends _ h = absurd h

  one : (a b : Outcome) → End a → End b → a ≡ b
  one a b (inl (g, e, spells, sound)) (inl (h, f, spells', sound')) = e ∙ ap graph (one_graph base bytes g h spells spells') ∙ sym f
  one a b (inl (g, e, spells, sound)) (inr (f, k, first)) = absurd (sound first.index f first.has)
  one a b (inr (f, k, first)) (inl (g, e, spells, sound)) = absurd (sound first.index f first.has)
  one a b (inr (f, e, first)) (inr (g, k, first')) = e ∙ ap told (one_first_fault (IsLarge base bytes) start_of.Document base bytes f g first first') ∙ sym k

pub one_turtle : (base bytes : List ℕ) (a b : Outcome) → IsTurtleBody base bytes a → IsTurtleBody base bytes b → SameOutcome a b
one_turtle base bytes a b h k = same a b (one base bytes a b (ends base bytes a h) (ends base bytes b k))
