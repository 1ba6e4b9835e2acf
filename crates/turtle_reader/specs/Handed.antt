-- What is made of productions, one thing of each triple.
use Rattle.std.specs.Prelude.{◌≡◌, List, [], ◌∷◌}
use Rattle.turtle_grammar.specs.declared.production.SymbolicTriple.{SymbolicTriple}
use Rattle.turtle_grammar.specs.declared.production.Production.{Production}
use Rattle.turtle_grammar.specs.declared.production.Production.TheVariants.{Prefix, Base, Triple}
use Rattle.turtle_reader.specs.declared.meaning.Meaning.{Meaning}
use Rattle.turtle_reader.specs.declared.referent.ResolvedTriple.{ResolvedTriple}
use Rattle.turtle_reader.specs.Referents.{IsResolved}

-- These are made of the triples of productions, in their order. Directives make nothing.
abbrev pub AreMadeOf : {T : Type 0} → (SymbolicTriple → T → Type 0) → List Production → List T → Type 0
AreMadeOf IsMade [] made = made ≡ []
AreMadeOf IsMade (Prefix name iri ∷ productions) made = AreMadeOf IsMade productions made
AreMadeOf IsMade (Base iri ∷ productions) made = AreMadeOf IsMade productions made
AreMadeOf {T} IsMade (Triple symbolic ∷ productions) made =
    (first : T) × (rest : List T) × (made ≡ first ∷ rest)
    × IsMade symbolic first × AreMadeOf IsMade productions rest

-- What the nodes of these triples refer to, where these are the meanings of the lexemes.
abbrev pub AreResolved : List Meaning → List Production → List ResolvedTriple → Type 0
AreResolved meanings productions resolved = AreMadeOf (IsResolved meanings) productions resolved

-- Each of the second list is made of one of the first, in their order.
abbrev pub AreEach : {S T : Type 0} → (S → T → Type 0) → List S → List T → Type 0
AreEach IsOf [] made = made ≡ []
AreEach {S} {T} IsOf (one ∷ more) made =
    (first : T) × (rest : List T) × (made ≡ first ∷ rest) × IsOf one first × AreEach IsOf more rest
