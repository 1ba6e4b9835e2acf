use Rattle.std.proofs.Common.{ℕ, List, refl, sym, subst}
use Rattle.std.specs.declared.cmp.Ordering.TheVariants.{Greater, Less}
use Rattle.rdf_graph.specs.LineOrder.{DecidesOrder}
use Rattle.rdf_graph.specs.Term.{text}
use Rattle.rdf_graph.specs.declared.term.Term.TheVariants.{Iri, Blank, Literal, Tagged}
use Rattle.rdf_graph.proofs.LineOrders.{decides_first, decides_iris}
use Rattle.rdf_graph.proofs.iri_lookup.cmp_iri.Goals as goal

after_iri : (label iri : List ℕ) → DecidesOrder 32 (text (Blank label)) (text (Iri iri)) Greater
unfolding text
after_iri label iri = decides_first 32 _ _ Greater refl (λ e. absurd cc)

literal_before : (lexical datatype iri : List ℕ) → DecidesOrder 32 (text (Literal lexical datatype)) (text (Iri iri)) Less
unfolding text
literal_before lexical datatype iri = decides_first 32 _ _ Less refl (λ e. absurd cc)

tagged_before : (lexical lang iri : List ℕ) → DecidesOrder 32 (text (Tagged lexical lang)) (text (Iri iri)) Less
unfolding text
tagged_before lexical lang iri = decides_first 32 _ _ Less refl (λ e. absurd cc)

pub returns-in-Iri : goal.returns-in-Iri
returns-in-Iri c =
    decides_iris c.args.term.now (Iri c.args.iri.now) c.as_bytes.result.now c.as_bytes-in-Iri.result.now c.cmp_marked.result (cc) (cc) c.cmp_marked.ensures

pub returns-in-Blank : goal.returns-in-Blank
returns-in-Blank c = subst (λ t. DecidesOrder 32 (text t) (text (Iri c.args.iri.now)) Greater) (sym c.in-Blank.is) (after_iri _ c.args.iri.now)

pub returns-in-Literal : goal.returns-in-Literal
returns-in-Literal c = subst (λ t. DecidesOrder 32 (text t) (text (Iri c.args.iri.now)) Less) (sym c.in-Literal.is) (literal_before _ _ c.args.iri.now)

pub returns-in-Tagged : goal.returns-in-Tagged
returns-in-Tagged c = subst (λ t. DecidesOrder 32 (text t) (text (Iri c.args.iri.now)) Less) (sym c.in-Tagged.is) (tagged_before _ _ c.args.iri.now)
