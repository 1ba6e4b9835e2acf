-- A document of JSON-LD has one outcome.
use Rattle.std.proofs.Common.{◌≡◌, ◌⊎◌, ℕ, List, refl, sym, ap, ◌∙◌, subst, inl, inr, Ok, Err, Some, arith}
use Rattle.rdf_graph.specs.declared.triple.Triple.{Triple}
use Rattle.rdf_graph.specs.Graph.{IsGraph}
use Rattle.rdf_graph.specs.Size.{triples_size}
use Rattle.serde_json.specs.Data.{Data}
use Rattle.pod_command.specs.declared.row.Content.TheVariants.{Graph}
use Rattle.jsonld_expanded.specs.Expands.{Expands, ExpandsTo}
use Rattle.jsonld_expanded.specs.Outcomes.{IsJson, IsDocumentOf, IsNotJson, IsOutOfProfile, IsTooLarge}
use Rattle.jsonld_expanded.proofs.Graphs.{expands_once, walks_once}
use Rattle.request_body.specs.declared.body.RequestBody.TheVariants.{Content}
use Rattle.request_body.specs.declared.fault.BodyFault.TheVariants.{Json, GraphSize}
use Rattle.request_body.specs.Bodies.{Outcome, IsJsonLdBody}
use Rattle.request_body.specs.Laws.{SameOutcome}
use Rattle.request_body.proofs.Same.{same}

abbrev graph : List Triple → Outcome
graph g = Ok (Content (Graph g))

one_value : (bytes : List ℕ) (d e : Data) → IsJson bytes d → IsJson bytes e → d ≡ e
one_value bytes d e h k = let both : Some d ≡ Some e = sym h.reads ∙ k.reads in cc

module _ (base bytes : List ℕ) where
  abbrev IsGraphOf : List Triple → Type 0
  IsGraphOf g = IsDocumentOf base bytes g × IsGraph g

  abbrev IsBad : Type 0
  IsBad = IsNotJson bytes ⊎ IsOutOfProfile base bytes

  abbrev End : Outcome → Type 0
  End o = ((g : List Triple) × (o ≡ graph g) × IsGraphOf g)
      ⊎ (((o ≡ Err Json) × IsBad) ⊎ ((o ≡ Err GraphSize) × IsTooLarge base bytes))

  ends : (o : Outcome) → IsJsonLdBody base bytes o → End o
  ends (Ok (Content (Graph g))) h = inl (g, refl, h)
  ends (Err Json) h = inr (inl (refl, h))
  ends (Err GraphSize) h = inr (inr (refl, h))
  ends _ h = absurd h

  one_graph : (g h : List Triple) → IsGraphOf g → IsGraphOf h → g ≡ h
  one_graph g h (doc, is) (other, is') =
      let value : doc.value ≡ other.value = one_value bytes doc.value other.value doc.json other.json in
      expands_once base other.value g h is is' (subst (λ (d : Data). Expands base d g) value doc.expands) other.expands

  -- a value that has triples is no fault of the profile
  not_bad : (d : Data) (ts : List Triple) → IsJson bytes d → ExpandsTo base d ts → IsBad → ⊥
  not_bad d ts json expands (inl none) = none d json
  not_bad d ts json expands (inr out) =
      let value : d ≡ out.value = one_value bytes d out.value json out.json in
      out.no_graph ts (record {
        triples = ts;
        expands = subst (λ (z : Data). ExpandsTo base z ts) value expands;
        members = λ x. (λ c. c, λ c. c);
      })

  not_large : (g : List Triple) → IsDocumentOf base bytes g → IsTooLarge base bytes → ⊥
  not_large g doc large =
      let value : doc.value ≡ large.value = one_value bytes doc.value large.value doc.json large.json in
      let moved : ExpandsTo base large.value doc.expands.triples = subst (λ (z : Data). ExpandsTo base z doc.expands.triples) value doc.expands.expands in
      let triples : doc.expands.triples ≡ large.triples = walks_once base large.value doc.expands.triples large.triples moved large.expands in
      let size : triples_size doc.expands.triples ≡ triples_size large.triples = ap triples_size triples in
      let within = doc.within in let over = large.over in
      omega (arith, size, within, over)

  one : (a b : Outcome) → End a → End b → a ≡ b
  one a b (inl (g, e, is)) (inl (h, f, is')) = e ∙ ap graph (one_graph g h is is') ∙ sym f
  one a b (inl (g, e, is)) (inr (inl (f, bad))) = absurd (not_bad is.0.value is.0.expands.triples is.0.json is.0.expands.expands bad)
  one a b (inl (g, e, is)) (inr (inr (f, large))) = absurd (not_large g is.0 large)
  one a b (inr (inl (e, bad))) (inl (h, f, is)) = absurd (not_bad is.0.value is.0.expands.triples is.0.json is.0.expands.expands bad)
  one a b (inr (inl (e, bad))) (inr (inl (f, bad'))) = e ∙ sym f
  one a b (inr (inl (e, bad))) (inr (inr (f, large))) = absurd (not_bad large.value large.triples large.json large.expands bad)
  one a b (inr (inr (e, large))) (inl (h, f, is)) = absurd (not_large h is.0 large)
  one a b (inr (inr (e, large))) (inr (inl (f, bad))) = absurd (not_bad large.value large.triples large.json large.expands bad)
  one a b (inr (inr (e, large))) (inr (inr (f, large'))) = e ∙ sym f

pub one_json_ld : (base bytes : List ℕ) (a b : Outcome) → IsJsonLdBody base bytes a → IsJsonLdBody base bytes b → SameOutcome a b
one_json_ld base bytes a b h k = same a b (one base bytes a b (ends base bytes a h) (ends base bytes b k))
