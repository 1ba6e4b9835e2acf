-- From a walk to what is returned.
use Rattle.std.proofs.Common.{◌≡◌, ◌<◌, ◌≤◌, ◌-◌, ◌^◌, ℕ, List, Result, Ok, Err, min, lit<, arith, subst, OnOk}
use Rattle.std.specs.Prelude.{IfOk}
use Rattle.rdf_graph.specs.Graph.{SameSet}
use Rattle.rdf_graph.specs.Size.{saturated, triples_size}
use Rattle.rdf_graph.specs.declared.triple.Triple.{Triple}
use Rattle.serde_json.specs.Data.{Data}
use Rattle.rdf_graph.specs.declared.size.TheConstants.{TRIPLES_LIMIT}
use Rattle.jsonld_expanded.specs.declared.walk_state.Walk.{Walk}
use Rattle.jsonld_expanded.specs.Outcomes.{IsDocumentOf, IsJson, IsTooLarge}
use Rattle.jsonld_expanded.specs.Walks.{IsWalkOf}

within : (size n limit : ℕ) → limit < 2 ^ 64 - 1 → size ≡ min n (2 ^ 64 - 1) → size ≤ limit → n ≤ limit
within size n limit small is h = omega (arith, is)

over : (size n limit : ℕ) → limit < 2 ^ 64 - 1 → size ≡ min n (2 ^ 64 - 1) → limit < size → limit < n
over size n limit small is h = omega (arith, is)

pub both : {T E : Type 0} (r : Result T E) (Q P : T → Type 0) (R : Type 0) → IfOk r Q → OnOk r R → ((x : T) → Q x → R → P x) → IfOk r P
both (Ok x) Q P R q h f = f x q h
both (Err e) Q P R q h f = tt

module _ (base bytes : List ℕ) (value : Data) (walk : Walk) (json : IsJson bytes value) (walked : IsWalkOf base value walk) where
  pub document_of : (graph : List Triple) → SameSet graph walk.triples.items → walk.size ≤ TRIPLES_LIMIT → IsDocumentOf base bytes graph
  unfolding saturated
  document_of graph same small =
      let few : triples_size walked.triples ≤ TRIPLES_LIMIT = within walk.size (triples_size walked.triples) TRIPLES_LIMIT (lit< tt) walked.size small in
      record {
        value = value;
        json = json;
        expands = record { triples = walked.triples; expands = walked.expands; members = subst (λ (ts : List Triple). SameSet graph ts) (walked.kept few) same };
        within = few;
      }

  pub too_large : TRIPLES_LIMIT < walk.size → IsTooLarge base bytes
  unfolding saturated
  too_large large = record {
    value = value;
    json = json;
    triples = walked.triples;
    expands = walked.expands;
    over = over walk.size (triples_size walked.triples) TRIPLES_LIMIT (lit< tt) walked.size large;
  }
