use Rattle.std.proofs.Common.{ap, sym, map, ℕ, List, [], ◌∷◌, ◌++◌, ◌∙◌}
use Rattle.rdf_graph.specs.declared.triple.Triple.{Triple}
use Rattle.json.specs.Token as token
use Rattle.json.specs.Token.{Token}
use Rattle.jsonld_expanded.specs.Written.{object_tokens}
use Rattle.jsonld_expanded.proofs.Adding.{adds_both, adds_same, on_ok, property_by_ref}
use Rattle.jsonld_expanded.proofs.node_writing.put_property.Goals as goal
use denote.Ref.{Bor}

pub returns : goal.returns
returns c =
    let a = c.args.writer.now in
    let xs = c.args.triples.now in
    let r = c.index-triples-0.result in
    let first = adds_both a c.put_key.new.writer c.begin_array.new.writer _ _ c.in_ok-put_key.ensures c.in_ok-begin_array.ensures in
    let objects = c.in_ok-put_objects.ensures in
    on_ok c.end_array.result _ _ (λ last. adds_same a c.end_array.new.writer _ _
    (ap (λ (k : List ℕ). token.key k ∷ token.begin_array ∷ (object_tokens (map (λ (q : Bor Triple). q.now) xs) ++ token.end_array ∷ [])) c.key_of.ensures
    ∙ sym (property_by_ref xs r c.requires c.index-triples-0.is))
    (adds_both a c.begin_array.new.writer c.end_array.new.writer _ _ first (adds_both c.begin_array.new.writer c.put_objects.new.writer c.end_array.new.writer _ _ objects last))) c.end_array.ensures
