use Rattle.std.proofs.Common.{arith, ap, ◌∙◌}
use Rattle.std.proofs.lemmas.List.{take_all}
use Rattle.std.specs.List.{flat_map}
use Rattle.rdf_graph.specs.declared.triple.Triple.{Triple}
use Rattle.jsonld_expanded.specs.Document.{object_of}
use Rattle.jsonld_expanded.specs.Written.{tokens_of}
use Rattle.jsonld_expanded.proofs.Adding.{adds_same, objects_by_ref}
use Rattle.jsonld_expanded.proofs.node_writing.put_objects.Goals as goal
use denote.Ref.{Bor}

pub returns : goal.returns
returns c =
    let l = c.loop-triple in
    let xs = c.args.triples.now in
    adds_same c.args.writer.now l.writer _ _ (ap (flat_map (λ (r : Bor Triple). tokens_of (object_of r.now))) (take_all l.triple-index xs (omega arith)) ∙ objects_by_ref xs) l.invariant
