use Rattle.std.proofs.Common.{sym, subst}
use Rattle.std.proofs.lemmas.Result.{on_ok_weaker}
use Rattle.turtle_text.specs.Triples.{IsReferentTriple}
use Rattle.turtle_text.proofs.document_triples.TriplesLanguage.keep.Goals as goal

pub returns-clause-kept : goal.returns-clause-kept
returns-clause-kept c =
    let is = subst (IsReferentTriple c.args.bytes.now c.args.triple) (sym c.in_ok-triple.ensures.same) c.in_ok-made.ensures.triple in
    on_ok_weaker c.push.result
    (λ keeps handed h. keeps c.args.bytes.now handed c.args.triple (record { are_triples = h.are_triples; size_is = h.size_is; rdf = h.rdf }) is)
    c.push.ensures.kept
