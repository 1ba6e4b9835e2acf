use Rattle.std.proofs.Common.{◌≡◌, ◌≤◌, ℕ, List, ap, ◌∙◌, subst, sym}
use Rattle.std.proofs.lemmas.Result.{IfOk-weaker}
use Rattle.rdf_graph.specs.Size.{triples_size}
use Rattle.rdf_graph.specs.declared.size.TheConstants.{TRIPLES_LIMIT}
use Rattle.rdf_graph.specs.declared.triple.Triple.{Triple}
use Rattle.jsonld_expanded.specs.Outcomes.{IsDocumentOf}
use Rattle.jsonld_expanded.specs.Document.{document_text}
use Rattle.jsonld_expanded.specs.ReadsBack.{GraphReadsBack}
use Rattle.jsonld_expanded.specs.Written.{IsDocumentText}
use Rattle.jsonld_expanded.proofs.WrittenDocuments.{is_document, text_is}
use Rattle.jsonld_expanded.proofs.document_writing.write.Goals as goal

pub returns-clause-text : goal.returns-clause-text
returns-clause-text c =
    let ts = c.as_slice-triples.result.now in
    IfOk-weaker c.write_triples.result (IsDocumentText ts) (λ bytes. bytes ≡ document_text c.args.graph.now)
    (λ bytes text. text_is ts bytes text ∙ ap document_text c.as_slice-triples.ensures.triples) c.write_triples.ensures

pub returns-clause-reads_back : goal.returns-clause-reads_back
returns-clause-reads_back c =
    let ts = c.as_slice-triples.result.now in
    let g = c.args.graph.now in
    let same : ts ≡ g = c.as_slice-triples.ensures.triples in
    IfOk-weaker c.write_triples.result (IsDocumentText ts) (λ bytes. (base : List ℕ) → GraphReadsBack g → triples_size g ≤ TRIPLES_LIMIT → IsDocumentOf base bytes g)
    (λ bytes text base back small. subst (IsDocumentOf base bytes) same
    (is_document base ts bytes c.as_slice-triples.ensures.graph c.in_ok-len.ensures.absolute text
    (subst GraphReadsBack (sym same) back) (subst (λ (us : List Triple). triples_size us ≤ TRIPLES_LIMIT) (sym same) small))) c.write_triples.ensures
