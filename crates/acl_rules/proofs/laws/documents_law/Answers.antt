use Rattle.std.proofs.Common.{◌∙◌, ap, sym}
use Rattle.acl_rules.specs.Documents.{resource_of}
use Rattle.acl_rules.proofs.IriPaths.{document_uri, uri_document, resource_uri, uri_resource, resource_is, uri_is}
use Rattle.acl_rules.proofs.laws.documents_law.Goals as goal

pub returns : goal.returns
returns c = record {
  documents = λ base iri path. (document_uri base iri path, uri_document base iri path);
  resources = λ base iri path. (resource_uri base iri path, uri_resource base iri path);
  uris = λ base iri path own. (resource_is base iri path, λ same. ap (resource_of base) same ∙ uri_is base path own);
}
