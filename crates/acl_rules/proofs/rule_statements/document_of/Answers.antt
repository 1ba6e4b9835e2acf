use Rattle.acl_rules.proofs.IriPaths.{documented}
use Rattle.acl_rules.proofs.rule_statements.document_of.Goals as goal

pub returns : goal.returns
returns c = documented c.args.base.now c.args.iri.now c.of_uri.result c.of_uri.ensures.some c.of_uri.ensures.none
