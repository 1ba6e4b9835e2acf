use Rattle.request_body.proofs.Fits.{puts_graph, posts_graph, has_content_type}
use Rattle.request_body.proofs.laws.content_fits.Goals as goal

pub returns-clause-put : goal.returns-clause-put
returns-clause-put c = puts_graph

pub returns-clause-posted : goal.returns-clause-posted
returns-clause-posted c = posts_graph

pub returns-clause-ctype : goal.returns-clause-ctype
returns-clause-ctype c = has_content_type
