use Rattle.sparql_patch.proofs.OneAnswer.{blank_told, large_told, names_kept, size_kept}
use Rattle.sparql_patch.proofs.reading.read_named.Goals as goal

pub returns-then-collected-clause-fault : goal.returns-then-collected-clause-fault
returns-then-collected-clause-fault c =
    blank_told c.args.base.now c.args.bytes.now c.walk.new.kept c.in-Ok.ensures.text c.in-Ok.ensures.no_fault c.if-collected.true

pub returns-then-collected-gt-TRIPLES_LIMIT-clause-fault : goal.returns-then-collected-gt-TRIPLES_LIMIT-clause-fault
returns-then-collected-gt-TRIPLES_LIMIT-clause-fault c =
    large_told c.args.base.now c.args.bytes.now c.walk.new.kept c.in-Ok.ensures.text c.in-Ok.ensures.no_fault c.if-collected.false
    c.if-collected-gt-TRIPLES_LIMIT.true

pub returns-else-collected-gt-TRIPLES_LIMIT-clause-names : goal.returns-else-collected-gt-TRIPLES_LIMIT-clause-names
returns-else-collected-gt-TRIPLES_LIMIT-clause-names c =
    names_kept c.args.base.now c.args.bytes.now c.walk.new.kept c.in-Ok.ensures.text c.in-Ok.ensures.no_fault c.if-collected.false
    c.if-collected-gt-TRIPLES_LIMIT.false

pub returns-else-collected-gt-TRIPLES_LIMIT-clause-fits : goal.returns-else-collected-gt-TRIPLES_LIMIT-clause-fits
returns-else-collected-gt-TRIPLES_LIMIT-clause-fits c =
    size_kept c.args.base.now c.args.bytes.now c.walk.new.kept c.in-Ok.ensures.text c.in-Ok.ensures.no_fault c.if-collected.false
    c.if-collected-gt-TRIPLES_LIMIT.false
