use Rattle.std.proofs.Common.{take, refl}
use Rattle.journal_log.proofs.Classifying.{is_closed, is_open, is_torn, is_wrong}
use Rattle.journal_log.proofs.disk_class.class_of.Goals as goal

pub returns-then-bytes-eq0 : goal.returns-then-bytes-eq0
returns-then-bytes-eq0 c = λ image is.
    let head = c.in-Some.head in
    is_closed c.args.bytes.now image c.requires is head.format head.epoch (take 16 c.args.bytes.now) c.in-Some.ensures.found.0 c.in-Some.ensures.known refl c.in-Some.ensures.found.1 c.if-bytes-eq0.true

pub returns-else-bytes-eq0 : goal.returns-else-bytes-eq0
returns-else-bytes-eq0 c = λ image is.
    let head = c.in-Some.head in
    is_open c.args.bytes.now image c.requires is head.format head.epoch (take 16 c.args.bytes.now) c.in-Some.ensures.found.0 c.in-Some.ensures.known refl c.in-Some.ensures.found.1 c.if-bytes-eq0.false

pub returns-then-bytes-eq0-2 : goal.returns-then-bytes-eq0-2
returns-then-bytes-eq0-2 c = λ image is. is_torn c.args.bytes.now image c.requires is (take 16 c.args.bytes.now) refl c.in-None.ensures.none c.if-bytes-eq0-2.true

pub returns-else-bytes-eq0-2 : goal.returns-else-bytes-eq0-2
returns-else-bytes-eq0-2 c = λ image is. is_wrong c.args.bytes.now image c.requires is (take 16 c.args.bytes.now) refl c.in-None.ensures.none c.if-bytes-eq0-2.false
