use Rattle.std.specs.Str.{is_utf8}
use Rattle.stored_forms.specs.Readers.{piece_at}
use Rattle.stored_forms.specs.Reading.{text_at}
use Rattle.stored_forms.proofs.Deciders.{utf8_decides, checked_passes, checked_fails}
use Rattle.stored_forms.proofs.primitive_reading.str_of.Goals as goal

pub returns-in-Ok : goal.returns-in-Ok
unfolding text_at
returns-in-Ok c =
    let piece = c.in_ok-piece.piece.now in
    checked_passes is_utf8 piece_at c.args.bytes.now piece c.in-Ok.text.now c.in_ok-piece.rest.now c.in_ok-piece.ensures (utf8_decides piece) c.in-Ok.ensures.cases.1 c.in-Ok.ensures.cases.0

pub returns-in-Err : goal.returns-in-Err
unfolding text_at
returns-in-Err c =
    let piece = c.in_ok-piece.piece.now in
    checked_fails is_utf8 piece_at c.args.bytes.now piece c.in_ok-piece.rest.now c.in_ok-piece.ensures (utf8_decides piece) c.in-Err.ensures.cases.0
