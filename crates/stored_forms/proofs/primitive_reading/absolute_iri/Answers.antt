use Rattle.std.proofs.Common.{Err, ap}
use Rattle.stored_forms.specs.Reading.{is_absolute}
use Rattle.stored_forms.proofs.Deciders.{absolute_decides, passes, fails}
use Rattle.stored_forms.proofs.primitive_reading.absolute_iri.Goals as goal

pub returns-in-Ok : goal.returns-in-Ok
returns-in-Ok c = passes (is_absolute c.args.text.now) c.args.text.now c.in-Ok.iri (absolute_decides c.args.text.now) c.in-Ok.ensures.absolute c.in-Ok.ensures.text

pub returns-in-Err-BadReference : goal.returns-in-Err-BadReference
returns-in-Err-BadReference c =
    fails (is_absolute c.args.text.now) c.args.text.now (absolute_decides c.args.text.now) (c.in-Err-BadReference.ensures.bad_reference.0 (ap (λ f. Err f) c.in-Err-BadReference.field-0-is))
