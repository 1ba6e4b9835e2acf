use Rattle.stored_forms.specs.Reading.{is_path}
use Rattle.stored_forms.proofs.Deciders.{path_decides, passes, fails}
use Rattle.stored_forms.proofs.primitive_reading.stored_path.Goals as goal

pub returns-in-Some : goal.returns-in-Some
returns-in-Some c =
    passes (is_path c.args.text.now) c.args.text.now c.in-Some.path (path_decides c.args.text.now) (rw c.in-Some.is at c.in_ok-path.ensures.path) (rw c.in-Some.is at c.in_ok-path.ensures.some)

pub returns-in-None : goal.returns-in-None
returns-in-None c = fails (is_path c.args.text.now) c.args.text.now (path_decides c.args.text.now) (rw c.in-None.is at c.in_ok-path.ensures.none)
