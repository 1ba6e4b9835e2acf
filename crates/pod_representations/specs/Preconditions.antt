-- The verdict on the preconditions of a request at a row (RFC 9110, section 13.1). GET and HEAD
-- compare with the tag of the representation that they are answered with, other methods with
-- those of all.
use Rattle.std.specs.Prelude.{List, [], ◌∷◌, Option, Some, map}
use Rattle.std.specs.Option.{option_map}
use Rattle.conditional_req.specs.Verdicts.{Validators, validators, verdict}
use Rattle.conditional_req.specs.declared.precondition_verdict.Verdict.{Verdict}
use Rattle.conditional_req.specs.declared.tag.Tag.{Tag}
use Rattle.pod_base.specs.declared.field.Field.{Field}
use Rattle.pod_base.specs.declared.method.Method.{Method}
use Rattle.pod_command.specs.declared.row.Row.{Row}
use Rattle.pod_rows.specs.Pod.{Pod}
use Rattle.pod_representations.specs.Offers.{offers}
use Rattle.pod_representations.specs.Representations.{represented}
use Rattle.pod_representations.specs.declared.representation.Shown.{Shown}

-- what a GET or HEAD compares with
abbrev pub read_validators : Shown → Validators
read_validators shown = validators (shown.tag ∷ []) shown.modified.0

-- The verdict on a GET or HEAD that this representation was chosen for.
unfoldable pub read_verdict : List Field → Method → Shown → Verdict
read_verdict fields method shown = verdict fields method (Some (read_validators shown))

-- the tags of all representations that a row is offered in
abbrev pub offered_tags : Pod → Row → List Tag
offered_tags pod row = map (λ media. (represented pod row media).tag) (offers row)

-- what every other request compares with
abbrev pub offered_validators : Pod → Row → Validators
offered_validators pod row = validators (offered_tags pod row) row.modified.0

-- The verdict on another request, at a path with this row or with none.
unfoldable pub change_verdict : Pod → Option Row → List Field → Method → Verdict
change_verdict pod row fields method =
    verdict fields method (option_map (offered_validators pod) row)
