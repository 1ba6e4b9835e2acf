use Rattle.std.proofs.Common.{◌++◌, ◌∷◌, [], codes}
use Rattle.pod_responses.specs.Links.{field}
use Rattle.pod_responses.specs.Responses.{validators}
use Rattle.pod_responses.proofs.Appending.{then}
use Rattle.pod_responses.proofs.read_responses.add_validators.Goals as goal

pub returns : goal.returns
unfolding validators
returns c = rw (← c.in_ok-value.ensures, ← c.date_of.ensures) (then c.add_text.result c.args.fields.now c.add.new.fields c.add_text.new.fields (field (codes "ETag") c.in_ok-value.value ∷ []) (field (codes "Last-Modified") c.date_of.result ∷ [])
    c.in_ok-add.ensures (c.add_text.ensures))
