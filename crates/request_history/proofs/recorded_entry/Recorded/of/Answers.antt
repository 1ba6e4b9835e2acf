use Rattle.std.proofs.Common.{◌∙◌, ap, subst, sym}
use Rattle.pod_command.specs.Bare.{bare_entry}
use Rattle.stored_forms.specs.Storable.{IsStorable}
use Rattle.stored_forms.specs.StoredForms.{entry_bytes}
use Rattle.request_history.proofs.Replies.{bare_bytes, bare_storable}
use Rattle.request_history.proofs.recorded_entry.Recorded.of.Goals as goal

pub invariant_of-result : goal.invariant_of-result
invariant_of-result c =
    let kept = c.in_ok-entry.ensures in
    (c.in_ok-body.ensures.form ∙ sym (bare_bytes c.args.entry.now) ∙ ap entry_bytes (sym kept), ap bare_entry kept ∙ sym kept)

pub returns-clause-storable : goal.returns-clause-storable
returns-clause-storable c = subst IsStorable (sym c.in_ok-entry.ensures) (bare_storable c.args.entry.now c.in_ok-body.ensures.storable)
