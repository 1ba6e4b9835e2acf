-- The size of an entry, and the reply that has it.
use Rattle.std.proofs.Common.{◌≡◌, Bool, true, false, cond, Some, Ok, Err, refl, ap, ◌∙◌}
use Rattle.pod_base.specs.declared.response.Response.{Response}
use Rattle.pod_command.specs.Bare.{bare_entry}
use Rattle.stored_forms.specs.StoredForms.{entry_bytes, origin_bytes, request_bytes}
use Rattle.pod_command.specs.declared.entry.Entry.{Entry}
use Rattle.pod_reply.specs.EntrySize.{is_too_large, size_refusal}
use Rattle.pod_reply.specs.Replies.{Reply, changed_by, change_reply, unchanged}

abbrev told : Response → Entry → Bool → Reply
told response e large = cond large (unchanged size_refusal) (record { response = response; entry = Some e })

told_by : (response : Response) (e : Entry) (large : Bool)
    → told response e large ≡ changed_by response (cond large (Err size_refusal) (Ok e))
told_by response e true = refl
told_by response e false = refl

-- the spare room of lists isn't stored
pub bounded : (response : Response) (e d : Entry) (large : Bool) → large ≡ is_too_large e → bare_entry e ≡ d
    → told response (bare_entry e) large ≡ change_reply response d
unfolding entry_bytes origin_bytes request_bytes
bounded response e d large is h =
    ap (told response (bare_entry e)) is ∙ told_by response (bare_entry e) (is_too_large e) ∙ ap (change_reply response) h
