-- Entries are stored in a bounded form.
use Rattle.std.specs.Prelude.{Bool, nat_lt, if◌then◌else◌, length, Result, Ok, Err, codes}
use Rattle.pod_base.specs.declared.response.Response.{Response}
use Rattle.stored_forms.specs.StoredForms.{entry_bytes}
use Rattle.pod_command.specs.declared.entry.Entry.{Entry}
use Rattle.pod_responses.specs.Responses.{refusal}
use Rattle.pod_reply.specs.declared.entry_size.TheConstants.{ENTRY_BYTES_LIMIT}

-- Is the stored form of the entry, its bases counted, longer than the limit?
abbrev pub is_too_large : Entry → Bool
is_too_large entry = nat_lt ENTRY_BYTES_LIMIT (length (entry_bytes entry))

abbrev pub size_refusal : Response
size_refusal = refusal 413 (codes "entry-size")

-- the entry, or its refusal
abbrev pub sized : Entry → Result Entry Response
sized entry = if is_too_large entry then Err size_refusal else Ok entry
