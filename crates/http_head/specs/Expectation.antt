-- Whether a client waits for `100 Continue` (RFC 9110, section 10.1.1).
use Rattle.std.specs.Prelude.{ℕ, Bool, true, false, ◌&&◌, ◌==◌, nat_lt, List, codes}
use Rattle.std.specs.List.{list_any}
use Rattle.std.specs.Str.{str_eq_ignore_ascii_case}
use Rattle.pod_base.specs.declared.field.Field.{Field}
use Rattle.http_head.specs.Fields.{fields_named}
use Rattle.http_head.specs.declared.body_form.BodyForm.{BodyForm}
use Rattle.http_head.specs.declared.body_form.BodyForm.TheVariants.{Empty, Length, Chunked}

-- whether a body of that form may have bytes
abbrev pub may_have_content : BodyForm → Bool
may_have_content Empty = false
may_have_content (Length n) = nat_lt 0 n
may_have_content Chunked = true

-- The client waits before it sends the body: the value of some Expect field is `100-continue`, in
-- any case. A client of a version before 1.1 can't wait, and neither can one that sends no body.
abbrev pub expects_continue : ℕ → List Field → BodyForm → Bool
expects_continue minor fields form =
    (minor == 1 && may_have_content form)
    && list_any (λ f. str_eq_ignore_ascii_case f.value (codes "100-continue"))
    (fields_named (codes "expect") fields)
