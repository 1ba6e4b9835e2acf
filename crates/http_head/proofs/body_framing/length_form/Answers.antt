use Rattle.std.proofs.Common.{ℕ, ◌∙◌, nat_le, List, Option, Some, None, codes, sym, ap, if◌then◌else◌}
use Rattle.pod_base.specs.Fields.{is_named}
use Rattle.http_head.specs.Decimals.{number_of}
use Rattle.http_head.proofs.BodyFramingLemmas.{first_found, none_found, form_none, form_some, form_past}
use Rattle.http_head.proofs.body_framing.length_form.Goals as goal

pub returns-in-None : goal.returns-in-None
returns-in-None c = form_none c.args.fields.now (none_found (is_named (codes "content-length")) c.args.fields.now (sym c.in-None.ensures))

pub returns-in-Some-body_length : goal.returns-in-Some-body_length
returns-in-Some-body_length c =
    let first_length : List ℕ = c.in-Some.first.now in
    let within : List ℕ → Option ℕ = λ v. if nat_le (number_of v) 8_388_608 then Some (number_of v) else None in
    form_some c.args.fields.now first_length c.in-Some-body_length.length (first_found (is_named (codes "content-length")) c.args.fields.now first_length (sym c.in-Some.ensures))
    (c.in-Some-body_length.ensures ∙ ap within c.as_slice.ensures)

pub returns-in-None-body_length : goal.returns-in-None-body_length
returns-in-None-body_length c =
    let first_length : List ℕ = c.in-Some.first.now in
    let within : List ℕ → Option ℕ = λ v. if nat_le (number_of v) 8_388_608 then Some (number_of v) else None in
    form_past c.args.fields.now first_length (first_found (is_named (codes "content-length")) c.args.fields.now first_length (sym c.in-Some.ensures))
    (c.in-None-body_length.ensures ∙ ap within c.as_slice.ensures)
