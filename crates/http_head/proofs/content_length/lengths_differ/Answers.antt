use Rattle.std.proofs.Common.{ℕ, ◌∙◌, List, Bool, not, codes, sym, ap}
use Rattle.std.specs.List.{list_all}
use Rattle.std.specs.Str.{bytes_eq}
use Rattle.pod_base.specs.Fields.{is_named}
use Rattle.pod_base.specs.declared.field.Field.{Field}
use Rattle.http_head.specs.Decimals.{significant}
use Rattle.http_head.specs.BodyFraming.{lengths}
use Rattle.http_head.proofs.BodyFramingLemmas.{first_found, none_found, differ_some, differ_none}
use Rattle.http_head.proofs.content_length.lengths_differ.Goals as goal

pub returns-in-Some : goal.returns-in-Some
returns-in-Some c = λ numbers.
    let fields : List Field = c.args.fields.now in
    let first : List ℕ = c.in-Some.first.now in
    let are_all_equal_to : List ℕ → Bool = λ v. list_all (λ (f : Field). bytes_eq (significant f.value) (significant v)) (lengths fields) in
    ap not (c.are_all_equal_to.ensures ∙ ap are_all_equal_to c.as_slice.ensures)
    ∙ differ_some fields first (first_found (is_named (codes "content-length")) fields first (sym c.in-Some.ensures)) numbers

pub returns-in-None : goal.returns-in-None
returns-in-None c = λ numbers. differ_none c.args.fields.now (none_found (is_named (codes "content-length")) c.args.fields.now (sym c.in-None.ensures))
