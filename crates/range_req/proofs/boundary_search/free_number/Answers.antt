use Rattle.std.proofs.Common.{◌≡◌, ◌+◌, Some, false, not, length, get_or, replicate, refl, sym, ◌∙◌, ap, arith}
use Rattle.std.specs.List.{position}
use Rattle.std.proofs.lemmas.List.{take_at}
use Rattle.std.proofs.lemmas.List.Quantifiers.{position-Some}
use Rattle.range_req.proofs.BodyLemmas.{first_free, first_is, free_is, one_is_free, all_false}
use Rattle.range_req.proofs.boundary_search.free_number.Goals as goal

pub returns-then-not-occurs : goal.returns-then-not-occurs
returns-then-not-occurs c =
    let first = first_free c.args.body.now _ refl (c.occurs.ensures.no c.if-not-occurs.true) in
    record { first = first; number = free_is c.args.body.now 0 (omega arith) first }

-- there are more notes than numbers
pub unreachable-requires : goal.unreachable-requires
unreachable-requires c =
    let items : c.in_ok-noted.noted.items ≡ replicate (length c.args.body.now + 1) false = c.in_ok-noted.ensures.items_if_clones_equal (λ y e. e) in
    let whole : c.as_slice.result.now ≡ c.note_body.new.noted = c.as_slice.ensures.value ∙ take_at c.note_body.new.noted _ c.in_ok-noted.noted.len (c.note_body.ensures.same ∙ c.as_mut_slice.ensures.len) in
    one_is_free c.args.body.now c.as_mut_slice.result.now c.note_body.new.noted (omega (arith, c.as_mut_slice.ensures.len, c.in_ok-noted.ensures.len))
    (λ k. ap (λ xs. get_or xs k false) (c.as_mut_slice.ensures.value ∙ items) ∙ all_false (length c.args.body.now + 1) k) c.note_body.ensures
    (sym (c.first_not_noted.ensures ∙ ap (λ xs. position (λ b. not b) xs) whole) ∙ c.in-None.is)

-- the first without a note
pub returns : goal.returns
returns c =
    let items : c.in_ok-noted.noted.items ≡ replicate (length c.args.body.now + 1) false = c.in_ok-noted.ensures.items_if_clones_equal (λ y e. e) in
    let whole : c.as_slice.result.now ≡ c.note_body.new.noted = c.as_slice.ensures.value ∙ take_at c.note_body.new.noted _ c.in_ok-noted.noted.len (c.note_body.ensures.same ∙ c.as_mut_slice.ensures.len) in
    let at : position (λ b. not b) c.note_body.new.noted ≡ Some c.in-Some.number = sym (c.first_not_noted.ensures ∙ ap (λ xs. position (λ b. not b) xs) whole) ∙ c.in-Some.is in
    let first = first_is c.args.body.now c.as_mut_slice.result.now c.note_body.new.noted c.in-Some.number (omega (arith, c.as_mut_slice.ensures.len, c.in_ok-noted.ensures.len, c.type_inv.body))
    (λ k. ap (λ xs. get_or xs k false) (c.as_mut_slice.ensures.value ∙ items) ∙ all_false (length c.args.body.now + 1) k) c.note_body.ensures at in
    let within = (position-Some (λ b. not b) c.note_body.new.noted c.in-Some.number false at).0 in
    record {
      first = first;
      number = free_is c.args.body.now c.in-Some.number (omega (arith, within, c.note_body.ensures.same, c.as_mut_slice.ensures.len, c.in_ok-noted.ensures.len)) first;
    }
