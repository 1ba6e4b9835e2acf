use Rattle.std.proofs.Common.{◌≡◌, ℕ, Bool, List, true, false, get_or, sym, ◌∙◌, ap, subst}
use Rattle.std.specs.List.{All}
use Rattle.std.proofs.lemmas.List.{take_at}
use Rattle.slug_naming.specs.TakenNotes.{AreTaken}
use Rattle.slug_naming.proofs.NoteLemmas.{none_taken}
use Rattle.slug_naming.proofs.taken_names.taken_first.Goals as goal

-- what is noted is taken
pub returns-clause-taken : goal.returns-clause-taken
returns-clause-taken g c =
    let is_row = g.T.Taken.is_row c.args.taken.now in
    let items = c.in_ok-noted.ensures.items_if_clones_equal (λ y e. e) in
    let whole : c.as_slice-2.result.now ≡ c.note_all.new.noted = c.as_slice-2.ensures.value ∙ take_at c.note_all.new.noted _ c.in_ok-noted.noted.len (c.note_all.ensures.same ∙ c.as_mut_slice.ensures.len) in
    let none : AreTaken is_row c.args.base.now c.as_mut_slice.result.now = subst (λ (xs : List Bool). AreTaken is_row c.args.base.now xs) (sym (c.as_mut_slice.ensures.value ∙ items)) (none_taken is_row c.args.base.now _) in
    let rows : All (λ path. is_row path ≡ true) c.as_slice.result.now = subst (λ (ps : List (List ℕ)). All (λ path. is_row path ≡ true) ps) (sym c.as_slice.ensures) c.in_ok-paths.ensures in
    λ k lt. c.note_all.ensures.taken is_row c.requires rows none k (ap (λ (xs : List Bool). get_or xs k false) (sym whole) ∙ c.noted_first.ensures.noted k lt)
