use Rattle.std.proofs.Common.{◌≡◌, ◌∙◌, ℕ, List, get_or, Some, sym, ap, subst}
use Rattle.std.specs.FinSet as set
use Rattle.std.specs.List.{slice_get}
use Rattle.std.proofs.lemmas.Option.{slice_get-get_or}
use Rattle.std.proofs.lemmas.Result.{IfOk-weaker}
use Rattle.turtle_reader.specs.Unnamed.{HasNumbersOf, IsUnnamedBeside}
use Rattle.turtle_reader.proofs.DocumentLemmas.{numbers_kept}
use Rattle.turtle_reader.proofs.labels.Labels.label.Goals as goal

pub invariant_of-self : goal.invariant_of-self
invariant_of-self c = c.give_up_to.ensures.given c.self.invariant

pub invariant_of-self-2 : goal.invariant_of-self-2
invariant_of-self-2 c = c.give_up_to.ensures.given c.self.invariant

pub returns-clause-label : goal.returns-clause-label
returns-clause-label c =
    let labels = c.give_up_to.new.given.labels.items in
    let label = c.index-as_slice-k.result in
    let at : slice_get labels c.args.k ≡ Some label =
    slice_get-get_or labels c.args.k label c.in_ok-give_up_to.ensures.has
    ∙ ap Some (sym (c.index-as_slice-k.is ∙ ap (λ (ls : List (List ℕ)). get_or ls c.args.k label) c.as_slice.ensures)) in
    IfOk-weaker c.copy.result (λ copy. copy ≡ label) (IsUnnamedBeside (set.contains c.args.self.now) c.args.k)
    (λ copy same written numbers.
    let seen = subst (λ s. HasNumbersOf (set.contains s) written) (sym c.self.view_is) numbers in
    let given = c.give_up_to.ensures.given c.self.invariant written (numbers_kept c.self.inside.taken written seen) in
    given.each c.args.k copy (at ∙ ap Some (sym same))) c.copy.ensures
