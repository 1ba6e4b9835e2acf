use Rattle.std.proofs.Common.{◌≡◌, ◌++◌, sym, ◌∙◌, ap, subst, string_bytes}
use Rattle.pod_path.specs.Hierarchy.{IsPlainName}
use Rattle.slug_naming.specs.Stems.{fitting, without_dots}
use Rattle.slug_naming.specs.PlainTexts.{IsPlainText}
use Rattle.slug_naming.proofs.PlainLemmas.{nothing_plain, finished_plain, begins_with_dot, fitting_first}
use Rattle.slug_naming.proofs.stems.slug_stem.Goals as goal

-- what fits begins with no dot
pub returns-clause-plain : goal.returns-clause-plain
returns-clause-plain c = λ folder.
    let empty = c.in_ok-text.ensures.bytes in
    let plain = c.in_ok-push_fitting.ensures.plain (subst IsPlainText (sym empty) nothing_plain) in
    let is : string_bytes c.push_fitting.new.text ≡ fitting 128 (without_dots c.as_slice.result.now) =
    c.in_ok-push_fitting.ensures.text ∙ ap (λ text. text ++ fitting 128 c.without_dots.result.now) empty ∙ ap (fitting 128) c.without_dots.ensures in
    subst (λ text. IsPlainName text folder) (sym c.in_ok-finish_stem.ensures) (finished_plain (string_bytes c.push_fitting.new.text) plain (ap begins_with_dot is ∙ fitting_first 128 c.as_slice.result.now) folder)
