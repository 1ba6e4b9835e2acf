use Rattle.std.proofs.Common.{◌≡◌, ◌==◌, true, false, length, sym, ap, ◌∙◌}
use Rattle.audit_trail.proofs.LineLemmas.{spaced-bases}
use Rattle.audit_trail.proofs.basis_text.append_bases.Goals as goal

-- there is a basis
pub returns : goal.returns
returns c =
    let some : (length c.args.bases.now == 0) ≡ false = sym c.is_empty.ensures ∙ c.if-is_empty.false in
    rw (sym (spaced-bases c.args.bases.now (λ none. let both : true ≡ false = sym (ap (λ n. n == 0) none) ∙ some in cc))) c.append_each.ensures
