use Rattle.std.proofs.Common.{◌∙◌, get_or, ap, sym, rules, arith}
use Rattle.std.specs.Prelude.{IsTrue}
use Rattle.std.proofs.lemmas.List.{take_rest}
use Rattle.pod_path.specs.Escapes.{is_hex, prepend, normalize_escapes}
use Rattle.pod_path.proofs.Escaping.{escape_step}
use Rattle.pod_path.proofs.escapes.push_first_escape.Goals as goal

pub returns-clause-text : goal.returns-clause-text
returns-clause-text c =
    let digits = c.args.digits.now in
    let high : IsTrue (is_hex (get_or digits 0 0)) = search rules in
    let low : IsTrue (is_hex (get_or digits 1 0)) = search rules in
    escape_step c.args.bytes.now.items c.push_escape.new.text.items digits (omega (arith, c.in-len2-up.len_at_least)) high low c.in_ok-push_escape.ensures
    ∙ ap (λ t. prepend c.push_escape.new.text.items (normalize_escapes t)) (sym (take_rest digits 2))
