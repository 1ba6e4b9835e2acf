use Rattle.std.proofs.Common.{◌≤◌, ℕ, List, length, take, sym, ap, ◌∙◌, subst, arith}
use Rattle.std.proofs.lemmas.List.{take-take, length-take}
use Rattle.std.specs.Str.{IsUtf8}
use Rattle.turtle_lex.specs.ClassOf.{in_class}
use Rattle.turtle_lex.specs.Pattern.{one, many, Matches}
use Rattle.turtle_lex.specs.Delimited.{plain_class}
use Rattle.turtle_lex.proofs.PlainLemmas.{plain_run}
use Rattle.turtle_lex.proofs.plain_run.strip_plain.Goals as goal

pub returns-in-Ok-clause-run : goal.returns-in-Ok-clause-run
returns-in-Ok-clause-run c =
    let s = c.args.text.now in let n = c.plain_len.result in
    let utf8 : IsUtf8 (take n s) = subst IsUtf8 c.split_at.ensures.front c.in-Ok.ensures.cases.1 in
    subst (λ (t : List ℕ). Matches (many (one (in_class (plain_class c.args.content)))) s t) (sym c.split_at.ensures.back)
    (plain_run c.args.content s n n (omega arith) c.plain_len.ensures.plain utf8)

pub returns-in-Err-clause-run : goal.returns-in-Err-clause-run
returns-in-Err-clause-run c =
    let s = c.args.text.now in let n = c.plain_len.result in let k = c.valid_up_to.result in
    let valid = c.in-Err.ensures.cases.1 in
    let at = c.valid_up_to.ensures in
    let front = c.split_at.ensures.front in
    let short = valid.short in
    let le : k ≤ n = omega (arith, at, short, ap length front, length-take n s) in
    let utf8 : IsUtf8 (take k s) =
    subst IsUtf8 (ap (take k) front ∙ take-take k n s le) (subst (λ (m : ℕ). IsUtf8 (take m c.split_at.result.0.now)) (sym at) valid.front) in
    subst (λ (t : List ℕ). Matches (many (one (in_class (plain_class c.args.content)))) s t) (sym c.split_at-in-Err.ensures.back)
    (plain_run c.args.content s n k le c.plain_len.ensures.plain utf8)
