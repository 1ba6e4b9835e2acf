use Rattle.std.proofs.Common.{◌≡◌, ◌∙◌, ap, sym, ℕ, List, drop, ◌++◌, subst, ◌≤◌, length}
use Rattle.std.specs.Char.{encode_utf8}
use Rattle.bstr.proofs.lemmas.PieceLemmas.{size-within}
use Rattle.bstr.specs.Utf8.{decoded}
use Rattle.turtle_lex.proofs.CharLemmas.{found_char, no_char}
use Rattle.turtle_lex.proofs.chars.wide_char.Goals as goal

pub split_at-requires : goal.split_at-requires
split_at-requires c = subst (λ (n : ℕ). n ≤ length c.args.text.now) (sym c.decode-found.ensures.size) (size-within c.args.text.now)

pub returns-in-Some-clause-found : goal.returns-in-Some-clause-found
returns-in-Some-clause-found c =
    let h = found_char c.args.text.now c.in-Some.c (sym c.decode-found.ensures.char ∙ c.in-Some.is) in
    let rest : drop (decoded c.args.text.now).size c.args.text.now ≡ c.split_at.result.1.now =
    ap (λ (n : ℕ). drop n c.args.text.now) (sym c.decode-found.ensures.size) ∙ sym c.split_at.ensures.back in
    (h.0, h.1 ∙ ap (λ (t : List ℕ). encode_utf8 c.in-Some.c ++ t) rest)

pub returns-in-None-clause-none : goal.returns-in-None-clause-none
returns-in-None-clause-none c = no_char c.args.text.now (sym c.decode-found.ensures.char ∙ c.in-None.is)
