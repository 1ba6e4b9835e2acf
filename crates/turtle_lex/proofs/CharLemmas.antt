-- One character at the start of a text.
use Rattle.std.proofs.Common.{◌≡◌, ℕ, List, ◌++◌, drop, Some, None, sym, ap, ◌∙◌}
use Rattle.std.specs.Char.{IsScalar, encode_utf8}
use Rattle.bstr.specs.Utf8.{Decoded, decoded}
use Rattle.bstr.proofs.lemmas.SoundLemmas.{SpellsChar-decoded}
use Rattle.bstr.proofs.lemmas.EncodeLemmas.{decoded-encode}
use Rattle.turtle_lex.specs.Pattern.{HasNoFirstChar}

pub found_char : (s : List ℕ) (c : ℕ) → (decoded s).char ≡ Some c → IsScalar c × (s ≡ encode_utf8 c ++ drop (decoded s).size s)
found_char s c e = let h = SpellsChar-decoded s c e in (h.scalar, h.bytes)

pub no_char : (s : List ℕ) → (decoded s).char ≡ None → HasNoFirstChar s
no_char s e c r scalar is =
    let other : (decoded s).char ≡ Some c = ap (λ (t : List ℕ). (decoded t).char) is ∙ ap (λ (d : Decoded). d.char) (decoded-encode c r scalar) in
    let clash : None ≡ Some c = sym e ∙ other in
    cc
