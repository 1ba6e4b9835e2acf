-- The stem of a slug whose bytes are bytes is part of a member's path as it is.
use Rattle.std.proofs.Common.{ℕ, ◌-◌, ◌<◌, Bool, true, false, cond, not, eqb, nat_le, List, [], ◌∷◌, ◌++◌, Option, Some, None, IfSome, refl}
use Rattle.std.proofs.lemmas.List.Elements.{All-head, All-tail, All-filter}
use Rattle.iri_ref.specs.Characters.{is_slash}
use Rattle.pod_path.specs.Hierarchy.{IsPlainName}
use Rattle.percent_encoding.specs.Percent.{percent_decode}
use Rattle.percent_encoding.proofs.PercentLemmas.{All-percent_decode}
use Rattle.slug_naming.specs.PlainTexts.{IsPlainText}
use Rattle.slug_naming.specs.Stems.{escaped, escaped_length, fitting, stem_of, without_dots, without_slashes}
use Rattle.slug_naming.proofs.PlainLemmas.{both_plain, escaped_plain, finished_plain, fitting_first, nothing_plain}
use Rattle.refusal_laws.specs.SomeReplies.{AreBytes}

dotless : (bytes : List ℕ) → AreBytes bytes → AreBytes (without_dots bytes)
dotless [] small = small
dotless (b ∷ bytes) small = by_test (eqb b 46) (dotless bytes (All-tail (λ b. b < 256) b bytes small))
  where
    by_test : (d : Bool) → AreBytes (without_dots bytes) → AreBytes (cond d (without_dots bytes) (b ∷ bytes))
    by_test true below = below
    by_test false below = small

fitting_plain : (bytes : List ℕ) (room : ℕ) → AreBytes bytes → IsPlainText (fitting room bytes)
fitting_plain [] room small = nothing_plain
fitting_plain (b ∷ bytes) room small =
    by_room (nat_le (escaped_length b) room) (fitting_plain bytes (room - escaped_length b) (All-tail (λ b. b < 256) b bytes small))
  where
    by_room : (d : Bool) {rest : List ℕ} → IsPlainText rest → IsPlainText (cond d (escaped b ++ rest) [])
    by_room true {rest} below = both_plain (escaped b) rest (escaped_plain b (All-head (λ b. b < 256) b bytes small)) below
    by_room false below = nothing_plain

pub stem_plain : (slug : Option (List ℕ)) → IfSome slug AreBytes → (folder : Bool) → IsPlainName (stem_of slug) folder
stem_plain None small folder = finished_plain [] nothing_plain refl folder
stem_plain (Some text) small folder =
    let decoded : AreBytes (percent_decode text) = All-percent_decode text small in
    let bytes : AreBytes (without_slashes (percent_decode text)) = All-filter (λ b. not (is_slash b)) (λ b. b < 256) (percent_decode text) decoded in
    finished_plain (fitting 128 (without_dots (without_slashes (percent_decode text)))) (fitting_plain (without_dots (without_slashes (percent_decode text))) 128 (dotless (without_slashes (percent_decode text)) bytes)) (fitting_first 128 (without_slashes (percent_decode text))) folder
