use Rattle.std.proofs.Common.{◌≡◌, ℕ, List, ◌-◌, ◌<◌, ◌≤◌, ◌∙◌, length, get_or, take, drop, ap, subst}
use Rattle.std.specs.Prelude.{string_bytes}
use Rattle.std.specs.List.{before_last}
use Rattle.std.proofs.lemmas.Str.{IsUtf8-string_bytes}
use Rattle.std.proofs.lemmas.List.{take_rest}
use Rattle.iri_ref.specs.Characters.{slash, is_slash}
use Rattle.iri_ref.proofs.PathWriting.{split_point, taken_back}
use Rattle.iri_ref.proofs.dot_segments.PathWriter.pop_segment.Goals as goal

pub truncate-requires : goal.truncate-requires
truncate-requires c = λ le.
    let bytes = string_bytes c.self.inside.text in
    let start = c.self.inside.start in
    let n = c.parent_len.result in
    let path : take (length c.as_bytes.result.now - start) (drop start c.as_bytes.result.now) ≡ drop start bytes = take_rest c.as_bytes.result.now start ∙ ap (drop start) c.as_bytes.ensures.value in
    split_point bytes start n c.self.invariant.0 (IsUtf8-string_bytes c.self.inside.text) c.self.invariant.1
    (subst (λ (t : List ℕ). n ≤ length t) path c.parent_len.ensures.within)
    (subst (λ (t : List ℕ). 0 < n → get_or t n 0 ≡ slash) path c.parent_len.ensures.at_slash)

pub returns : goal.returns
returns c =
    let bytes = string_bytes c.self.inside.text in
    let start = c.self.inside.start in
    let n = c.parent_len.result in
    let path : take (length c.as_bytes.result.now - start) (drop start c.as_bytes.result.now) ≡ drop start bytes = take_rest c.as_bytes.result.now start ∙ ap (drop start) c.as_bytes.ensures.value in
    taken_back c.args.self.now bytes (string_bytes c.truncate.new.self) start n c.self.inside.begun c.self.view_is c.truncate.ensures.bytes
    (subst (λ (t : List ℕ). take n t ≡ before_last is_slash t) path c.parent_len.ensures.prefix)
