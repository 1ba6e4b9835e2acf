-- A record as it is written.
use Rattle.std.proofs.Common.{◌≡◌, ℕ, ◌+◌, ◌-◌, ◌<◌, ◌^◌, List, [], ◌∷◌, ◌++◌, length, take, drop, sym, ◌∙◌, ap, arith, append_assoc, length-append}
use Rattle.std.proofs.lemmas.List.{take_at, drop_at}
use Rattle.std.specs.Int.{to_be_bytes, w64}
use Rattle.journal_log.specs.Frames.{sized, framed_of}
use Rattle.journal_log.specs.CleanJournal.{body_of}
use Rattle.journal_log.proofs.Splits.{length_be, length_sized}

pub length_framed : (body : List ℕ) → length (framed_of body) ≡ 9 + length body
length_framed body = omega (arith, length-append (sized body) (0 ∷ []), length_sized body)

-- the body of a written record
pub body_is : (body : List ℕ) → body_of (framed_of body) ≡ body
unfolding sized
body_is body =
    ap (λ (l : List ℕ). take (length (framed_of body) - 9) (drop 8 l)) (append_assoc (to_be_bytes w64 (length body)) body (0 ∷ []))
    ∙ ap (λ (l : List ℕ). take (length (framed_of body) - 9) l) (drop_at (to_be_bytes w64 (length body)) (body ++ 0 ∷ []) 8 (length_be (length body)))
    ∙ take_at body (0 ∷ []) (length (framed_of body) - 9) (omega (arith, length_framed body))

-- bytes that are written one after the other
pub is_framed : (body bytes : List ℕ) → bytes ≡ to_be_bytes w64 (length body) ++ body ++ 0 ∷ [] → length bytes < 2 ^ 63
    → (bytes ≡ framed_of (body_of bytes)) × (length bytes < 2 ^ 63)
unfolding sized
is_framed body bytes is small =
    let whole : bytes ≡ framed_of body = is in
    (whole ∙ ap framed_of (sym (ap body_of whole ∙ body_is body)), small)
