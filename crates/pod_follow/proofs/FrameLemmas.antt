-- The frame with which bytes begin.
use Rattle.std.proofs.Common.{◌≡◌, ℕ, ◌+◌, ◌^◌, ◌<◌, List, ◌++◌, length, length-append, Option, Some, None, refl, sym, ap, ◌∙◌, arith}
use Rattle.std.specs.Prelude.{IfSome}
use Rattle.std.specs.Option.{option_map}
use Rattle.stored_forms.specs.Readers.{piece_at}
use Rattle.stored_forms.specs.StoredForms.{number_bytes, text_bytes}
use Rattle.stored_forms.proofs.ReadLaws.{IsBytes, piece_reads}
use Rattle.pod_follow.specs.Frames.{HasNoFrame, frame_of}

text_frame : (body : List ℕ) → text_bytes body ≡ frame_of body
unfolding text_bytes
text_frame body = refl

-- a piece that was split off is that of a frame
pub frame_found : {X : Type 0} (view : X → List ℕ × List ℕ) (found : Option X) (bytes : List ℕ) → IsBytes bytes → option_map view found ≡ piece_at bytes → IfSome found (λ r. bytes ≡ frame_of (view r).0 ++ (view r).1)
frame_found view None bytes fits e = tt
frame_found view (Some r) bytes fits e =
    (piece_reads.takes bytes (view r).0 (view r).1 fits (sym e)).parts
    ∙ ap (λ l. l ++ (view r).1) (text_frame (view r).0)

-- and where none was, they don't begin with a frame
pub no_frame : {X : Type 0} (view : X → List ℕ × List ℕ) (found : Option X) (bytes : List ℕ) → length bytes < 2 ^ 64 → option_map view found ≡ piece_at bytes → found ≡ None → HasNoFrame bytes
no_frame view found bytes short e none = λ body rest is.
    let fits : length body < 2 ^ 64 = omega (arith, short, ap length is, length-append (number_bytes (length body)) body, length-append (frame_of body) rest) in
    let again : piece_at bytes ≡ Some (body, rest) = ap piece_at (is ∙ ap (λ l. l ++ rest) (sym (text_frame body))) ∙ piece_reads.again body rest fits in
    let never : None ≡ Some (body, rest) = ap (option_map view) (sym none) ∙ e ∙ again in
    cc
