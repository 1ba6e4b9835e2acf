-- Decoding a key into room for it.
use Rattle.std.proofs.Common.{◌≡◌, ℕ, ◌*◌, ◌/◌, Bool, true, false, cond, nat_lt, ◌==◌, List, length, Option, Some, None, Result, Ok, Err, refl, sym, ap, ◌∙◌, arith}
use Rattle.std.proofs.lemmas.Bool.Decides.{nat_tests}
use Rattle.base64.specs.Decode.{or_else, or_error, bytes_fit, decode_outcome, groups_before_last, lone_error, groups_error, suffix_error, decoded_bytes}
use Rattle.base64.specs.GeneralPurpose.{decode_of, decode_slice_of}
use Rattle.base64.specs.declared.decode.DecodeError.{DecodeError}
use Rattle.base64.specs.declared.decode.DecodeSliceError.{DecodeSliceError}
use Rattle.base64.specs.declared.decode.DecodeSliceError.TheVariants.{OutputSliceTooSmall}
use Rattle.base64.specs.declared.engine.general_purpose.GeneralPurpose.{GeneralPurpose}
use Rattle.request_fields.specs.Upgrades.{are_16}

-- the room was filled with 16 bytes
abbrev pub filled_16 : Result ℕ DecodeSliceError → Bool
filled_16 (Ok count) = count == 16
filled_16 (Err e) = false

fits-16 : (n : ℕ) (b : Bool) → nat_lt 24 n ≡ b → filled_16 (cond b (Err OutputSliceTooSmall) (Ok n)) ≡ (n == 16)
fits-16 n true more = let other : (n == 16) ≡ false = grind (arith, nat_tests) in sym other
fits-16 n false fits = refl

same-error : (lone rest : Option DecodeError) (bytes : List ℕ) → filled_16 (or_error lone (or_error rest (bytes_fit (length bytes) 24))) ≡ are_16 (decode_outcome (or_else lone rest) bytes)
same-error (Some e) rest bytes = refl
same-error None (Some e) bytes = refl
same-error None None bytes = fits-16 (length bytes) (nat_lt 24 (length bytes)) refl

-- 24 characters fill 16 bytes exactly where they decode to so many
pub fills-16 : (e : GeneralPurpose) (key : List ℕ) → length key ≡ 24 → filled_16 (decode_slice_of e key 24) ≡ are_16 (decode_of e key)
fills-16 e key long =
    let room : nat_lt (24 / 3) (groups_before_last (length key)) ≡ false = ap (λ n. nat_lt (24 / 3) (groups_before_last n)) long in
    let lone : Option DecodeError = lone_error e.decode_table e.padding.value key in
    let rest : Option DecodeError = or_else (groups_error e.decode_table key (groups_before_last (length key))) (suffix_error e.decode_table e.padding.value e.config.decode_allow_trailing_bits e.config.decode_padding_mode (4 * groups_before_last (length key)) key) in
    let bytes : List ℕ = decoded_bytes e.decode_table e.padding.value key in
    ap (λ b. filled_16 (or_error lone (cond b (Err OutputSliceTooSmall) (or_error rest (bytes_fit (length bytes) 24))))) room
    ∙ same-error lone rest bytes
