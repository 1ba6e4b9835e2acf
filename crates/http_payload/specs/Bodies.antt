-- The bodies of each form (RFC 9112, section 6). All definitions are about the whole text of a
-- body.
use Rattle.std.specs.Prelude.{ℕ, ◌≡◌, ◌⊎◌, List, [], ◌++◌, length, Result, Err}
use Rattle.http_head.specs.declared.body_form.BodyForm.{BodyForm}
use Rattle.http_head.specs.declared.body_form.BodyForm.TheVariants.{Empty, Length, Chunked}
use Rattle.http_payload.specs.declared.payload_fault.PayloadFault.{PayloadFault}
use Rattle.http_payload.specs.declared.payload_fault.PayloadFault.TheVariants.{Malformed, TooLarge}
use Rattle.http_payload.specs.declared.payload_fault.PayloadFault.TheVariants.{NoMemory}
use Rattle.http_payload.specs.Chunks.{Ending, Whole, Over, EndsInChunks}

-- how a text of that form ends, exactly at its end
abbrev pub Ends : BodyForm → List ℕ → Ending → Type 0
Ends Empty text ending = (text ≡ []) × (ending ≡ Whole [])
Ends (Length n) text ending = (length text ≡ n) × (ending ≡ Whole text)
Ends Chunked text ending = EndsInChunks [] text ending

-- the text is a complete body of that form, whose content is these bytes
abbrev pub IsBody : BodyForm → List ℕ → List ℕ → Type 0
IsBody form text body = Ends form text (Whole body)

-- No prefix of the text is an end.
abbrev pub HasNoEnd : BodyForm → List ℕ → Type 0
HasNoEnd form text = (prefix rest : List ℕ) (ending : Ending) → text ≡ prefix ++ rest
    → Ends form prefix ending → ⊥

-- A fault of the text. It is malformed as soon as nothing that follows leads to an end, and too
-- large from the end of the chunk line by which the sizes pass the limit.
abbrev pub IsFault : BodyForm → List ℕ → PayloadFault → Type 0
IsFault form text Malformed = (more : List ℕ) → HasNoEnd form (text ++ more)
IsFault form text TooLarge = (prefix : List ℕ) × (rest : List ℕ) × (text ≡ prefix ++ rest)
    × Ends form prefix Over
IsFault form text NoMemory = ⊥

-- The text is no complete body and has no fault, and something that follows leads to an end.
pub record IsPartial (form : BodyForm) (text : List ℕ) : Type 0 where
  pub no_end : HasNoEnd form text
  pub more : List ℕ
  pub ending : Ending
  pub continues : Ends form (text ++ more) ending

-- The result is that one, unless it is out of memory.
abbrev pub IsOrOutOfMemory : {A : Type 0} → Result A PayloadFault → Result A PayloadFault → Type 0
IsOrOutOfMemory result answer = (result ≡ answer) ⊎ (result ≡ Err NoMemory)
