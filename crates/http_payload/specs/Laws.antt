-- Laws of all texts.
use Rattle.std.specs.Prelude.{◌≡◌, ◌≢◌, ℕ, List, [], ◌++◌}
use Rattle.http_head.specs.declared.body_form.BodyForm.{BodyForm}
use Rattle.http_payload.specs.declared.payload_fault.PayloadFault.{PayloadFault}
use Rattle.http_payload.specs.Chunks.{Ending}
use Rattle.http_payload.specs.Bodies.{Ends, IsBody, IsFault, IsPartial}

-- Two prefixes of one text that are ends are one, so a text has one body at most, and a complete
-- body stays complete, whatever follows.
abbrev pub HasOneEnd : Type 0
HasOneEnd = (form : BodyForm) (a b r s : List ℕ) (e f : Ending) → Ends form a e → Ends form b f
    → a ++ r ≡ b ++ s
    → (a ≡ b) × (r ≡ s) × (e ≡ f)

-- A fault stays, whatever follows.
abbrev pub FaultStays : Type 0
FaultStays = (form : BodyForm) (text more : List ℕ) (fault : PayloadFault) → IsFault form text fault
    → IsFault form (text ++ more) fault

-- A text has one fault at most.
abbrev pub HasOneFault : Type 0
HasOneFault = (form : BodyForm) (text : List ℕ) (fault other : PayloadFault)
    → IsFault form text fault → IsFault form text other
    → fault ≡ other

-- A text with a body as its prefix has no fault.
abbrev pub BodyHasNoFault : Type 0
BodyHasNoFault = (form : BodyForm) (prefix rest body : List ℕ) (fault : PayloadFault)
    → IsBody form prefix body
    → IsFault form (prefix ++ rest) fault → ⊥

-- What is partial has no fault, and no body as its prefix.
abbrev pub PartialHasNoFault : Type 0
PartialHasNoFault = (form : BodyForm) (text : List ℕ) (fault : PayloadFault)
    → IsPartial form text → IsFault form text fault → ⊥

abbrev pub PartialHasNoBody : Type 0
PartialHasNoBody = (form : BodyForm) (prefix rest body : List ℕ)
    → IsPartial form (prefix ++ rest) → IsBody form prefix body → ⊥

-- Each prefix of a body but the body itself is partial, and so is each prefix of what is partial.
abbrev pub BodyBeginsPartial : Type 0
BodyBeginsPartial = (form : BodyForm) (text more body : List ℕ)
    → IsBody form (text ++ more) body → more ≢ [] → IsPartial form text

abbrev pub PartialBeginsPartial : Type 0
PartialBeginsPartial = (form : BodyForm) (text more : List ℕ) → IsPartial form (text ++ more)
    → IsPartial form text
