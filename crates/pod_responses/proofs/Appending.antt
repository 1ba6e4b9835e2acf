-- A list that grew by pieces, one after another.
use Rattle.std.proofs.Common.{◌≡◌, List, ◌++◌, Result, Ok, Err, OnOk, ap, ◌∙◌, append_assoc}

-- What the last call appended follows what was appended before.
pub then : {A T E : Type 0} (r : Result T E) (old mid new a b : List A) → mid ≡ old ++ a
    → OnOk r (new ≡ mid ++ b) → OnOk r (new ≡ old ++ (a ++ b))
then (Ok x) old mid new a b first last = last ∙ ap (λ l. l ++ b) first ∙ append_assoc old a b
then (Err e) old mid new a b first last = tt
