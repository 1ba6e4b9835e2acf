-- Reading stored forms from left to right. A reader gives a value and the bytes after its form, or
-- nothing where the bytes begin with the form of no value.
use Rattle.std.specs.Prelude.{◌≡◌, ℕ, zero, suc, Bool, List, [], ◌∷◌, length, take, drop}
use Rattle.std.specs.Prelude.{Option, Some, None, Result, Ok, Err, nat_lt, ◌==◌, if◌then◌else◌}
use Rattle.std.specs.Int.{w64, from_be_bytes}
use Rattle.stored_forms.specs.declared.read_back.ReadBack.{ReadBack}
use Rattle.stored_forms.specs.declared.read_back.ReadBack.TheVariants as faults

abbrev pub Reader : Type 0 → Type 0
Reader A = List ℕ → Option (A × List ℕ)

infixl 10 ◌>>=◌
abbrev pub ◌>>=◌ : {A B : Type 0} → Option A → (A → Option B) → Option B
(Some x) >>= f = f x
None >>= f = None

-- what a function returned, seen by `view`, is what reading gives, unless it is out of memory
abbrev pub Fails : {Y : Type 0} → ReadBack → Option Y → Type 0
Fails faults.NoMemory read = Unit {0}
Fails faults.NotCanonical read = read ≡ None

abbrev pub Gives : {X Y : Type 0} → (X → Y) → Result X ReadBack → Option Y → Type 0
Gives view (Ok x) read = read ≡ Some (view x)
Gives view (Err e) read = Fails e read

-- one after the other, where the first value says how to read the second
abbrev pub both_by : {A B : Type 0} → Reader A → (A → Reader B) → Reader (A × B)
both_by first second bytes = do
  a ← first bytes
  b ← second a.0 a.1
  Some ((a.0, b.0), b.1)

abbrev pub both : {A B : Type 0} → Reader A → Reader B → Reader (A × B)
both first second bytes = both_by first (λ _. second) bytes

-- the value that f makes of the one that is read
abbrev pub mapped : {A B : Type 0} → (A → B) → Reader A → Reader B
mapped f read bytes = do
  a ← read bytes
  Some (f a.0, a.1)

-- only a value that passes the test
abbrev pub checked : {A : Type 0} → (A → Bool) → Reader A → Reader A
checked test read bytes = do
  a ← read bytes
  if test a.0 then Some a else None

-- this value, which takes no bytes
abbrev pub just : {A : Type 0} → A → Reader A
just x bytes = Some (x, bytes)

abbrev pub byte_at : Reader ℕ
byte_at [] = None
byte_at (b ∷ bytes) = Some (b, bytes)

-- a byte, and what follows it by its value
abbrev pub tagged : {A : Type 0} → (ℕ → Reader A) → Reader A
tagged body bytes = do
  tag ← byte_at bytes
  body tag.0 tag.1

-- after this byte so, and after others as they say
abbrev pub after_tag : {A : Type 0} → ℕ → Reader A → (ℕ → Reader A) → ℕ → Reader A
after_tag this read others tag bytes = if tag == this then read bytes else others tag bytes

abbrev pub no_tag : {A : Type 0} → ℕ → Reader A
no_tag tag bytes = None

unfoldable pub number_at : Reader ℕ
number_at bytes =
    if nat_lt (length bytes) 8 then None else Some (from_be_bytes w64 (take 8 bytes), drop 8 bytes)

-- a number, and that many bytes
unfoldable pub piece_at : Reader (List ℕ)
piece_at bytes = do
  n ← number_at bytes
  if nat_lt (length n.1) n.0 then None else Some (take n.0 n.1, drop n.0 n.1)

-- so many values
unfoldable pub times_at : {A : Type 0} → Reader A → ℕ → Reader (List A)
times_at read zero bytes = Some ([], bytes)
times_at read (suc n) bytes = do
  first ← read bytes
  others ← times_at read n first.1
  Some (first.0 ∷ others.0, others.1)

-- a number, and so many values
unfoldable pub list_at : {A : Type 0} → Reader A → Reader (List A)
list_at read bytes = do
  n ← number_at bytes
  times_at read n.0 n.1

-- a value whose form is all of the bytes
abbrev pub whole : {A : Type 0} → Reader A → List ℕ → Option A
whole read bytes = do
  a ← read bytes
  if length a.1 == 0 then Some a.0 else None
