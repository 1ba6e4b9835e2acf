-- The steps over one byte.
use Rattle.std.proofs.Common.{◌≡◌, ◌≢◌, ℕ, ◌+◌, ◌<◌, ◌≤◌, List, [], ◌∷◌, ◌++◌, length, refl, sym, ap, ◌∙◌, subst, arith, append-nil, Option, Some, None, IfSome, IfNone, inl, inr}
use Rattle.std.proofs.lemmas.Bool.{cases_eq}
use Rattle.http_payload.specs.declared.body_stage.Stage.{Stage}
use Rattle.http_payload.specs.declared.body_stage.Stage.TheVariants.{Rest, Line, Chunk, ChunkEnd, Trailers, Trailer, TrailerEnd, LastEnd}
use Rattle.http_payload.specs.declared.body_stage.TheConstants.{TRAILERS_LIMIT}
use Rattle.http_payload.specs.Chunks.{Ending, Whole, crlf, trailer_texts, IsTrailers, InTrailer, EndsInChunks}
use Rattle.http_payload.specs.PayloadState.{PayloadState, payload_state, Left, IsOpenLine}
use Rattle.http_payload.specs.Steps.{Never, TakesByte}
use Rattle.http_payload.proofs.LineFacts.{open_at_first}
use Rattle.http_payload.proofs.TrailerSteps.{stays, after_cr, empty_line, no_lf, in_line, from_line, in_trailer, from_trailer, trailer_ends, trailer_ended, no_lf_inside, has_room}

pub takes_last_cr : (used : ℕ) → used ≤ TRAILERS_LIMIT → TakesByte (Trailers used) 13 LastEnd
takes_last_cr used fits line body sound = (
  record {
    left = λ more ending h. (after_cr h.0, h.1);
    back = λ more ending h. (subst (λ (t : List ℕ). IsTrailers used (13 ∷ t)) (sym h.0) (empty_line used fits), h.1);
  },
  tt,
  refl,
)

pub takes_last_lf : TakesByte LastEnd 10 (Rest 0)
takes_last_lf line body sound = (
  record {
    left = λ more ending h.
        let none : more ≡ [] = cc (h.0) in
        (ap length none, h.1 ∙ ap Whole (sym (append-nil body) ∙ ap (λ (t : List ℕ). body ++ t) (sym none)));
    back = λ more ending h.
        let none : more ≡ [] = nothing more h.0 in
        (ap (λ (t : List ℕ). 10 ∷ t) none, h.1 ∙ ap Whole (ap (λ (t : List ℕ). body ++ t) none ∙ append-nil body));
  },
  tt,
  refl,
)
  where
    nothing : (t : List ℕ) → length t ≡ 0 → t ≡ []
    nothing [] e = refl
    nothing (x ∷ t) e = absurd (omega arith)

pub takes_in_line : (used byte : ℕ) → used + 3 ≤ TRAILERS_LIMIT → byte ≢ 13 → byte ≢ 10
    → TakesByte (Trailers used) byte (Trailer (used + 1))
takes_in_line used byte room cr lf line body sound = (
  record {
    left = λ more ending h. (in_line cr h.0, h.1);
    back = λ more ending h. (from_line used (stays byte cr lf) h.0, h.1);
  },
  omega arith,
  refl,
)

pub takes_in_trailer : (used byte : ℕ) → used + 3 ≤ TRAILERS_LIMIT → byte ≢ 13 → byte ≢ 10
    → TakesByte (Trailer used) byte (Trailer (used + 1))
takes_in_trailer used byte room cr lf line body sound = (
  record {
    left = λ more ending h. (in_trailer cr h.0, h.1);
    back = λ more ending h. (from_trailer used (stays byte cr lf) h.0, h.1);
  },
  omega arith,
  refl,
)

pub takes_trailer_cr : (used : ℕ) → TakesByte (Trailer used) 13 (TrailerEnd (used + 1))
takes_trailer_cr used line body sound = (
  record {
    left = λ more ending h.
        let rest = trailer_ends h.0 in
        (rest.0, rest.1, rest.2, h.1);
    back = λ more ending h. (trailer_ended used h.0 h.1 h.2, h.3);
  },
  omega arith,
  refl,
)

pub takes_trailer_lf : (used : ℕ) → TakesByte (TrailerEnd used) 10 (Trailers (used + 1))
takes_trailer_lf used line body sound = (
  record {
    left = λ more ending h.
        let same : more ≡ h.0 = cc (h.1) in
        (subst (IsTrailers (used + 1)) (sym same) h.2, h.3);
    back = λ more ending h. (more, refl, h.0, h.1);
  },
  sound,
  refl,
)

pub takes_chunk_lf : TakesByte ChunkEnd 10 Line
takes_chunk_lf line body sound = (
  record {
    left = λ more ending h.
        let same : more ≡ h.0 = cc (h.1) in
        let text : line ++ more ≡ h.0 = ap (λ (t : List ℕ). t ++ more) sound.0 ∙ same in
        subst (λ t. EndsInChunks body t ending) (sym text) h.2;
    back = λ more ending h.
        (more, refl, subst (λ (t : List ℕ). EndsInChunks body (t ++ more) ending) sound.0 h);
  },
  (subst IsOpenLine (sym sound.0) open_at_first, sound.1),
  refl,
)

pub takes_chunk_cr : TakesByte (Chunk 0) 13 ChunkEnd
takes_chunk_cr line body sound = (
  record {
    left = λ more ending h. ended h.bytes body more h.rest ending h.size h.text_is h.ends;
    back = λ more ending h. record {
      bytes = [];
      rest = h.0;
      size = refl;
      ends = subst (λ t. EndsInChunks t h.0 ending) (sym (append-nil body)) h.2;
      text_is = ap (λ (t : List ℕ). 13 ∷ t) h.1;
    };
  },
  (sound.0, omega (arith, sound.1)),
  refl,
)
  where
    ended : (bytes body more rest : List ℕ) (ending : Ending) → length bytes ≡ 0
        → 13 ∷ more ≡ bytes ++ (crlf ++ rest) → EndsInChunks (body ++ bytes) rest ending
        → (later : List ℕ) × (more ≡ 10 ∷ later) × EndsInChunks body later ending
    ended [] body more rest ending size text ends =
        (rest, cc, subst (λ t. EndsInChunks t rest ending) (append-nil body) ends)
    ended (x ∷ bytes) body more rest ending size text ends = absurd (omega arith)

-- ---- bytes that no body has there

-- Nothing that begins with this byte leads to an end, where there is more to come and it doesn't begin so.
never_byte : (h : PayloadState) (byte : ℕ) → ((ending : Ending) → Left h [] ending → ⊥)
    → ((more : List ℕ) (ending : Ending) → Left h (byte ∷ more) ending → ⊥) → Never h (byte ∷ [])
never_byte h byte none other more [] rest ending e left = none ending left
never_byte h byte none other more (x ∷ prefix) rest ending e left =
    let same : x ≡ byte = cc (e) in
    other prefix ending (subst (λ b. Left h (b ∷ prefix) ending) same left)

-- a text with a last part isn't empty
pub some_end : (a b : List ℕ) (x : ℕ) → [] ≡ a ++ (x ∷ b) → ⊥
some_end [] b x e = cc
some_end (y ∷ a) b x e = cc

pub never_chunk : (byte : ℕ) → byte ≢ 13 → (line body : List ℕ) → Never (payload_state (Chunk 0) line body) (byte ∷ [])
never_chunk byte other line body =
    never_byte (payload_state (Chunk 0) line body) byte (λ ending h. some_end h.bytes (10 ∷ h.rest) 13 h.text_is)
    (λ more ending h. wrong h.bytes more h.rest h.size h.text_is)
  where
    wrong : (bytes more rest : List ℕ) → length bytes ≡ 0 → byte ∷ more ≡ bytes ++ (crlf ++ rest) → ⊥
    wrong [] more rest size text = other (cc)
    wrong (x ∷ bytes) more rest size text = omega arith

pub never_chunk_end : (byte : ℕ) → byte ≢ 10 → (line body : List ℕ) → Never (payload_state ChunkEnd line body) (byte ∷ [])
never_chunk_end byte other line body =
    never_byte (payload_state ChunkEnd line body) byte (λ ending h. let e = h.1 in cc) (λ more ending h. let e = h.1 in other (cc))

pub never_trailers : (used byte : ℕ) → byte ≢ 13 → (byte ≢ 10 → TRAILERS_LIMIT < used + 3) → (line body : List ℕ)
    → Never (payload_state (Trailers used) line body) (byte ∷ [])
never_trailers used byte cr full line body =
    never_byte (payload_state (Trailers used) line body) byte
    (λ ending h. some_end (trailer_texts h.0.lines) (10 ∷ []) 13 h.0.text_is)
    (λ more ending h. elim (cases_eq byte 10) [
      | inl lf ↦ no_lf (subst (λ b. IsTrailers used (b ∷ more)) lf h.0)
      | inr other ↦ let room = has_room used (in_line cr h.0) in omega (arith, full other)
    ])

pub never_trailer : (used byte : ℕ) → byte ≢ 13 → (byte ≢ 10 → TRAILERS_LIMIT < used + 3) → (line body : List ℕ)
    → Never (payload_state (Trailer used) line body) (byte ∷ [])
never_trailer used byte cr full line body =
    never_byte (payload_state (Trailer used) line body) byte
    (λ ending h. some_end h.0.bytes (10 ∷ h.0.rest) 13 h.0.text_is)
    (λ more ending h. elim (cases_eq byte 10) [
      | inl lf ↦ no_lf_inside (subst (λ b. InTrailer used (b ∷ more)) lf h.0)
      | inr other ↦ let room = has_room used (in_trailer cr h.0) in omega (arith, full other)
    ])

pub never_trailer_end : (used byte : ℕ) → byte ≢ 10 → (line body : List ℕ)
    → Never (payload_state (TrailerEnd used) line body) (byte ∷ [])
never_trailer_end used byte other line body =
    never_byte (payload_state (TrailerEnd used) line body) byte (λ ending h. let e = h.1 in cc) (λ more ending h. let e = h.1 in other (cc))

pub never_last_end : (byte : ℕ) → byte ≢ 10 → (line body : List ℕ) → Never (payload_state LastEnd line body) (byte ∷ [])
never_last_end byte other line body =
    never_byte (payload_state LastEnd line body) byte (λ ending h. let e = h.0 in cc) (λ more ending h. let e = h.0 in other (cc))

-- ---- from the clauses of the calls below

pub taken_if : (stage next : Stage) (byte wanted : ℕ) → TakesByte stage wanted next → (r : Option Stage)
    → IfSome r (λ found. (found ≡ next) × (byte ≡ wanted)) → IfSome r (TakesByte stage byte)
taken_if stage next byte wanted takes None e = tt
taken_if stage next byte wanted takes (Some found) e =
    subst (λ n. TakesByte stage byte n) (sym e.0) (subst (λ b. TakesByte stage b next) (sym e.1) takes)

-- nothing that begins with this byte at that stage is a body
abbrev pub RefusesByte : Stage → ℕ → Type 0
RefusesByte stage byte = (line body : List ℕ) → Never (payload_state stage line body) (byte ∷ [])

pub refused_if : (stage : Stage) (byte : ℕ) {A : Type 0} → (A → RefusesByte stage byte) → (r : Option Stage) → IfNone r A
    → IfNone r (RefusesByte stage byte)
refused_if stage byte never None e = never e
refused_if stage byte never (Some found) e = tt

pub taken_in : (stage : Stage) (byte used : ℕ) → byte ≢ 13
    → (used + 3 ≤ TRAILERS_LIMIT → byte ≢ 10 → TakesByte stage byte (Trailer (used + 1))) → (r : Option Stage)
    → IfSome r (λ next. (next ≡ Trailer (used + 1)) × (used + 3 ≤ TRAILERS_LIMIT) × (byte ≢ 10)) → IfSome r (TakesByte stage byte)
taken_in stage byte used cr takes None e = tt
taken_in stage byte used cr takes (Some found) e = subst (λ n. TakesByte stage byte n) (sym e.0) (takes e.1 e.2)
