-- Trailer lines, read byte by byte.
use Rattle.std.proofs.Common.{◌≡◌, ◌≢◌, ℕ, ◌+◌, ◌≤◌, IsTrue, List, [], ◌∷◌, ◌++◌, length, refl, sym, ap, ◌∙◌, subst, arith, length-append, append_assoc}
use Rattle.std.specs.List.{AllByRecursion}
use Rattle.std.proofs.lemmas.Bool.Decides.{nat_tests}
use Rattle.http_payload.specs.declared.body_stage.TheConstants.{TRAILERS_LIMIT}
use Rattle.http_payload.specs.Chunks.{crlf, is_line_byte, AreLineBytes, IsTrailer, trailer_texts, IsTrailers, InTrailer}

pub stays_no_cr : (b : ℕ) → IsTrue (is_line_byte b) → b ≡ 13 → ⊥
stays_no_cr b stays e = grind (arith, nat_tests)

pub stays_no_lf : (b : ℕ) → IsTrue (is_line_byte b) → b ≡ 10 → ⊥
stays_no_lf b stays e = grind (arith, nat_tests)

pub stays : (b : ℕ) → b ≢ 13 → b ≢ 10 → IsTrue (is_line_byte b)
stays b cr lf = grind (arith, nat_tests)

pub recount : {used other : ℕ} {text : List ℕ} → used ≡ other → IsTrailers used text → IsTrailers other text
recount {text = text} e trailers = subst (λ n. IsTrailers n text) e trailers

-- CR at the beginning of a line begins the empty line
cr_first : (lines : List (List ℕ)) (more : List ℕ) → AllByRecursion IsTrailer lines
    → 13 ∷ more ≡ trailer_texts lines ++ crlf → more ≡ 10 ∷ []
cr_first [] more each e = cc
cr_first ([] ∷ lines) more each e = absurd (omega (arith, each.0.0))
cr_first ((b ∷ line) ∷ lines) more each e = absurd (stays_no_cr b each.0.1.0 (cc))

pub after_cr : {used : ℕ} {more : List ℕ} → IsTrailers used (13 ∷ more) → more ≡ 10 ∷ []
after_cr {more = more} trailers = cr_first trailers.lines more trailers.each trailers.text_is

pub empty_line : (used : ℕ) → used ≤ TRAILERS_LIMIT → IsTrailers used (13 ∷ 10 ∷ [])
empty_line used fits = record { lines = []; each = tt; fits = omega arith; text_is = refl }

-- LF doesn't begin a line
lf_first : (lines : List (List ℕ)) (more : List ℕ) → AllByRecursion IsTrailer lines
    → 10 ∷ more ≡ trailer_texts lines ++ crlf → ⊥
lf_first [] more each e = let first : ◌≡◌ {A = ℕ} 10 13 = cc in omega arith
lf_first ([] ∷ lines) more each e = omega (arith, each.0.0)
lf_first ((b ∷ line) ∷ lines) more each e = stays_no_lf b each.0.1.0 (cc)

pub no_lf : {used : ℕ} {more : List ℕ} → IsTrailers used (10 ∷ more) → ⊥
no_lf {more = more} trailers = lf_first trailers.lines more trailers.each trailers.text_is

-- another byte begins a trailer line
begins : (used b : ℕ) (lines : List (List ℕ)) (more : List ℕ) → AllByRecursion IsTrailer lines → b ≢ 13
    → used + length (trailer_texts lines) ≤ TRAILERS_LIMIT
    → b ∷ more ≡ trailer_texts lines ++ crlf → InTrailer (used + 1) more
begins used b [] more each other fits e = absurd (other (cc))
begins used b ([] ∷ lines) more each other fits e = absurd (omega (arith, each.0.0))
begins used b ((x ∷ line) ∷ lines) more each other fits e =
    let texts = trailer_texts lines in
    let regroup : ((line ++ crlf) ++ texts) ++ crlf ≡ line ++ (crlf ++ (texts ++ crlf)) =
    append_assoc (line ++ crlf) texts crlf ∙ append_assoc line crlf (texts ++ crlf) in
    let tail : more ≡ ((line ++ crlf) ++ texts) ++ crlf = cc in
    record {
      bytes = line;
      rest = texts ++ crlf;
      stay = each.0.1.1;
      others = record {
        lines = lines;
        each = each.1;
        fits = omega (arith, fits, length-append (line ++ crlf) texts, length-append line crlf);
        text_is = refl;
      };
      text_is = tail ∙ regroup;
    }

pub in_line : {used b : ℕ} {more : List ℕ} → b ≢ 13 → IsTrailers used (b ∷ more) → InTrailer (used + 1) more
in_line {used} {b} {more} other trailers =
    begins used b trailers.lines more trailers.each other trailers.fits trailers.text_is

pub from_line : (used : ℕ) {b : ℕ} {more : List ℕ} → IsTrue (is_line_byte b) → InTrailer (used + 1) more
    → IsTrailers used (b ∷ more)
from_line used {b} {more} passes h =
    let bytes = h.bytes in
    let texts = trailer_texts h.others.lines in
    let regroup : ((bytes ++ crlf) ++ texts) ++ crlf ≡ bytes ++ (crlf ++ (texts ++ crlf)) =
    append_assoc (bytes ++ crlf) texts crlf ∙ append_assoc bytes crlf (texts ++ crlf) in
    record {
      lines = (b ∷ bytes) ∷ h.others.lines;
      each = ((omega arith, (passes, h.stay)), h.others.each);
      fits = omega (arith, h.others.fits, length-append (bytes ++ crlf) texts, length-append bytes crlf);
      text_is = ap (λ (t : List ℕ). b ∷ t)
          (h.text_is ∙ ap (λ (t : List ℕ). bytes ++ (crlf ++ t)) h.others.text_is ∙ sym regroup);
    }

-- a byte in a trailer line that isn't its end
continues : (used b : ℕ) (bytes more rest : List ℕ) → AreLineBytes bytes → b ≢ 13
    → b ∷ more ≡ bytes ++ (crlf ++ rest) → IsTrailers (used + length bytes + 2) rest → InTrailer (used + 1) more
continues used b [] more rest stay other e trailers = absurd (other (cc))
continues used b (x ∷ bytes) more rest stay other e trailers =
    record { bytes = bytes; rest = rest; stay = stay.1; others = recount (omega arith) trailers; text_is = cc }

pub in_trailer : {used b : ℕ} {more : List ℕ} → b ≢ 13 → InTrailer used (b ∷ more) → InTrailer (used + 1) more
in_trailer {used} {b} {more} other h = continues used b h.bytes more h.rest h.stay other h.text_is h.others

pub from_trailer : (used : ℕ) {b : ℕ} {more : List ℕ} → IsTrue (is_line_byte b) → InTrailer (used + 1) more
    → InTrailer used (b ∷ more)
from_trailer used {b} {more} passes h = record {
  bytes = b ∷ h.bytes;
  rest = h.rest;
  stay = (passes, h.stay);
  others = recount (omega arith) h.others;
  text_is = ap (λ (t : List ℕ). b ∷ t) h.text_is;
}

-- CR in a trailer line begins its end
ends : (used : ℕ) (bytes more rest : List ℕ) → AreLineBytes bytes
    → 13 ∷ more ≡ bytes ++ (crlf ++ rest) → IsTrailers (used + length bytes + 2) rest
    → (later : List ℕ) × (more ≡ 10 ∷ later) × IsTrailers (used + 1 + 1) later
ends used [] more rest stay e trailers = (rest, cc, recount (omega arith) trailers)
ends used (x ∷ bytes) more rest stay e trailers = absurd (stays_no_cr x stay.0 (cc))

pub trailer_ends : {used : ℕ} {more : List ℕ} → InTrailer used (13 ∷ more)
    → (later : List ℕ) × (more ≡ 10 ∷ later) × IsTrailers (used + 1 + 1) later
trailer_ends {used} {more} h = ends used h.bytes more h.rest h.stay h.text_is h.others

pub trailer_ended : (used : ℕ) {more : List ℕ} (later : List ℕ) → more ≡ 10 ∷ later → IsTrailers (used + 1 + 1) later
    → InTrailer used (13 ∷ more)
trailer_ended used later text trailers = record {
  bytes = [];
  rest = later;
  stay = tt;
  others = recount (omega arith) trailers;
  text_is = ap (λ (t : List ℕ). 13 ∷ t) text;
}

lf_inside : (used : ℕ) (bytes more rest : List ℕ) → AreLineBytes bytes → 10 ∷ more ≡ bytes ++ (crlf ++ rest) → ⊥
lf_inside used [] more rest stay e = let first : ◌≡◌ {A = ℕ} 10 13 = cc in omega arith
lf_inside used (x ∷ bytes) more rest stay e = stays_no_lf x stay.0 (cc)

pub no_lf_inside : {used : ℕ} {more : List ℕ} → InTrailer used (10 ∷ more) → ⊥
no_lf_inside {used} {more} h = lf_inside used h.bytes more h.rest h.stay h.text_is

-- a byte in a trailer line leaves room for its end
pub has_room : (used : ℕ) {more : List ℕ} → InTrailer (used + 1) more → used + 3 ≤ TRAILERS_LIMIT
has_room used h = omega (arith, h.others.fits)
